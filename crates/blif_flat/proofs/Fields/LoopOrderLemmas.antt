-- A loop of covers by their numbers is written by their gates, and the order of the numbers is one of the covers.
use Rattle.blif_flat.proofs.Common.{◌≡◌, ℕ, ◌+◌, ◌<◌, List, [], ◌∷◌, ◌++◌, map, length, take, get_or, Some, None, refl, sym, ap, ap₂, ◌∙◌, subst, arith, slice_get, All, map-append, take_more, slice_get-get_or, In, In-get, CoverValue, LibraryValue, Path, CoverAt, cover_net, IsDriven, Place, is_cover, FlatLatch, FlatNet, Gate, Instance, places_at, paths_of, AreInstances, AreGatesAt, InRange, IsNumberLoop, all_starts, IsOrder, IsWritten, AreWritten, LoopWalk, IsLoop, AreCounted, root_numbers, IsWrittenAt, AreWrittenAt, FlatCoverValue, Loop, nets, are_nets, all_members}
use Rattle.blif_flat.proofs.Fields.NumberWalkLemmas.{place_or, place_at, in_range, root_below, order_mapped, loop_mapped, loop_fault}
use Rattle.blif_flat.proofs.Fields.RegularNetLemmas.{cover_there}
use Rattle.blif_flat.proofs.Hierarchy.GateLemmas.{gate_within, has_place}
use Rattle.blif_flat.proofs.Hierarchy.PlaceLemmas.{written_more}

module _ (library : LibraryValue) where
  module _ (instances : List Instance) (are : AreInstances library instances) (gates : List Gate) (w : AreGatesAt (paths_of instances) gates (places_at library is_cover (paths_of instances))) where
    abbrev gate_places : List Place
    gate_places = places_at library is_cover (paths_of instances)

    pub number_row : (k : ℕ) (d : Gate) → k < length gates → (get_or gates k d).row < length instances
    number_row k d b = gate_within instances gates gate_places w k (get_or gates k d) (slice_get-get_or gates k d b)

    -- the text of a gate's cover is that of its number
    pub written_here : (k : ℕ) (d : Gate) (text : List ℕ) → k < length gates
        → ((path : Path) (c : CoverValue) → slice_get (paths_of instances) (get_or gates k d).row ≡ Some path → CoverAt library path (get_or gates k d).command c
        → IsWritten library (cover_net path (get_or gates k d).command) text)
        → IsWrittenAt library (places_at library is_cover (paths_of instances)) k text
    written_here k d text b is =
        let g : Gate = get_or gates k d in
        let h = has_place (paths_of instances) gates gate_places w k g (slice_get-get_or gates k d b) in
        let p : Place = h.place in
        let c = cover_there library instances are p (In-get gate_places k p h.at) in
        let command : g.command ≡ p.command = h.is.command in
        record {
          place = p;
          at = h.at;
          written = subst (λ i. IsWritten library (cover_net p.path i) text) command (is p.path c.0 h.is.row (subst (λ i. CoverAt library p.path i c.0) (sym command) c.1));
        }

  -- the texts of several numbers, one by one
  pub written_next : (covers : List Place) (numbers : List ℕ) (i d : ℕ) (texts news : List (List ℕ)) (text : List ℕ) → i < length numbers → AreWrittenAt library covers (take i numbers) texts
      → IsWrittenAt library covers (get_or numbers i d) text → news ≡ texts ++ text ∷ [] → AreWrittenAt library covers (take (i + 1) numbers) news
  written_next covers numbers i d texts news text h a t e =
      let p : Place = t.place in
      let ps : List Place = a.places in
      record {
        places = ps ++ p ∷ [];
        at = ap (map (slice_get covers)) (take_more numbers i d h) ∙ map-append (slice_get covers) (take i numbers) (get_or numbers i d ∷ [])
            ∙ ap₂ (λ xs x. xs ++ x ∷ []) a.at t.at ∙ sym (map-append Some ps (p ∷ []));
        written = subst (AreWritten library (ps ++ p ∷ [])) (sym e) (written_more library a.written p text t.written);
      }

  -- the places of numbers
  places_of : (covers : List Place) (numbers : List ℕ) (places : List Place) → map (slice_get covers) numbers ≡ map Some places → places ≡ map (λ k. place_or (slice_get covers k)) numbers
  places_of covers [] [] e = refl
  places_of covers (n ∷ numbers) (p ∷ places) e =
      let first : slice_get covers n ≡ Some p = cc in
      let rest : map (slice_get covers) numbers ≡ map Some places = cc in
      ap₂ (λ (x : Place) (xs : List Place). x ∷ xs) (sym (ap place_or first)) (places_of covers numbers places rest)
  places_of covers numbers places e = absurd (cc)

  module _ (driven : IsDriven library) (paths : List Path) (outputs : List FlatNet) (covers : List FlatCoverValue) (latches : List FlatLatch) (w : AreCounted library paths outputs covers latches) where
    pub walked_range : InRange covers
    walked_range = in_range library w.main w.at outputs covers latches w.walked

    pub walked_roots : (roots : List ℕ) → roots ≡ root_numbers outputs latches → All (λ root. root < length covers) roots
    walked_roots roots e = all_members (λ root. root < length covers) roots (λ m i. root_below library w.main w.at outputs covers latches w.walked m (subst (λ l. In l m) e i))

    pub walked_clean : (roots order : List ℕ) → roots ≡ root_numbers outputs latches → IsOrder covers roots order → LoopWalk library None
    walked_clean roots order e o = order_mapped library w.main w.at outputs covers latches w.walked (nets library driven) (are_nets library driven) order (subst (λ l. IsOrder covers l order) e o)

    -- the covers of a loop have gates, whose texts tell the loop
    pub loop_inside : (gates : List Gate) → AreGatesAt paths gates (places_at library is_cover paths) → (roots nodes : List ℕ) → roots ≡ root_numbers outputs latches → IsNumberLoop covers (all_starts covers roots) nodes
        → (m : ℕ) → In nodes m → m < length gates
    loop_inside gates g roots nodes e c m i =
        let p = loop_mapped library w.main w.at outputs covers latches w.walked (nets library driven) (are_nets library driven) nodes (subst (λ l. IsNumberLoop covers (all_starts covers l) nodes) e c) in
        omega (arith, p.below m i, ap length w.covers_at)

    pub loop_told : (roots nodes : List ℕ) (texts : List (List ℕ)) → roots ≡ root_numbers outputs latches → IsNumberLoop covers (all_starts covers roots) nodes → AreWrittenAt library (places_at library is_cover paths) nodes texts
        → IsLoop library (Loop texts)
    loop_told roots nodes texts e c a =
        let same : a.places ≡ map (place_at w.at) nodes = places_of w.at.covers nodes a.places (ap (λ l. map (slice_get l) nodes) w.covers_at ∙ a.at) in
        loop_fault library w.main w.at outputs covers latches w.walked (nets library driven) (are_nets library driven) nodes
        (loop_mapped library w.main w.at outputs covers latches w.walked (nets library driven) (are_nets library driven) nodes (subst (λ l. IsNumberLoop covers (all_starts covers l) nodes) e c))
        texts (subst (λ l. AreWritten library l texts) same a.written)
