-- The covers as a graph: a walk along its edges is one of the covers that are read, and what the walks of the roots and of all covers find.
use Rattle.blif_flat.proofs.Common.{choose, In-push, of_range, ◌≡◌, ℕ, ◌+◌, ◌<◌, List, [], ◌∷◌, ◌++◌, map, length, get_or, reverse, Some, None, refl, sym, ap, ◌∙◌, subst, subst₂, arith, slice_get, suc, Bool, true, false, Option, ap₂, inl, inr, eqb, if◌then◌else◌, both_ways, cases_Bool, map-append, slice_get_within, In, In-append, at_within, apart_once, leads, PostsAll, WalkValue, FlatNet, cover_numbers, inputs_at, cover_reads, edge_of, cover_edges, InRange, IsClear, IsNumberLoop, all_starts, IsOrder, MeetsAll, ModelValue, Path, Net, Place, same_place, latch_at, is_cover, OutPort, FlatLatch, AreNets, with_cover, covers_among, reads_in, reads_of, latch_covers, all_latch_covers, roots_of, from_node, AreWritten, LoopWalk, IsLoop, IsNumbered, an_input, a_latch, a_cover, IsNetOf, AreNetsOf, IsFlatCover, IsFlatLatch, IsFlat, AreWalked, latch_nets, root_numbers, Repeat, LibraryValue, range_with_len, nodes_of, ways_of, ways_from, successors, AreNodes, Places, none, more, FlatCoverValue, FlatValue, Loop, latch_at-some, places_apart, same_place-is, same_place-refl, cover_at-is, eqb-true, eq-eqb, fun_ext}
use Rattle.std.proofs.lemmas.List.FromFn.{length-range_with_len, get_or-range_with_len}
use Rattle.depth_first.specs.Walk.{leads_to, from_node as from_number, VisitedAll}
use Rattle.depth_first.specs.declared.edge.End.TheVariants.{Loop, Stop}
use Rattle.netlist.specs.declared.flat.FlatNet.TheVariants.{Cover}
use Rattle.netlist.proofs.MeetLemmas.{meets_append, found_append, nodes_met, result_mapped, repeat_mapped, IsInside, nodes_inside, nodes_mapped}

pub range_below : (ns : List ℕ) (count : ℕ) → ns ≡ range_with_len 0 count → (k d : ℕ) → k < length ns → get_or ns k d < count
range_below ns count e k d l =
    let a : length ns ≡ count = ap length e ∙ length-range_with_len 0 count in
    let b : get_or ns k d ≡ 0 + k = ap (λ ms. get_or ms k d) e ∙ get_or-range_with_len 0 count k d (omega arith) in omega arith

ways_are : (nets : List FlatNet) → ways_of (map (edge_of {S = Unit {0}}) nets) ≡ leads_to (cover_numbers nets)
ways_are [] = refl
ways_are (Cover j ∷ nets) = ap (λ ws. leads j ∷ ws) (ways_are nets)
ways_are (net ∷ nets) = ways_are nets

nodes_are : (ns : List ℕ) → nodes_of (leads_to {S = Unit {0}} ns) ≡ ns
nodes_are [] = refl
nodes_are (n ∷ ns) = ap (λ ms. n ∷ ms) (nodes_are ns)

module _ (covers : List FlatCoverValue) where
  cover_ways : (n : ℕ) → ways_from (cover_edges {S = Unit {0}} covers) n ≡ leads_to (cover_reads covers n)
  cover_ways n = ways_are (inputs_at (slice_get covers n))

  same_next : successors (cover_edges {S = Unit {0}} covers) ≡ cover_reads covers
  same_next = fun_ext (λ n. ap nodes_of (cover_ways n) ∙ nodes_are (cover_reads covers n))

  pub cover_nodes : InRange covers → (count : ℕ) → count ≡ length covers → AreNodes (λ n. n < length covers) (successors (cover_edges {S = Unit {0}} covers)) count
  cover_nodes range count e = subst₂ (AreNodes (λ n. n < length covers)) (sym same_next) (sym e) (record { below = λ n l. l; closed = λ n m l i. range.each n m i })

  -- a visit of several covers, by what they read
  pub clear : (w v : WalkValue) (starts : List ℕ) → v.count ≡ length covers → VisitedAll (cover_edges {S = Unit {0}} covers) w v starts None → IsClear covers w v starts
  clear w v starts count d = record {
    ready = record { count = count; settled = d.settled; path = d.path };
    meets = nodes_met (ways_from (cover_edges covers)) (cover_reads covers) cover_ways d.meets starts refl;
    posts = subst (λ next. PostsAll next w.order starts v.order) same_next d.posts;
  }

  pub not_stopped : (w v : WalkValue) (starts : List ℕ) (s : Unit {0}) → VisitedAll (cover_edges covers) w v starts (Some (Stop s)) → ⊥
  not_stopped w v starts s d = nodes_met (ways_from (cover_edges covers)) (cover_reads covers) cover_ways d.meets starts refl

  pub closed : (w v : WalkValue) (starts : List ℕ) (c : ℕ) (nodes : List ℕ) → VisitedAll (cover_edges {S = Unit {0}} covers) w v starts (Some (Loop c)) → nodes ≡ from_number c v.path → IsNumberLoop covers starts nodes
  closed w v starts c nodes d e = record {
    repeat = record { node = c; path = v.path };
    meets = nodes_met (ways_from (cover_edges covers)) (cover_reads covers) cover_ways d.meets starts refl;
    nodes_are = e;
  }

  -- the roots, and then all covers
  pub loop_of_roots : (roots nodes : List ℕ) → IsNumberLoop covers roots nodes → IsNumberLoop covers (all_starts covers roots) nodes
  loop_of_roots roots nodes c = record { repeat = c.repeat; meets = found_append (cover_reads covers) c.meets c.repeat refl (range_with_len 0 (length covers)); nodes_are = c.nodes_are }

  module _ (w v : WalkValue) (roots all : List ℕ) (q : all ≡ range_with_len 0 (length covers)) (d : IsClear covers w v roots) where
    pub loop_of_others : (nodes : List ℕ) → IsNumberLoop covers all nodes → IsNumberLoop covers (all_starts covers roots) nodes
    loop_of_others nodes c = record {
      repeat = c.repeat;
      meets = meets_append (cover_reads covers) d.meets refl (range_with_len 0 (length covers)) (Some c.repeat) (subst (λ ns. MeetsAll (cover_reads covers) [] ns (Some c.repeat)) q c.meets);
      nodes_are = c.nodes_are;
    }

    pub order_of_roots : (u : WalkValue) (order : List ℕ) → w.order ≡ [] → IsClear covers v u all → reverse order ≡ v.order → IsOrder covers roots order
    order_of_roots u order z h e = record {
      meets = meets_append (cover_reads covers) d.meets refl (range_with_len 0 (length covers)) None (subst (λ ns. MeetsAll (cover_reads covers) [] ns None) q h.meets);
      posts = subst₂ (λ x y. PostsAll (cover_reads covers) x roots y) z (sym e) d.posts;
    }

-- The walk of the covers by their numbers is the walk of their places.
pub flat_walked : (library : LibraryValue) (flat : FlatValue) (f : IsFlat library flat) → AreWalked library f.main f.at (map (λ (o : OutPort). o.net) flat.outputs) flat.covers flat.latches
flat_walked library flat f = record {
  is_main = f.is_main;
  covers_order = f.covers_order;
  latches_order = f.latches_order;
  cover_count = f.cover_count;
  covers_are = f.covers;
  latch_count = f.latch_count;
  latches_are = f.latches;
  outputs_are = f.outputs;
}

-- the place of a cover's number
abbrev pub place_or : Option Place → Place
place_or None = record { path = []; command = 0 }
place_or (Some p) = p

abbrev pub place_at : Places → ℕ → Place
place_at at k = place_or (slice_get at.covers k)

pub place_at-is : (at : Places) (k : ℕ) (p : Place) → slice_get at.covers k ≡ Some p → place_at at k ≡ p
place_at-is at k p e = ap place_or e

-- all numbers give all places
mapped_numbers : (at : Places) (k : ℕ) (ps : List Place) → ((i : ℕ) → slice_get at.covers (k + i) ≡ slice_get ps i) → map (place_at at) (range_with_len k (length ps)) ≡ ps
mapped_numbers at k [] h = refl
mapped_numbers at k (p ∷ ps) h =
    let here : slice_get at.covers k ≡ Some p = (let e : k + 0 ≡ k = omega arith in subst (λ n. slice_get at.covers n ≡ Some p) e (h 0)) in
    ap₂ (λ (x : Place) (xs : List Place). x ∷ xs) (place_at-is at k p here)
    (mapped_numbers at (k + 1) ps (λ i. (let e : k + suc i ≡ k + 1 + i = omega arith in subst (λ n. slice_get at.covers n ≡ slice_get ps i) e (h (suc i)))))

all_places : (at : Places) (n : ℕ) → n ≡ length at.covers → map (place_at at) (range_with_len 0 n) ≡ at.covers
all_places at n e =
    ap (λ m. map (place_at at) (range_with_len 0 m)) e ∙ mapped_numbers at 0 at.covers (λ i. (let z : 0 + i ≡ i = omega arith in ap (slice_get at.covers) z))

-- a net before others
first_numbers : (net : FlatNet) (nets : List FlatNet) → cover_numbers (net ∷ nets) ≡ cover_numbers (net ∷ []) ++ cover_numbers nets
first_numbers (Cover j) nets = refl
first_numbers net nets = refl

module _ (library : LibraryValue) (at : Places) where
  -- the covers among numbered nets are numbered
  with_below : (number : FlatNet) (e : Net) → IsNumbered at e number → (numbers : List FlatNet) (m : ℕ) → (In (cover_numbers numbers) m → m < length at.covers)
      → In (cover_numbers (number ∷ numbers)) m → m < length at.covers
  with_below number e (an_input name j q g n) numbers m h i = h (subst (λ y. In (cover_numbers (y ∷ numbers)) m) n i)
  with_below number e (a_latch p j q g n) numbers m h i = h (subst (λ y. In (cover_numbers (y ∷ numbers)) m) n i)
  with_below number e (a_cover p j q g n) numbers m h i = elim (subst (λ y. In (cover_numbers (y ∷ numbers)) m) n i) as (λ _. m < length at.covers) [
    | inl s ↦ subst (λ k. k < length at.covers) (sym s) (slice_get_within at.covers j p g)
    | inr k ↦ h k
  ]

  pub among_below : (path : Path) {names : List (List ℕ)} {numbers : List FlatNet} → AreNetsOf library at path names numbers → (m : ℕ) → In (cover_numbers numbers) m → m < length at.covers
  among_below path none m i = absurd i
  among_below path (more name names number numbers o os) m i = with_below number o.net o.numbered numbers m (among_below path os m) i

  module _ (net : Path → List ℕ → Option Net) (nets : AreNets library net) where
    with_mapped : (number : FlatNet) (e : Net) → IsNumbered at e number → (places : List Place) (numbers : List FlatNet) → places ≡ map (place_at at) (cover_numbers numbers)
        → with_cover (Some e) places ≡ map (place_at at) (cover_numbers (number ∷ numbers))
    with_mapped number e (an_input name j q g n) places numbers h = ap (λ y. with_cover (Some y) places) q ∙ h ∙ sym (ap (λ y. map (place_at at) (cover_numbers (y ∷ numbers))) n)
    with_mapped number e (a_latch p j q g n) places numbers h = ap (λ y. with_cover (Some y) places) q ∙ h ∙ sym (ap (λ y. map (place_at at) (cover_numbers (y ∷ numbers))) n)
    with_mapped number e (a_cover p j q g n) places numbers h =
        ap (λ y. with_cover (Some y) places) q ∙ ap₂ (λ (x : Place) (xs : List Place). x ∷ xs) (sym (place_at-is at j p g)) h ∙ sym (ap (λ y. map (place_at at) (cover_numbers (y ∷ numbers))) n)

    one_mapped : (path : Path) (name : List ℕ) (number : FlatNet) → IsNetOf library at path name number → (places : List Place) (numbers : List FlatNet) → places ≡ map (place_at at) (cover_numbers numbers)
        → with_cover (net path name) places ≡ map (place_at at) (cover_numbers (number ∷ numbers))
    one_mapped path name number o places numbers h = ap (λ y. with_cover y places) (nets.finds path name o.net o.drives) ∙ with_mapped number o.net o.numbered places numbers h

    -- the covers among names are those of their numbers
    pub among_mapped : (path : Path) {names : List (List ℕ)} {numbers : List FlatNet} → AreNetsOf library at path names numbers → covers_among (net path) names ≡ map (place_at at) (cover_numbers numbers)
    among_mapped path none = refl
    among_mapped path (more name names number numbers o os) = one_mapped path name number o (covers_among (net path) names) numbers (among_mapped path os)

    latch_mapped : (p : Place) (l : FlatLatch) → IsFlatLatch library at p l → latch_covers (net p.path) (latch_at library p) ≡ map (place_at at) (cover_numbers (l.input ∷ []))
    latch_mapped p l o = ap (latch_covers (net p.path)) (latch_at-some library p o.latch o.is) ∙ one_mapped p.path (o.latch).input l.input o.input [] [] refl

    latches_mapped : (ps : List Place) (ls : List FlatLatch) → length ls ≡ length ps → ((k : ℕ) (p : Place) (l : FlatLatch) → slice_get ps k ≡ Some p → slice_get ls k ≡ Some l → IsFlatLatch library at p l)
        → all_latch_covers library net ps ≡ map (place_at at) (cover_numbers (latch_nets ls))
    latches_mapped [] [] n h = refl
    latches_mapped (p ∷ ps) (l ∷ ls) n h =
        ap₂ (λ (x y : List Place). x ++ y) (latch_mapped p l (h 0 p l refl refl)) (latches_mapped ps ls (omega (arith, n)) (λ k q o e f. h (suc k) q o e f))
        ∙ sym (ap (map (place_at at)) (first_numbers l.input (latch_nets ls)) ∙ map-append (place_at at) (cover_numbers (l.input ∷ [])) (cover_numbers (latch_nets ls)))
    latches_mapped ps ls n h = absurd (omega arith)

  latches_below : (ps : List Place) (ls : List FlatLatch) → length ls ≡ length ps → ((k : ℕ) (p : Place) (l : FlatLatch) → slice_get ps k ≡ Some p → slice_get ls k ≡ Some l → IsFlatLatch library at p l)
      → (m : ℕ) → In (cover_numbers (latch_nets ls)) m → m < length at.covers
  latches_below ps [] n h m i = absurd i
  latches_below [] (l ∷ ls) n h m i = absurd (omega arith)
  latches_below (p ∷ ps) (l ∷ ls) n h m i =
      let o = h 0 p l refl refl in
      with_below l.input (o.input).net (o.input).numbered (latch_nets ls) m (latches_below ps ls (omega (arith, n)) (λ k q r a b. h (suc k) q r a b) m) i

module _ (library : LibraryValue) (main : ModelValue) (at : Places) (outputs : List FlatNet) (covers : List FlatCoverValue) (latches : List FlatLatch) (w : AreWalked library main at outputs covers latches) where
  -- the place and the cover of a number
  pub record IsHere (k : ℕ) (c : FlatCoverValue) : Type 0 where
    pub place : Place
    pub at_place : slice_get at.covers k ≡ Some place
    pub is : IsFlatCover library at place c

  pub here : (k : ℕ) (c : FlatCoverValue) → slice_get covers k ≡ Some c → IsHere k c
  here k c e =
      let p = at_within at.covers k (omega (arith, slice_get_within covers k c e)) in
      record { place = p.0; at_place = p.1; is = w.covers_are k p.0 c p.1 e }

  read_below : (k : ℕ) (o : Option FlatCoverValue) → slice_get covers k ≡ o → (m : ℕ) → In (cover_numbers (inputs_at o)) m → m < length at.covers
  read_below k None e m i = absurd i
  read_below k (Some c) e m i = let h = here k c e in among_below library at (h.place).path (h.is).inputs m i

  below : (n m : ℕ) → In (cover_reads covers n) m → m < length at.covers
  below n m i = read_below n (slice_get covers n) refl m i

  pub in_range : InRange covers
  in_range = record { each = λ n m i. (let b : m < length at.covers = below n m i in let e : length covers ≡ length at.covers = w.cover_count in omega arith) }

  -- different numbers have different places
  pub one_number : (n m : ℕ) → n < length at.covers → m < length at.covers → place_at at n ≡ place_at at m → n ≡ m
  one_number n m a b e =
      let p = at_within at.covers n a in
      let q = at_within at.covers m b in
      apart_once at.covers n m p.0 (places_apart library is_cover w.covers_order) p.1 (q.1 ∙ ap Some (sym (place_at-is at m q.0 q.1) ∙ sym e ∙ place_at-is at n p.0 p.1))

  roots_below : (m : ℕ) → In (root_numbers outputs latches) m → m < length at.covers
  roots_below m i = elim (In-append (cover_numbers outputs) (cover_numbers (latch_nets latches)) m i) as (λ _. m < length at.covers) [
    | inl j ↦ among_below library at [] w.outputs_are m j
    | inr j ↦ latches_below library at at.latches latches w.latch_count w.latches_are m j
  ]

  pub root_below : (m : ℕ) → In (root_numbers outputs latches) m → m < length covers
  root_below m i = (let b : m < length at.covers = roots_below m i in let e : length covers ≡ length at.covers = w.cover_count in omega arith)

  abbrev starts : List ℕ
  starts = root_numbers outputs latches ++ range_with_len 0 (length covers)

  starts_below : (m : ℕ) → In starts m → m < length at.covers
  starts_below m i = elim (In-append (root_numbers outputs latches) (range_with_len 0 (length covers)) m i) as (λ _. m < length at.covers) [
    | inl j ↦ roots_below m j
    | inr j ↦ (let b : m < 0 + length covers = (of_range 0 (length covers) m j).1 in let e : length covers ≡ length at.covers = w.cover_count in omega arith)
  ]

  -- the loop of numbers is one of places
  same_number : (n m : ℕ) → n < length at.covers → m < length at.covers → (b : Bool) → eqb n m ≡ b → same_place (place_at at n) (place_at at m) ≡ b
  same_number n m p q true e = subst (λ k. same_place (place_at at n) (place_at at k) ≡ true) (eqb-true n m e) (same_place-refl (place_at at n))
  same_number n m p q false e = elim (cases_Bool (same_place (place_at at n) (place_at at m))) [
    | inl t ↦ absurd (both_ways (eqb n m) e (eq-eqb n m (one_number n m p q (same_place-is (place_at at n) (place_at at m) t))))
    | inr u ↦ u
  ]

  from_case : (b : Bool) (m : ℕ) (xs : List ℕ) (ys : List Place) → ys ≡ map (place_at at) xs
      → (if b then place_at at m ∷ [] else ys ++ place_at at m ∷ []) ≡ map (place_at at) (if b then m ∷ [] else xs ++ m ∷ [])
  from_case true m xs ys e = refl
  from_case false m xs ys e = ap (λ l. l ++ place_at at m ∷ []) e ∙ sym (map-append (place_at at) xs (m ∷ []))

  pub from_mapped : (n : ℕ) (path : List ℕ) → n < length at.covers → ((m : ℕ) → In path m → m < length at.covers) → from_node (place_at at n) (map (place_at at) path) ≡ map (place_at at) (from_number n path)
  from_mapped n [] p h = refl
  from_mapped n (m ∷ path) p h =
      ap (λ b. if b then place_at at m ∷ [] else from_node (place_at at n) (map (place_at at) path) ++ place_at at m ∷ []) (same_number n m p (h m (inl refl)) (eqb n m) refl)
      ∙ from_case (eqb n m) m (from_number n path) (from_node (place_at at n) (map (place_at at) path)) (from_mapped n path p (λ k i. h k (inr i)))

  from_within : (n : ℕ) (path : List ℕ) → ((m : ℕ) → In path m → m < length at.covers) → (m : ℕ) → In (from_number n path) m → m < length at.covers
  from_within n [] h m i = absurd i
  from_within n (k ∷ path) h m i =
      let here : m ≡ k → m < length at.covers = λ e. subst (λ x. x < length at.covers) (sym e) (h k (inl refl)) in
      choose (λ (l : List ℕ). In l m → m < length at.covers) (eqb n k) (k ∷ []) (from_number n path ++ k ∷ [])
      (λ _ j. elim j as (λ _. m < length at.covers) [ inl e ↦ here e | inr o ↦ absurd o ])
      (λ _ j. elim (In-push (from_number n path) k m j) as (λ _. m < length at.covers) [ inl a ↦ from_within n path (λ l b. h l (inr b)) m a | inr e ↦ here e ]) i

  module _ (net : Path → List ℕ → Option Net) (nets : AreNets library net) where
    same_roots : roots_of library net main at.latches ≡ map (place_at at) (root_numbers outputs latches)
    same_roots =
        ap₂ (λ (x y : List Place). x ++ y) (among_mapped library at net nets [] w.outputs_are) (latches_mapped library at net nets at.latches latches w.latch_count w.latches_are)
        ∙ sym (map-append (place_at at) (cover_numbers outputs) (cover_numbers (latch_nets latches)))

    same_starts : map (place_at at) starts ≡ roots_of library net main at.latches ++ at.covers
    same_starts = map-append (place_at at) (root_numbers outputs latches) (range_with_len 0 (length covers))
        ∙ ap₂ (λ (x y : List Place). x ++ y) (sym same_roots) (all_places at (length covers) w.cover_count)

    -- the numbers that a cover reads are those of the places that its place reads
    pub same_reads : (k : ℕ) → k < length at.covers → reads_of library net (place_at at k) ≡ map (place_at at) (cover_reads covers k)
    same_reads k b =
        let c = at_within covers k (omega arith) in
        let h : IsHere k c.0 = here k c.0 c.1 in
        let p : Place = h.place in
        ap (reads_of library net) (place_at-is at k p h.at_place) ∙ ap (reads_in (net p.path)) (cover_at-is library p.path p.command (h.is).cover (h.is).is)
        ∙ among_mapped library at net nets p.path (h.is).inputs ∙ sym (ap (λ y. map (place_at at) (cover_numbers (inputs_at y))) c.1)

    -- what the walk of the numbers finds, the walk of the places does
    pub walk_mapped : (result : Option (Repeat ℕ)) → MeetsAll (cover_reads covers) [] starts result → LoopWalk library (result_mapped (place_at at) result)
    walk_mapped result m = record {
      main = main;
      at = w.is_main;
      covers = at.covers;
      covers_are = w.covers_order;
      latches = at.latches;
      latches_are = w.latches_order;
      net = net;
      nets = nets;
      meets = subst (λ l. MeetsAll (reads_of library net) [] l (result_mapped (place_at at) result)) same_starts
          (nodes_mapped (cover_reads covers) (λ k. k < length at.covers) (λ n k p i. below n k i) (reads_of library net) (place_at at) one_number same_reads m starts_below (λ k i. absurd i));
    }

    -- an order of the numbers: the places have no loop
    pub order_mapped : (order : List ℕ) → IsOrder covers (root_numbers outputs latches) order → LoopWalk library None
    order_mapped order o = walk_mapped None o.meets

    -- a loop of the numbers: the places have a loop, of the places of these numbers
    pub record IsPlaceLoop (nodes : List ℕ) : Type 0 where
      pub repeat : Repeat Place
      pub walk : LoopWalk library (Some repeat)
      pub nodes_are : from_node repeat.node repeat.path ≡ map (place_at at) nodes
      pub below : (m : ℕ) → In nodes m → m < length at.covers

    pub loop_mapped : (nodes : List ℕ) → IsNumberLoop covers starts nodes → IsPlaceLoop nodes
    loop_mapped nodes c =
        let own : Repeat ℕ = c.repeat in
        let i : IsInside (cover_reads covers) (λ k. k < length at.covers) (λ n k p j. below n k j) own =
        nodes_inside (cover_reads covers) (λ k. k < length at.covers) (λ n k p j. below n k j) c.meets own refl starts_below (λ k j. absurd j) in
        record {
          repeat = repeat_mapped (place_at at) own;
          walk = walk_mapped (Some own) c.meets;
          nodes_are = from_mapped own.node own.path i.node i.path ∙ sym (ap (map (place_at at)) c.nodes_are);
          below = λ m j. from_within own.node own.path i.path m (subst (λ l. In l m) c.nodes_are j);
        }

    -- F10 of a loop of numbers, by the names of its places
    pub loop_fault : (nodes : List ℕ) → IsPlaceLoop nodes → (names : List (List ℕ)) → AreWritten library (map (place_at at) nodes) names → IsLoop library (Loop names)
    loop_fault nodes p names written = record {
      repeat = p.repeat;
      walk = p.walk;
      names = names;
      written = subst (λ l. AreWritten library l names) (sym p.nodes_are) written;
      is = refl;
    }
