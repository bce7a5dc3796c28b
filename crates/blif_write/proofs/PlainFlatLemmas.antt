-- A netlist without hierarchy has a flat circuit. Its covers, of which each reads covers of lower ranks alone, have a postorder.
use Rattle.blif_write.proofs.Common.{◌≡◌, ◌⊎◌, ℕ, zero, suc, ◌+◌, ◌<◌, Bool, true, false, not, List, [], ◌∷◌, ◌++◌, length, map, filter, reverse, slice_get, bytes_eq, Option, Some, None, is_some, refl, sym, ap, subst, ◌∙◌, inl, inr, arith, append-nil, option_map, option_map_or, length-map, reverse-reverse, none-some, same_Some, slice_get-map, slice_get_within, bytes_eq-Decides, PostsAll, In, In-get, In-append, in_filter, place_in, get_right, Body, Subckt, Command, FlatLatch, OutPort, LatchValue, CoverValue, FlatValue, Places, IsNumbered, an_input, a_latch, a_cover, IsNetOf, AreNetsOf, no_nets, more_nets, TellsClocks, IsControl, some_latch, no_latch, with_control_net, cover_numbers, inputs_at, most_underscores, IsFlatCover, IsFlatLatch, IsFlat, CoverAt, LatchAt, Net, input_net, latch_net, cover_net, Drives, main_input, latch_output, cover_output, IsClock, controls, Place, FlatOrder, flat, is_cover, own_places, Cover, Latch, none, PlainNetlist, all_inputs, read_control, read_latch, latch_commands, cover_commands, model_of, library_of, ◌≤◌, Posts, skips, posts, in_or, rules}
use Rattle.netlist.specs.declared.flat.FlatNet.{FlatNet}
use Rattle.netlist.specs.FlatCoverValue.{FlatCoverValue}
use Rattle.blif_write.proofs.PlainCycleLemmas.{bodies_of, body_got, body_is, no_subckts, cover_body, latch_there, latch_at_top, IsControlName, places_from, places_are_latches, length_places, main_there, clock_there, not_clock}
use Rattle.blif_write.proofs.PlainSoundLemmas.{body_output, command_outputs, IsOrderly, mapped, cover_drives}
use Rattle.netlist.specs.declared.flat.FlatNet.TheVariants as number

module _ (next : ℕ → List ℕ) (rank : ℕ → ℕ) (falls : (n m : ℕ) → In (next n) m → rank m < rank n) where
  -- several nodes in turn, where there is one of each alone
  each_posted : (bound : ℕ) → ((done : List ℕ) (n : ℕ) → rank n < bound → (result : List ℕ) × Posts next done n result) → (ns done : List ℕ) → ((n : ℕ) → In ns n → rank n < bound)
      → (result : List ℕ) × PostsAll next done ns result
  each_posted bound one [] done low = (done, PostsAll.none refl refl)
  each_posted bound one (n ∷ ns) done low =
      let first : (below : List ℕ) × Posts next done n below = one done n (low n (inl refl)) in
      let rest : (result : List ℕ) × PostsAll next first.0 ns result = each_posted bound one ns first.0 (λ m i. low m (inr i)) in
      (rest.0, PostsAll.more n ns first.0 refl first.1 rest.1)

  one_posted : (bound : ℕ) (done : List ℕ) (n : ℕ) → rank n < bound → (result : List ℕ) × Posts next done n result
  one_posted zero done n low = absurd (omega (arith, low))
  one_posted (suc bound) done n low = elim (in_or done n) [
    | inl there ↦ (done, skips there refl)
    | inr new ↦
        let below : (result : List ℕ) × PostsAll next done (next n) result =
        each_posted bound (λ others m less. one_posted bound others m less) (next n) done (λ m i. let f : rank m < rank n = falls n m i in omega (arith, f, low)) in
        (n ∷ below.0, posts below.0 new below.1 refl)
  ]

  -- a bound on the ranks
  abbrev ranks : List ℕ → ℕ
  ranks [] = 0
  ranks (n ∷ ns) = rank n + ranks ns

  within_ranks : (ns : List ℕ) (n : ℕ) → In ns n → rank n ≤ ranks ns
  within_ranks [] n i = elim i [ ]
  within_ranks (m ∷ ns) n (inl e) = let same : rank n ≡ rank m = ap rank e in omega (arith, same)
  within_ranks (m ∷ ns) n (inr i) = let rest : rank n ≤ ranks ns = within_ranks ns n i in omega (arith, rest)

  pub all_posted : (ns : List ℕ) → (result : List ℕ) × PostsAll next [] ns result
  all_posted ns = each_posted (suc (ranks ns)) (λ done n low. one_posted (suc (ranks ns)) done n low) ns [] (λ n i. let w : rank n ≤ ranks ns = within_ranks ns n i in omega (arith, w))

abbrev top_at : ℕ → Place
top_at i = record { path = []; command = i }

-- the places of commands that stand one after another
place_is : (i count k : ℕ) (p : Place) → slice_get (places_from i count) k ≡ Some p → (k < count) × (p ≡ top_at (i + k))
place_is i zero k p e = absurd (none-some p e)
place_is i (suc count) zero p e = let here : i ≡ i + 0 = omega arith in (omega arith, sym (same_Some (top_at i) p e) ∙ ap top_at here)
place_is i (suc count) (suc k) p e = grind (arith, top_at, place_is (suc i) count k p e)

place_at : (i count k : ℕ) → k < count → slice_get (places_from i count) k ≡ Some (top_at (i + k))
place_at i zero k low = absurd (omega (arith, low))
place_at i (suc count) zero low = let here : i ≡ i + 0 = omega arith in ap (λ (c : ℕ). Some (top_at c)) here
place_at i (suc count) (suc k) low = let here : suc i + k ≡ i + suc k = omega arith in place_at (suc i) count k (omega (arith, low)) ∙ ap (λ (c : ℕ). Some (top_at c)) here

-- those of the covers
after_latches : (i j line : ℕ) (ls : List LatchValue) (commands : List Command) → i + length ls ≡ j → own_places is_cover [] i (latch_commands line ls ++ commands) ≡ own_places is_cover [] j commands
after_latches i j line [] commands e = let same : i ≡ j = omega (arith, e) in ap (λ (k : ℕ). own_places is_cover [] k commands) same
after_latches i j line (l ∷ ls) commands e = after_latches (suc i) j (suc line) ls commands (omega (arith, e))

cover_places : (i line : ℕ) (cs : List CoverValue) → own_places is_cover [] i (cover_commands line cs) ≡ places_from i (length cs)
cover_places i line [] = refl
cover_places i line (c ∷ cs) = ap (λ (t : List Place). top_at i ∷ t) (cover_places (suc i) (suc line + length c.rows) cs)

covers_are : (n : PlainNetlist) → own_places is_cover [] 0 (model_of n).commands ≡ places_from (length n.latches) (length n.covers)
covers_are n = grind (arith, after_latches, cover_places)

places_are_covers : (n : PlainNetlist) → FlatOrder (library_of n) is_cover [] (model_of n) (places_from (length n.latches) (length n.covers))
places_are_covers n = flat [] (none (no_subckts n) refl) (sym (append-nil (own_places is_cover [] 0 (model_of n).commands) ∙ covers_are n))

-- the covers among the commands
cover_at : (n : PlainNetlist) (j : ℕ) (c : CoverValue) → slice_get n.covers j ≡ Some c → CoverAt (library_of n) [] (length n.latches + j) c
cover_at n j c e =
    let latches : List Body = map (λ (l : LatchValue). Latch (read_latch l)) n.latches in
    let same : length latches ≡ length n.latches = length-map n.latches (λ (l : LatchValue). Latch (read_latch l)) in
    let there : slice_get (bodies_of n) (length latches + j) ≡ Some (Cover c) =
    get_right latches (map (λ (d : CoverValue). Cover d) n.covers) j (Cover c) (slice_get-map (λ (d : CoverValue). Cover d) n.covers j ∙ ap (option_map (λ (d : CoverValue). Cover d)) e) in
    record { model = model_of n; at = refl; is = body_is n (length n.latches + j) ∙ ap (λ (k : ℕ). slice_get (bodies_of n) (k + j)) (sym same) ∙ there }

cover_of : (n : PlainNetlist) (j : ℕ) (c : CoverValue) → CoverAt (library_of n) [] (length n.latches + j) c → slice_get n.covers j ≡ Some c
cover_of n j c at =
    let behind : (k : ℕ) × (length n.latches + j ≡ length n.latches + k) × (slice_get n.covers k ≡ Some c) = body_got n.latches n.covers (length n.latches + j) (Cover c) (cover_body n [] (length n.latches + j) c at).1 in
    ap (slice_get n.covers) (omega (arith, behind.1)) ∙ behind.2

-- what is made for each item of a list
first_made : {B : Type 0} (P : ℕ → B → Type 0) (first : B) (rest : List B) → P 0 first → ((k : ℕ) (b : B) → slice_get rest k ≡ Some b → P (suc k) b) → (k : ℕ) (b : B) → slice_get (first ∷ rest) k ≡ Some b → P k b
first_made P first rest p ps b' b e = grind arith

each_made : {A B : Type 0} (P : ℕ → B → Type 0) (xs : List A) → ((k : ℕ) (x : A) → slice_get xs k ≡ Some x → (b : B) × P k b) → (bs : List B) × (length bs ≡ length xs) × ((k : ℕ) (b : B) → slice_get bs k ≡ Some b → P k b)
each_made P [] make = ([], refl, λ k b e. absurd (none-some b e))
each_made {B = B} P (x ∷ xs) make =
    let first : (b : B) × P 0 b = make 0 x refl in
    let rest : (bs : List B) × (length bs ≡ length xs) × ((k : ℕ) (b : B) → slice_get bs k ≡ Some b → P (suc k) b) = each_made (λ k b. P (suc k) b) xs (λ k y e. make (suc k) y e) in
    (first.0 ∷ rest.0, ap suc rest.1, first_made P first.0 rest.0 first.1 rest.2)

-- the outputs with their nets
abbrev ports_of : List (List ℕ) → List FlatNet → List OutPort
ports_of [] nets = []
ports_of (name ∷ names) [] = []
ports_of (name ∷ names) (net ∷ nets) = record { name = name; net = net } ∷ ports_of names nets

module _ (n : PlainNetlist) (h : IsOrderly n) (test : List ℕ → Bool) (tells : TellsClocks (library_of n) test) where
  abbrev driven : List (List ℕ)
  driven = all_inputs n ++ command_outputs n

  abbrev places : Places
  places = record {
    inputs = filter (λ (name : List ℕ). not (test name)) (all_inputs n);
    latches = places_from 0 (length n.latches);
    covers = places_from (length n.latches) (length n.covers);
  }

  -- each name that is read as data has a number
  body_number : (k : ℕ) (name : List ℕ) (body : Body) → slice_get (bodies_of n) k ≡ Some body → body_output body ≡ name → (net : FlatNet) × IsNetOf (library_of n) places [] name net
  body_number k name (Cover c) e o =
      let behind : (j : ℕ) × (k ≡ length n.latches + j) × (slice_get n.covers j ≡ Some c) = body_got n.latches n.covers k (Cover c) e in (
        number.Cover behind.0,
        record {
          net = cover_net [] k;
          drives = cover_output k c (record { model = model_of n; at = refl; is = body_is n k ∙ e }) (sym o) refl;
          numbered = a_cover (top_at (length n.latches + behind.0)) behind.0 (ap (cover_net []) behind.1)
              (place_at (length n.latches) (length n.covers) behind.0 (slice_get_within n.covers behind.0 c behind.2)) refl;
        },
      )
  body_number k name (Latch l) e o =
      let is : LatchAt (library_of n) [] k l = record { model = model_of n; at = refl; is = body_is n k ∙ e } in
      let there : (m : LatchValue) × (slice_get n.latches k ≡ Some m) × (l ≡ read_latch m) = (latch_there n [] k l is).1 in
      let here : k ≡ 0 + k = omega arith in (
        number.Latch k,
        record {
          net = latch_net [] k;
          drives = latch_output k l is (sym o) refl;
          numbered = a_latch (top_at (0 + k)) k (ap (latch_net []) here) (place_at 0 (length n.latches) k (slice_get_within n.latches k there.0 there.1)) refl;
        },
      )
  body_number k name (Subckt s) e o = absurd (body_got n.latches n.covers k (Subckt s) e)

  input_number : (name : List ℕ) → In (all_inputs n) name → (IsControlName n name → ⊥) → (net : FlatNet) × IsNetOf (library_of n) places [] name net
  input_number name i free =
      let kept : In places.inputs name = in_filter (λ (other : List ℕ). not (test other)) (all_inputs n) name i (ap not (not_clock n test tells name free)) in
      let at : (j : ℕ) × (slice_get places.inputs j ≡ Some name) = place_in places.inputs name kept in
      (number.Input at.0, record { net = input_net name; drives = main_input refl (main_there n name i) refl; numbered = an_input name at.0 refl at.1 refl })

  net_of : (name : List ℕ) → In driven name → (IsControlName n name → ⊥) → (net : FlatNet) × IsNetOf (library_of n) places [] name net
  net_of name i free = elim (In-append (all_inputs n) (command_outputs n) name i) [
    | inl j ↦ input_number name j free
    | inr j ↦ let at : (k : ℕ) × (slice_get (command_outputs n) k ≡ Some name) = place_in (command_outputs n) name j in
        let got : (body : Body) × (slice_get (bodies_of n) at.0 ≡ Some body) × (body_output body ≡ name) = mapped (bodies_of n) at.0 name at.1 in
        body_number at.0 name got.0 got.1 got.2
  ]

  nets_of : (names : List (List ℕ)) → ((name : List ℕ) → In names name → In driven name × (IsControlName n name → ⊥)) → (nets : List FlatNet) × AreNetsOf (library_of n) places [] names nets
  nets_of [] good = ([], no_nets)
  nets_of (name ∷ names) good =
      let one : (net : FlatNet) × IsNetOf (library_of n) places [] name net = net_of name (good name (inl refl)).0 (good name (inl refl)).1 in
      let rest : (nets : List FlatNet) × AreNetsOf (library_of n) places [] names nets = nets_of names (λ other i. good other (inr i)) in
      (one.0 ∷ rest.0, more_nets name names one.0 rest.0 one.1 rest.1)

  -- the covers and the latches with these numbers
  covers_made : (fs : List FlatCoverValue) × (length fs ≡ length n.covers) × ((k : ℕ) (f : FlatCoverValue) → slice_get fs k ≡ Some f → IsFlatCover (library_of n) places (top_at (length n.latches + k)) f)
  covers_made = each_made (λ k f. IsFlatCover (library_of n) places (top_at (length n.latches + k)) f) n.covers (λ k c e.
      let reads : (nets : List FlatNet) × AreNetsOf (library_of n) places [] c.inputs nets = nets_of c.inputs (h.cover_inputs c (In-get n.covers k c e)) in
      (record { model = 0; command = length n.latches + k; inputs = reads.0 }, record { cover = c; is = cover_at n k c e; model = refl; command = refl; inputs = reads.1 }))

  latches_made : (fs : List FlatLatch) × (length fs ≡ length n.latches) × ((k : ℕ) (f : FlatLatch) → slice_get fs k ≡ Some f → IsFlatLatch (library_of n) places (top_at k) f)
  latches_made = each_made (λ k f. IsFlatLatch (library_of n) places (top_at k) f) n.latches (λ k l e.
      let good : In driven l.input × (IsControlName n l.input → ⊥) = h.latch_inputs l (In-get n.latches k l e) in
      let read : (net : FlatNet) × IsNetOf (library_of n) places [] l.input net = net_of l.input good.0 good.1 in
      (record { input = read.0; init = l.init; clocked = is_some (read_control l.control) }, record { latch = read_latch l; is = latch_at_top n k l e; input = read.1; init = refl; clocked = refl }))

  -- the cover of a number
  numbered_cover : (net : Net) (f : FlatNet) → IsNumbered places net f → (j : ℕ) → f ≡ number.Cover j → (p : Place) × (net ≡ cover_net p.path p.command) × (slice_get places.covers j ≡ Some p)
  numbered_cover net f h j is = search rules

  cover_read : (name : List ℕ) (j : ℕ) → IsNetOf (library_of n) places [] name (number.Cover j) → (d : CoverValue) × (slice_get n.covers j ≡ Some d) × (name ≡ d.output)
  cover_read name j is =
      let at : (p : Place) × (is.net ≡ cover_net p.path p.command) × (slice_get places.covers j ≡ Some p) = numbered_cover is.net (number.Cover j) is.numbered j refl in
      let driver : (d : CoverValue) × CoverAt (library_of n) at.0.path at.0.command d × (name ≡ d.output) = cover_drives n [] name at.0.path at.0.command (subst (λ (net : Net). Drives (library_of n) [] name net) at.1 is.drives) in
      (driver.0, cover_of n j driver.0 (subst (λ (p : Place). CoverAt (library_of n) p.path p.command driver.0) (place_is (length n.latches) (length n.covers) j at.0 at.2).1 driver.1), driver.2)

  read_among : (names : List (List ℕ)) (nets : List FlatNet) → AreNetsOf (library_of n) places [] names nets → (j : ℕ) → In (cover_numbers nets) j → (name : List ℕ) × In names name × IsNetOf (library_of n) places [] name (number.Cover j)
  read_among names nets no_nets j i = elim i [ ]
  read_among names nets (more_nets name rest (number.Cover k) others is are) j (inl e) = (name, inl refl, subst (λ (m : ℕ). IsNetOf (library_of n) places [] name (number.Cover m)) (sym e) is)
  read_among names nets (more_nets name rest (number.Cover k) others is are) j (inr i) = let r = read_among rest others are j i in (r.0, inr r.1, r.2)
  read_among names nets (more_nets name rest net others is are) j i = let r = read_among rest others are j i in (r.0, inr r.1, r.2)

  port_names : (names : List (List ℕ)) (nets : List FlatNet) → AreNetsOf (library_of n) places [] names nets → map (λ (o : OutPort). o.name) (ports_of names nets) ≡ names
  port_names names nets no_nets = refl
  port_names names nets (more_nets name rest net others is are) = ap (λ (t : List (List ℕ)). name ∷ t) (port_names rest others are)

  port_nets : (names : List (List ℕ)) (nets : List FlatNet) → AreNetsOf (library_of n) places [] names nets → map (λ (o : OutPort). o.net) (ports_of names nets) ≡ nets
  port_nets names nets no_nets = refl
  port_nets names nets (more_nets name rest net others is are) = ap (λ (t : List FlatNet). net ∷ t) (port_nets rest others are)

  -- the covers that a cover reads have lower ranks
  abbrev rank_at : ℕ → ℕ
  rank_at j = h.rank (option_map_or (λ (c : CoverValue). c.output) (slice_get n.covers j) [])

  reads_fall : (fs : List FlatCoverValue) → ((k : ℕ) (f : FlatCoverValue) → slice_get fs k ≡ Some f → IsFlatCover (library_of n) places (top_at (length n.latches + k)) f)
      → (k j : ℕ) (o : Option FlatCoverValue) → slice_get fs k ≡ o → In (cover_numbers (inputs_at o)) j → rank_at j < rank_at k
  reads_fall fs are k j None e i = elim i [ ]
  reads_fall fs are k j (Some f) e i =
      let is : IsFlatCover (library_of n) places (top_at (length n.latches + k)) f = are k f e in
      let upper : slice_get n.covers k ≡ Some is.cover = cover_of n k is.cover is.is in
      let read : (name : List ℕ) × In is.cover.inputs name × IsNetOf (library_of n) places [] name (number.Cover j) = read_among is.cover.inputs f.inputs is.inputs j i in
      let lower : (d : CoverValue) × (slice_get n.covers j ≡ Some d) × (read.0 ≡ d.output) = cover_read read.0 j read.2 in
      let high : rank_at k ≡ h.rank is.cover.output = ap (λ (o : Option CoverValue). h.rank (option_map_or (λ (c : CoverValue). c.output) o [])) upper in
      let low : rank_at j ≡ h.rank lower.0.output = ap (λ (o : Option CoverValue). h.rank (option_map_or (λ (c : CoverValue). c.output) o [])) lower.1 in
      omega (arith, h.falls is.cover lower.0 (In-get n.covers k is.cover upper) (In-get n.covers j lower.0 lower.1) (subst (In is.cover.inputs) lower.2 read.1), high, low)

  flat_with : (control : Option (List ℕ)) → IsControl (library_of n) control → (again : FlatValue) × IsFlat (library_of n) again
  flat_with control is_control =
      let outs : (nets : List FlatNet) × AreNetsOf (library_of n) places [] n.outputs nets = nets_of n.outputs h.outputs in
      let next : ℕ → List ℕ = λ k. cover_numbers (inputs_at (slice_get covers_made.0 k)) in
      let roots : List ℕ = cover_numbers (map (λ (o : OutPort). o.net) (ports_of n.outputs outs.0)) ++ cover_numbers (map (λ (l : FlatLatch). l.input) latches_made.0) in
      let order : (result : List ℕ) × PostsAll next [] roots result = all_posted next rank_at (λ k j i. reads_fall covers_made.0 covers_made.2 k j (slice_get covers_made.0 k) refl i) roots in (
        record {
          model = n.name;
          inputs = places.inputs;
          clocks = with_control_net [] control;
          control = control;
          outputs = ports_of n.outputs outs.0;
          covers = covers_made.0;
          latches = latches_made.0;
          order = reverse order.0;
          under = most_underscores (all_inputs n ++ ([] ++ n.outputs));
        },
        record {
          main = model_of n;
          is_main = refl;
          model = refl;
          test = test;
          tells = tells;
          inputs = refl;
          control = is_control;
          clocks = refl;
          at = places;
          places = refl;
          covers_order = places_are_covers n;
          latches_order = (places_are_latches n).order;
          cover_count = covers_made.1 ∙ sym (length_places (length n.latches) (length n.covers));
          covers = λ k p c at e. grind (arith, top_at, place_is, places);
          latch_count = latches_made.1 ∙ sym (length_places 0 (length n.latches));
          latches = λ k p l at e. grind (arith, places, place_is, top_at);
          output_names = port_names n.outputs outs.0 outs.1;
          outputs = subst (AreNetsOf (library_of n) places [] n.outputs) (sym (port_nets n.outputs outs.0 outs.1)) outs.1;
          order = subst (PostsAll next [] roots) (sym (reverse-reverse order.0)) order.1;
          under = refl;
        },
      )

-- a latch with a control, where there is one
record HasControl (ls : List LatchValue) (name : List ℕ) : Type 0 where
  place : ℕ
  latch : LatchValue
  there : slice_get ls place ≡ Some latch
  control : read_control latch.control ≡ Some name

find_control : (ls : List LatchValue) → ((name : List ℕ) × HasControl ls name) ⊎ ((l : LatchValue) → In ls l → read_control l.control ≡ None)
find_control [] = inr (λ l i. elim i [ ])
find_control (l ∷ ls) = found l ls (read_control l.control) refl (find_control ls)
  where
    found : (l : LatchValue) (ls : List LatchValue) (o : Option (List ℕ)) → read_control l.control ≡ o → ((name : List ℕ) × HasControl ls name) ⊎ ((m : LatchValue) → In ls m → read_control m.control ≡ None)
        → ((name : List ℕ) × HasControl (l ∷ ls) name) ⊎ ((m : LatchValue) → In (l ∷ ls) m → read_control m.control ≡ None)
    found l ls (Some name) e rest = inl (name, record { place = 0; latch = l; there = refl; control = e })
    found l ls None e (inl rest) = inl (rest.0, record { place = suc rest.1.place; latch = rest.1.latch; there = rest.1.there; control = rest.1.control })
    found l ls None e (inr rest) = inr (λ m i. elim i [ inl same ↦ ap (λ (k : LatchValue). read_control k.control) same ∙ e | inr j ↦ rest m j ])

flat_by : (n : PlainNetlist) → IsOrderly n → ((name : List ℕ) × HasControl n.latches name) ⊎ ((l : LatchValue) → In n.latches l → read_control l.control ≡ None) → (again : FlatValue) × IsFlat (library_of n) again
flat_by n h (inl (name, has)) =
    let control : IsControlName n name = record { latch = has.latch; in' = In-get n.latches has.place has.latch has.there; is = has.control } in
    let latch : LatchAt (library_of n) [] has.place (read_latch has.latch) = latch_at_top n has.place has.latch has.there in
    let drives : Drives (library_of n) [] name (input_net name) = main_input refl (main_there n name (h.controls name control)) refl in
    flat_with n h (λ other. bytes_eq other name) (record {
      yes = λ other e. subst (IsClock (library_of n)) (sym ((bytes_eq-Decides other name).0 e)) (controls [] has.place (read_latch has.latch) name latch has.control drives);
      no = λ other e is.
          let t : bytes_eq other name ≡ true = (bytes_eq-Decides other name).1 (h.one_control other name (clock_there n other is) control) in
          cc;
    }) (Some name) (some_latch [] has.place (read_latch has.latch) name name latch has.control drives refl)
flat_by n h (inr free) =
    flat_with n h (λ other. false) (record {
      yes = λ other e. absurd (let wrong : ⊥ = cc in wrong);
      no = λ other e is.
          let c : IsControlName n other = clock_there n other is in
          none-some other (sym (free c.latch c.in') ∙ c.is);
    }) None (no_latch (λ path i l at.
    let there : (m : LatchValue) × (slice_get n.latches i ≡ Some m) × (l ≡ read_latch m) = (latch_there n path i l at).1 in
    ap (λ (k : LatchValue). k.control) there.2 ∙ free there.0 (In-get n.latches i there.0 there.1)) refl)

pub plain_flat : (n : PlainNetlist) → IsOrderly n → (again : FlatValue) × IsFlat (library_of n) again
plain_flat n h = flat_by n h (find_control n.latches)
