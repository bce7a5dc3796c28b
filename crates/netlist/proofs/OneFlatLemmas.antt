-- A sound library has one flat circuit at most: each name has one net, and each net one number.
use Rattle.netlist.proofs.Common.{◌≡◌, ℕ, List, [], ◌∷◌, Some, sym, ap, ap₂, ◌∙◌, subst, refl, Bool, not, ◌++◌, map, length, filter, Option, subst₂, inl, inr, slice_get, reverse, is_some, AreApart, apart_once, cases_Bool, reverse-reverse, none-some, same_Some, In-get, LibraryValue, ModelValue, input_ports, LatchValue, Path, Net, IsDriven, Place, is_cover, is_latch, FlatOrder, FlatNet, IsNumbered, an_input, a_latch, a_cover, IsNetOf, AreNetsOf, TellsClocks, IsControl, some_latch, no_latch, with_control_net, cover_numbers, inputs_at, reads_at, flat_roots, most_underscores, IsFlatCover, IsFlatLatch, IsFlat, OutPort, FlatLatch, PostsAll, HasOneFlat, IsSound, CoverValue, FlatCoverValue, FlatValue, filtered_apart, same_list, item_there, arith}
use Rattle.netlist.specs.Flat.{Places, none, more}
use Rattle.netlist.specs.declared.flat.FlatNet.TheVariants.{Input, Latch, Cover}
use Rattle.netlist.proofs.NetLemmas.{one_net}
use Rattle.netlist.proofs.OrderLemmas.{order_once, places_apart}
use Rattle.netlist.proofs.PlaceLemmas.{cover_at-is, one_latch}
use Rattle.netlist.proofs.NameLemmas.{same_number}
use Rattle.netlist.proofs.PostLemmas.{nodes_once}

-- no driver stands at two places
pub record ArePlacedOnce (at : Places) : Type 0 where
  pub inputs : AreApart at.inputs
  pub latches : AreApart at.latches
  pub covers : AreApart at.covers

module _ (at : Places) (once : ArePlacedOnce at) where
  number_once : (net : Net) (number other : FlatNet) → IsNumbered at net number → IsNumbered at net other → number ≡ other
  number_once net number other (an_input name j q g n) (an_input last k r h m) = grind (arith, apart_once)
  number_once net number other (an_input name j q g n) (a_latch p k r h m) = absurd (cc)
  number_once net number other (an_input name j q g n) (a_cover p k r h m) = absurd (cc)
  number_once net number other (a_latch p j q g n) (an_input name k r h m) = absurd (cc)
  number_once net number other (a_latch p j q g n) (a_latch s k r h m) =
      let same : s ≡ p = (let path : s.path ≡ p.path = cc in let command : s.command ≡ p.command = cc in λ i. record { path = path i; command = command i }) in
      n ∙ ap Latch (apart_once at.latches j k p once.latches g (subst (λ x. slice_get at.latches k ≡ Some x) same h)) ∙ sym m
  number_once net number other (a_latch p j q g n) (a_cover s k r h m) = absurd (cc)
  number_once net number other (a_cover p j q g n) (an_input name k r h m) = absurd (cc)
  number_once net number other (a_cover p j q g n) (a_latch s k r h m) = absurd (cc)
  number_once net number other (a_cover p j q g n) (a_cover s k r h m) =
      let same : s ≡ p = (let path : s.path ≡ p.path = cc in let command : s.command ≡ p.command = cc in λ i. record { path = path i; command = command i }) in
      n ∙ ap Cover (apart_once at.covers j k p once.covers g (subst (λ x. slice_get at.covers k ≡ Some x) same h)) ∙ sym m

  module _ (library : LibraryValue) (driven : IsDriven library) where
    -- a name has one number
    pub one_net_number : (path : Path) (name : List ℕ) (number other : FlatNet) → IsNetOf library at path name number → IsNetOf library at path name other → number ≡ other
    one_net_number path name number other a b =
        number_once a.net number other a.numbered (subst (λ x. IsNumbered at x other) (one_net library driven b.drives a.drives) b.numbered)

    -- and so have several names
    pub one_list : {path : Path} {names : List (List ℕ)} {numbers others : List FlatNet} → AreNetsOf library at path names numbers → AreNetsOf library at path names others → numbers ≡ others
    one_list none none = refl
    one_list {path} (more name names number numbers a rest) (more last lasts other others b later) = ap₂ (λ (x : FlatNet) (xs : List FlatNet). x ∷ xs) (one_net_number path name number other a b) (one_list rest later)

-- two lists as long as a third one are equal where their elements at each of its places are
same_along : {A B : Type 0} (ps : List A) (xs ys : List B) → length xs ≡ length ps → length ys ≡ length ps
    → ((k : ℕ) (p : A) (x y : B) → slice_get ps k ≡ Some p → slice_get xs k ≡ Some x → slice_get ys k ≡ Some y → x ≡ y) → xs ≡ ys
same_along ps xs ys m n h = same_list xs ys (m ∙ sym n) (λ k x y a b. let p = item_there xs ps k x m a in h k p.0 x y p.1 a b)

-- outputs are equal where their names and their nets are
same_ports : (xs ys : List OutPort) → map (λ (o : OutPort). o.name) xs ≡ map (λ (o : OutPort). o.name) ys → map (λ (o : OutPort). o.net) xs ≡ map (λ (o : OutPort). o.net) ys → xs ≡ ys
same_ports [] [] a b = refl
same_ports (x ∷ xs) (y ∷ ys) a b = grind (arith, ap₂, same_ports xs ys (cc) (cc))
same_ports xs ys a b = absurd (cc)

module _ (library : LibraryValue) where
  -- two tests that tell the clock nets are one
  tests_agree : (name : List ℕ) (test other : List ℕ → Bool) → TellsClocks library test → TellsClocks library other → test name ≡ other name
  tests_agree name test other tells told = elim (cases_Bool (test name)) [
    | inl t ↦ (elim (cases_Bool (other name)) [ inl u ↦ t ∙ sym u | inr u ↦ absurd (told.no name u (tells.yes name t)) ])
    | inr t ↦ (elim (cases_Bool (other name)) [ inl u ↦ absurd (tells.no name t (told.yes name u)) | inr u ↦ t ∙ sym u ])
  ]

  same_tests : (test other : List ℕ → Bool) → TellsClocks library test → TellsClocks library other → test ≡ other
  same_tests test other tells told i name = tests_agree name test other tells told i

  module _ (sound : IsSound library) where
    -- the latch controls have one net
    same_controls : (control other : Option (List ℕ)) → IsControl library control → IsControl library other → control ≡ other
    same_controls control other (some_latch path i l own name at is t q) (some_latch path2 i2 r second last at2 is2 t2 q2) =
        q ∙ ap Some (sound.one_control path path2 i i2 l r own second name last at at2 is is2 t t2) ∙ sym q2
    same_controls control other (some_latch path i l own name at is t q) (no_latch off r) = absurd (none-some own (sym (off path i l at) ∙ is))
    same_controls control other (no_latch off q) (some_latch path i l own name at is t r) = absurd (none-some own (sym (off path i l at) ∙ is))
    same_controls control other (no_latch off q) (no_latch on r) = q ∙ sym r

    module _ (at : Places) (once : ArePlacedOnce at) (p : Place) where
      -- the flat cover of a place, and the flat latch
      same_cover : (c d : FlatCoverValue) → IsFlatCover library at p c → IsFlatCover library at p d → c ≡ d
      same_cover c d a b =
          let covers : b.cover ≡ a.cover = same_Some b.cover a.cover (sym (cover_at-is library p.path p.command b.cover b.is) ∙ cover_at-is library p.path p.command a.cover a.is) in
          let m : ModelValue = (a.is).model in
          let model : c.model ≡ d.model = same_number library.models c.model d.model m m (sound.formed).once (a.model ∙ (a.is).at) (b.model ∙ (a.is).at) refl in
          let command : c.command ≡ d.command = a.command ∙ sym b.command in
          let inputs : c.inputs ≡ d.inputs = one_list at once library sound.driven a.inputs (subst (λ (x : CoverValue). AreNetsOf library at p.path x.inputs d.inputs) covers b.inputs) in
          λ i. record { model = model i; command = command i; inputs = inputs i }

      same_latch : (l r : FlatLatch) → IsFlatLatch library at p l → IsFlatLatch library at p r → l ≡ r
      same_latch l r a b =
          let latches : b.latch ≡ a.latch = one_latch library p.path p.command b.latch a.latch b.is a.is in
          let input : l.input ≡ r.input = one_net_number at once library sound.driven p.path (a.latch).input l.input r.input a.input (subst (λ (x : LatchValue). IsNetOf library at p.path x.input r.input) latches b.input) in
          let init : l.init ≡ r.init = a.init ∙ ap (λ (x : LatchValue). x.init) (sym latches) ∙ sym b.init in
          let clocked : l.clocked ≡ r.clocked = a.clocked ∙ ap (λ (x : LatchValue). is_some x.control) (sym latches) ∙ sym b.clocked in
          λ i. record { input = input i; init = init i; clocked = clocked i }

    module _ (flat other : FlatValue) (f : IsFlat library flat) (g : IsFlat library other) where
      same_main : g.main ≡ f.main
      same_main = same_Some g.main f.main (sym g.is_main ∙ f.is_main)

      same_inputs : flat.inputs ≡ other.inputs
      same_inputs = f.inputs ∙ ap₂ (λ (t : List ℕ → Bool) (m : ModelValue). filter (λ name. not (t name)) m.inputs) (same_tests f.test g.test f.tells g.tells) (sym same_main) ∙ sym g.inputs

      same_control : flat.control ≡ other.control
      same_control = same_controls flat.control other.control f.control g.control

      same_clocks : flat.clocks ≡ other.clocks
      same_clocks = f.clocks ∙ ap₂ (λ (m : ModelValue) (o : Option (List ℕ)). with_control_net m.clocks o) (sym same_main) same_control ∙ sym g.clocks

      -- the places of both are one
      same_places : g.at ≡ f.at
      same_places =
          let inputs : (g.at).inputs ≡ (f.at).inputs = g.places ∙ sym same_inputs ∙ sym f.places in
          let latches : (g.at).latches ≡ (f.at).latches = order_once library is_latch (subst (λ m. FlatOrder library is_latch [] m (g.at).latches) same_main g.latches_order) f.latches_order in
          let covers : (g.at).covers ≡ (f.at).covers = order_once library is_cover (subst (λ m. FlatOrder library is_cover [] m (g.at).covers) same_main g.covers_order) f.covers_order in
          λ i. record { inputs = inputs i; latches = latches i; covers = covers i }

      placed_once : ArePlacedOnce f.at
      placed_once = record {
        inputs = subst AreApart (sym (f.places ∙ f.inputs)) (filtered_apart (λ name. not (f.test name)) (f.main).inputs (((sound.formed).each f.main (In-get library.models 0 f.main f.is_main)).ports input_ports));
        latches = places_apart library is_latch f.latches_order;
        covers = places_apart library is_cover f.covers_order;
      }

      same_covers : flat.covers ≡ other.covers
      same_covers = same_along (f.at).covers flat.covers other.covers f.cover_count (g.cover_count ∙ ap (λ (x : Places). length x.covers) same_places)
          (λ k p c d e a b. same_cover f.at placed_once p c d (f.covers k p c e a)
          (subst (λ x. IsFlatCover library x p d) same_places (g.covers k p d (subst (λ (x : Places). slice_get x.covers k ≡ Some p) (sym same_places) e) b)))

      same_latches : flat.latches ≡ other.latches
      same_latches = same_along (f.at).latches flat.latches other.latches f.latch_count (g.latch_count ∙ ap (λ (x : Places). length x.latches) same_places)
          (λ k p l r e a b. same_latch f.at placed_once p l r (f.latches k p l e a)
          (subst (λ x. IsFlatLatch library x p r) same_places (g.latches k p r (subst (λ (x : Places). slice_get x.latches k ≡ Some p) (sym same_places) e) b)))

      same_outputs : flat.outputs ≡ other.outputs
      same_outputs =
          let nets : List FlatNet = map (λ (o : OutPort). o.net) other.outputs in
          same_ports flat.outputs other.outputs (f.output_names ∙ ap (λ (m : ModelValue). m.outputs) (sym same_main) ∙ sym g.output_names)
          (one_list f.at placed_once library sound.driven f.outputs (subst₂ (λ (x : Places) (m : ModelValue). AreNetsOf library x [] m.outputs nets) same_places same_main g.outputs))

      -- the walks of both are one
      same_reads : reads_at other ≡ reads_at flat
      same_reads =
          let reads : List FlatCoverValue → ℕ → List ℕ = λ cs k. cover_numbers (inputs_at (slice_get cs k)) in
          ap reads (sym same_covers)

      same_order : flat.order ≡ other.order
      same_order =
          let roots : flat_roots other ≡ flat_roots flat = ap₂ (λ (os : List OutPort) (ls : List FlatLatch). cover_numbers (map (λ (o : OutPort). o.net) os) ++ cover_numbers (map (λ (l : FlatLatch). l.input) ls)) (sym same_outputs) (sym same_latches) in
          let walk : PostsAll (reads_at flat) [] (flat_roots flat) (reverse other.order) = subst₂ (λ (next : ℕ → List ℕ) (ns : List ℕ). PostsAll next [] ns (reverse other.order)) same_reads roots g.order in
          sym (reverse-reverse flat.order) ∙ ap reverse (nodes_once (reads_at flat) f.order walk) ∙ reverse-reverse other.order

      same_flat : flat ≡ other
      same_flat i = record {
        model = (f.model ∙ ap (λ (m : ModelValue). m.name) (sym same_main) ∙ sym g.model) i;
        inputs = same_inputs i;
        clocks = same_clocks i;
        control = same_control i;
        outputs = same_outputs i;
        covers = same_covers i;
        latches = same_latches i;
        order = same_order i;
        under = (f.under ∙ ap (λ (m : ModelValue). most_underscores (m.inputs ++ (m.clocks ++ m.outputs))) (sym same_main) ∙ sym g.under) i;
      }

pub one_flat : (library : LibraryValue) → IsSound library → HasOneFlat library
one_flat library sound = record { only = λ flat other f g. same_flat library sound flat other f g }
