-- Slots of nets: the slot of a name, and the table when one more slot is filled.
use Rattle.blif_flat.proofs.Common.{◌≡◌, ℕ, ◌+◌, ◌<◌, ◌≤◌, Bool, eqb, List, length, Option, Some, None, refl, sym, ap, ◌∙◌, inl, inr, bytes_eq, arith, slice_get, slice_set, ◌&&◌, option_map, option_and_then, get_or, slice_get_read, cases_Bool, cases_lt, both_ways, cond-true, cond-false, and_parts, and_from, bytes_decides, set_here, set_other, set_length, [], subst, suc, ◌∷◌, ◌⊎◌, IsTrue, none-some, same_Some, slice_get_within, In, place_of, Connection, FlatNet, Start, with_net, NetsValue, name_place, slot_number, slot_at, table_of, with_slot, with_found, copied, pair_copied, pairs_copied, IsNets, most_weight, ModelValue, Path, model_at, inputs_of, Net, input_net, latch_net, cover_net, Drives, Place, is_cover, is_latch, Instance, places_at, AreInstances, paths_of, IsNumbered, an_input, a_latch, a_cover, net_places, IsNetFound, AreAllNets, is_input, is_output, ConnectionAt, IsNetOf, IsSoundTable, HasOwn, HasOutputs, HasInputs, IsKeptIn, IsNext, LibraryValue, Places, eqb-true, eq-eqb, rules}
use Rattle.netlist.specs.declared.flat.FlatNet.TheVariants.{Input, Latch, Cover}
use Rattle.blif_flat.proofs.Connections.NetLemmas.{outer_number, inner_number}

-- the slot of a name
pub slot_found : (n : NetsValue) (i : ℕ) (name : List ℕ) (starts : List Start) (names : List (List (List ℕ))) (s : Start) (o : Option ℕ) → starts ≡ n.starts → names ≡ n.names → i < length starts → s ≡ get_or starts i s
    → o ≡ option_and_then (λ (ns : List (List ℕ)). place_of ns name) (slice_get names s.model) → option_map (λ (p : ℕ). s.first + p) o ≡ slot_number n i name
slot_found n i name starts names s o a b h e f = grind (arith, slice_get_read, option_and_then, place_of, name_place, option_map)

-- a slot has a small number
pub slot_fits : (n : NetsValue) (is : IsNets n) (i : ℕ) (name : List ℕ) (k : ℕ) → Some k ≡ slot_number n i name → k < most_weight
slot_fits n is i name k e = let h : k < length n.slots = is.within i name k (sym e) in let f : length n.slots ≤ most_weight = is.few in omega arith

-- a filled slot changes the table at its name only
option_apart : (slots : List (Option FlatNet)) (k : ℕ) (number : FlatNet) (o : Option ℕ) → (o ≡ Some k → ⊥) → slot_at (slice_set slots k (Some number)) o ≡ slot_at slots o
option_apart slots k number None h = refl
option_apart slots k number (Some j) h = ap (option_and_then (λ (o : Option FlatNet). o)) (set_other slots k j (Some number) (λ e. h (ap Some e)))

pub with_slot-table : (n : NetsValue) (is : IsNets n) (i : ℕ) (name : List ℕ) (k : ℕ) (number : FlatNet) → slot_number n i name ≡ Some k → (j : ℕ) (other : List ℕ)
    → table_of (with_slot n k number) j other ≡ with_net (table_of n) i name number j other
with_slot-table n is i name k number e j other = search (rules, cases_Bool, eqb, bytes_eq, and_parts, eqb-true, bytes_decides, slot_number, slot_at, slice_set, option_and_then, set_here, cond-true, table_of, option_apart, both_ways, and_from, eq-eqb, cond-false)

-- and names keep their own slots
pub with_slot-nets : (n : NetsValue) (k : ℕ) (number : FlatNet) → IsNets n → IsNets (with_slot n k number)
with_slot-nets n k number is = record {
  few = let long : length (slice_set n.slots k (Some number)) ≡ length n.slots = set_length n.slots k (Some number) in let h : length n.slots ≤ most_weight = is.few in omega arith;
  within = λ i name j e. let long : length (slice_set n.slots k (Some number)) ≡ length n.slots = set_length n.slots k (Some number) in let h : j < length n.slots = is.within i name j e in omega arith;
  apart = λ i j name other s e f. is.apart i j name other s e f;
}

pub with_found-nets : (n : NetsValue) (o : Option ℕ) (number : FlatNet) → IsNets n → IsNets (with_found n o number)
with_found-nets n None number is = is
with_found-nets n (Some k) number is = with_slot-nets n k number is

pub copied-nets : (n : NetsValue) (i : ℕ) (name : List ℕ) (o : Option FlatNet) → IsNets n → IsNets (copied n i name o)
copied-nets n i name None is = is
copied-nets n i name (Some number) is = with_found-nets n (slot_number n i name) number is

-- What the nets of all instances say of a name: its driver, by the number of an input, a latch or a cover.

-- the input of a number drives a name
pub record ByInput (library : LibraryValue) (inputs : List (List ℕ)) (path : Path) (name : List ℕ) (j : ℕ) : Type 0 where
  pub input : List ℕ
  pub at : slice_get inputs j ≡ Some input
  pub drives : Drives library path name (input_net input)

-- or the latch or the cover of a number, whose net is that of its place
pub record ByPlace (library : LibraryValue) (net : Place → Net) (places : List Place) (path : Path) (name : List ℕ) (k : ℕ) : Type 0 where
  pub place : Place
  pub at : slice_get places k ≡ Some place
  pub drives : Drives library path name (net place)

abbrev pub latch_of : Place → Net
latch_of p = latch_net p.path p.command

abbrev pub cover_of : Place → Net
cover_of p = cover_net p.path p.command

module _ (library : LibraryValue) (at : Places) (path : Path) (name : List ℕ) where
  -- what the number of a name's net says
  abbrev Behind : FlatNet → Type 0
  Behind (Input j) = ByInput library at.inputs path name j
  Behind (Latch k) = ByPlace library latch_of at.latches path name k
  Behind (Cover k) = ByPlace library cover_of at.covers path name k

  by_number : (number : FlatNet) (net : Net) → Drives library path name net → IsNumbered at net number → Behind number
  by_number number net t (an_input input i q g n) = subst Behind (sym n) (record { input = input; at = g; drives = subst (Drives library path name) q t })
  by_number number net t (a_latch p i q g n) = subst Behind (sym n) (record { place = p; at = g; drives = subst (Drives library path name) q t })
  by_number number net t (a_cover p i q g n) = subst Behind (sym n) (record { place = p; at = g; drives = subst (Drives library path name) q t })

module _ (library : LibraryValue) (instances : List Instance) (are : AreInstances library instances) (nets : NetsValue) (all : AreAllNets library instances nets)
    (row : ℕ) (path : Path) (at : slice_get (paths_of instances) row ≡ Some path) (name : List ℕ) where
  found : (o : Option FlatNet) → table_of nets row name ≡ o → IsNetFound library (net_places library are.main (paths_of instances)) path name o
  found o e = subst (IsNetFound library (net_places library are.main (paths_of instances)) path name) e ((all.table are.main are.first).each row path name at)

  pub none_found : table_of nets row name ≡ None → (net : Net) → Drives library path name net → ⊥
  none_found e = found None e

  pub input_found : (inputs : List (List ℕ)) → ((main : ModelValue) → model_at library [] ≡ Some main → inputs ≡ inputs_of main) → (j : ℕ) → table_of nets row name ≡ Some (Input j) → ByInput library inputs path name j
  input_found inputs inputs_are j e = grind (arith, found, by_number, net_places, paths_of)

  pub latch_found : (k : ℕ) → table_of nets row name ≡ Some (Latch k) → ByPlace library latch_of (places_at library is_latch (paths_of instances)) path name k
  latch_found k e = let r = found (Some (Latch k)) e in by_number library (net_places library are.main (paths_of instances)) path name (Latch k) r.net r.drives r.numbered

  pub cover_found : (k : ℕ) → table_of nets row name ≡ Some (Cover k) → ByPlace library cover_of (places_at library is_cover (paths_of instances)) path name k
  cover_found k e = let r = found (Some (Cover k)) e in by_number library (net_places library are.main (paths_of instances)) path name (Cover k) r.net r.drives r.numbered

-- Tables of nets are filled step by step: a number is put in, and an instance is done.

-- a number before the next one is before this one or is it
before_or_at : (i t : ℕ) → i < suc t → (i < t) ⊎ (i ≡ t)
before_or_at i t h = elim (cases_lt i t) [ inl a ↦ inl a | inr b ↦ inr (omega arith) ]

abbrev Table : Type 0
Table = ℕ → List ℕ → Option FlatNet

-- a number that is put in stands there, and nothing is lost
pub with_net-known : (table : Table) (i : ℕ) (name : List ℕ) (number : FlatNet) → with_net table i name number i name ≡ None → ⊥
with_net-known table i name number = grind (arith, none-some, cond-true, eqb, bytes_eq, and_from, eq-eqb, bytes_decides)

pub with_net-kept : (table : Table) (i : ℕ) (name : List ℕ) (number : FlatNet) → IsKeptIn table (with_net table i name number)
with_net-kept table i name number = search (rules, cases_Bool, eqb, bytes_eq, none-some, cond-true, cond-false)

module _ (library : LibraryValue) (at : Places) (paths : List Path) where
  -- a right number may be put in
  pub sound_with : (table : Table) (i : ℕ) (path : Path) (name : List ℕ) (number : FlatNet) → IsSoundTable library at paths table → slice_get paths i ≡ Some path → IsNetOf library at path name number
      → IsSoundTable library at paths (with_net table i name number)
  sound_with table i path name number sound e o = search (rules, cases_Bool, eqb, bytes_eq, and_parts, eqb-true, bytes_decides, same_Some, cond-true, cond-false)

-- a table without numbers
pub sound_empty : (library : LibraryValue) (at : Places) (paths : List Path) (table : Table) → ((i : ℕ) (name : List ℕ) → table i name ≡ None) → IsSoundTable library at paths table
sound_empty library at paths table empty = record { each = λ i path name number e f. absurd (none-some number (sym (empty i name) ∙ f)) }

module _ (library : LibraryValue) (paths : List Path) where
  -- nothing is lost of the stages
  pub own_kept : (table next : Table) → HasOwn library paths table → IsKeptIn table next → HasOwn library paths next
  own_kept table next own kept = record {
    latch = λ i path c l e a. kept.each i l.output (own.latch i path c l e a);
    cover = λ i path c r e a. kept.each i r.output (own.cover i path c r e a);
  }

  -- the stages at their starts
  pub inputs_start : (table : Table) → HasInputs library paths table 0
  inputs_start table = record { each = λ i path m name h e g is n. absurd (omega arith) }

  pub outputs_start : (table : Table) → HasOutputs library paths table (length paths)
  outputs_start table = record { each = λ i j path k pair a out e f h n. absurd (let g : j < length paths = slice_get_within paths j (k ∷ path) f in omega arith) }

  -- one more instance is done
  pub inputs_step : (table next : Table) (t : ℕ) (path : Path) (m : ModelValue) → HasInputs library paths table t → IsKeptIn table next → slice_get paths t ≡ Some path → model_at library path ≡ Some m
      → ((name : List ℕ) → IsTrue (is_input m name) → next t name ≡ None → ⊥) → HasInputs library paths next (suc t)
  inputs_step table next t path m inputs kept here there all = search (rules, before_or_at, same_Some, model_at, is_input)

  pub outputs_step : (table next : Table) (t : ℕ) → HasOutputs library paths table (suc t) → IsKeptIn table next
      → ((i : ℕ) (path : Path) (k : ℕ) (pair : Connection) (a : ConnectionAt library path k pair) → IsTrue (is_output a.child pair.formal) → slice_get paths i ≡ Some path → slice_get paths t ≡ Some (k ∷ path) → next i pair.actual ≡ None → ⊥)
      → HasOutputs library paths next t
  outputs_step table next t outputs kept all = record {
    each = λ i j path k pair a out e f h n. elim (before_or_at t j (let g : t < suc j = omega arith in g)) [
      | inl b ↦ kept.each i pair.actual (outputs.each i j path k pair a out e f (omega arith)) n
      | inr q ↦ all i path k pair a out e (subst (λ x. slice_get paths x ≡ Some (k ∷ path)) (sym q) f) n
    ];
  }

-- Nets are copied through the connections of a subcircuit, outputs to their actuals and actuals to the inputs: the table stays right and loses nothing, and the copies stand in it.
pub tables_same : (n : NetsValue) (is : IsNets n) (i : ℕ) (name : List ℕ) (k : ℕ) (number : FlatNet) → slot_number n i name ≡ Some k → table_of (with_slot n k number) ≡ with_net (table_of n) i name number
tables_same n is i name k number e x j other = with_slot-table n is i name k number e j other x

-- a number that is put in where the name has a slot
found_kept : (n : NetsValue) (is : IsNets n) (i : ℕ) (name : List ℕ) (number : FlatNet) (o : Option ℕ) → slot_number n i name ≡ o → IsKeptIn (table_of n) (table_of (with_found n o number))
found_kept n is i name number None e = record { each = λ i name known. known }
found_kept n is i name number (Some k) e = subst (IsKeptIn (table_of n)) (sym (tables_same n is i name k number e)) (with_net-kept (table_of n) i name number)

found_known : (n : NetsValue) (is : IsNets n) (i : ℕ) (name : List ℕ) (number : FlatNet) (o : Option ℕ) → slot_number n i name ≡ o → (o ≡ None → ⊥) → table_of (with_found n o number) i name ≡ None → ⊥
found_known n is i name number None e slot known = slot refl
found_known n is i name number (Some k) e slot none = with_net-known (table_of n) i name number (sym (with_slot-table n is i name k number e i name) ∙ none)

pub copied-kept : (n : NetsValue) (is : IsNets n) (i : ℕ) (name : List ℕ) (o : Option FlatNet) → IsKeptIn (table_of n) (table_of (copied n i name o))
copied-kept n is i name None = record { each = λ i name known. known }
copied-kept n is i name (Some number) = found_kept n is i name number (slot_number n i name) refl

pub copied-known : (n : NetsValue) (is : IsNets n) (i : ℕ) (name : List ℕ) (o : Option FlatNet) → (o ≡ None → ⊥) → (slot_number n i name ≡ None → ⊥) → table_of (copied n i name o) i name ≡ None → ⊥
copied-known n is i name None some slot none = some refl
copied-known n is i name (Some number) some slot none = found_known n is i name number (slot_number n i name) refl slot none

-- a copy moves no slot
found_slots : (n : NetsValue) (o : Option ℕ) (number : FlatNet) (j : ℕ) (other : List ℕ) → slot_number (with_found n o number) j other ≡ slot_number n j other
found_slots n None number j other = refl
found_slots n (Some k) number j other = refl

pub copied-slots : (n : NetsValue) (i : ℕ) (name : List ℕ) (o : Option FlatNet) (j : ℕ) (other : List ℕ) → slot_number (copied n i name o) j other ≡ slot_number n j other
copied-slots n i name None j other = refl
copied-slots n i name (Some number) j other = found_slots n (slot_number n i name) number j other

module _ (library : LibraryValue) (at : Places) (paths : List Path) where
  found_sound : (n : NetsValue) (is : IsNets n) (i : ℕ) (path : Path) (name : List ℕ) (number : FlatNet) (o : Option ℕ) → slot_number n i name ≡ o → IsSoundTable library at paths (table_of n) → slice_get paths i ≡ Some path
      → IsNetOf library at path name number → IsSoundTable library at paths (table_of (with_found n o number))
  found_sound n is i path name number None e sound here net = sound
  found_sound n is i path name number (Some k) e sound here net =
      subst (IsSoundTable library at paths) (sym (tables_same n is i name k number e)) (sound_with library at paths (table_of n) i path name number sound here net)

  pub copied-sound : (n : NetsValue) (is : IsNets n) (i : ℕ) (path : Path) (name : List ℕ) (o : Option FlatNet) → IsSoundTable library at paths (table_of n) → slice_get paths i ≡ Some path
      → ((number : FlatNet) → o ≡ Some number → IsNetOf library at path name number) → IsSoundTable library at paths (table_of (copied n i name o))
  copied-sound n is i path name None sound here net = sound
  copied-sound n is i path name (Some number) sound here net = found_sound n is i path name number (slot_number n i name) refl sound here (net number refl)

module _ (library : LibraryValue) (at : Places) (paths : List Path) where
  pub next_same : (n : NetsValue) → IsNets n → IsSoundTable library at paths (table_of n) → IsNext library at paths n n
  next_same n is sound = record { nets = is; sound = sound; kept = record { each = λ i name known. known }; slots = λ j other. refl }

  pub next_on : (n middle next : NetsValue) → IsNext library at paths n middle → IsNext library at paths middle next → IsNext library at paths n next
  next_on n middle next a b = record { nets = b.nets; sound = b.sound; kept = record { each = λ i name known. b.kept.each i name (a.kept.each i name known) }; slots = λ j other. b.slots j other ∙ a.slots j other }

  -- nets are copied from an instance to another one along pairs of a kind, in which the net of the one name is that of the other
  module _ (test : List ℕ → Bool) (source target : Connection → List ℕ) (from to : ℕ) (there here : Path) (at_from : slice_get paths from ≡ Some there) (at_to : slice_get paths to ≡ Some here)
      (Is : Connection → Type 0) (passes : (pair : Connection) (number : FlatNet) → Is pair → IsTrue (test pair.formal) → IsNetOf library at there (source pair) number → IsNetOf library at here (target pair) number) where
    pair_next : (n : NetsValue) → IsNets n → IsSoundTable library at paths (table_of n) → (pair : Connection) → Is pair → IsNext library at paths n (pair_copied test source target from to n pair)
    pair_next n is sound pair known =
        let copy : NetsValue = copied n to (target pair) (table_of n from (source pair)) in
        elim (cases_Bool (test pair.formal)) [
          | inl t ↦ subst (IsNext library at paths n) (sym (cond-true (test pair.formal) copy n t)) (record {
            nets = copied-nets n to (target pair) (table_of n from (source pair)) is;
            sound = copied-sound library at paths n is to here (target pair) (table_of n from (source pair)) sound at_to (λ number e. passes pair number known t (sound.each from there (source pair) number at_from e));
            kept = copied-kept n is to (target pair) (table_of n from (source pair));
            slots = λ j other. copied-slots n to (target pair) (table_of n from (source pair)) j other;
          })
          | inr f ↦ subst (IsNext library at paths n) (sym (cond-false (test pair.formal) copy n f)) (next_same n is sound)
        ]

    pair_known : (n : NetsValue) → IsNets n → (pair : Connection) → IsTrue (test pair.formal) → (table_of n from (source pair) ≡ None → ⊥) → (slot_number n to (target pair) ≡ None → ⊥)
        → table_of (pair_copied test source target from to n pair) to (target pair) ≡ None → ⊥
    pair_known n is pair t known slot =
        let copy : NetsValue = copied n to (target pair) (table_of n from (source pair)) in
        subst (λ (v : NetsValue). table_of v to (target pair) ≡ None → ⊥) (sym (cond-true (test pair.formal) copy n t)) (copied-known n is to (target pair) (table_of n from (source pair)) known slot)

    pub pairs_next : (pairs : List Connection) (n : NetsValue) → IsNets n → IsSoundTable library at paths (table_of n) → ((pair : Connection) → In pairs pair → Is pair) → IsNext library at paths n (pairs_copied test source target from to n pairs)
    pairs_next [] n is sound all = next_same n is sound
    pairs_next (p ∷ pairs) n is sound all =
        let middle : NetsValue = pair_copied test source target from to n p in
        let one : IsNext library at paths n middle = pair_next n is sound p (all p (inl refl)) in
        next_on n middle (pairs_copied test source target from to n (p ∷ pairs)) one (pairs_next pairs middle one.nets one.sound (λ q i. all q (inr i)))

    -- the one name of a pair stands in the table where the other does and it has a slot
    pub pairs_known : (pairs : List Connection) (n : NetsValue) → IsNets n → IsSoundTable library at paths (table_of n) → ((pair : Connection) → In pairs pair → Is pair)
        → (pair : Connection) → In pairs pair → IsTrue (test pair.formal) → (table_of n from (source pair) ≡ None → ⊥) → (slot_number n to (target pair) ≡ None → ⊥)
        → table_of (pairs_copied test source target from to n pairs) to (target pair) ≡ None → ⊥
    pairs_known [] n is sound all pair i t known slot = absurd i
    pairs_known (p ∷ pairs) n is sound all pair (inl e) t known slot =
        let middle : NetsValue = pair_copied test source target from to n p in
        let one : IsNext library at paths n middle = pair_next n is sound p (all p (inl refl)) in
        let rest : IsNext library at paths middle (pairs_copied test source target from to middle pairs) = pairs_next pairs middle one.nets one.sound (λ q j. all q (inr j)) in
        rest.kept.each to (target pair) (subst (λ (q : Connection). table_of (pair_copied test source target from to n q) to (target pair) ≡ None → ⊥) e (pair_known n is pair t known slot))
    pairs_known (p ∷ pairs) n is sound all pair (inr i) t known slot =
        let middle : NetsValue = pair_copied test source target from to n p in
        let one : IsNext library at paths n middle = pair_next n is sound p (all p (inl refl)) in
        pairs_known pairs middle one.nets one.sound (λ q j. all q (inr j)) pair i t (one.kept.each from (source pair) known) (λ g. slot (sym (one.slots to (target pair)) ∙ g))

  -- the connections of a subcircuit pass nets on
  module _ (child : ModelValue) (path : Path) (k : ℕ) where
    abbrev pub IsConnection : Connection → Type 0
    IsConnection pair = (a : ConnectionAt library path k pair) × (a.child ≡ child)

    pub passes_out : (pair : Connection) (number : FlatNet) → IsConnection pair → IsTrue (is_output child pair.formal) → IsNetOf library at (k ∷ path) pair.formal number → IsNetOf library at path pair.actual number
    passes_out pair number c t o = outer_number library path k pair c.0 number (subst (λ m. IsTrue (is_output m pair.formal)) (sym c.1) t) o

    pub passes_in : (pair : Connection) (number : FlatNet) → IsConnection pair → IsTrue (is_input child pair.formal) → IsNetOf library at path pair.actual number → IsNetOf library at (k ∷ path) pair.formal number
    passes_in pair number c t o = inner_number library path k pair c.0 number (subst (λ m. IsTrue (is_input m pair.formal)) (sym c.1) t) o
