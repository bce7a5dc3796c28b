-- Each driven name has one net, where no name is driven twice and each connection has a driver.
use Rattle.blif_flat.proofs.Common.{◌≡◌, ℕ, List, [], ◌∷◌, Option, Some, None, refl, sym, ap, ◌∙◌, subst, inl, inr, IsTrue, none-some, same_Some, zero, suc, ◌+◌, ◌<◌, ◌≤◌, Bool, true, ◌++◌, length, take, arith, slice_get, option_and_then, cases_Bool, cond-true, length-append, slice_get_within, apart_once, place_in, get_left, item_there, Connection, ModelValue, Path, model_at, is_input, is_output, ConnectionAt, input_net, main_input, from_inside, from_outside, Driver, by_input, IsDriver, input, latch, cover, output, input_actual, model_output, IsDriven, Body, Command, inputs_of, Place, own_places, Instance, FlatNet, itself, model_places, places_at, path_under, path_of, paths_of, IsRow, AreInstances, an_input, IsNetOf, net_places, IsNetFound, AreNetsAt, IsSoundTable, HasOwn, HasOutputs, HasInputs, kind_count, base_of, own_number, LibraryValue, get_right, Places, order_all, driver_of, Input as InputNumber}
use Rattle.blif_flat.proofs.Hierarchy.InstanceRowLemmas.{paths_of-length}
use Rattle.blif_flat.proofs.Hierarchy.OrderLemmas.{instances_apart}
use Rattle.netlist.proofs.PlaceLemmas.{child_at, place_of}
use Rattle.netlist.proofs.NetLemmas.{no_input}

-- Tables of nets: what stands where, how one is filled, and that the filled one has every net.

-- a command of a kind stands among its model's own ones behind those of the kind before it
own_at : (kind : Body → Bool) (path : Path) (i : ℕ) (cs : List Command) (j : ℕ) (c : Command) → slice_get cs j ≡ Some c → IsTrue (kind c.body)
    → slice_get (own_places kind path i cs) (kind_count kind (take j cs)) ≡ Some (place_of path (i + j))
own_at kind path i [] j c e t = absurd (none-some c e)
own_at kind path i (d ∷ cs) zero c e t = grind arith
own_at kind path i (d ∷ cs) (suc j) c e t = grind (arith, kind_count, own_places, place_of, cases_Bool, own_at kind path (suc i) cs j c e t)

module _ (library : LibraryValue) where
  -- the instances before one have its base as the number of their places, and its own ones stand behind them
  places_own : (kind : Body → Bool) (paths : List Path) (i : ℕ) (path : Path) (m : ModelValue) → slice_get paths i ≡ Some path → model_at library path ≡ Some m
      → (n : ℕ) (p : Place) → slice_get (own_places kind path 0 m.commands) n ≡ Some p → slice_get (places_at library kind paths) (base_of library kind paths i + n) ≡ Some p
  places_own kind [] i path m e at n p q = absurd (none-some path e)
  places_own kind (x ∷ paths) zero path m e at n p q = grind (arith, same_Some, model_at, own_places, model_places, places_at, get_left)
  places_own kind (x ∷ paths) (suc i) path m e at n p q =
      let these : List Place = model_places kind x (model_at library x) in
      let r : slice_get (places_at library kind paths) (base_of library kind paths i + n) ≡ Some p = places_own kind paths i path m e at n p q in
      let k : length these + (base_of library kind paths i + n) ≡ length (these ++ places_at library kind (take i paths)) + n = omega (arith, length-append these (places_at library kind (take i paths))) in
      subst (λ j. slice_get (these ++ places_at library kind paths) j ≡ Some p) k (get_right these (places_at library kind paths) (base_of library kind paths i + n) p r)

  pub gate_place_at : (kind : Body → Bool) (paths : List Path) (i : ℕ) (path : Path) (m : ModelValue) (c : ℕ) (command : Command) → slice_get paths i ≡ Some path → model_at library path ≡ Some m
      → slice_get m.commands c ≡ Some command → IsTrue (kind command.body) → slice_get (places_at library kind paths) (own_number library kind paths i m c) ≡ Some (place_of path c)
  gate_place_at kind paths i path m c command e at d t =
      let n : 0 + c ≡ c = omega arith in
      places_own kind paths i path m e at (kind_count kind (take c m.commands)) (place_of path c)
      (subst (λ j. slice_get (own_places kind path 0 m.commands) (kind_count kind (take c m.commands)) ≡ Some (place_of path j)) n (own_at kind path 0 m.commands c command d t))

  -- the net of a main input, by its place among the inputs
  pub input_number : (main : ModelValue) (paths : List Path) (j : ℕ) (name : List ℕ) → model_at library [] ≡ Some main → IsTrue (is_input main name) → slice_get (inputs_of main) j ≡ Some name
      → IsNetOf library (net_places library main paths) [] name (InputNumber j)
  input_number main paths j name at t e = record { net = input_net name; drives = main_input refl (record { model = main; at = at; is = t }) refl; numbered = an_input name j refl e refl }

  -- an output's actual has the number of the formal inside, and an input's formal that of the actual outside
  pub outer_number : {at : Places} (path : Path) (k : ℕ) (pair : Connection) (a : ConnectionAt library path k pair) (number : FlatNet) → IsTrue (is_output a.child pair.formal)
      → IsNetOf library at (k ∷ path) pair.formal number → IsNetOf library at path pair.actual number
  outer_number path k pair a number t o = record { net = o.net; drives = from_inside k pair a t refl o.drives; numbered = o.numbered }

  pub inner_number : {at : Places} (path : Path) (k : ℕ) (pair : Connection) (a : ConnectionAt library path k pair) (number : FlatNet) → IsTrue (is_input a.child pair.formal)
      → IsNetOf library at path pair.actual number → IsNetOf library at (k ∷ path) pair.formal number
  inner_number path k pair a number t o = record { net = o.net; drives = from_outside k path pair a t refl refl o.drives; numbered = o.numbered }

-- the row of an inner instance, and the place of the instance that it stands in
pub record HasParent (paths : List Path) (row : Instance) (k : ℕ) (outer : Path) : Type 0 where
  pub place : ℕ
  pub parent : row.parent ≡ Some place
  pub ordinal : row.ordinal ≡ k
  pub at : slice_get paths place ≡ Some outer

parent_path : (paths : List Path) (row : Instance) (k : ℕ) (outer : Path) (p : ℕ) (o : Option Path) → row.parent ≡ Some p → slice_get paths p ≡ o → path_under row.ordinal o ≡ k ∷ outer → HasParent paths row k outer
parent_path paths row k outer p None is at e = absurd (cc)
parent_path paths row k outer p (Some q) is at e = grind arith

parent_from : (paths : List Path) (row : Instance) (k : ℕ) (outer : Path) (parent : Option ℕ) → row.parent ≡ parent → path_under row.ordinal (option_and_then (slice_get paths) parent) ≡ k ∷ outer → HasParent paths row k outer
parent_from paths row k outer None is e = absurd (let f : ◌≡◌ {A = Path} [] (k ∷ outer) = e in cc)
parent_from paths row k outer (Some p) is e = parent_path paths row k outer p (slice_get paths p) is refl e

pub has_parent : (paths : List Path) (row : Instance) (k : ℕ) (outer : Path) → path_of paths row ≡ k ∷ outer → HasParent paths row k outer
has_parent paths row k outer e = parent_from paths row k outer row.parent refl e

module _ (library : LibraryValue) (instances : List Instance) (are : AreInstances library instances) where
  -- an instance stands later than the one that it stands in
  pub parent_earlier : (i j k : ℕ) (outer : Path) → slice_get (paths_of instances) i ≡ Some outer → slice_get (paths_of instances) j ≡ Some (k ∷ outer) → i < j
  parent_earlier i j k outer e f =
      let row = item_there (paths_of instances) instances j (k ∷ outer) (paths_of-length instances) f in
      let r : IsRow library (paths_of instances) j row.0 = are.each j row.0 row.1 in
      let h : HasParent (paths_of instances) row.0 k outer = has_parent (paths_of instances) row.0 k outer (sym r.is ∙ sym (same_Some (k ∷ outer) r.path (sym f ∙ r.at))) in
      omega (arith, apart_once (paths_of instances) h.place i outer (instances_apart library are.order) h.at e, r.earlier h.place h.parent)

  -- every instance has a place
  pub instance_place : (path : Path) (m : ModelValue) → model_at library path ≡ Some m → (i : ℕ) × (slice_get (paths_of instances) i ≡ Some path)
  instance_place path m e =
      place_in (paths_of instances) path (order_all library itself are.main (paths_of instances) are.first are.order path m e path (inl refl))

  module _ (driven : IsDriven library) (table : ℕ → List ℕ → Option FlatNet) (own : HasOwn library (paths_of instances) table) where
    -- a driver has its number in the table, if it is no input whose number isn't there, and its subcircuit stands from place t on
    driver_known : (t : ℕ) → HasOutputs library (paths_of instances) table t → (i : ℕ) (path : Path) (name : List ℕ) (driver : Driver) → slice_get (paths_of instances) i ≡ Some path → t ≤ suc i → IsDriver library path name driver
        → (driver ≡ by_input → (m : ModelValue) → model_at library path ≡ Some m → IsTrue (is_input m name) → table i name ≡ None → ⊥) → table i name ≡ None → ⊥
    driver_known t outputs i path name driver e from (input a j q) on n = on q a.model a.at j n
    driver_known t outputs i path name driver e from (latch c l a p q) on n = own.latch i path c l e a (ap (table i) (sym p) ∙ n)
    driver_known t outputs i path name driver e from (cover c r a p q) on n = own.cover i path c r e a (ap (table i) (sym p) ∙ n)
    driver_known t outputs i path name driver e from (output k pair a out p q) on n =
        let child = instance_place (k ∷ path) a.child (child_at library path k pair a) in
        outputs.each i child.0 path k pair a out e child.1 (omega (arith, parent_earlier i child.0 k path e child.1)) (ap (table i) (sym p) ∙ n)

    -- backwards: the formal of an output stands in the table of the child, where the instances behind it have theirs
    pub formal_known : (t : ℕ) → HasOutputs library (paths_of instances) table t → (j : ℕ) (path : Path) (k : ℕ) (pair : Connection) (a : ConnectionAt library path k pair) → IsTrue (is_output a.child pair.formal)
        → slice_get (paths_of instances) j ≡ Some (k ∷ path) → t ≤ suc j → table j pair.formal ≡ None → ⊥
    formal_known t outputs j path k pair a out e from =
        let d = driven.driven (k ∷ path) pair.formal (model_output a.child (child_at library path k pair a) out) in
        driver_known t outputs j (k ∷ path) pair.formal d.0 e from d.1 (λ q m at is. absurd (no_input library driven path k pair a out d.0 d.1 q))

    module _ (outputs : HasOutputs library (paths_of instances) table 0) where
      -- any driver of an instance whose inputs are known
      any_known : (t : ℕ) → HasInputs library (paths_of instances) table t → (i : ℕ) (path : Path) (name : List ℕ) (driver : Driver) → i < t → slice_get (paths_of instances) i ≡ Some path → IsDriver library path name driver → table i name ≡ None → ⊥
      any_known t inputs i path name driver h e d = driver_known 0 outputs i path name driver e (omega arith) d (λ q m at is. inputs.each i path m name h e at is)

      -- forwards: the actual of an input stands in the table of the parent, whose inputs are known
      pub actual_known : (t : ℕ) → HasInputs library (paths_of instances) table t → (i : ℕ) (path : Path) (k : ℕ) (pair : Connection) (a : ConnectionAt library path k pair) → IsTrue (is_input a.child pair.formal)
          → slice_get (paths_of instances) i ≡ Some path → i < t → table i pair.actual ≡ None → ⊥
      actual_known t inputs i path k pair a is e h =
          let d = driven.driven path pair.actual (input_actual k pair a is refl) in any_known t inputs i path pair.actual d.0 h e d.1

      -- complete: a name without a number is driven by nothing
      found : (at : Places) → IsSoundTable library at (paths_of instances) table → HasInputs library (paths_of instances) table (length (paths_of instances)) → (i : ℕ) (path : Path) (name : List ℕ) → slice_get (paths_of instances) i ≡ Some path
          → (o : Option FlatNet) → table i name ≡ o → IsNetFound library at path name o
      found at sound inputs i path name e None n = λ net t. (let d = driver_of library driven t in
          any_known (length (paths_of instances)) inputs i path name d.0 (slice_get_within (paths_of instances) i path e) e d.1 n)
      found at sound inputs i path name e (Some number) n = sound.each i path name number e n

      pub table_found : (at : Places) → IsSoundTable library at (paths_of instances) table → HasInputs library (paths_of instances) table (length (paths_of instances)) → AreNetsAt library at (paths_of instances) table
      table_found at sound inputs = record { each = λ i path name e. found at sound inputs i path name e (table i name) refl }
