-- The instances hold together what the main model weighs: so the covers and latches of all instances are few, and so are the commands of each.
use Rattle.blif_flat.proofs.Common.{◌≡◌, not, filter, ℕ, zero, suc, ◌+◌, ◌≤◌, true, false, List, [], ◌∷◌, ◌++◌, length, Option, Some, None, refl, sym, ap, ◌∙◌, subst, inl, inr, arith, slice_get, cases_Bool, both_ways, length-append, none-some, same_Some, SubcktValue, LibraryValue, CoverValue, AreFrom, from_start, from_first, from_rest, placed_at, inside, command_of, not_empty, same_first, same_rest, length-filter_le, Body, Command, ModelValue, Path, subckts_of, with_subckt, model_named, model_at, has_name, inputs_of, CoverAt, Place, own_places, own_of, InFlatOrder, InFlatOrderUnder, FlatOrder, Cover as CoverBody, Latch as LatchBody, Subckt as SubcktBody, GateKind, kind_test, most_weight, body_weight, commands_weight, own_weight, Weighs, weighs, WeighAll, flat, InstanceOrder, InstancesUnder, places_at, IsLight}
use Rattle.netlist.specs.Places.{none, more}
use Rattle.netlist.specs.Weight.{none as weigh_none, more as weigh_more}
use Rattle.blif_flat.specs.declared.circuit.instances.GateKind.TheVariants.{Cover}
use Rattle.blif_flat.proofs.Hierarchy.OrderLemmas.{order_places}

pub own_below : (library : LibraryValue) (m : ModelValue) (w : ℕ) → Weighs library m w → own_weight m ≤ w
own_below library m w (weighs inner all e) = omega arith

-- what a model holds itself
abbrev pub held : Option ModelValue → ℕ
held None = 0
held (Some m) = own_weight m

-- and what instances hold together
abbrev pub held_by : LibraryValue → List Path → ℕ
held_by library [] = 0
held_by library (path ∷ paths) = held (model_at library path) + held_by library paths

-- covers and latches are no more than what they weigh
gate_weighs : (kind : GateKind) (body : Body) → kind_test kind body ≡ true → 1 ≤ body_weight body
gate_weighs kind (CoverBody c) t = omega arith
gate_weighs kind (LatchBody l) t = omega arith
gate_weighs Cover (SubcktBody s) t = absurd (both_ways false refl t)
gate_weighs kind body t = absurd (both_ways false refl t)

pub own_few : (kind : GateKind) (path : Path) (i : ℕ) (cs : List Command) → length (own_places (kind_test kind) path i cs) ≤ commands_weight cs
own_few kind path i [] = omega arith
own_few kind path i (c ∷ cs) = grind (arith, own_places, kind_test, commands_weight, cases_Bool, body_weight, gate_weighs, own_few kind path (suc i) cs)

-- a model's commands are no more than what it holds and its subcircuits
body_counted : (body : Body) (ss : List SubcktValue) → 1 + length ss ≤ body_weight body + length (with_subckt body ss)
body_counted (CoverBody c) ss = omega arith
body_counted (LatchBody l) ss = omega arith
body_counted (SubcktBody s) ss = omega arith

commands_counted : (cs : List Command) → length cs ≤ commands_weight cs + length (subckts_of cs)
commands_counted [] = omega arith
commands_counted (c ∷ cs) = omega (arith, commands_counted cs, body_counted c.body (subckts_of cs))

module _ (library : LibraryValue) where
  held_by-append : (xs ys : List Path) → held_by library (xs ++ ys) ≡ held_by library xs + held_by library ys
  held_by-append [] ys = omega arith
  held_by-append (x ∷ xs) ys = let e : held_by library (xs ++ ys) ≡ held_by library xs + held_by library ys = held_by-append xs ys in omega arith

  -- a model's weight is what the instances within it hold together
  mutual
    pub order_weight : {path : Path} {m : ModelValue} {paths : List Path} {w : ℕ} → InstanceOrder library path m paths → model_at library path ≡ Some m → Weighs library m w → held_by library paths ≡ w
    order_weight {path} {m} {paths} {w} (flat inner under z) at (weighs rest all is) =
        omega (arith, ap (held_by library) z, ap held at, under_weight under m at (from_start m) all)

    under_weight : {path : Path} {k : ℕ} {subckts : List SubcktValue} {paths : List Path} {w : ℕ} → InstancesUnder library path k subckts paths → (m : ModelValue) → model_at library path ≡ Some m → AreFrom m k subckts
        → WeighAll library subckts w → held_by library paths ≡ w
    under_weight (none a b) m at from (weigh_none c d) = ap (held_by library) b ∙ sym d
    under_weight (none a b) m at from (weigh_more s rest child first others e named one all is) = absurd (not_empty s rest a e)
    under_weight (more s rest child these others e named order under z) m at from (weigh_none c d) = absurd (not_empty s rest c e)
    under_weight {path} {k} {subckts} {paths} {w} (more s rest child these others e named order under z) m at from (weigh_more t last placed first further f known one all is) =
        let same : s ≡ t = same_first s t rest last e f in
        let twin : placed ≡ child = same_Some placed child (sym known ∙ sym (ap (λ (r : SubcktValue). model_named library.models r.model) same) ∙ named) in
        let up : model_at library (k ∷ path) ≡ Some child = placed_at library path m k s child at (from_first m k subckts s rest from e) named in
        let b : held_by library others ≡ further = under_weight under m at (from_rest m k subckts s rest from e) (subst (λ l. WeighAll library l further) (sym (same_rest s t rest last e f)) all) in
        omega (arith, order_weight order up (subst (λ x. Weighs library x first) twin one), ap (held_by library) z ∙ held_by-append these others)

  -- each placed model weighs 1 at least
  weighs_some : {m : ModelValue} {w : ℕ} → Weighs library m w → 1 ≤ w
  weighs_some {m} {w} (weighs inner all is) = let own : 1 ≤ own_weight m = omega arith in omega arith

  subckts_few : {subckts : List SubcktValue} {w : ℕ} → WeighAll library subckts w → length subckts ≤ w
  subckts_few (weigh_none a b) = let e = ap length a in omega arith
  subckts_few {subckts} {w} (weigh_more s rest child first others a named one all is) = omega (arith, ap length a, weighs_some one, subckts_few all)

  commands_few : {m : ModelValue} {w : ℕ} → Weighs library m w → length m.commands ≤ w
  commands_few {m} {w} (weighs inner all is) = grind (arith, commands_weight, subckts_of, commands_counted, subckts_few, own_weight)

  -- the model of an instance weighs no more than the main model
  pub record IsNoHeavier (m : ModelValue) (most : ℕ) : Type 0 where
    pub weight : ℕ
    pub weighs : Weighs library m weight
    pub within : weight ≤ most

  subckt_within : {subckts : List SubcktValue} {w : ℕ} → WeighAll library subckts w → (k : ℕ) (s : SubcktValue) (child : ModelValue) → slice_get subckts k ≡ Some s → model_named library.models s.model ≡ Some child → IsNoHeavier child w
  subckt_within (weigh_none a b) k s child e named = absurd (none-some s (sym (ap (λ l. slice_get l k) a) ∙ e))
  subckt_within {subckts} {w} (weigh_more t rest placed first others a known one all is) zero s child e named = grind arith
  subckt_within {subckts} {w} (weigh_more t rest placed first others a known one all is) (suc k) s child e named = grind (arith, weighs, subckt_within all k s child (sym (ap (λ l. slice_get l (suc k)) a) ∙ e) named)

  child_within : {m : ModelValue} {w : ℕ} → Weighs library m w → (k : ℕ) (s : SubcktValue) (child : ModelValue) → slice_get (subckts_of m.commands) k ≡ Some s → model_named library.models s.model ≡ Some child → IsNoHeavier child w
  child_within (weighs inner all is) k s child e named =
      let r = subckt_within all k s child e named in record { weight = r.weight; weighs = r.weighs; within = omega arith }

  pub instance_within : (main : ModelValue) (w : ℕ) → model_at library [] ≡ Some main → Weighs library main w → (path : Path) (m : ModelValue) → model_at library path ≡ Some m → IsNoHeavier m w
  instance_within main w first h [] m e = record { weight = w; weighs = subst (λ x. Weighs library x w) (same_Some main m (sym first ∙ e)) h; within = omega arith }
  instance_within main w first h (k ∷ outer) m e =
      let u = inside library outer k m e in
      let r = instance_within main w first h outer u.model u.at in
      let q = child_within r.weighs k u.subckt m u.is u.places in
      record { weight = q.weight; weighs = q.weighs; within = omega arith }

  -- so the commands of an instance's model are few
  pub light_commands : IsLight library → (path : Path) (m : ModelValue) → model_at library path ≡ Some m → length m.commands ≤ most_weight
  light_commands light path m e =
      let r = instance_within light.main light.weight light.first light.weighs path m e in omega (arith, commands_few r.weighs)

  -- and what all instances hold is little
  pub light_held : IsLight library → (main : ModelValue) (paths : List Path) → model_at library [] ≡ Some main → InstanceOrder library [] main paths → held_by library paths ≤ most_weight
  light_held light main paths first order =
      omega (arith, order_weight order first (subst (λ x. Weighs library x light.weight) (same_Some light.main main (sym light.first ∙ first)) light.weighs))

  -- a flat order has no more than its model weighs, where each instance has of its own no more than its model holds
  module _ {A : Type 0} (own : Path → ModelValue → List A) (few : (path : Path) (m : ModelValue) → length (own path m) ≤ own_weight m) where
    mutual
      pub order_few : {path : Path} {m : ModelValue} {items : List A} {w : ℕ} → InFlatOrder library own path m items → Weighs library m w → length items ≤ w
      order_few {path} {m} {items} {w} (flat inner under z) (weighs rest all is) =
          omega (arith, ap length z ∙ length-append (own path m) inner, few path m, under_few under all)

      under_few : {path : Path} {k : ℕ} {subckts : List SubcktValue} {items : List A} {w : ℕ} → InFlatOrderUnder library own path k subckts items → WeighAll library subckts w → length items ≤ w
      under_few {path} {k} {subckts} {items} (none a b) all = let e : length items ≡ 0 = ap length b in omega arith
      under_few (more s rest child these others a named order under z) (weigh_none c d) = absurd (not_empty s rest c a)
      under_few {path} {k} {subckts} {items} {w} (more s rest child these others a named order under z) (weigh_more t last placed first further f known one all is) =
          let same : s ≡ t = same_first s t rest last a f in
          let twin : placed ≡ child = same_Some placed child (sym known ∙ sym (ap (λ (r : SubcktValue). model_named library.models r.model) same) ∙ named) in
          omega (arith, order_few order (subst (λ x. Weighs library x first) twin one), under_few under (subst (λ l. WeighAll library l further) (sym (same_rest s t rest last a f)) all), ap length z ∙ length-append these others)

  command_weighs : (cs : List Command) (i : ℕ) (c : Command) → slice_get cs i ≡ Some c → body_weight c.body ≤ commands_weight cs
  command_weighs [] i c e = absurd (none-some c e)
  command_weighs (d ∷ cs) zero c e = let s : body_weight d.body ≡ body_weight c.body = ap (λ (x : Command). body_weight x.body) (same_Some d c e) in omega arith
  command_weighs (d ∷ cs) (suc i) c e = let r : body_weight c.body ≤ commands_weight cs = command_weighs cs i c e in omega arith

  module _ (light : IsLight library) where
    pub places_few : (kind : GateKind) (main : ModelValue) (places : List Place) → model_at library [] ≡ Some main → FlatOrder library (kind_test kind) [] main places → length places ≤ most_weight
    places_few kind main places at order =
        let same : light.main ≡ main = same_Some light.main main (sym light.first ∙ at) in
        let few : length places ≤ light.weight = order_few (own_of (kind_test kind))
        (λ path m. (let own : length (own_places (kind_test kind) path 0 m.commands) ≤ commands_weight m.commands = own_few kind path 0 m.commands in omega arith))
        order (subst (λ m. Weighs library m light.weight) same light.weighs) in
        omega arith

    pub inputs_few : (path : Path) (i : ℕ) (c : CoverValue) → CoverAt library path i c → length c.inputs ≤ most_weight
    inputs_few path i c a =
        let r = instance_within light.main light.weight light.first light.weighs path a.model a.at in
        let found = command_of (slice_get (a.model).commands i) (CoverBody c) a.is in
        omega (arith, own_below library a.model r.weight r.weighs, command_weighs (a.model).commands i found.0 found.1, ap body_weight found.2)

    pub ports_few : (main : ModelValue) → model_at library [] ≡ Some main → own_weight main ≤ most_weight
    ports_few main at =
        let same : light.main ≡ main = same_Some light.main main (sym light.first ∙ at) in
        omega (arith, own_below library main light.weight (subst (λ m. Weighs library m light.weight) same light.weighs))

    -- and so is the number of the main model's inputs
    pub few_inputs : (main : ModelValue) → model_at library [] ≡ Some main → length (inputs_of main) ≤ most_weight
    few_inputs main at =
        let others : List (List ℕ) = filter (λ name. not (has_name main.inputs name)) main.clocks in
        omega (arith, ports_few main at, length-append main.inputs others, length-filter_le (λ name. not (has_name main.inputs name)) main.clocks)

    pub light_places : (kind : GateKind) (main : ModelValue) (paths : List Path) → model_at library [] ≡ Some main → InstanceOrder library [] main paths → length (places_at library (kind_test kind) paths) ≤ most_weight
    light_places kind main paths first order = places_few kind main (places_at library (kind_test kind) paths) first (order_places library (kind_test kind) order first)
