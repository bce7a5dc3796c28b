-- The weight of a model: what it holds, and the weights of the models that it places.
use Rattle.std.specs.Prelude.{◌≡◌, ℕ, ◌+◌, ◌≤◌, List, [], ◌∷◌, length, Some}
pub use Rattle.std.specs.Option.{option_len as control_weight}
use Rattle.netlist.specs.Circuits.{subckts_of, model_named, model_at, Body, Cover, Latch, Subckt, Command, SubcktValue, ModelValue, LibraryValue}

-- 1 for each name of a `.names` line, for each input, output and control of a latch, and for each connection
abbrev pub body_weight : Body → ℕ
body_weight (Cover c) = length c.inputs + 1
body_weight (Latch l) = 2 + control_weight l.control
body_weight (Subckt s) = length s.pairs

abbrev pub commands_weight : List Command → ℕ
commands_weight [] = 0
commands_weight (c ∷ cs) = body_weight c.body + commands_weight cs

-- the most that a main model may weigh
abbrev pub most_weight : ℕ
most_weight = 4194304

-- 1 for the model itself, and 1 for each name of its ports
abbrev pub own_weight : ModelValue → ℕ
own_weight m = 1 + length m.inputs + length m.outputs + length m.clocks + commands_weight m.commands

-- and for each `.subckt` line the weight of the model that it places
mutual
  pub data Weighs (library : LibraryValue) : ModelValue → ℕ → Type 0 where
    weighs : {m : ModelValue} {w : ℕ} (inner : ℕ) → WeighAll library (subckts_of m.commands) inner → w ≡ own_weight m + inner → Weighs library m w

  pub data WeighAll (library : LibraryValue) : List SubcktValue → ℕ → Type 0 where
    none : {subckts : List SubcktValue} {w : ℕ} → subckts ≡ [] → w ≡ 0 → WeighAll library subckts w
    more : {subckts : List SubcktValue} {w : ℕ} (s : SubcktValue) (rest : List SubcktValue) (child : ModelValue) (first others : ℕ) → subckts ≡ s ∷ rest
        → model_named library.models s.model ≡ Some child → Weighs library child first → WeighAll library rest others → w ≡ first + others → WeighAll library subckts w

-- the main model isn't too heavy
pub record IsLight (library : LibraryValue) : Type 0 where
  pub main : ModelValue
  pub first : model_at library [] ≡ Some main
  pub weight : ℕ
  pub weighs : Weighs library main weight
  pub light : weight ≤ most_weight
