-- Labels and low cuts, node by node.
use Rattle.std.specs.Prelude.{◌≡◌, ℕ, ◌<◌, ◌≤◌, List, length}
use Rattle.flow_label.specs.Words.{Aig, first_and, IsAnd, IsCut, height}
use Rattle.flow_label.specs.Value.{FlowValue, label_of, low_cut_of}

-- what the next node's label and low cut are, over the labels below
pub record IsLabelled (g : Aig) (k n : ℕ) (label : ℕ → ℕ) (x : ℕ) (c : List ℕ) : Type 0 where
  pub cut : IsCut g k n c
  pub met : height label c ≡ x
  pub least : (d : List ℕ) → IsCut g k n d → x ≤ height label d

-- the labels and low cuts of the first n nodes
pub record AreLabelledTo (g : Aig) (k n : ℕ) (v : FlowValue) : Type 0 where
  pub count : length v.labels ≡ n
  pub cut_count : length v.cuts ≡ n
  pub sources : (m : ℕ) → m < first_and g → label_of v m ≡ 0
  pub each : (m : ℕ) → m < n → IsAnd g m → IsLabelled g k m (label_of v) (label_of v m) (low_cut_of v m)
  pub low : (m : ℕ) → label_of v m ≤ m
