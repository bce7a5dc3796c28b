-- A generated case as contracts see it.
use Rattle.std.specs.Prelude.{ℕ, ◌^◌, ◌≤◌, List, length}

-- the texts of a netlist, of its parameter list and of a script
pub record CaseValue : Type 0 where
  pub netlist : List ℕ
  pub params : List ℕ
  pub script : List ℕ

-- each text has 64 MiB at most, which is what a text that is read may have
pub record IsShort (made : CaseValue) : Type 0 where
  pub netlist : length made.netlist ≤ 2 ^ 26
  pub params : length made.params ≤ 2 ^ 26
  pub script : length made.script ≤ 2 ^ 26
