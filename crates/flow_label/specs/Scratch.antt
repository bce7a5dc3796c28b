-- Working memory.
use Rattle.std.specs.Prelude.{◌≡◌, ℕ, List, length}
use Rattle.flow_label.specs.declared.scratch.Scratch.{Scratch}

-- the lists that the work on a node writes have a number for each of n nodes
pub record IsScratch (n : ℕ) (readers owners seen passed : List ℕ) : Type 0 where
  pub walk : length readers ≡ n
  pub links : length owners ≡ n
  pub search : length seen ≡ n
  pub marks : length passed ≡ n

-- working memory for a graph of n nodes
abbrev pub HasRoom : ℕ → Scratch → Type 0
HasRoom n s = IsScratch n s.walk.readers s.links.owners s.search.seen s.search.passed
