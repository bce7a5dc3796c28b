-- A graph has one table of cuts.
use Rattle.cut_enum.proofs.Common.{◌≡◌, ℕ, List, [], arith, ext_get_or, Aig, node_count, AreRows}
use Rattle.cut_enum.proofs.LimitLemmas.{same_row}

pub table_once : (g : Aig) (k : ℕ) (rows more : List (List (List ℕ))) → AreRows g k (node_count g) rows → AreRows g k (node_count g) more → rows ≡ more
table_once g k rows more a b =
    ext_get_or [] rows more (omega arith) (λ n l. same_row g k (node_count g) (node_count g) n rows more (omega arith) (omega arith) a b (omega arith))
