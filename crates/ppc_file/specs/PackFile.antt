-- The pack of a file, and the first refusal of a file.
use Rattle.std.specs.Prelude.{◌≡◌, ℕ, ◌⊎◌, List, ◌++◌, length, Some, Err}
use Rattle.tl_fault.specs.Settled.{HasAnswer}
use Rattle.ppc_file.specs.Words.{AreNormal, first_and, PackValue, IsPack}
use Rattle.ppc_file.specs.declared.pack_err.PackErr.{PackErr}
use Rattle.ppc_file.specs.declared.version.Version.TheVariants.{One, Two}
use Rattle.ppc_file.specs.Bytes.{bytes_of}
use Rattle.ppc_file.specs.Fronts.{Front, IsSound, spelling, next_at}

-- the bytes are the file of a pack in one of the versions
pub record IsPackFile (bytes : List ℕ) (pack : PackValue) : Type 0 where
  pub is_pack : IsPack pack.params pack.graph pack.bits
  pub normal : AreNormal (first_and pack.graph) pack.graph.pairs
  pub spelled : (bytes ≡ bytes_of One pack) ⊎ (bytes ≡ bytes_of Two pack)

-- The bytes are refused: they begin with a front whose fields obey all rules, and the field that comes next is refused.
pub record IsPackFault (bytes : List ℕ) (e : PackErr) : Type 0 where
  pub front : Front
  pub rest : List ℕ
  pub spelled : bytes ≡ spelling front ++ rest
  pub sound : IsSound front
  pub refused : next_at (length bytes) front rest ≡ Some (Err e)

-- the same parameters, graph and bits; how many nodes the graph has room for stands in no file
pub record AreSame (p q : PackValue) : Type 0 where
  pub params : p.params ≡ q.params
  pub kinds : p.graph.kinds ≡ q.graph.kinds
  pub pairs : p.graph.pairs ≡ q.graph.pairs
  pub bits : p.bits ≡ q.bits

-- bytes are the file of one pack or have one refusal, and not both
pub record HasOneReading (bytes : List ℕ) : Type 0 where
  pub some : HasAnswer (IsPackFile bytes) (IsPackFault bytes)
  pub one_pack : (p q : PackValue) → IsPackFile bytes p → IsPackFile bytes q → AreSame p q
  pub one_fault : (e f : PackErr) → IsPackFault bytes e → IsPackFault bytes f → e ≡ f
  pub not_both : (pack : PackValue) (e : PackErr) → IsPackFile bytes pack → IsPackFault bytes e → ⊥
