-- A text is read as the library of its circuit, or is refused.
use Rattle.std.specs.Prelude.{◌≡◌, ◌⊎◌, ℕ, List}
use Rattle.netlist.specs.LibraryValue.{LibraryValue}
use Rattle.netlist.specs.Sound.{IsSound}
use Rattle.aiger_io.specs.declared.aag_err.AagErr.{AagErr}
use Rattle.aiger_io.specs.AigerText.{IsAigerText}
use Rattle.aiger_io.specs.Circuit.{Circuit}
use Rattle.aiger_io.specs.CircuitLibrary.{library_of}
use Rattle.aiger_io.specs.Refused.{IsRefused}
use Rattle.aiger_io.specs.Run.{HasOneFit, HasSameRuns}

-- a text's library is that of the circuit that the text is
pub record IsLibraryOf (text : List ℕ) (library : LibraryValue) : Type 0 where
  pub circuit : Circuit
  pub is : IsAigerText text circuit
  pub made : library ≡ library_of circuit

pub record HasCircuit (text : List ℕ) : Type 0 where
  pub circuit : Circuit
  pub is : IsAigerText text circuit

pub record HasRefusal (text : List ℕ) : Type 0 where
  pub refusal : AagErr
  pub is : IsRefused text refusal

-- a text is a circuit or is refused, never both, and has one of each at most
pub record HasOneReading (text : List ℕ) : Type 0 where
  pub some : HasCircuit text ⊎ HasRefusal text
  pub one_circuit : (c d : Circuit) → IsAigerText text c → IsAigerText text d → c ≡ d
  pub one_refusal : (e f : AagErr) → IsRefused text e → IsRefused text f → e ≡ f
  pub not_both : (c : Circuit) (e : AagErr) → IsAigerText text c → IsRefused text e → ⊥

-- a library has the cycles and runs of the circuit that a text is, and values that fit the circuit's lines are there and agree where the library is sound
pub record HasRunsOf (text : List ℕ) (library : LibraryValue) : Type 0 where
  pub circuit : Circuit
  pub is : IsAigerText text circuit
  pub fit : IsSound library → HasOneFit circuit
  pub runs : HasSameRuns circuit library
