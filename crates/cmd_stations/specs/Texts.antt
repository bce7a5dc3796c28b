-- What the texts of a netlist, of a parameter list and of a script say, and what each is refused for.
use Rattle.std.specs.Prelude.{◌≡◌, ℕ, Bool, true, false, List, take, bytes_eq, codes, Some, ◌<◌, ◌≤◌, length}
use Rattle.cmd_stations.specs.Words.{RefusalValue, Denotes, IsLibraryOf, HasRunsOf, Files, FlatValue, IsFlat, IsParamsFault, NamesValue}
use Rattle.netlist.specs.LibraryValue.{LibraryValue}
use Rattle.blif_read.specs.declared.blif_err.BlifErr.{BlifErr}
use Rattle.blif_read.specs.Refusals.{refusal_of as blif_refusal}
use Rattle.blif_read.specs.ReadFault.{read_fault}
use Rattle.aiger_io.specs.declared.aag_err.AagErr.{AagErr}
use Rattle.aiger_io.specs.Refusals.{refusal_of as aag_refusal}
use Rattle.aiger_io.specs.Refused.{IsRefused}
use Rattle.std.specs.FinMap.{get}
use Rattle.tl_text.specs.declared.logical_lines.TheConstants.{MOST_BYTES}
use Rattle.blif_flat.specs.declared.flat_err.FlatErr.{FlatErr}
use Rattle.blif_flat.specs.Refusals.{refusal_of as flat_refusal}
use Rattle.blif_flat.specs.Faults.{IsFault}
use Rattle.param_list.specs.declared.par_err.ParErr.{ParErr}
use Rattle.param_list.specs.Refusals.{refusal_of as params_refusal}
use Rattle.run_text.specs.declared.script_err.ScriptErr.{ScriptErr}
use Rattle.run_text.specs.ScriptRefusals.{refusal_of as script_refusal}
use Rattle.run_text.specs.ScriptText.{IsScriptFault}
use Rattle.cmd_stations.specs.declared.netlist_text.Netlist.{Netlist}

-- does a text begin as AIGER's ASCII form does, with `aag` and a blank
abbrev pub is_aag : List ℕ → Bool
is_aag text = bytes_eq (codes "aag ") (take 4 text)

-- a text denotes this library
pub data DenotesLibrary (text : List ℕ) (library : LibraryValue) : Type 0 where
  blif : is_aag text ≡ false → Denotes text library → DenotesLibrary text library
  aiger : is_aag text ≡ true → IsLibraryOf text library → DenotesLibrary text library

-- a text denotes none: by its first refusal
pub data LibraryRefusal (text : List ℕ) (refusal : RefusalValue) : Type 0 where
  blif : is_aag text ≡ false → (e : BlifErr) → read_fault text ≡ Some e → blif_refusal e ≡ Some refusal → LibraryRefusal text refusal
  aiger : is_aag text ≡ true → (e : AagErr) → IsRefused text e → aag_refusal e ≡ Some refusal → LibraryRefusal text refusal

-- A text denotes one library at most, or is refused for one reason at most, and never both. A library that is read from AIGER's form has the cycles and runs
-- of the text's own circuit.
pub record HasOneLibrary (text : List ℕ) : Type 0 where
  pub once : (a b : LibraryValue) → DenotesLibrary text a → DenotesLibrary text b → a ≡ b
  pub not_both : (a : LibraryValue) (r : RefusalValue) → DenotesLibrary text a → LibraryRefusal text r → ⊥
  pub one_refusal : (r s : RefusalValue) → LibraryRefusal text r → LibraryRefusal text s → r ≡ s
  pub runs : (a : LibraryValue) → is_aag text ≡ true → DenotesLibrary text a → HasRunsOf text a

-- a file of this name is there and short enough, with these bytes
pub record HasBytes (most : ℕ) (files : Files) (name bytes : List ℕ) : Type 0 where
  pub is : get files name ≡ Some bytes
  pub short : length bytes ≤ most

-- a file of this name is there and too long
pub record IsOverlong (most : ℕ) (files : Files) (name : List ℕ) : Type 0 where
  pub text : List ℕ
  pub is : get files name ≡ Some text
  pub long : most < length text

-- a text
abbrev pub HasText : Files → List ℕ → List ℕ → Type 0
HasText files name text = HasBytes MOST_BYTES files name text

abbrev pub IsLongText : Files → List ℕ → Type 0
IsLongText files name = IsOverlong MOST_BYTES files name

-- a text denotes this library, no fault stands in it, its weight's neither, and this is its flat circuit
pub record IsNetlistText (text : List ℕ) (n : Netlist) : Type 0 where
  pub denotes : DenotesLibrary text n.library
  pub clean : (fault : FlatErr) → ¬ (IsFault n.library fault)
  pub flat : IsFlat n.library n.flat

-- a netlist's text is refused: by its first refusal, else by its library's
pub data NetlistRefusal (text : List ℕ) (refusal : RefusalValue) : Type 0 where
  fault : LibraryRefusal text refusal → NetlistRefusal text refusal
  unsound : (library : LibraryValue) (e : FlatErr) → DenotesLibrary text library → IsFault library e → flat_refusal e ≡ Some refusal → NetlistRefusal text refusal

-- a list of parameters of a flat circuit is refused: by its one refusal
pub record IsParamsRefusal (flat : FlatValue) (text : List ℕ) (refusal : RefusalValue) : Type 0 where
  pub e : ParErr
  pub fault : IsParamsFault flat text e
  pub tells : params_refusal e ≡ Some refusal

-- a script that may name these is refused: by its one refusal
pub record IsScriptRefusal (names : NamesValue) (text : List ℕ) (refusal : RefusalValue) : Type 0 where
  pub e : ScriptErr
  pub fault : IsScriptFault names text e
  pub tells : script_refusal e ≡ Some refusal
