use Rattle.cmd_stations.proofs.Lemmas.{◌≡◌, Some, sym, ◌∙◌, LibraryRefusal, passed_stop}
use Rattle.blif_read.specs.ReadFault.{read_fault}
use Rattle.blif_read.specs.Refusals.{refusal_of as blif_refusal}
use Rattle.aiger_io.specs.Refused.{IsRefused}
use Rattle.aiger_io.specs.Refusals.{refusal_of as aag_refusal}
use Rattle.cmd_stations.specs.Texts as form
use Rattle.cmd_stations.proofs.LibraryTextLemmas.{aiger_once, blif_once}
use Rattle.cmd_stations.proofs.library_text.read_library.Goals as goal

pub returns-in_err-library-clause-refusal : goal.returns-in_err-library-clause-refusal
returns-in_err-library-clause-refusal c =
    rw (sym c.as_slice-bytes.ensures.value)
    (passed_stop aag_refusal (IsRefused c.as_slice-bytes.result.now) (LibraryRefusal c.as_slice-bytes.result.now) c.from_residual.result c.in_err-library.field-0.0 c.in_err-library.ensures.refusal c.from_residual.ensures.1
    (λ r told fault. form.LibraryRefusal.aiger (sym c.is_aag.ensures ∙ c.if-is_aag.true) c.in_err-library.field-0.0 fault told))

pub returns-in_err-library-2-clause-refusal : goal.returns-in_err-library-2-clause-refusal
returns-in_err-library-2-clause-refusal c =
    rw (sym c.as_slice-bytes.ensures.value)
    (passed_stop blif_refusal (λ e. read_fault c.as_slice-bytes.result.now ≡ Some e) (LibraryRefusal c.as_slice-bytes.result.now) c.from_residual-in_err-library-2.result c.in_err-library-2.field-0.0 c.in_err-library-2.ensures.fault c.from_residual-in_err-library-2.ensures.1
    (λ r told fault. form.LibraryRefusal.blif (sym c.is_aag.ensures ∙ c.if-is_aag.false) c.in_err-library-2.field-0.0 fault told))

pub returns-in_err-library-2-clause-one_library : goal.returns-in_err-library-2-clause-one_library
returns-in_err-library-2-clause-one_library c = rw (sym c.as_slice-bytes.ensures.value) (blif_once c.as_slice-bytes.result.now (sym c.is_aag.ensures ∙ c.if-is_aag.false) c.read.ensures.one_reading)

pub returns-in_err-library-clause-one_library : goal.returns-in_err-library-clause-one_library
returns-in_err-library-clause-one_library c =
    rw (sym c.as_slice-bytes.ensures.value) (aiger_once c.as_slice-bytes.result.now (sym c.is_aag.ensures ∙ c.if-is_aag.true) c.read_aag.ensures.one_reading c.read_aag.ensures.runs)

pub returns-then-is_aag-clause-one_library : goal.returns-then-is_aag-clause-one_library
returns-then-is_aag-clause-one_library c =
    rw (sym c.as_slice-bytes.ensures.value) (aiger_once c.as_slice-bytes.result.now (sym c.is_aag.ensures ∙ c.if-is_aag.true) c.read_aag.ensures.one_reading c.read_aag.ensures.runs)
