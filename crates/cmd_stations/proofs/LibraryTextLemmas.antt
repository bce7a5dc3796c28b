-- A netlist's text denotes one library, or is refused for one reason, whichever its form.
use Rattle.cmd_stations.proofs.Common.{◌≡◌, ℕ, Bool, true, false, List, sym, ap, ◌∙◌, same_Some, none-some, RefusalValue, LibraryValue, Denotes, is_aag, DenotesLibrary, LibraryRefusal, HasOneLibrary, arith}
use Rattle.blif_read.specs.ReadFault.{HasOneReading}
use Rattle.blif_read.specs.Refusals.{refusal_of as blif_refusal}
use Rattle.aiger_io.specs.CircuitLibrary.{library_of}
use Rattle.aiger_io.specs.Reading.{IsLibraryOf, HasRunsOf, HasOneReading as HasOneAagReading}
use Rattle.aiger_io.specs.Refusals.{refusal_of as aag_refusal}
use Rattle.cmd_stations.specs.Texts as form

-- a text has one form
one_form : {begins : Bool} → begins ≡ false → begins ≡ true → ⊥
one_form off on = cc (off, on)

-- a text in BLIF denotes what it does by that format
pub blif_denotes : (text : List ℕ) (library : LibraryValue) → is_aag text ≡ false → DenotesLibrary text library → Denotes text library
blif_denotes text library is (form.DenotesLibrary.blif off d) = d
blif_denotes text library is (form.DenotesLibrary.aiger begins_so d) = absurd (one_form is begins_so)

module _ (text : List ℕ) (is : is_aag text ≡ false) (one : HasOneReading text) where
  blif_same : (a b : LibraryValue) → DenotesLibrary text a → DenotesLibrary text b → a ≡ b
  blif_same a b (form.DenotesLibrary.blif off d) (form.DenotesLibrary.blif as_before e) = one.once a b d e
  blif_same a b (form.DenotesLibrary.aiger begins_so d) other = absurd (one_form is begins_so)
  blif_same a b first (form.DenotesLibrary.aiger begins_so d) = absurd (one_form is begins_so)

  blif_or_not : (a : LibraryValue) (r : RefusalValue) → DenotesLibrary text a → LibraryRefusal text r → ⊥
  blif_or_not a r (form.DenotesLibrary.blif off d) (form.LibraryRefusal.blif as_before e stands tells) = none-some e (sym (one.not_both a d) ∙ stands)
  blif_or_not a r (form.DenotesLibrary.aiger begins_so d) other = absurd (one_form is begins_so)
  blif_or_not a r first (form.LibraryRefusal.aiger begins_so e stands tells) = absurd (one_form is begins_so)

  blif_refused_once : (r s : RefusalValue) → LibraryRefusal text r → LibraryRefusal text s → r ≡ s
  blif_refused_once r s (form.LibraryRefusal.blif off e stands tells) (form.LibraryRefusal.blif as_before f also says) = grind arith
  blif_refused_once r s (form.LibraryRefusal.aiger begins_so e stands tells) other = absurd (one_form is begins_so)
  blif_refused_once r s first (form.LibraryRefusal.aiger begins_so e stands tells) = absurd (one_form is begins_so)

  pub blif_once : HasOneLibrary text
  blif_once = record { once = blif_same; not_both = blif_or_not; one_refusal = blif_refused_once; runs = λ a begins_so d. absurd (one_form is begins_so) }

module _ (text : List ℕ) (is : is_aag text ≡ true) (one : HasOneAagReading text) (kept : (library : LibraryValue) → IsLibraryOf text library → HasRunsOf text library) where
  aiger_same : (a b : LibraryValue) → DenotesLibrary text a → DenotesLibrary text b → a ≡ b
  aiger_same a b (form.DenotesLibrary.aiger begins_so d) (form.DenotesLibrary.aiger as_before e) = d.made ∙ ap library_of (one.one_circuit d.circuit e.circuit d.is e.is) ∙ sym e.made
  aiger_same a b (form.DenotesLibrary.blif off d) other = absurd (one_form off is)
  aiger_same a b first (form.DenotesLibrary.blif off d) = absurd (one_form off is)

  aiger_or_not : (a : LibraryValue) (r : RefusalValue) → DenotesLibrary text a → LibraryRefusal text r → ⊥
  aiger_or_not a r (form.DenotesLibrary.aiger begins_so d) (form.LibraryRefusal.aiger as_before e stands tells) = one.not_both d.circuit e d.is stands
  aiger_or_not a r (form.DenotesLibrary.blif off d) other = absurd (one_form off is)
  aiger_or_not a r first (form.LibraryRefusal.blif off e stands tells) = absurd (one_form off is)

  aiger_refused_once : (r s : RefusalValue) → LibraryRefusal text r → LibraryRefusal text s → r ≡ s
  aiger_refused_once r s (form.LibraryRefusal.aiger begins_so e stands tells) (form.LibraryRefusal.aiger as_before f also says) =
      same_Some r s (sym tells ∙ (ap (λ x. aag_refusal x) (one.one_refusal e f stands also) ∙ says))
  aiger_refused_once r s (form.LibraryRefusal.blif off e stands tells) other = absurd (one_form off is)
  aiger_refused_once r s first (form.LibraryRefusal.blif off e stands tells) = absurd (one_form off is)

  aiger_runs : (a : LibraryValue) → is_aag text ≡ true → DenotesLibrary text a → HasRunsOf text a
  aiger_runs a begins_so (form.DenotesLibrary.aiger as_before d) = kept a d
  aiger_runs a begins_so (form.DenotesLibrary.blif off d) = absurd (one_form off is)

  pub aiger_once : HasOneLibrary text
  aiger_once = record { once = aiger_same; not_both = aiger_or_not; one_refusal = aiger_refused_once; runs = aiger_runs }
