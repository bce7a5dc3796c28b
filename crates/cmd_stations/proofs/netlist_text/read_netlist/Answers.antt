use Rattle.cmd_stations.proofs.Lemmas.{IsFault, LibraryRefusal, IsTextSettled, NetlistRefusal, passed_stop, passed_stops, passed_settled, passed_settles}
use Rattle.blif_flat.specs.Refusals.{refusal_of as flat_refusal}
use Rattle.cmd_stations.specs.Texts as texts
use Rattle.cmd_stations.proofs.TextLemmas.{fault_settled, library_settled}
use Rattle.cmd_stations.proofs.netlist_text.read_netlist.Goals as goal

pub returns-in_err-library-clause-err : goal.returns-in_err-library-clause-err
returns-in_err-library-clause-err c =
    passed_stops (LibraryRefusal c.args.text.items) (NetlistRefusal c.args.text.items) c.from_residual.result c.in_err-library.field-0.0 c.from_residual.ensures.1
    (λ r refused. texts.NetlistRefusal.fault refused) c.in_err-library.ensures.refusal

pub returns-in_err-library-clause-settled : goal.returns-in_err-library-clause-settled
returns-in_err-library-clause-settled c =
    passed_settles (LibraryRefusal c.args.text.items) (IsTextSettled c.args.text.items) c.from_residual.result c.in_err-library.field-0.0 c.from_residual.ensures.1
    (λ r refused. fault_settled c.args.text.items r c.read_library.ensures.one_library refused) c.in_err-library.ensures.refusal

pub returns-in_err-flat-clause-err : goal.returns-in_err-flat-clause-err
returns-in_err-flat-clause-err c =
    passed_stop flat_refusal (IsFault c.in_ok-library.library) (NetlistRefusal c.args.text.items) c.from_residual-in_err-flat.result c.in_err-flat.field-0.0 c.in_err-flat.ensures.err c.from_residual-in_err-flat.ensures.1
    (λ r told fault. texts.NetlistRefusal.unsound c.in_ok-library.library c.in_err-flat.field-0.0 c.in_ok-library.ensures.library fault told)

pub returns-in_err-flat-clause-settled : goal.returns-in_err-flat-clause-settled
returns-in_err-flat-clause-settled c =
    passed_settled flat_refusal (IsFault c.in_ok-library.library) (IsTextSettled c.args.text.items) c.from_residual-in_err-flat.result c.in_err-flat.field-0.0 c.in_err-flat.ensures.err c.from_residual-in_err-flat.ensures.1
    (λ r told fault. library_settled c.args.text.items c.in_ok-library.library c.read_library.ensures.one_library c.in_ok-library.ensures.library c.flatten.ensures.once c.flatten.ensures.one (λ clean. absurd (clean c.in_err-flat.field-0.0 fault)))

pub returns-clause-ok : goal.returns-clause-ok
returns-clause-ok c = record {
  denotes = c.in_ok-library.ensures.library;
  clean = c.in_ok-flat.ensures.clean.none;
  flat = c.in_ok-flat.ensures.values.fields;
}

pub returns-clause-settled : goal.returns-clause-settled
returns-clause-settled c =
    library_settled c.args.text.items c.in_ok-library.library c.read_library.ensures.one_library c.in_ok-library.ensures.library c.flatten.ensures.once c.flatten.ensures.one (λ clean. c.in_ok-flat.ensures.sound)
