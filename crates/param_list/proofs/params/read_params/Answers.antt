use Rattle.param_list.proofs.Common.{map, Ok, Err, refl, sym, ap, ◌∙◌, OrMemory, words_line, lines_fault, text_refused, par_err, refusal_of, IsFirstRefusal, IsParamsFault, passed_err}
use Rattle.param_list.proofs.OnceLemmas.{one_reading, are_parameters}
use Rattle.param_list.proofs.params.read_params.Goals as goal

pub returns-in-Err-clause-fault : goal.returns-in-Err-clause-fault
returns-in-Err-clause-fault c = let flat = c.args.flat.now in
    lines_fault par_err refusal_of (λ lines. IsFirstRefusal flat.inputs flat.clocks lines) c.args.text.now c.in-Err.error c.lines_err.result c.lines_err.ensures refl c.in-Err.ensures.answer

pub returns-in-Err-clause-one_reading : goal.returns-in-Err-clause-one_reading
returns-in-Err-clause-one_reading c = one_reading c.args.flat.now c.args.text.now c.requires.once

pub returns-in_err-list-in-Ok-clause-fault : goal.returns-in_err-list-in-Ok-clause-fault
returns-in_err-list-in-Ok-clause-fault c =
    let flat = c.args.flat.now in
    let e = c.in_err-list-in-Ok.field-0.0 in
    passed_err c.from_residual.result e (OrMemory refusal_of (IsParamsFault flat c.args.text.now)) c.from_residual.ensures.1
    (text_refused {T = Unit {0}} c.args.text.now c.deref.result.now (c.in-Ok.ensures.answer ∙ ap (λ l. Ok l) (sym c.deref.ensures.value)) (Err e) par_err refusal_of (λ lines. IsFirstRefusal flat.inputs flat.clocks lines) c.in_err-list-in-Ok.ensures.fault)

pub returns-in_err-list-in-Ok-clause-one_reading : goal.returns-in_err-list-in-Ok-clause-one_reading
returns-in_err-list-in-Ok-clause-one_reading c = one_reading c.args.flat.now c.args.text.now c.requires.once

pub returns-in_ok-list-in-Ok : goal.returns-in_ok-list-in-Ok
returns-in_ok-list-in-Ok c =
    let lines = c.deref.result.now in
    let list = c.in_ok-list-in-Ok in record {
      params = record { lines = lines; lines_are = c.in-Ok.ensures.answer ∙ ap (λ l. Ok l) (sym c.deref.ensures.value); are = list.ensures.params };
      are = are_parameters c.args.flat.now (map (words_line c.args.text.now) lines) list.list.items list.ensures.params list.ensures.named;
      fault = tt;
      one_reading = one_reading c.args.flat.now c.args.text.now c.requires.once;
    }
