use Rattle.run_text.proofs.Common.{map, Ok, refl, sym, ap, ◌∙◌, In, words_line, lines_fault, text_read, text_refused, EventValue, event_values, refusal_of, script_err, IsFirstRefusal, Fits, AreEventsOf}
use Rattle.std.proofs.lemmas.Result.{IfOk-weaker}
use Rattle.run_text.proofs.FitLemmas.{events_fit}
use Rattle.run_text.proofs.ScriptOnceLemmas.{one_reading}
use Rattle.run_text.proofs.scripts.read_script.Goals as goal

pub returns-in-Err-clause-fault : goal.returns-in-Err-clause-fault
returns-in-Err-clause-fault c =
    lines_fault script_err refusal_of (λ lines. IsFirstRefusal c.args.names.now lines) c.args.text.now c.in-Err.error c.lines_err.result c.lines_err.ensures refl c.in-Err.ensures.answer

pub returns-in-Err-clause-one_reading : goal.returns-in-Err-clause-one_reading
returns-in-Err-clause-one_reading c = one_reading c.args.names.now c.args.text.now

pub returns-in-Ok : goal.returns-in-Ok
returns-in-Ok c =
    let text = c.args.text.now in
    let names = c.args.names.now in
    let lines = c.deref.result.now in
    let are = c.in-Ok.ensures.answer ∙ ap (λ l. Ok l) (sym c.deref.ensures.value) in
    record {
      events = text_read text lines are c.read_lines.result (λ lines. AreEventsOf names lines) (λ events. event_values events.items) c.read_lines.ensures.events;
      fit = IfOk-weaker c.read_lines.result (λ events. AreEventsOf names (map (words_line text) lines) (event_values events.items)) (λ events. (event : EventValue) → In (event_values events.items) event → Fits names event)
          (λ events. events_fit names (map (words_line text) lines) (event_values events.items)) c.read_lines.ensures.events;
      fault = text_refused text lines are c.read_lines.result script_err refusal_of (λ lines. IsFirstRefusal names lines) c.read_lines.ensures.fault;
      one_reading = one_reading names text;
    }
