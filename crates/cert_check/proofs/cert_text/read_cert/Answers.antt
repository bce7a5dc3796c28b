use Rattle.cert_check.proofs.Lemmas.{Ok, refl, sym, ap, ◌∙◌, lines_fault, text_read, text_refused, cert_err, AreLinesOf, IsMalformed, refusal_of, IsCertText, IsWritable, text_writable}
use Rattle.std.proofs.lemmas.Result.{IfOk-weaker}
use Rattle.cert_check.proofs.OnceLemmas.{one_reading}
use Rattle.cert_check.proofs.cert_text.read_cert.Goals as goal

pub returns-in-Err-clause-fault : goal.returns-in-Err-clause-fault
returns-in-Err-clause-fault c = lines_fault cert_err refusal_of IsMalformed c.args.text.now c.in-Err.error c.lines_err.result c.lines_err.ensures refl c.in-Err.ensures.answer

pub returns-in-Err-clause-one_reading : goal.returns-in-Err-clause-one_reading
returns-in-Err-clause-one_reading c = one_reading c.args.text.now

pub returns-in-Ok : goal.returns-in-Ok
returns-in-Ok c =
    let text = c.args.text.now in
    let are = c.in-Ok.ensures.answer ∙ ap (λ l. Ok l) (sym c.deref.ensures.value) in
    let read = text_read text c.deref.result.now are c.read_lines.result AreLinesOf (λ cert. cert) c.read_lines.ensures.certificate in
    record {
      certificate = read;
      writable = IfOk-weaker c.read_lines.result (IsCertText text) IsWritable (text_writable text) read;
      fault = text_refused text c.deref.result.now are c.read_lines.result cert_err refusal_of IsMalformed c.read_lines.ensures.fault;
      one_reading = one_reading text;
    }
