use Rattle.cmd_run.proofs.Lemmas.{refl, ◌∙◌, inl, outside, AreWritten, IsCutInLine, [], case_begun, case_told}
use Rattle.cmd_run.proofs.CaseSizeLemmas.{case_small}
use Rattle.cmd_run.proofs.gen_command.job.play_out.Goals as goal

pub play_case-totals-requires-clause-small : goal.play_case-totals-requires-clause-small
play_case-totals-requires-clause-small g c = case_small c.args.words.now c.requires.digits c.args.ready.now c.requires.prepared

pub returns-in-Err : goal.returns-in-Err
returns-in-Err g c old ports = (refl, λ written. absurd written)

pub returns-in-Err-last_line : goal.returns-in-Err-last_line
returns-in-Err-last_line g c old ports = (refl, λ written. absurd written)

pub returns-in-Ok-put_lines : goal.returns-in-Ok-put_lines
returns-in-Ok-put_lines g c old ports =
    let words = c.args.words.now in
    let ready = c.args.ready.now in
    let is = c.requires.prepared in
    let totals = c.play_case-totals.result in
    let before = outside old (g.O.Sink.seen c.args.out.now) ports in
    let after = outside old (g.O.Sink.seen c.put_lines.new.out) ports in (
      case_begun words ready is old,
      λ files has. case_told words ready is c.play_case-totals.new.ready.machine totals.writes totals.total c.play_case-totals.ensures c.as_str.result.now c.as_str-2.result.now (c.as_str.ensures.value ∙ c.in-Ok.ensures)
          (c.as_str-2.ensures.value ∙ c.in-Ok-last_line.ensures) (λ text. AreWritten [] text before after) (record { files = refl; bytes = c.in-Ok-put_lines.ensures.grown; ports = refl }),
      refl,
    )

pub returns : goal.returns
returns g c old ports =
    let words = c.args.words.now in
    let ready = c.args.ready.now in
    let is = c.requires.prepared in
    let totals = c.play_case-totals.result in
    let put = c.in-Err-put_lines.ensures.grown in
    let rose = c.in-Err-put_lines.ensures.cause.failed in
    let before = outside old (g.O.Sink.seen c.args.out.now) ports in
    let after = outside old (g.O.Sink.seen c.put_lines.new.out) ports in (
      case_begun words ready is old,
      λ files has. case_told words ready is c.play_case-totals.new.ready.machine totals.writes totals.total c.play_case-totals.ensures c.as_str.result.now c.as_str-2.result.now (c.as_str.ensures.value ∙ c.in-Ok.ensures)
          (c.as_str-2.ensures.value ∙ c.in-Ok-last_line.ensures) (λ text. IsCutInLine [] text before after) (record { part = put.0; within = put.1; bytes = put.2; cause = rose; files = refl; ports = refl }),
      refl,
      inl rose,
    )
