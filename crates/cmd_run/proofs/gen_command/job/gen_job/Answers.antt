use Rattle.cmd_run.proofs.Lemmas.{refl, outside, gen_walk, explained_ends, gen_laws}
use Rattle.cmd_run.proofs.gen_command.job.gen_job.Goals as goal

pub returns-in-Ok-clause-ends : goal.returns-in-Ok-clause-ends
returns-in-Ok-clause-ends g c = c.play_out-outcome.ensures

pub returns-in-Ok-clause-laws : goal.returns-in-Ok-clause-laws
returns-in-Ok-clause-laws g c = gen_laws c.args.words.now

pub returns-in-Err-clause-ends : goal.returns-in-Err-clause-ends
returns-in-Err-clause-ends g c old ports =
    let before = outside old (g.O.Sink.seen c.args.out.now) ports in
    explained_ends (gen_walk c.args.words.now) old old before before refl (λ none. absurd none) c.in-Err.outcome (c.in-Err.ensures.err old old)

pub returns-in-Err-clause-laws : goal.returns-in-Err-clause-laws
returns-in-Err-clause-laws g c = gen_laws c.args.words.now
