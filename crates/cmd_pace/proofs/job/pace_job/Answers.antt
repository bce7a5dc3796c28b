use Rattle.cmd_pace.proofs.Common.{refl, inl, Outside, outside, IsAllPaced, IsPaceCut, pace_walk, pace_seen}
use Rattle.cmd_base.proofs.EndLemmas.{unbegun_ends}
use Rattle.cmd_pace.proofs.PlayLemmas.{ready_begun, ready_pace}
use Rattle.cmd_pace.proofs.HeadlineLemmas.{pace_laws}
use Rattle.cmd_pace.proofs.job.pace_job.Goals as goal

pub returns-in-Err-clause-ends : goal.returns-in-Err-clause-ends
returns-in-Err-clause-ends g c ports =
    unbegun_ends (pace_walk (pace_seen c.args.words.now)) c.prepare.ensures.keeps (λ none. absurd none) (g.O.Sink.seen c.args.out.now) ports c.in-Err.outcome c.in-Err.ensures.err

pub returns-in-Ok-played-clause-ends : goal.returns-in-Ok-played-clause-ends
returns-in-Ok-played-clause-ends g c ports =
    let words = pace_seen c.args.words.now in
    let ready = c.in-Ok.ready in
    let before : Outside = outside (g.S.Shelf.seen c.args.shelf.now) (g.O.Sink.seen c.args.out.now) ports in
    let after : Outside = outside (g.S.Shelf.seen c.prepare.new.shelf) (g.O.Sink.seen c.play-played.new.out) ports in (
      record { given = c.in-Ok.ensures.given; begun = λ files told. ready_begun files words ready (c.in-Ok.ensures.prepared files told) },
      λ files told. ready_pace files words ready (c.in-Ok.ensures.prepared files told) IsAllPaced before after c.prepare.ensures.keeps.files (refl {a = ports})
          (record { end = c.in-Ok-played.ensures.ends.0; put = c.in-Ok-played.ensures.ends.1 }),
      refl {a = ports},
    )

pub returns-in-Err-played-clause-ends : goal.returns-in-Err-played-clause-ends
returns-in-Err-played-clause-ends g c ports =
    let words = pace_seen c.args.words.now in
    let ready = c.in-Ok.ready in
    let before : Outside = outside (g.S.Shelf.seen c.args.shelf.now) (g.O.Sink.seen c.args.out.now) ports in
    let after : Outside = outside (g.S.Shelf.seen c.prepare.new.shelf) (g.O.Sink.seen c.play-played.new.out) ports in
    let rose = c.in-Err-played.ensures.cause.failed in (
      record { given = c.in-Ok.ensures.given; begun = λ files told. ready_begun files words ready (c.in-Ok.ensures.prepared files told) },
      λ files told. ready_pace files words ready (c.in-Ok.ensures.prepared files told) IsPaceCut before after c.prepare.ensures.keeps.files (refl {a = ports})
          (record { cut = c.in-Err-played.ensures.ends; cause = rose }),
      refl {a = ports},
      inl rose,
    )

pub returns-in-Err-clause-laws : goal.returns-in-Err-clause-laws
returns-in-Err-clause-laws g c = pace_laws (pace_seen c.args.words.now) c.requires.rate

pub returns-in-Ok-played-clause-laws : goal.returns-in-Ok-played-clause-laws
returns-in-Ok-played-clause-laws g c = pace_laws (pace_seen c.args.words.now) c.requires.rate

pub returns-in-Err-played-clause-laws : goal.returns-in-Err-played-clause-laws
returns-in-Err-played-clause-laws g c = pace_laws (pace_seen c.args.words.now) c.requires.rate
