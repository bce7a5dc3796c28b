-- A job of `run` that was made ready is begun, and ends as its playing does.
use Rattle.cmd_run.proofs.Common.{◌≡◌, ◌≤◌, List, Result, Ok, Err, refl, sym, subst, inl, MOST_BYTES, Rose, PortSeen, Files, ShelfSeen, SinkSeen, event_values, StepErr, WriteFault, PortFault, outside, Told, IsBegun, IsBegunFrom, Ends, least_mapped, Ready, RunWords, IsPlayEnd, HasRun, HaveFailed, run_walk, IsReadyFor, PlaysOut, IsServed, played_outcome, KeepsFiles}

module _ (files : Files) (words : RunWords) (ready : Ready) (is : IsReadyFor files words ready) where
  pub ready_begun : IsBegun (run_walk words) files
  ready_begun = record { accepted = record { job = is.job; is = is.is_job }; settled = is.settled }

  pub ready_run : (old new : ShelfSeen) (before after : SinkSeen) (ports others : List PortSeen) (result : Result Unit StepErr) → KeepsFiles old new
      → PlaysOut words.ports ready before after ports others result → HasRun files words (outside old before ports) (outside new after others) result
  ready_run old new before after ports others result keeps ends = record {
    job = is.job;
    is_job = is.is_job;
    law = least_mapped files words.source is.job.source is.job.template is.settled.source is.is_job.mapped;
    machine = ready.machine;
    start = is.start;
    kept = keeps.files;
    ends =
        let end = ends old in
        subst (λ es. IsPlayEnd words.ports ready.machine es (outside old before ports) (outside new after others) result) (sym is.events) (record { bank = end.bank; end = end.end; ports = end.ports; cause = end.cause });
  }

-- so ends the job
module _ (words : RunWords) (ready : Ready) (old new : ShelfSeen) (before after : SinkSeen) (ports others : List PortSeen) (given : new.given ≤ MOST_BYTES) (is : Told old.files (λ files. IsReadyFor files words ready)) (keeps : KeepsFiles old new) where
  begun_from : IsBegunFrom (run_walk words) old new
  begun_from = record { given = given; begun = λ files told. ready_begun files words ready (is files told) }

  pub run_ends : (result : Result Unit StepErr) → PlaysOut words.ports ready before after ports others result → (result ≡ Err WriteFault → Rose before.faults after.faults)
      → IsServed words.ports ports others result → (result ≡ Err PortFault → HaveFailed words.ports ports others) → Ends (run_walk words) old new (outside old before ports) (outside new after others) (played_outcome result)
  run_ends (Ok done) ends cause served failed = (begun_from, λ files told. ready_run files words ready (is files told) old new before after ports others (Ok done) keeps ends, served)
  run_ends (Err WriteFault) ends cause served failed =
      (begun_from, λ files told. ready_run files words ready (is files told) old new before after ports others (Err WriteFault) keeps ends, served, inl (cause refl))
  run_ends (Err PortFault) ends cause served failed = (begun_from, λ files told. ready_run files words ready (is files told) old new before after ports others (Err PortFault) keeps ends, failed refl)
