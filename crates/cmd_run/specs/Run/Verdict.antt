-- The walk of `run`.
use Rattle.std.specs.Prelude.{List, map, Ok, Err}
use Rattle.cmd_run.specs.Words.{PortSeen, Files, ShelfSeen, SinkSeen, WriteFault, PortFault, CommandWalk, Ends, outside, Outcome, Job}
use Rattle.cmd_run.specs.declared.run.words.RunWords.{RunWords as RunWordsRead}
use Rattle.cmd_run.specs.Run.Job.{RunWords, IsJob, run_reading, run_seen}
use Rattle.cmd_run.specs.Run.Ends.{HasRun, HaveServed, HaveFailed}
use Rattle.cmd_run.specs.Run.Headline.{HasHeadline}

-- the files hold an accepted job of `run`
pub record HasJob (files : Files) (words : RunWords) : Type 0 where
  pub job : Job
  pub is : IsJob files words job

abbrev pub run_walk : RunWords → CommandWalk
run_walk words = record {
  reading = run_reading words;
  IsAccepted = λ files. HasJob files words;
  IsDone = λ files old new. HasRun files words old new (Ok tt);
  IsCutOff = λ files old new. HasRun files words old new (Err WriteFault);
  IsLost = λ files old new. HasRun files words old new (Err PortFault);
  Shows = λ files old new. HasHeadline files words old new;
  WritesFiles = ⊥;
  KeepsPorts = λ old new. HaveServed words.ports old.ports new.ports;
  HasPortFault = λ old new. HaveFailed words.ports old.ports new.ports;
}

-- how a call ends, with ports that are seen so
abbrev pub JobEnds : {P : Type 0} → (P → PortSeen) → RunWordsRead → ShelfSeen → ShelfSeen → SinkSeen → SinkSeen → List P → List P → Outcome → Type 0
JobEnds seen words old new before after ports others outcome = Ends (run_walk (run_seen words)) old new (outside old before (map seen ports)) (outside new after (map seen others)) outcome
