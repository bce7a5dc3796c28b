-- The walk of `pace`, and how its job ends: what is in the output.
use Rattle.std.specs.Prelude.{◌≡◌, ◌⊎◌, ℕ, List, map}
use Rattle.tl_io.specs.Causes.{Rose}
use Rattle.cmd_pace.specs.Words.{Files, PaceValue, PacerValue, Shown, shown_line, IsPaced, ArePaced, Outside, CommandWalk, portless_walk, AreAllPut, IsCutInFront, IsCutInLine, scripted_reading, IsLeastMapped}
use Rattle.cmd_pace.specs.Job.{PaceJob, IsPaceJob, IsPaceStart, pacer_header, PaceWords, scripted_of}
use Rattle.cmd_pace.specs.Headline.{HasPaceHeadline}

-- events were played one after the other, with these lines
pub record HaveShown (old : PacerValue) (events : List PaceValue) (lines : List (List ℕ)) (new : PacerValue) : Type 0 where
  pub shown : List Shown
  pub are : ArePaced old events shown new
  pub lines_are : lines ≡ map shown_line shown

-- an event was played, with this line
pub record IsShown (event : PaceValue) (old : PacerValue) (line : List ℕ) (new : PacerValue) : Type 0 where
  pub one : Shown
  pub paced : IsPaced event old new one
  pub line_is : line ≡ shown_line one

-- How a job of `pace` ends: what is in the output.
module _ (p : PacerValue) (events : List PaceValue) (old new : Outside) where
  -- each event was played, and the output grew by the header and a line an event
  pub record IsAllPaced : Type 0 where
    pub end : PacerValue
    pub put : AreAllPut (HaveShown p) (pacer_header p) events old.bytes end new.bytes

  -- a fault of writing, in the header or in an event's line
  pub record IsPaceCut : Type 0 where
    pub cut : IsCutInFront (pacer_header p) old.bytes new.bytes ⊎ IsCutInLine (HaveShown p) IsShown (pacer_header p) events old.bytes new.bytes
    pub cause : Rose old.put_faults new.put_faults

-- the files hold a job, whose source circuit is sound and mapped with the least depth, its machine is at the start, and this is so of its playing
pub record HasPace (files : Files) (words : PaceWords) (old new : Outside) (Ends : PacerValue → List PaceValue → Outside → Outside → Type 0) : Type 0 where
  pub job : PaceJob
  pub is_job : IsPaceJob files words job
  pub law : IsLeastMapped files words.source job.source job.template is_job.is.mapped
  pub pacer : PacerValue
  pub start : IsPaceStart job words.rate pacer
  pub kept : new.files ≡ old.files
  pub ports : new.ports ≡ old.ports
  pub ends : Ends pacer job.events old new

-- the files hold an accepted job of `pace`
pub record HasPaceJob (files : Files) (words : PaceWords) : Type 0 where
  pub job : PaceJob
  pub is : IsPaceJob files words job

abbrev pub pace_walk : PaceWords → CommandWalk
pace_walk words =
    portless_walk (scripted_reading (scripted_of words)) (λ files. HasPaceJob files words) (λ files old new. HasPace files words old new IsAllPaced) (λ files old new. HasPace files words old new IsPaceCut)
    (λ files old new. HasPaceHeadline files words old new) ⊥
