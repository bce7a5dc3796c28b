-- What a call says of itself: what its status means, clause by clause, and the outcome that it reports.
use Rattle.std.specs.Prelude.{◌≡◌, ◌⊎◌, ℕ, List, Some, String, length, map, string_bytes}
use Rattle.std.specs.Global.{Vec, Global}
use Rattle.tlut_cli.specs.Words.{Rule, PortSeen, ShelfSeen, SinkSeen, status_of, Told, Outcome, Status, RunWords, MapWords}
use Rattle.cmd_base.specs.FaultLine.{Reports}
use Rattle.cmd_base.specs.declared.status.Status.TheVariants as status
use Rattle.cmd_run.specs.Run.Headline.{HasHeadline}
use Rattle.cmd_pace.specs.Headline.{HasPaceHeadline}
use Rattle.cmd_pace.specs.Job.{PaceWords}
use Rattle.tlut_cli.specs.Call.{World, world_of, outside_of, IsEnd, fault_word, HasRefusal, HasDone, HasCutOff, HasLost, HasKeptPorts, HasFault, HasPortCause, HasWriteCause, IsAnswered, IsComplete, IsFinished}
use Rattle.tlut_cli.specs.Commands.{Run, Map, Pace, command_of, line_of}
use Rattle.tlut_cli.specs.Replay.{ReplaysRun}

-- The clauses of a call by a rule of choice with so many ports and these arguments, from what is around it before to what is after it.
pub record HasMeaning (rule : Rule) (ports : ℕ) (words : List (List ℕ)) (before after : World) (s : Status) : Type 0 where
  -- A refusal or a limit is the one that the arguments and the files call for.
  pub refusal : (s ≡ status.Refused) ⊎ (s ≡ status.Limit) → HasRefusal rule before.shelf.files ports words s
  -- Conversely, such a refusal is returned if no read fails and memory suffices.
  pub refused : IsAnswered rule ports words before after s
  -- The output grew by the lines of the accepted job, and the ports received its load and its writes: all of them, or those up to the fault.
  pub done : s ≡ status.Done → HasDone rule words before after
  pub part : s ≡ status.WriteFault → HasCutOff rule words before after
  pub lost : s ≡ status.PortFault → HasLost rule words before after
  -- The main statement about `run`: the source circuit's outputs and latch states cycle by cycle, at each change exactly the bits in which the configurations specialised from scratch differ, LUTs of at most K inputs, and the least depth over all covers.
  pub headline : s ≡ status.Done → (run : RunWords) → command_of rule ports words ≡ Some (Run run) → Told before.shelf.files (λ files. HasHeadline files run (outside_of before) (outside_of after))
  -- The main statement about `pace`: the circuit steps only under the configuration specialised from scratch for the values asked for last, as the source circuit does, and waits exactly as long as its writes take at the rate of the port.
  pub paced : s ≡ status.Done → (paced : PaceWords) → command_of rule ports words ≡ Some (Pace paced) → Told before.shelf.files (λ files. HasPaceHeadline files paced (outside_of before) (outside_of after))
  -- `bits` plays what `map` wrote as `run` plays its LUTs, for each script without cycles.
  pub replays : s ≡ status.Done → (written : MapWords) → command_of rule ports words ≡ Some (Map written) → Told before.shelf.files (λ files. ReplaysRun files written (outside_of before) (outside_of after))
  -- An accepted job is done if no read or write fails, no more ports fail than there are spares, and memory suffices.
  pub complete : IsComplete rule words before after s
  pub finished : IsFinished rule words before after s
  -- Each fault has its cause.
  pub read_fault : s ≡ status.ReadFault → HasFault rule ports words before after
  pub write_fault : s ≡ status.WriteFault → HasWriteCause rule words before after
  pub port_fault : s ≡ status.PortFault → HasPortCause rule words before after
  -- What happens to the ports, whatever the files are.
  pub boxes : (s ≡ status.Done) ⊎ (s ≡ status.WriteFault) → HasKeptPorts rule words before after

-- The outcome, its cause, and the fault line.
abbrev pub HasOutcome : Rule → ℕ → List (List ℕ) → World → World → SinkSeen → SinkSeen → Status → Type 0
HasOutcome rule ports words before after err later s = (outcome : Outcome) × (s ≡ status_of outcome) × IsEnd rule words before after outcome × Reports err later (line_of (fault_word rule ports words outcome) outcome)

-- Both of a call, from what is passed in: the arguments, and the shelf, the output, the ports and the error output, each before and after. A port is seen by a function.
module _ {P : Type 0} (seen : P → PortSeen) (rule : Rule) (words : List (String Global)) where
  abbrev pub CallMeans : ShelfSeen → ShelfSeen → SinkSeen → SinkSeen → Vec P → Vec P → Status → Type 0
  CallMeans shelf later out put ports others s = HasMeaning rule (length ports.items) (map string_bytes words) (world_of shelf out (map seen ports.items)) (world_of later put (map seen others.items)) s

  abbrev pub CallEnds : ShelfSeen → ShelfSeen → SinkSeen → SinkSeen → Vec P → Vec P → SinkSeen → SinkSeen → Status → Type 0
  CallEnds shelf later out put ports others err told s = HasOutcome rule (length ports.items) (map string_bytes words) (world_of shelf out (map seen ports.items)) (world_of later put (map seen others.items)) err told s
