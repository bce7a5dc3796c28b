-- What `map` writes is played by `bits` as `run` plays its LUTs.
use Rattle.std.specs.Prelude.{◌≡◌, ℕ, List, ◌∷◌, length, Ok, Some}
use Rattle.std.specs.FinMap.{get}
use Rattle.std.specs.List.{concat}
use Rattle.tl_io.specs.Content.{extended}
use Rattle.tlut_cli.specs.Words.{Files, Outside, RunWords, MapWords, HasMap, BitsWords, IsPlayedOn, pack_header}
use Rattle.run_text.specs.EventValue.{EventValue}
use Rattle.cmd_base.specs.Writing.{AreWritten}
use Rattle.cmd_stations.specs.Mapped.{template_header}
use Rattle.cmd_stations.specs.Packs.{present_bytes}
use Rattle.cmd_run.specs.Run.Ends.{HasRun}

-- Two outputs grew by these headers, and then by the same lines, one for each event: both played the same events.
pub record PutTheSameLines (header other_header : List ℕ) (events others : List EventValue) (old new other later : Outside) : Type 0 where
  pub same : others ≡ events
  pub lines : List (List ℕ)
  pub one_each : length lines ≡ length events
  pub put : new.bytes ≡ extended old.bytes (concat (header ∷ lines))
  pub other_put : later.bytes ≡ extended other.bytes (concat (other_header ∷ lines))

-- Files have the same rule, K, netlist and list for `run` as others have for `map`.
pub record HaveTheSameSource (files : Files) (written : MapWords) (first : Files) (run : RunWords) : Type 0 where
  pub rule : run.source.rule ≡ written.source.rule
  pub k : run.source.k ≡ written.source.k
  pub netlist : get first run.source.netlist ≡ get files written.source.netlist
  pub params : get first run.source.params ≡ get files written.source.params

-- A job of `map` was done. Wherever a file has the bytes of the pack that it wrote, a job of `bits` on it and one of `run` by the same rule on the same K, netlist and list that are both done over one script text play the same events. Behind the headers, that of the template and that of the pack, they put the same lines, one for each event: `bits` accepts no script with cycles.
pub record ReplaysRun (files : Files) (written : MapWords) (before after : Outside) : Type 0 where
  pub done : HasMap files written (λ texts line. AreWritten texts line before after)
  pub lines : (first others : Files) (run : RunWords) (bits : BitsWords) → HaveTheSameSource files written first run → get others bits.pack ≡ Some (present_bytes done.pack) → get others bits.script ≡ get first run.script
      → (old new other later : Outside) (played : HasRun first run old new (Ok tt)) (replayed : IsPlayedOn others bits other later)
      → PutTheSameLines (template_header done.template) (pack_header done.pack) played.job.events replayed.events old new other later
