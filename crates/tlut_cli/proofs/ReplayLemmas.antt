-- A job of `map` that is done wrote what `bits` plays as `run` plays its LUTs.
use Rattle.tlut_cli.proofs.Common.{◌≡◌, ℕ, suc, List, ◌∷◌, length, Ok, Some, refl, sym, ap, ◌∙◌, subst, subst₂, concat, extended, Files, Outside, EventValue, RunWords, MapWords, BitsWords, PutTheSameLines, HaveTheSameSource, ReplaysRun, HasMap, IsPlayedOn, pack_header, bank_of}
use Rattle.std.specs.FinMap.{get}
use Rattle.cmd_base.specs.Writing.{AreWritten}
use Rattle.run_text.specs.Lines.{bits_header_line}
use Rattle.machine.proofs.PassLemmas.{one_each}
use Rattle.cmd_stations.specs.Machine.{IsStart, machine_header, script_machine, HasCome}
use Rattle.cmd_stations.specs.Mapped.{template_header, ToTables}
use Rattle.cmd_stations.specs.Packs.{present_bytes, pack_names}
use Rattle.cmd_stations.specs.Script.{names_of}
use Rattle.cmd_stations.specs.Source.{IsSourceSettled, HasMapped}
use Rattle.cmd_stations.proofs.RefusedLemmas.{settled_once, template_once}
use Rattle.cmd_stations.proofs.ReplayLemmas.{file_same, pack_at, mapped_there, script_same, params_same}
use Rattle.cmd_run.specs.Run.Ends.{HasRun}

module _ (files : Files) (written : MapWords) (before after : Outside) (done : HasMap files written (λ texts line. AreWritten texts line before after)) (settled : IsSourceSettled ToTables files written.source) where
  same_lines : (first others : Files) (run : RunWords) (bits : BitsWords) → HaveTheSameSource files written first run → get others bits.pack ≡ Some (present_bytes done.pack) → get others bits.script ≡ get first run.script
      → (old new other later : Outside) (played : HasRun first run old new (Ok tt)) (replayed : IsPlayedOn others bits other later)
      → PutTheSameLines (template_header done.template) (pack_header done.pack) played.job.events replayed.events old new other later
  same_lines first others run bits same pack script old new other later r b =
      let has : HasMapped files written.source r.job.source r.job.template = mapped_there first files run.source written.source r.job.source r.job.template same.k same.rule same.netlist same.params r.is_job.mapped in
      let source = settled_once files written.source r.job.source done.source settled has.has done.mapped.has in
      let template = template_once files written.source r.job.source done.source r.job.template done.template settled has done.mapped in
      let packs = file_same (present_bytes done.pack) b.pack done.pack (pack_at others bits.pack (present_bytes done.pack) b.pack pack b.is_job.pack) done.replays.file in
      let start = subst (λ t. IsStart (record { source = done.source; template = t; events = r.job.events }) r.machine) template (subst (λ s. IsStart (record { source = s; template = r.job.template; events = r.job.events }) r.machine) source r.start) in
      let params = ap (λ s. (names_of s r.job.template.bits).params) source ∙ params_same done.source done.template done.pack b.pack done.tunable packs in
      let events = script_same first others run.script bits.script (names_of r.job.source r.job.template.bits) (pack_names b.pack) r.job.events b.events script refl params r.is_job.script b.is_job.script in
      let come = subst (λ es. HasCome r.machine (bank_of run.ports old.ports) es r.ends.end.put.lines r.ends.end.stage) events r.ends.end.put.come in
      let lines = done.replays.lines others bits.pack b.pack pack b.is_job.pack b.host b.ends.end b.events b.ends.put.lines b.start b.ends.put.come r.job.events r.machine start (bank_of run.ports old.ports) r.ends.end.put.lines r.ends.end.stage come in
      let header : machine_header r.machine ≡ template_header done.template = ap template_header (r.start.template ∙ template) in
      let other_header : pack_header b.host.pack ≡ pack_header done.pack = ap pack_header b.start.pack ∙ ap (λ bits. bits_header_line (length bits)) packs.bits in
      record {
        same = sym events;
        lines = r.ends.end.put.lines;
        one_each = one_each script_machine r.ends.end.put.come.steps;
        put = subst (λ h. new.bytes ≡ extended old.bytes (concat (h ∷ r.ends.end.put.lines))) header r.ends.end.put.bytes;
        other_put = subst₂ (λ h ls. later.bytes ≡ extended other.bytes (concat (h ∷ ls))) other_header lines b.ends.put.bytes;
      }

  pub replays_run : ReplaysRun files written before after
  replays_run = record { done = done; lines = same_lines }
