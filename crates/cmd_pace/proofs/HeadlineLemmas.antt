-- A job that is done shows its source circuit, mapped with the least depth; and the laws of the walk of `pace`.
use Rattle.cmd_pace.proofs.Common.{◌≡◌, ℕ, ◌≤◌, ◌∷◌, refl, sym, ap, ◌∙◌, subst, concat, extended, Files, TemplateValue, param_inits, PacerValue, Outside, init_count, init_params, IsAllPaced, HasPace, stage_of, IsFirst, ShowAll, HasPaceHeadline, PaceJob, IsPaceStart, PaceWords, pace_walk, scripted_of, HasLaws}
use Rattle.aig_core.specs.Aig.{Aig}
use Rattle.netlist.specs.Flat.{IsFlat}
use Rattle.cmd_stations.specs.Mapped.{template_header}
use Rattle.cmd_stations.proofs.GraphLemmas.{same_graph}
use Rattle.cmd_pace.proofs.StartLemmas.{script_fits}
use Rattle.cmd_pace.proofs.ShownLemmas.{IsKept, all_shown}
use Rattle.cmd_pace.proofs.SteadyLemmas.{start_steady, stalls_anywhere}
use Rattle.cmd_stations.proofs.ScriptedLemmas.{scripted_or_not, scripted_refused_once}

-- a machine at the start
start_kept : (job : PaceJob) (rate : ℕ) (p : PacerValue) → IsFlat job.source.netlist.library job.source.netlist.flat → (s : IsPaceStart job rate p) → IsKept job.source job.template rate p.pack s.start.pack p
start_kept job rate p flat s = record {
  steady = start_steady p rate (param_inits job.source.params.list) s.rate_is s.start.params (init_params job.source job.template p.pack s.start.pack) s.start.config;
  template_is = s.start.template;
  shape_is = s.start.shape;
  states = init_count job.source p.sim.states flat s.start.states;
}

start_shown : (job : PaceJob) (rate : ℕ) (p : PacerValue) → (s : IsPaceStart job rate p) → IsFirst job.source s.start.pack.graph job.template rate (stage_of p)
start_shown job rate p s = record {
  params = s.start.params;
  config = s.start.pack.configurations.is (param_inits job.source.params.list) p.config (init_params job.source job.template p.pack s.start.pack) s.start.config;
  states = s.start.states;
}

-- a job of `pace` that is done, where a tick writes a bit at least
pub pace_headline : (files : Files) (words : PaceWords) (old new : Outside) → 1 ≤ words.rate → HasPace files words old new IsAllPaced → HasPaceHeadline files words old new
pace_headline files words old new takes done =
    let job = done.job in
    let is = done.is_job.is in
    let mapped = is.mapped.mapped in
    let start = done.start.start in
    let end = done.ends in
    let lines = end.put.lines in
    let played = end.put.come in
    let kept = start_kept job words.rate done.pacer is.mapped.has.netlist.is.flat done.start in
    let graph : start.pack.graph ≡ mapped.graph = same_graph job.source start.pack.one_graph start.pack.graph mapped.graph start.pack.roots mapped.roots start.pack.is_graph mapped.is_graph in
    record {
      job = job;
      is_job = done.is_job;
      sound = done.law.sound;
      least = done.law.least;
      lines = lines;
      bytes = end.put.bytes ∙ ap (λ (t : TemplateValue). extended old.bytes (concat (template_header t ∷ lines))) start.template;
      first = stage_of done.pacer;
      is_first = subst (λ (g : Aig). IsFirst job.source g job.template words.rate (stage_of done.pacer)) graph (start_shown job words.rate done.pacer done.start);
      end = stage_of end.end;
      shows = subst (λ (g : Aig). ShowAll job.source g job.template words.rate (stage_of done.pacer) job.events lines (stage_of end.end)) graph
          (subst (λ ls. ShowAll job.source start.pack.graph job.template words.rate (stage_of done.pacer) job.events ls (stage_of end.end)) (sym played.lines_are)
          (all_shown job.source job.template words.rate done.pacer.pack start.pack done.pacer end.end kept played.are
          (script_fits job.source job.template.bits is.script.text done.is_job.read job.events is.script.is done.is_job.events)));
      pacer = done.pacer;
      start = done.start;
      first_is = refl;
      shown = played.shown;
      last = end.end;
      played = played.are;
      lines_are = played.lines_are;
      end_is = refl;
      stalls = stalls_anywhere done.pacer.pack words.rate done.pacer takes start.one_config kept.steady;
    }

-- The laws of the walk of `pace`.
pub pace_laws : (words : PaceWords) → 1 ≤ words.rate → HasLaws (pace_walk words)
pace_laws words takes = record {
  not_both = λ files settled has f r refused. scripted_or_not files (scripted_of words) settled has.job.source has.job.template has.is.read f r has.is.is refused;
  one_refusal = λ files settled f e r s one other. scripted_refused_once files (scripted_of words) settled f e r s one other;
  shows = λ files old new done. pace_headline files words old new takes done;
}
