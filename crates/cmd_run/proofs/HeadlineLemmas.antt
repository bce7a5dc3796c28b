-- A job that is done shows its source circuit, mapped with the least depth; and the laws of the walk of `run`.
use Rattle.cmd_run.proofs.Common.{◌≡◌, ℕ, Bool, List, ◌∷◌, length, Ok, refl, sym, ap, ◌∙◌, subst, concat, In, extended, Files, TemplateValue, IsConf, BankSeen, all_ports, EventValue, template_header, MachineValue, FitsShape, Source, Outside, names_of, HasScript, shape_of, RunWords, Job, IsJob, IsStart, Stage, HasCome, bank_of, HasRun, IsNoUpset, ShowsSource, HasHeadline, init_count, init_params, scripted_of, run_walk, scripted_or_not, scripted_refused_once, HasLaws}
use Rattle.aig_core.specs.Aig.{Aig}
use Rattle.run_text.proofs.FitLemmas.{events_fit}
use Rattle.cmd_stations.proofs.GraphLemmas.{same_graph}
use Rattle.cmd_run.proofs.KeptLemmas.{IsKept, shape_fits}
use Rattle.cmd_run.proofs.ShownLemmas.{shown_of, all_shown}

-- the events of a script fit the circuit's tables
script_fits : (files : Files) (name : List ℕ) (source : Source) (bits : ℕ) (events : List EventValue) → HasScript files name (names_of source bits) events → (event : EventValue) → In events event → FitsShape (shape_of source) event
script_fits files name source bits events script event i = shape_fits source bits event (events_fit (names_of source bits) _ events script.is.are event i)

-- a machine at the start
start_kept : (files : Files) (run : RunWords) (job : Job) (m : MachineValue) (bank : BankSeen) → IsJob files run job → (s : IsStart job m) → IsKept job.source job.template m.host.pack s.pack (record { machine = m; bank = bank })
start_kept files run job m bank is s = record {
  pack_is = refl;
  template_is = s.template;
  shape_is = s.shape;
  params = ap length s.params ∙ init_params job.source job.template m.host.pack s.pack;
  states = init_count job.source m.sim.states is.mapped.has.netlist.is.flat s.states;
  right = subst (λ (ps : List Bool). IsConf m.host.pack ps m.host.state.config) (sym s.params) s.config;
}

shows_source : (files : Files) (run : RunWords) (job : Job) (m : MachineValue) (ports : BankSeen) (lines : List (List ℕ)) (stage : Stage) → IsJob files run job → (s : IsStart job m) → HasCome m ports job.events lines stage
    → ((event : EventValue) → In job.events event → IsNoUpset event) → ShowsSource job.source s.pack.graph job.template job.events lines ports stage.bank
shows_source files run job m ports lines stage is s come calm =
    let first : Stage = record { machine = m; bank = come.loaded } in
    let fits = script_fits files run.script job.source job.template.bits job.events is.script in
    record {
      first = shown_of first;
      is_first = record {
        params = s.params;
        states = s.states;
        config = m.host.state.config;
        is = s.pack.configurations.is _ m.host.state.config (init_params job.source job.template m.host.pack s.pack) s.config;
        load = come.load.plays;
      };
      end = shown_of stage;
      all = (all_shown job.source job.template m.host.pack s.pack s.one_config (start_kept files run job m come.loaded is s) come.steps calm fits).all;
      bank = refl;
    }

-- a job of `run` that is done
pub run_headline : (files : Files) (run : RunWords) (old new : Outside) → HasRun files run old new (Ok tt) → HasHeadline files run old new
run_headline files run old new done =
    let job = done.job in
    let mapped = done.is_job.mapped.mapped in
    let start = done.start in
    let end = done.ends.end in
    let graph : start.pack.graph ≡ mapped.graph = same_graph job.source start.pack.one_graph start.pack.graph mapped.graph start.pack.roots mapped.roots start.pack.is_graph mapped.is_graph in
    record {
      job = job;
      is_job = done.is_job;
      sound = done.law.sound;
      least = done.law.least;
      lines = end.put.lines;
      bytes = end.put.bytes ∙ ap (λ (t : TemplateValue). extended old.bytes (concat (template_header t ∷ end.put.lines))) start.template;
      last = end.stage.bank;
      ports = done.ends.ports ∙ ap all_ports end.bank;
      shows = λ calm. subst (λ (g : Aig). ShowsSource job.source g job.template job.events end.put.lines (bank_of run.ports old.ports) end.stage.bank) graph
          (shows_source files run job done.machine (bank_of run.ports old.ports) end.put.lines end.stage done.is_job start end.put.come calm);
    }

-- The laws of the walk of `run`.
pub run_laws : (words : RunWords) → HasLaws (run_walk words)
run_laws words = record {
  not_both = λ files settled has f r refused. scripted_or_not files (scripted_of words) settled has.job.source has.job.template has.job.events f r has.is refused;
  one_refusal = λ files settled f e r s one other. scripted_refused_once files (scripted_of words) settled f e r s one other;
  shows = λ files old new done. run_headline files words old new done;
}
