-- The machine at the start: it can play each event that its script may name; and what a job of `run` is made ready for.
use Rattle.cmd_run.proofs.Common.{◌≡◌, ℕ, ◌<◌, Bool, List, length, sym, ap, ◌∙◌, subst, length-map, In, AreAssigned, EventValue, Set, Upset, Fits, Lit, lits_of, value_of, bits_of, Shape, PackValue, MachineValue, FitsPack, FitsShape, Source, names_of, Job, IsStart, CanPlay, StartsOn, Files, Event, event_values, Scripted, ComesScripted, Ready, RunWords, scripted_of, IsReadyFor}
use Rattle.param_list.specs.declared.params.Param.{Param}
use Rattle.param_list.specs.Parameters.{param_inits}
use Rattle.bit_fun.specs.PackOf.{pack_param}
use Rattle.cmd_run.proofs.KeptLemmas.{shape_fits}

-- what a script may name, the pack and the shape have
fits_pack : (source : Source) (bits : ℕ) (p : PackValue) (event : EventValue) → length p.params ≡ length source.params.list → length p.bits ≡ bits → Fits (names_of source bits) event → FitsPack p event
fits_pack source bits p (Set assigns) params len fit = subst (λ n. AreAssigned n assigns) (length-map source.params.list (λ (q : Param). q.name) ∙ sym params) fit
fits_pack source bits p (Upset address) params len fit = subst (λ n. address < n) (sym len) fit
fits_pack source bits p event params len fit = tt

-- so a machine at the start can play its script
module _ (job : Job) (m : MachineValue) (start : IsStart job m) where
  start_params : length m.host.pack.params ≡ length job.source.params.list
  start_params = ap length start.pack.pack_is.params_are ∙ length-map job.source.params.list pack_param

  pub start_bits : length m.host.pack.bits ≡ bits_of job.template.luts
  start_bits =
      let inits : List Bool = param_inits job.source.params.list in
      let lits : List ℕ = lits_of m.host.pack.bits in
      let len : length inits ≡ length m.host.pack.params = length-map job.source.params.list (λ (p : Param). p.init) ∙ sym start_params in
      sym (ap length start.config.are ∙ length-map lits (value_of start.config.values) ∙ length-map m.host.pack.bits (λ (l : Lit). l.0))
      ∙ (start.pack.configurations.is inits m.host.state.config len start.config).count

  pub can_play : job.template.bits ≡ bits_of job.template.luts → ((event : EventValue) → In job.events event → Fits (names_of job.source job.template.bits) event) → CanPlay job.events m
  can_play sum fit = record {
    pack = λ event i. fits_pack job.source job.template.bits m.host.pack event start_params (start_bits ∙ sym sum) (fit event i);
    shape = λ event i. subst (λ (s : Shape). FitsShape s event) (sym start.shape) (shape_fits job.source job.template.bits event (fit event i));
  }

-- the job of a mapped source circuit and a script
module _ (s : Scripted) (ready : Ready) (starts : StartsOn s.mapped.source s.mapped.tables.template ready.machine) (same : ready.events.items ≡ s.events.items) where
  pub ready_for : (files : Files) (words : RunWords) → ComesScripted files (scripted_of words) s → IsReadyFor files words ready
  ready_for files words comes = record {
    job = record { source = s.mapped.source; template = s.mapped.tables.template; events = event_values s.events.items };
    is_job = comes.has;
    start = starts;
    events = ap event_values (sym same);
    settled = comes.settled;
  }

  pub can_play_ready : s.mapped.tables.template.bits ≡ bits_of s.mapped.tables.template.luts → ((event : EventValue) → In (event_values s.events.items) event → Fits (names_of s.mapped.source s.mapped.tables.template.bits) event)
      → CanPlay (event_values ready.events.items) ready.machine
  can_play_ready sum fit =
      subst (λ (es : List Event). CanPlay (event_values es) ready.machine) (sym same)
      (can_play (record { source = s.mapped.source; template = s.mapped.tables.template; events = event_values s.events.items }) ready.machine starts sum fit)
