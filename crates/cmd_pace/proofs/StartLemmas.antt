-- The machine at the start: it can play each ask and tick that its script may have.
use Rattle.cmd_pace.proofs.Common.{ℕ, List, length, refl, subst, length-map, In, EventValue, Fits, PaceValue, asks_and_ticks, Source, names_in, width_of, ◌≡◌, sym, Files, Shape, event_values, pace_values, PacerValue, ComesScripted, param_count, ReadyPace, PaceJob, CanPace, StartsPace, StartsAt, IsReadyFor, PaceWords, scripted_of}
use Rattle.param_list.specs.declared.params.Param.{Param}
use Rattle.run_text.specs.ScriptText.{IsScript}
use Rattle.run_text.specs.declared.event.Forms.TheVariants.{Pace}
use Rattle.run_text.proofs.FitLemmas.{events_fit}
use Rattle.pace_core.specs.EventValue as pace
use Rattle.pace_core.specs.PaceText.{AreAsksAndTicks}
use Rattle.pace_core.proofs.PaceTextLemmas as texts
use Rattle.run_text.specs.declared.event.Forms.TheVariants as forms
use Rattle.pace_core.proofs.PaceTextLemmas.{script_paced}
use Rattle.cmd_stations.specs.declared.scripted.Scripted.{Scripted}

-- The asks and ticks of a script fit the source circuit that it is played on.
module _ (source : Source) (bits : ℕ) where
  -- a script may name the parameters of the list
  as_listed : (event : PaceValue) → pace.Fits (length (names_in Pace source bits).params) (width_of source) event → pace.Fits (length source.params.list) (width_of source) event
  as_listed event fits = subst (λ n. pace.Fits n (width_of source) event) (length-map source.params.list (λ (p : Param). p.name)) fits

  -- the asks and ticks among events that fit
  pub kept_fit : (read : List EventValue) → ((event : EventValue) → In read event → Fits (names_in Pace source bits) event)
      → (event : PaceValue) → In (asks_and_ticks read) event → pace.Fits (length source.params.list) (width_of source) event
  kept_fit read fits event i = as_listed event (texts.kept_fit (names_in Pace source bits) (width_of source) read refl fits event i)

  -- and those of a script
  pub script_fits : (text : List ℕ) (read : List EventValue) (events : List PaceValue) → IsScript (names_in Pace source bits) text read → AreAsksAndTicks read events
      → (event : PaceValue) → In events event → pace.Fits (length source.params.list) (width_of source) event
  script_fits text read events is are event i =
      as_listed event (texts.events_fit (names_in Pace source bits) (width_of source) read events refl are (events_fit (names_in Pace source bits) _ read is.are) event i)

-- it can play the asks and ticks among events that its script may have
pub can_pace : (job : PaceJob) (p : PacerValue) → StartsPace job.source job.template p → (read : List EventValue) → ((event : EventValue) → In read event → Fits (names_in forms.Pace job.source job.template.bits) event)
    → (events : List PaceValue) → events ≡ asks_and_ticks read → CanPace events p
can_pace job p start read fit events are = subst (λ es. CanPace es p) (sym are) (λ paced i.
    subst (λ n. pace.Fits n p.sim.shape.regular paced) (sym (param_count job.source job.template p.pack start.pack))
    (subst (λ (s : Shape). pace.Fits (length job.source.params.list) s.regular paced) (sym start.shape) (kept_fit job.source job.template.bits read fit paced i)))

-- what the files of a job say that was made ready
pub ready_for : (files : Files) (words : PaceWords) (s : Scripted) (ready : ReadyPace) → ComesScripted files (scripted_of words) s → StartsAt s.mapped.source s.mapped.tables.template words.rate ready.pacer
    → pace_values ready.events.items ≡ asks_and_ticks (event_values s.events.items) → IsReadyFor files words ready
ready_for files words s ready comes starts are =
    let read = event_values s.events.items in
    let events = pace_values ready.events.items in
    record {
      job = record { source = s.mapped.source; template = s.mapped.tables.template; events = events };
      is_job = record {
        read = read;
        is = comes.has;
        events = subst (λ es. AreAsksAndTicks read es) (sym are) (script_paced (names_in forms.Pace s.mapped.source s.mapped.tables.template.bits) comes.has.script.text read refl comes.has.script.is);
      };
      start = record { start = starts.0; rate_is = starts.1 };
      events = refl;
      settled = comes.settled;
    }
