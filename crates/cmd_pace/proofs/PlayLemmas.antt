-- The playing of events: what stands behind one event more; and a job that was made ready is begun, and ends as its playing does.
use Rattle.cmd_pace.proofs.Common.{◌≡◌, ℕ, List, [], ◌∷◌, ◌++◌, length, refl, sym, ap, ◌∙◌, subst, map-append, Shape, PackValue, PaceValue, Ask, Tick, PacerValue, Shown, shown_line, IsTicked, steps, waits, IsPaced, pacer_machine, then_one, FitsPacer, Outside, HaveShown, Files, IsBegun, pace_values, ReadyPace, HasPace, IsReadyFor, pace_walk, PaceWords}
use Rattle.pace_core.specs.EventValue as pace
use Rattle.cmd_stations.proofs.RefusedLemmas.{least_mapped}

-- an event leaves the pack and the shape of the circuit as they are
pub record HasSameForm (old new : PacerValue) : Type 0 where
  pub pack : new.pack ≡ old.pack
  pub shape : new.sim.shape ≡ old.sim.shape

ticked_form : (values : _) (old new : PacerValue) (one : Shown) → IsTicked values old new one → HasSameForm old new
ticked_form values old new one (steps s) = record { pack = ap (λ (p : PacerValue). p.pack) s.becomes; shape = ap (λ (p : PacerValue). p.sim.shape) s.becomes }
ticked_form values old new one (waits w) = record { pack = ap (λ (p : PacerValue). p.pack) w.becomes; shape = ap (λ (p : PacerValue). p.sim.shape) w.becomes }

pub paced_form : (event : PaceValue) (old new : PacerValue) (one : Shown) → IsPaced event old new one → HasSameForm old new
paced_form (Ask assigns) old new one is = record { pack = ap (λ (p : PacerValue). p.pack) is.becomes; shape = ap (λ (p : PacerValue). p.sim.shape) is.becomes }
paced_form (Tick values) old new one is = ticked_form values old new one is

-- so what fits one machine fits one of the same form
pub fits_form : (event : PaceValue) (old new : PacerValue) → HasSameForm old new → FitsPacer old event → FitsPacer new event
fits_form event old new same fits =
    subst (λ (p : PackValue). pace.Fits (length p.params) new.sim.shape.regular event) (sym same.pack) (subst (λ (s : Shape). pace.Fits (length old.pack.params) s.regular event) (sym same.shape) fits)

-- one event more
pub then_shown : (old mid new : PacerValue) (events : List PaceValue) (lines : List (List ℕ)) (event : PaceValue) (one : Shown) → HaveShown old events lines mid → IsPaced event mid new one
    → HaveShown old (events ++ event ∷ []) (lines ++ shown_line one ∷ []) new
then_shown old mid new events lines event one come paced = record {
  shown = come.shown ++ one ∷ [];
  are = then_one pacer_machine event one come.are paced;
  lines_are = ap (λ ls. ls ++ shown_line one ∷ []) come.lines_are ∙ sym (map-append shown_line come.shown (one ∷ []));
}

-- A job of `pace` that was made ready is begun, and ends as its playing does.
module _ (files : Files) (words : PaceWords) (ready : ReadyPace) (is : IsReadyFor files words ready) where
  pub ready_begun : IsBegun (pace_walk words) files
  ready_begun = record { accepted = record { job = is.job; is = is.is_job }; settled = is.settled }

  pub ready_pace : (Ends : PacerValue → List PaceValue → Outside → Outside → Type 0) (old new : Outside) → new.files ≡ old.files → new.ports ≡ old.ports → Ends ready.pacer (pace_values ready.events.items) old new
      → HasPace files words old new Ends
  ready_pace Ends old new kept ports ends = record {
    job = is.job;
    is_job = is.is_job;
    law = least_mapped files words.source is.job.source is.job.template is.settled.source is.is_job.is.mapped;
    pacer = ready.pacer;
    start = is.start;
    kept = kept;
    ports = ports;
    ends = subst (λ es. Ends ready.pacer es old new) (sym is.events) ends;
  }
