-- The playing of events: how it ends at the next one, and what it is behind the header and the full load.
use Rattle.cmd_run.proofs.Common.{◌≡◌, ℕ, ◌<◌, List, [], length, get_or, Option, Result, Ok, Err, refl, sym, ◌∙◌, subst, inr, extended, Event, EventValue, event_value, event_values, value_has, BankSeen, Holds, StepErr, WriteFault, PortFault, MachineValue, IsPlayed, IsSteady, event_line, IsSplit, HasCome, EventsEnd, RunEnd, In, machine_header, Stage, AreSteps, IsLoaded, AreAllPut, all_behind, cut_behind}
use Rattle.run_core.specs.Ends.{IsSent, HasLine, LeavesPorts, HasPlaces, StillHolds}

-- what each event of a list fits at the start, the one at a place fits while that stays
pub still_fits : {S : Type 0} {start now : S} (events : List Event) (i : ℕ) (item : Event) → i < length events → item ≡ get_or events i item → (Fits : S → EventValue → Type 0) → now ≡ start
    → ((e : EventValue) → In (event_values events) e → Fits start e) → Fits now (event_value item)
still_fits {start = start} events i item within there Fits same all = subst (λ s. Fits s (event_value item)) (sym same) (value_has event_value events i item within there (Fits start) all)

-- how one event ended
pub record IsStepEnd (event : EventValue) (old new : Stage) (before after : Option (List ℕ)) (result : Result Unit StepErr) : Type 0 where
  pub played : IsPlayed event old.machine new.machine
  pub steady : IsSteady event old.machine.host new.machine.host
  pub sent : IsSent event new.machine.host old.bank new.bank result
  pub put : HasLine (event_line event new.machine) before after result
  pub left : LeavesPorts old.bank new.bank result
  pub places : HasPlaces old.bank new.bank result
  pub held : Holds old.machine.host.state.config old.bank
  pub holds : StillHolds old.machine.host new.machine.host old.bank new.bank result

-- the events end at one that ended early
pub events_end : (old mid new : Stage) (all events : List EventValue) (event : EventValue) (first before after : Option (List ℕ)) (error : StepErr) → IsSplit all events event → AreAllPut (AreSteps old) [] events first mid before →
    IsStepEnd event mid new before after (Err error) → EventsEnd old all first after new.bank (Err error)
events_end old mid new all events event first before after WriteFault split come end = record {
  cut = record {
    first = events;
    event = event;
    split = split;
    mid = mid;
    whole = before;
    put = come;
    line = event_line event new.machine;
    end = new;
    step = (record { played = end.played; steady = end.steady; sent = end.sent; becomes = end.left; places = end.places; holds = end.holds end.held }, refl);
    part = end.put.0;
    within = end.put.1;
    bytes = end.put.2;
  };
  bank = refl;
}
events_end old mid new all events event first before after PortFault split come end = record {
  first = events;
  event = event;
  split = split;
  mid = mid;
  put = record { lines = come.lines; come = come.come; bytes = end.put ∙ come.bytes };
  next = new.machine;
  played = end.played;
  lost = end.sent;
  short = end.left;
  place = end.places;
}

-- and so a job, behind its header and the full load of its ports
module _ (m : MachineValue) (old loaded : BankSeen) (load : IsLoaded m.host.state.config old loaded) (before headed : Option (List ℕ)) (put : headed ≡ extended before (machine_header m)) where
  come : (events : List EventValue) (lines : List (List ℕ)) (stage : Stage) → AreSteps (record { machine = m; bank = loaded }) events lines stage → HasCome m old events lines stage
  come events lines stage steps = record { loaded = loaded; load = load; steps = steps }

  pub headed_end : (events : List EventValue) (after : Option (List ℕ)) (new : BankSeen) (result : Result Unit StepErr) → EventsEnd (record { machine = m; bank = loaded }) events headed after new result → RunEnd m events old before after new result
  headed_end events after new (Ok done) end = record { stage = end.stage; put = all_behind come (machine_header m) before headed put end.put; bank = end.bank }
  headed_end events after new (Err WriteFault) end = inr (record { cut = cut_behind come (machine_header m) before headed put end.cut; bank = end.bank })
  headed_end events after new (Err PortFault) end = inr (record {
    first = end.first;
    event = end.event;
    split = end.split;
    mid = end.mid;
    put = all_behind come (machine_header m) before headed put end.put;
    next = end.next;
    played = end.played;
    lost = end.lost;
    short = end.short;
    place = end.place;
  })
