-- The playing of a script on a pack: what can be played, what is after some events, and how it ends at the next one.
use Rattle.cmd_pack.proofs.Common.{◌≡◌, ℕ, ◌+◌, ◌≤◌, List, [], length, Option, Result, Ok, Err, OnErr, refl, sym, subst, inl, arith, length-map, none-some, Rose, extended, PortSeen, Files, ShelfSeen, SinkSeen, PackValue, EventValue, Set, Cycle, Upset, event_values, FitsPack, IsOfHost, SpecialiserValue, outside, writing_outcome, HasPack, IsPackSettled, pack_names, HasScript, IsScriptSettled, Told, IsBegun, IsBegunFrom, Ends, Outcome, Rose_from, only_read, IsSplit, BitsWords, IsHostStep, AreHostSteps, pack_header, PutsHostStep, AreLinesPut, AreLinesCut, HasBits, bits_walk, KeepsFiles, host_line, AreAllPut, IsCutInLine, all_behind, puts_behind}
use Rattle.list_laws.specs.Members.{In}
use Rattle.tl_io.specs.Assigns.{AreAssigned}
use Rattle.ppc_pack.specs.declared.pack.PackParam.{PackParam}
use Rattle.run_text.specs.Fits.{Fits}
use Rattle.port_bank.specs.Bank.{BankSeen}
use Rattle.run_core.specs.declared.step_err.StepErr.{StepErr}
use Rattle.run_core.specs.declared.step_err.StepErr.TheVariants.{WriteFault, PortFault}
use Rattle.run_core.specs.Ends.{HasLine, HasSinkCause, HasPlaces}
use Rattle.tl_text.specs.declared.logical_lines.TheConstants.{MOST_BYTES}
use Rattle.cmd_pack.specs.declared.bits.prepare.ReadyScript.{ReadyScript}
use Rattle.cmd_pack.specs.BitsReady.{CanPlay, IsReady, IsReadyFor, EventsEnd, PlayEnd, PlayEndsAnywhere}
use Rattle.cmd_pack.proofs.BitsWalkLemmas.{names_settled}

-- an event that a script may have on a pack alone is of the host, and can be played on the pack
fits_host : (pack : PackValue) (event : EventValue) → Fits (pack_names pack) event → FitsPack pack event × IsOfHost event
fits_host pack (Set assigns) fits = (subst (λ n. AreAssigned n assigns) (length-map pack.params (λ (p : PackParam). p.name)) fits, tt)
fits_host pack (Cycle values) fits = absurd (none-some (length values) fits)
fits_host pack (Upset address) fits = (fits, tt)
fits_host pack event fits = (tt, tt)

-- so a script that is ready on a pack can be played
pub can_play : (pack : PackValue) (events : List EventValue) (ready : ReadyScript) → IsReady pack events ready → ((event : EventValue) → In events event → Fits (pack_names pack) event) → CanPlay ready.host.pack (event_values ready.events.items)
can_play pack events ready is fit =
    subst (λ (p : PackValue). CanPlay p (event_values ready.events.items)) (sym is.start.pack) (subst (λ es. CanPlay pack es) (sym is.are) (record {
      fits = λ event i. (fits_host pack event (fit event i)).0;
      of_host = λ event i. (fits_host pack event (fit event i)).1;
    }))

-- and what its files say
pub ready_for : (files : Files) (words : BitsWords) (pack : PackValue) (events : List EventValue) (ready : ReadyScript) → IsReady pack events ready → HasPack files words.pack pack → IsPackSettled files words.pack
    → HasScript files words.script (pack_names pack) events → IsScriptSettled files words.script (pack_names pack) → IsReadyFor files words ready
ready_for files words pack events ready is there settled script script_settled = record {
  pack = pack;
  is_job = record { pack = there; script = subst (λ es. HasScript files words.script (pack_names pack) es) (sym is.are) script };
  start = is.start;
  settled = record { pack = settled; script = names_settled words pack files there settled script_settled };
}

-- Where no port serves, an event that ended early ended by a fault of writing.
module _ (ports later : BankSeen) (none_serves : length ports.serving ≡ 0) where
  lost_none : {A : Type 0} → HasPlaces ports later (Err PortFault) → A
  lost_none places = let lost : length later.serving + 1 ≡ length ports.serving = places.serving in absurd (omega arith)

  pub events_cut : (old mid new : SpecialiserValue) (all events : List EventValue) (event : EventValue) (first before after : Option (List ℕ)) (error : StepErr) → IsSplit all events event → AreAllPut (AreHostSteps old) [] events first mid before
      → IsHostStep event mid new → HasLine (host_line event new) before after (Err error) → HasPlaces ports later (Err error) → IsCutInLine (AreHostSteps old) PutsHostStep [] all first after
  events_cut old mid new all events event first before after WriteFault split come step put places = record {
    first = events;
    event = event;
    split = split;
    mid = mid;
    whole = before;
    put = come;
    line = host_line event new;
    end = new;
    step = (step, refl);
    part = put.0;
    within = put.1;
    bytes = put.2;
  }
  events_cut old mid new all events event first before after PortFault split come step put places = lost_none places

  pub fault_rose : (before now : ℕ) (error : StepErr) → HasSinkCause before now (Err error) → HasPlaces ports later (Err error) → (before ≤ now) × Rose before now
  fault_rose before now WriteFault cause places = cause
  fault_rose before now PortFault cause places = lost_none places

-- a count that rose behind a fault rose from an earlier one
pub rose_later : {E : Type 0} (first mid last : ℕ) (r : Result Unit E) → first ≤ mid → OnErr r (Rose mid last) → OnErr r (Rose first last)
rose_later first mid last (Ok done) le h = tt
rose_later first mid last (Err e) le h = Rose_from first mid last le h

-- how a script ends behind its header
pub play_end : {E : Type 0} (h : SpecialiserValue) (events : List EventValue) (before headed after : SinkSeen) (r : Result Unit E) → headed.bytes ≡ extended before.bytes (pack_header h.pack) → EventsEnd h events headed.bytes after.bytes r
    → OnErr r (Rose before.faults after.faults) → PlayEndsAnywhere h events before after r
play_end h events before headed after (Ok done) header end rose shelf ports = record {
  end = end.0;
  put = all_behind (λ events lines state come. come) (pack_header h.pack) before.bytes headed.bytes header end.1;
  files = refl;
  ports = refl;
}
play_end h events before headed after (Err e) header end rose shelf ports = record {
  cut = puts_behind (λ events lines state come. come) (pack_header h.pack) before.bytes headed.bytes header PutsHostStep events after.bytes (Err e) end;
  cause = rose;
  files = refl;
  ports = refl;
}

-- a job that was made ready is begun, and ends as its playing does
module _ (files : Files) (words : BitsWords) (ready : ReadyScript) (is : IsReadyFor files words ready) where
  ready_begun : IsBegun (bits_walk words) files
  ready_begun = record { accepted = record { pack = is.pack; events = event_values ready.events.items; is = is.is_job }; settled = is.settled }

  ready_bits : (Ends : SpecialiserValue → List EventValue → Type 0) → Ends ready.host (event_values ready.events.items) → HasBits files words Ends
  ready_bits Ends ends = record { pack = is.pack; events = event_values ready.events.items; is_job = is.is_job; host = ready.host; start = is.start; ends = ends }

-- so ends the job
module _ (words : BitsWords) (ready : ReadyScript) {old new : ShelfSeen} (keeps : KeepsFiles old new) (given : new.given ≤ MOST_BYTES) (prepared : Told old.files (λ files. IsReadyFor files words ready)) (before after : SinkSeen) (ports : List PortSeen) where
  begun_from : IsBegunFrom (bits_walk words) old new
  begun_from = record { given = given; begun = λ files told. ready_begun files words ready (prepared files told) }

  played_ends : {E : Type 0} (r : Result Unit E) → PlayEnd ready.host (event_values ready.events.items) (outside old before ports) (outside new after ports) r
      → Ends (bits_walk words) old new (outside old before ports) (outside new after ports) (writing_outcome r)
  played_ends (Ok done) all = (begun_from, λ files told. ready_bits files words ready (prepared files told) (λ h events. AreLinesPut h events (outside old before ports) (outside new after ports)) all, refl {a = ports})
  played_ends (Err e) cut = (
    begun_from,
    λ files told. ready_bits files words ready (prepared files told) (λ h events. AreLinesCut h events (outside old before ports) (outside new after ports)) cut,
    refl {a = ports},
    inl cut.cause,
  )

  pub bits_ends : {E : Type 0} (r : Result Unit E) → PlayEnd ready.host (event_values ready.events.items) (outside old before ports) (outside old after ports) r → (o : Outcome) → o ≡ writing_outcome r
      → Ends (bits_walk words) old new (outside old before ports) (outside new after ports) o
  bits_ends r played o is =
      subst (λ x. Ends (bits_walk words) old new (outside old before ports) (outside new after ports) x) (sym is)
      (played_ends r (subst (λ w. PlayEnd ready.host (event_values ready.events.items) (outside old before ports) w r) (sym (only_read keeps after ports)) played))
