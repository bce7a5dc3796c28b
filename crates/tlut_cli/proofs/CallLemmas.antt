-- What an end says of a call: what its status means, and what the arguments and the files call for.
use Rattle.tlut_cli.proofs.Common.{◌≡◌, ℕ, List, Some, None, sym, ◌∙◌, subst, none-some, same_Some, Rule, World, outside_of, WalkEnds, HasLaws, Outcome, Subcommand, CommandRead, command_of, command_seen, walk_of, HasEnded, HasWalkLaws, Bool, true, false, cond, length, refl, ap, inl, inr, ◌⊎◌, Files, MapWords, Run, Map, Pace, ReplaysRun, IsEnd, HasCommand, HasRefusal, HasDone, HasCutOff, HasLost, HasKeptPorts, HasFault, HasPortCause, HasWriteCause, IsAnswered, IsComplete, IsFinished, HasNoFault, HasBegun, HasMeaning}
use Rattle.tl_fault.specs.RefusalValue.{RefusalValue}
use Rattle.tl_fault.specs.Refusals.{is_limit}
use Rattle.tl_io.specs.Causes.{Rose}
use Rattle.cmd_base.specs.Refusals.{too_long}
use Rattle.cmd_base.specs.Walk.{Outside, Told, InFiles}
use Rattle.cmd_base.specs.Statuses.{status_of, refusal_status}
use Rattle.cmd_base.specs.declared.outcome.File.{File}
use Rattle.cmd_base.specs.declared.outcome.Outcome.TheVariants as outcome
use Rattle.cmd_base.specs.declared.status.Status.{Status}
use Rattle.cmd_base.specs.declared.status.Status.TheVariants as status
use Rattle.tlut_cli.proofs.ReplayLemmas.{replays_run}

-- How a command as it was read ends is how the one that it is does.
pub ended_as : {before after : World} {o : Outcome} {this command : CommandRead} → command ≡ this → HasEnded (command_seen this) before after o → HasEnded (command_seen command) before after o
ended_as {before} {after} {o} is ended = subst (λ c. HasEnded (command_seen c) before after o) (sym is) ended

-- words are of one command, whose walk has its laws
pub one_command : (rule : Rule) (ports : ℕ) (words : List (List ℕ)) (a b : Subcommand) → command_of rule ports words ≡ Some a → command_of rule ports words ≡ Some b → a ≡ b
one_command rule ports words a b x y = same_Some a b (sym x ∙ y)

pub no_laws : (rule : Rule) (ports : ℕ) (words : List (List ℕ)) → None ≡ command_of rule ports words → HasWalkLaws rule ports words
no_laws rule ports words none command is = absurd (none-some command (none ∙ is))

pub its_laws : (rule : Rule) (ports : ℕ) (words : List (List ℕ)) (this : Subcommand) → Some this ≡ command_of rule ports words → HasLaws (walk_of this) → HasWalkLaws rule ports words
its_laws rule ports words this is laws command other = subst (λ c. HasLaws (walk_of c)) (same_Some this command (is ∙ other)) laws

refusal_not_memory : (b : Bool) → status.Memory ≡ cond b status.Limit status.Refused → ⊥
refusal_not_memory true e = cc
refusal_not_memory false e = cc

true≢false : true ≡ false → ⊥
true≢false e = cc

module _ (rule : Rule) (words : List (List ℕ)) (before after : World) where
  -- each of the files of the words' command says one thing
  abbrev HasSettled : Type 0
  HasSettled = HasCommand rule (length before.ports) words (λ walk. InFiles walk.reading before.shelf.files walk.reading.IsSettled)

  -- what a status tells of the words, of the files and of what is outside
  abbrev pub Tells : Status → Type 0
  Tells status.Done = HasDone rule words before after × HasKeptPorts rule words before after × HasSettled
  Tells status.Usage = command_of rule (length before.ports) words ≡ None
  Tells status.Refused = HasRefusal rule before.shelf.files (length before.ports) words status.Refused
  Tells status.Limit = HasRefusal rule before.shelf.files (length before.ports) words status.Limit
  Tells status.ReadFault = HasFault rule (length before.ports) words before after
  Tells status.WriteFault = HasCutOff rule words before after × HasKeptPorts rule words before after × HasWriteCause rule words before after
  Tells status.PortFault = HasLost rule words before after × HasPortCause rule words before after
  Tells status.Memory = Unit {0}

  refusal_tells : (b : Bool) → HasRefusal rule before.shelf.files (length before.ports) words (cond b status.Limit status.Refused) → Tells (cond b status.Limit status.Refused)
  refusal_tells true h = h
  refusal_tells false h = h

  outcome_tells : (o : Outcome) → IsEnd rule words before after o → Tells (status_of o)
  outcome_tells o (inl u) = subst (λ p. Tells (status_of p)) (sym u.is) u.no_command
  outcome_tells outcome.Done (inr run) = (
    record { command = run.command; is = run.is; holds = run.ends.1 },
    record { command = run.command; is = run.is; holds = run.ends.2 },
    record { command = run.command; is = run.is; holds = λ files has. (run.ends.0.begun files has).settled },
  )
  outcome_tells outcome.Usage (inr run) = absurd run.ends
  outcome_tells (outcome.TooLong f) (inr run) = record { command = run.command; is = run.is; holds = λ files has. record { file = f; refusal = too_long; refused = run.ends.0.is files has; status_is = refl } }
  outcome_tells (outcome.Refused f r) (inr run) =
      refusal_tells (is_limit r) (record { command = run.command; is = run.is; holds = λ files has. record { file = f; refusal = r; refused = run.ends.0.is files has; status_is = refl } })
  outcome_tells (outcome.ReadFault f) (inr run) = record { command = run.command; is = run.is; holds = record { file = f; is_read = run.ends.0.is_read; fault = run.ends.0.fault; reached = run.ends.0.reached } }
  outcome_tells outcome.WriteFault (inr run) = (
    record { command = run.command; is = run.is; holds = run.ends.1 },
    record { command = run.command; is = run.is; holds = run.ends.2 },
    record { command = run.command; is = run.is; holds = run.ends.3 },
  )
  outcome_tells outcome.PortFault (inr run) = (record { command = run.command; is = run.is; holds = run.ends.1 }, record { command = run.command; is = run.is; holds = run.ends.2 })
  outcome_tells outcome.Memory (inr run) = tt

  pub tells : (o : Outcome) (s t : Status) → s ≡ status_of o → IsEnd rule words before after o → s ≡ t → Tells t
  tells o s t e end h = subst (λ x. Tells x) (sym e ∙ h) (outcome_tells o end)

  -- a refusal or a limit is the verdict's
  pub refusal_is : (o : Outcome) (s : Status) → s ≡ status_of o → IsEnd rule words before after o → (s ≡ status.Refused) ⊎ (s ≡ status.Limit) → HasRefusal rule before.shelf.files (length before.ports) words s
  refusal_is o s e end (inl h) = subst (λ x. HasRefusal rule before.shelf.files (length before.ports) words x) (sym h) (tells o s status.Refused e end h)
  refusal_is o s e end (inr h) = subst (λ x. HasRefusal rule before.shelf.files (length before.ports) words x) (sym h) (tells o s status.Limit e end h)

  -- at the end of a job or at its cut-off no port is lost
  pub kept_ports : (o : Outcome) (s : Status) → s ≡ status_of o → IsEnd rule words before after o → (s ≡ status.Done) ⊎ (s ≡ status.WriteFault) → HasKeptPorts rule words before after
  kept_ports o s e end (inl h) = (tells o s status.Done e end h).1
  kept_ports o s e end (inr h) = (tells o s status.WriteFault e end h).1

  -- what ends the words' command, by one that they are
  ends_as : (o : Outcome) (this command : Subcommand) → command_of rule (length before.ports) words ≡ Some this → command_of rule (length before.ports) words ≡ Some command → WalkEnds (walk_of this) before after o → WalkEnds (walk_of command) before after o
  ends_as o this command is other ends = subst (λ c. WalkEnds (walk_of c) before after o) (one_command rule (length before.ports) words this command is other) ends

  module _ (command : Subcommand) (laws : HasLaws (walk_of command)) where
    -- An accepted job is done, but for want of memory, where there was no fault.
    accepted_done : (o : Outcome) (s : Status) → s ≡ status_of o → WalkEnds (walk_of command) before after o → (files : Files) → (walk_of command).reading.HasFiles before.shelf.files files → (walk_of command).IsAccepted files
        → HasNoFault (walk_of command) before after → (s ≡ status.Done) ⊎ (s ≡ status.Memory)
    accepted_done outcome.Done s e ends files has accepted faultless = inl e
    accepted_done outcome.Memory s e ends files has accepted faultless = inr e
    accepted_done outcome.Usage s e ends files has accepted faultless = absurd ends
    accepted_done outcome.PortFault s e ends files has accepted faultless = absurd (faultless.ports ends.2)
    accepted_done outcome.WriteFault s e ends files has accepted faultless = absurd (faultless.write ends.3)
    accepted_done (outcome.ReadFault f) s e ends files has accepted faultless = absurd (faultless.read ends.0.fault.rose)
    accepted_done (outcome.TooLong f) s e ends files has accepted faultless = absurd (laws.not_both files (ends.0.settled files has) accepted f too_long (ends.0.is files has))
    accepted_done (outcome.Refused f r) s e ends files has accepted faultless = absurd (laws.not_both files (ends.0.settled files has) accepted f r (ends.0.is files has))

    -- A refusal is answered, but for want of memory, where no read fails.
    refused_answered : (o : Outcome) (s : Status) → s ≡ status_of o → WalkEnds (walk_of command) before after o → (files : Files) → (walk_of command).reading.HasFiles before.shelf.files files → (f : File) (r : RefusalValue)
        → (walk_of command).reading.IsRefused files f r → ¬ (Rose before.shelf.read_faults after.shelf.read_faults) → (s ≡ refusal_status r) ⊎ (s ≡ status.Memory)
    refused_answered outcome.Usage s e ends files has f r refused read = absurd ends
    refused_answered outcome.Memory s e ends files has f r refused read = inr e
    refused_answered (outcome.ReadFault g) s e ends files has f r refused read = absurd (read ends.0.fault.rose)
    refused_answered (outcome.Refused g q) s e ends files has f r refused read = inl (e ∙ ap (λ x. refusal_status x) (laws.one_refusal files (ends.0.settled files has) g f q r (ends.0.is files has) refused))
    refused_answered (outcome.TooLong g) s e ends files has f r refused read = inl (e ∙ ap (λ x. refusal_status x) (laws.one_refusal files (ends.0.settled files has) g f too_long r (ends.0.is files has) refused))
    refused_answered o s e ends files has f r refused read = absurd (laws.not_both files (ends.0.begun files has).settled (ends.0.begun files has).accepted f r refused)

    -- Where there is no memory, nothing was begun.
    no_memory : (o : Outcome) → status.Memory ≡ status_of o → WalkEnds (walk_of command) before after o → HasBegun (walk_of command) before after → ⊥
    no_memory outcome.Memory e ends (inl grown) = grown (ap (λ (w : Outside). w.bytes) ends.0)
    no_memory outcome.Memory e ends (inr begun) = true≢false (sym begun.1 ∙ ends.1 begun.0)
    no_memory outcome.Usage e ends begun = ends
    no_memory (outcome.Refused f r) e ends begun = refusal_not_memory (is_limit r) e
    no_memory o e ends begun = cc

    -- So an accepted job is done where something was begun outside.
    begun_done : (o : Outcome) (s : Status) → s ≡ status_of o → WalkEnds (walk_of command) before after o → (files : Files) → (walk_of command).reading.HasFiles before.shelf.files files → (walk_of command).IsAccepted files
        → HasNoFault (walk_of command) before after → HasBegun (walk_of command) before after → s ≡ status.Done
    begun_done o s e ends files has accepted faultless begun = elim (accepted_done o s e ends files has accepted faultless) [
      | inl done ↦ done
      | inr memory ↦ absurd (no_memory o (sym memory ∙ e) ends begun)
    ]

  -- the same of a call
  module _ (laws : HasWalkLaws rule (length before.ports) words) (o : Outcome) (s : Status) (e : s ≡ status_of o) where
    pub completes : IsEnd rule words before after o → IsComplete rule words before after s
    completes (inl u) command is = absurd (none-some command (sym u.no_command ∙ is))
    completes (inr run) command is = accepted_done command (laws command is) o s e (ends_as o run.command command run.is is run.ends)

    pub finishes : IsEnd rule words before after o → IsFinished rule words before after s
    finishes (inl u) command is = absurd (none-some command (sym u.no_command ∙ is))
    finishes (inr run) command is = begun_done command (laws command is) o s e (ends_as o run.command command run.is is run.ends)

    pub answers : IsEnd rule words before after o → IsAnswered rule (length before.ports) words before after s
    answers (inl u) command is = absurd (none-some command (sym u.no_command ∙ is))
    answers (inr run) command is = refused_answered command (laws command is) o s e (ends_as o run.command command run.is is run.ends)

  -- A job that is done shows what its walk says.
  pub shown : HasWalkLaws rule (length before.ports) words → HasDone rule words before after → (command : Subcommand) → command_of rule (length before.ports) words ≡ Some command
      → InFiles (walk_of command).reading before.shelf.files (λ files. (walk_of command).Shows files (outside_of before) (outside_of after))
  shown laws done command is files told =
      let same : done.command ≡ command = one_command rule (length before.ports) words done.command command done.is is in
      (laws command is).shows files (outside_of before) (outside_of after) (subst (λ c. InFiles (walk_of c).reading before.shelf.files (λ fs. (walk_of c).IsDone fs (outside_of before) (outside_of after))) same done.holds files told)

  -- A job of `map` that is done wrote what `bits` plays as `run` plays its tables.
  pub replayed : (o : Outcome) (s : Status) → s ≡ status_of o → IsEnd rule words before after o → s ≡ status.Done → (written : MapWords) → command_of rule (length before.ports) words ≡ Some (Map written)
      → Told before.shelf.files (λ files. ReplaysRun files written (outside_of before) (outside_of after))
  replayed o s e end h written is files told =
      let all = tells o s status.Done e end h in
      let done_as : all.0.command ≡ Map written = one_command rule (length before.ports) words all.0.command (Map written) all.0.is is in
      let settled_as : all.2.command ≡ Map written = one_command rule (length before.ports) words all.2.command (Map written) all.2.is is in
      replays_run files written (outside_of before) (outside_of after) (subst (λ c. InFiles (walk_of c).reading before.shelf.files (λ fs. (walk_of c).IsDone fs (outside_of before) (outside_of after))) done_as all.0.holds files told)
      (subst (λ c. InFiles (walk_of c).reading before.shelf.files (walk_of c).reading.IsSettled) settled_as all.2.holds files told)

  -- So the status has its meaning, by the number of ports that were passed in.
  pub meaning : (ports : ℕ) → length before.ports ≡ ports → HasWalkLaws rule ports words → (o : Outcome) (s : Status) → s ≡ status_of o → IsEnd rule words before after o → HasMeaning rule ports words before after s
  meaning ports count laws o s e end = subst (λ n. HasWalkLaws rule n words → HasMeaning rule n words before after s) count (λ own. record {
    refusal = refusal_is o s e end;
    refused = answers own o s e end;
    done = λ h. (tells o s status.Done e end h).0;
    part = λ h. (tells o s status.WriteFault e end h).0;
    lost = λ h. (tells o s status.PortFault e end h).0;
    headline = λ h run is. shown own (tells o s status.Done e end h).0 (Run run) is;
    paced = λ h paced is. shown own (tells o s status.Done e end h).0 (Pace paced) is;
    replays = replayed o s e end;
    complete = completes own o s e end;
    finished = finishes own o s e end;
    read_fault = tells o s status.ReadFault e end;
    write_fault = λ h. (tells o s status.WriteFault e end h).2;
    port_fault = λ h. (tells o s status.PortFault e end h).1;
    boxes = kept_ports o s e end;
  }) laws
