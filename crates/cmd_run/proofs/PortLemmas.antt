-- The ports after a job: those that serve and stand by were called, and spares took the places of those that failed.
use Rattle.cmd_run.proofs.Common.{◌≡◌, ℕ, ◌+◌, ◌≤◌, List, length, take, drop, Option, Result, Ok, Err, sym, subst, ◌∙◌, arith, inl, inr, refl, length-drop, length-take-le, PortSeen, EventValue, BankSeen, all_ports, StepErr, WriteFault, PortFault, MachineValue, PortCounts, HasCome, bank_of, HaveFailed, RunEnd, IsServed, none, more, Stage, AreSteps}
use Rattle.port_bank.specs.Moves.{Becomes, start, accepted, replaced, FallsShort, LosesPlace}

-- calls one after the other
becomes_on : {old mid new : BankSeen} → Becomes old mid → Becomes mid new → Becomes old new
becomes_on b start = b
becomes_on b (accepted i write c called) = accepted i write (becomes_on b c) called
becomes_on b (replaced i write c called taken) = replaced i write (becomes_on b c) called taken

-- Ports behind some sends, where a spare is gone for each that failed.
record Comes (old new : BankSeen) : Type 0 where
  becomes : Becomes old new
  used : length new.spares + length new.failed ≡ length old.spares + length old.failed

comes_here : (bank : BankSeen) → Comes bank bank
comes_here bank = record { becomes = start; used = refl }

comes_on : (old mid new : BankSeen) → Comes old mid → Comes mid new → Comes old new
comes_on old mid new c d = record { becomes = becomes_on c.becomes d.becomes; used = d.used ∙ c.used }

-- of events, and of the full load
steps_come : {old : Stage} {events : List EventValue} {lines : List (List ℕ)} {new : Stage} → AreSteps old events lines new → Comes old.bank new.bank
steps_come {old = old} none = comes_here old.bank
steps_come {old = old} {new = new} (more event line mid step rest) = comes_on old.bank mid.bank new.bank (record { becomes = step.0.becomes; used = step.0.places.used }) (steps_come rest)

has_comes : {m : MachineValue} {old : BankSeen} {events : List EventValue} {lines : List (List ℕ)} {stage : Stage} → HasCome m old events lines stage → Comes old stage.bank
has_comes {m = m} {old = old} {stage = stage} come = comes_on old come.loaded stage.bank (record { becomes = come.load.becomes; used = come.load.places.used }) (steps_come come.steps)

-- a region lost its port behind some sends
have_failed : (counts : PortCounts) (old new : List PortSeen) (mid bank : BankSeen) → counts.serving + counts.spares ≤ length old → Comes (bank_of counts old) mid → FallsShort mid bank → LosesPlace mid bank → new ≡ all_ports bank
    → HaveFailed counts old new
have_failed counts old new mid bank within comes short place are =
    let behind = length-drop counts.serving old in
    let spares : length (take counts.spares (drop counts.serving old)) ≡ counts.spares = length-take-le counts.spares (drop counts.serving old) (omega (arith, behind, within)) in
    record {
      bank = bank;
      short = record { place = short.place; write = short.write; mid = short.mid; next = short.next; becomes = becomes_on comes.becomes short.becomes; failed = short.failed; retired = short.retired };
      many = omega (arith, place.failed, comes.used, spares);
      are = are;
    }

-- at a fault of the ports all the spares failed and one port more
pub run_failed : (counts : PortCounts) (m : MachineValue) (events : List EventValue) (before after : Option (List ℕ)) (old new : List PortSeen) (bank : BankSeen) → counts.serving + counts.spares ≤ length old →
    RunEnd m events (bank_of counts old) before after bank (Err PortFault) → new ≡ all_ports bank → HaveFailed counts old new
run_failed counts m events before after old new bank within (inl lost) are = have_failed counts old new (bank_of counts old) bank within (comes_here (bank_of counts old)) lost.short lost.place are
run_failed counts m events before after old new bank within (inr lost) are = have_failed counts old new lost.mid.bank bank within (has_comes lost.put.come) lost.short lost.place are

-- and at any other end no region lost its port
pub run_served : (counts : PortCounts) (m : MachineValue) (events : List EventValue) (before after : Option (List ℕ)) (old new : List PortSeen) (bank : BankSeen) (result : Result Unit StepErr) → RunEnd m events (bank_of counts old) before after bank result
    → new ≡ all_ports bank → IsServed counts old new result
run_served counts m events before after old new bank (Ok done) end are = record { bank = bank; becomes = subst (λ b. Becomes (bank_of counts old) b) (sym end.bank) (has_comes end.put.come).becomes; are = are }
run_served counts m events before after old new bank (Err WriteFault) (inl cut) are = record { bank = bank; becomes = subst (λ b. Becomes (bank_of counts old) b) (sym cut.bank) start; are = are }
run_served counts m events before after old new bank (Err WriteFault) (inr end) are = record {
  bank = bank;
  becomes = subst (λ b. Becomes (bank_of counts old) b) (sym end.bank) (becomes_on (has_comes end.cut.put.come).becomes end.cut.step.0.becomes);
  are = are;
}
run_served counts m events before after old new bank (Err PortFault) lost are = tt
