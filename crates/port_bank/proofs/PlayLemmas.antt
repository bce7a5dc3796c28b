-- What a send that was played means: the places, the ports that moved, and the configuration that the bank holds.
use Rattle.port_bank.proofs.Common.{◌≡◌, ℕ, ◌<◌, Bool, List, [], ◌∷◌, length, Result, Ok, Err, OnOk, OnErr, refl, ap, sym, arith, subst, slice_get_within, none-some, MatchResult-weaker, PortSeen, Write, width, writes_from, BankSeen, bank_width, Sends, start, accepted, replaced, Reaches, Loses, Plays, with_port, Holds, AreBitsOf, written, IsLeft, MovesWithCause, KeepsPlaces, LosesPlace, rules}
use Rattle.tl_io.proofs.BitLemmas.{length-written}
use Rattle.port_bank.specs.declared.bank.PortFault.{PortFault}
use Rattle.port_bank.proofs.RegionLemmas.{wide, all_bits_are, all_addresses}
use Rattle.port_bank.proofs.HoldLemmas.{Pends, pends, pends_at_first, holds_at_end}
use Rattle.port_bank.proofs.SendLemmas.{sends_become, loses_short, keeps_places, loses_place, moves_with_cause, loses_with_cause}

pub plays_places : (config : List Bool) (writes : List Write) (old new : BankSeen) (result : Result Unit PortFault) → Plays config writes old new result → OnOk result (KeepsPlaces old new)
plays_places config writes old new result p = MatchResult-weaker result p (λ _ r. keeps_places r.sends) (λ _ _. tt)

pub plays_lost : (config : List Bool) (writes : List Write) (old new : BankSeen) (result : Result Unit PortFault) → Plays config writes old new result → OnErr result (LosesPlace old new)
plays_lost config writes old new result p = MatchResult-weaker result p (λ _ _. tt) (λ _ l. loses_place l)

pub plays_left : (config : List Bool) (writes : List Write) (old new : BankSeen) (result : Result Unit PortFault) → Plays config writes old new result → IsLeft old new result
plays_left config writes old new result p = MatchResult-weaker result p (λ _ r. sends_become r.sends) (λ _ l. loses_short l)

pub plays_cause : (config : List Bool) (writes : List Write) (old new : BankSeen) (result : Result Unit PortFault) → Plays config writes old new result → MovesWithCause old new
plays_cause config writes old new (Ok v) p = moves_with_cause p.sends
plays_cause config writes old new (Err x) p = loses_with_cause p

with_some : (serving : List PortSeen) (writes : List Write) → 0 < length serving → with_port serving writes ≡ writes
with_some [] writes h = absurd (omega (arith, h))
with_some (x ∷ xs) writes h = refl

-- a width that is told of a bank's own ports
in_bank : (Q : ℕ → List Write → Type 0) (w s bits : ℕ) (serving : List PortSeen) (writes : List Write) → w ≡ width s bits → length serving ≡ s → 0 < s → Q w writes → Q (width (length serving) bits) (with_port serving writes)
in_bank Q w s bits serving writes e l some q = grind (arith, with_some)

pub sent_in_bank : (w s : ℕ) (config : List Bool) (writes : List Write) (old new : BankSeen) → w ≡ width s (length config) → length old.serving ≡ s → 0 < s → Reaches w config writes old [] new →
    Reaches (width (length old.serving) (length config)) config (with_port old.serving writes) old [] new
sent_in_bank w s config writes old new e l some r = in_bank (λ n ws. Reaches n config ws old [] new) w s (length config) old.serving writes e l some r

pub lost_in_bank : (w s : ℕ) (config : List Bool) (writes : List Write) (old new : BankSeen) (i : ℕ) → w ≡ width s (length config) → length old.serving ≡ s → 0 < s → Loses w config writes old i new →
    Loses (width (length old.serving) (length config)) config (with_port old.serving writes) old i new
lost_in_bank w s config writes old new i e l some r = in_bank (λ n ws. Loses n config ws old i new) w s (length config) old.serving writes e l some r

-- where no port serves, nothing is to be written
pub no_port : (w : ℕ) (config : List Bool) (writes : List Write) (bank : BankSeen) → bank.serving ≡ [] → Reaches w config (with_port bank.serving writes) bank [] bank
no_port w config writes bank e = subst (λ l. Reaches w config (with_port l writes) bank [] bank) (sym e) (record { answers = []; sends = start })

pends_by : (serving : List PortSeen) (w : ℕ) (config : List Bool) (writes : List Write) (bank : BankSeen) → bank.serving ≡ serving → Pends w config writes bank → Pends w config (with_port serving writes) bank
pends_by [] w config writes bank e p = search (rules, none-some)
pends_by (x ∷ xs) w config writes bank e p = p

-- the writes that have a port are among the writes
pends_with_port : (w : ℕ) (config : List Bool) (writes : List Write) (bank : BankSeen) → Pends w config writes bank → Pends w config (with_port bank.serving writes) bank
pends_with_port w config writes bank p = pends_by bank.serving w config writes bank refl p

-- where each address of a region shows its bit or has a write, the bank holds the configuration at the end
holds_sent : (config : List Bool) (writes : List Write) (old new : BankSeen) → Pends (bank_width old config) config writes old →
    Reaches (bank_width old config) config (with_port old.serving writes) old [] new → Holds config new
holds_sent config writes old new p r = grind (arith, wide, slice_get_within, keeps_places, holds_at_end, pends, pends_with_port)

pub load_holds : (config : List Bool) (old new : BankSeen) (result : Result Unit PortFault) → Plays config (writes_from 0 config) old new result → OnOk result (Holds config new)
load_holds config old new result q = grind (arith, holds_sent, all_addresses, all_bits_are)

pub send_keeps : (config : List Bool) (writes : List Write) (old new : BankSeen) (result : Result Unit PortFault) → AreBitsOf config writes → Plays config writes old new result →
    OnOk result ((before : List Bool) → Holds before old → config ≡ written before writes → Holds config new)
send_keeps config writes old new result b q = grind (arith, length-written, holds_sent, pends_at_first)

nil-cons : {write : Write} {left : List Write} → (write ∷ left) ≡ [] → ⊥
nil-cons {write} {left} e = let l = ap length e in omega (arith, l)

-- where no write is left to begin with, none is made
none_sent : {w : ℕ} {config : List Bool} {writes : List Write} {old : BankSeen} {answers : List Bool} {left : List Write} {new : BankSeen} →
    Sends w config writes old answers left new → writes ≡ [] → (left ≡ []) × (new ≡ old)
none_sent start e = (e, refl)
none_sent (accepted s c) e = absurd (nil-cons (none_sent s e).0)
none_sent (replaced s c r) e = absurd (nil-cons (none_sent s e).0)

-- without serving ports a bank stays as it is
pub plays_none : (config : List Bool) (writes : List Write) (old new : BankSeen) (result : Result Unit PortFault) → Plays config writes old new result → old.serving ≡ [] → new ≡ old
plays_none config writes old new (Ok v) p e = (none_sent p.sends (ap (λ l. with_port l writes) e)).1
plays_none config writes old new (Err x) p e = absurd (nil-cons (none_sent p.sends (ap (λ l. with_port l writes) e)).0)
