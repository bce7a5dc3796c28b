-- Worked examples: four bits in two regions, and a send whose second port fails, with a spare and without one.
use Rattle.port_bank.proofs.Common.{◌≡◌, ℕ, Bool, true, false, List, [], ◌∷◌, None, Some, Ok, zero, suc, ◌/◌, ◌+◌, ◌-◌, ◌^◌, ◌<◌, refl, ap, subst, ◌∙◌, arith, inl, inr, slice_get, none-some, same_Some, PortSeen, Accepts, Fails, Write, width, region_of, region, outside, BankSeen, all_ports, Called, Replaced, Sends, start, accepted, replaced, Loses, Plays, with_port, image, Holds, AreAscending, AreBitsOf, written, MovesWithCause, KeepsPlaces, LosesPlace, in_parts, from_region}
use Rattle.port_bank.specs.Steps.{MovesToEnd, TakesPlace}
use Rattle.port_bank.proofs.SendLemmas.{keeps_places, loses_place, moves_with_cause}

abbrev pub bit : ℕ → Bool → Write
bit address value = record { address = address; bit = value }

-- the bits 0 0 1 1, and then with 1=1 and 2=0 taken
abbrev pub bits_0011 : List Bool
bits_0011 = false ∷ false ∷ true ∷ true ∷ []

abbrev pub bits_0101 : List Bool
bits_0101 = false ∷ true ∷ false ∷ true ∷ []

abbrev pub event : List Write
event = bit 1 true ∷ bit 2 false ∷ []

taken : written bits_0011 event ≡ bits_0101
taken = refl

ascending : AreAscending event
ascending = (λ n h. elim h [ inl e ↦ omega (arith, e) | inr none ↦ absurd none ], ((λ n h. absurd h), tt))

bits_of_event : AreBitsOf bits_0101 event
bits_of_event = record { bits = λ write h. elim h [ inl e ↦ rw e refl | inr rest ↦ elim rest [ inl e ↦ rw e refl | inr none ↦ absurd none ] ] }

-- Two ports have regions of two addresses, three have two and an empty last one, and five ports have one address each of two bits.
two_each : width 2 4 ≡ 2
two_each = refl

rounded_up : width 3 4 ≡ 2
rounded_up = refl

more_ports_than_bits : width 5 2 ≡ 1
more_ports_than_bits = refl

first_region : region 2 bits_0101 0 ≡ bit 0 false ∷ bit 1 true ∷ []
first_region = refl

second_region : region 2 bits_0101 1 ≡ bit 2 false ∷ bit 3 true ∷ []
second_region = refl

no_region : region 2 bits_0101 2 ≡ []
no_region = refl

at_the_border : region_of 2 (bit 2 false) ≡ 1
at_the_border = refl

others : outside 2 0 event ≡ bit 2 false ∷ []
others = refl

from_the_second : from_region 2 1 event ≡ bit 2 false ∷ []
from_the_second = refl

-- the value written last counts, and an address that was not written shows none
last_value : image (bit 1 false ∷ bit 1 true ∷ bit 2 false ∷ []) 1 ≡ Some true
last_value = refl

no_value : image (bit 1 false ∷ bit 1 true ∷ []) 0 ≡ None
no_value = refl

-- a port that tells its log
abbrev pub port : List Write → ℕ → ℕ → PortSeen
port log count faults = record { log = Some log; accepted = count; faults = faults }

abbrev pub the_bank : List PortSeen → List PortSeen → List PortSeen → BankSeen
the_bank serving spares failed = record { serving = serving; spares = spares; rest = []; failed = failed }

-- a list in its four parts
parts : (a b c d e : PortSeen) → in_parts 2 1 1 (a ∷ b ∷ c ∷ d ∷ e ∷ []) ≡ record { serving = a ∷ b ∷ []; spares = c ∷ []; rest = d ∷ []; failed = e ∷ [] }
parts a b c d e = refl

joined : (a b c : PortSeen) → all_ports (the_bank (a ∷ []) (b ∷ []) (c ∷ [])) ≡ a ∷ b ∷ c ∷ []
joined a b c = refl

-- boxes that move: the second of three to the end, and the third to the first place
to_the_end : MovesToEnd {B = ℕ} 1 (5 ∷ 6 ∷ 7 ∷ []) (5 ∷ 7 ∷ 6 ∷ [])
to_the_end = record { port = 6; was = refl; now = refl }

into_place : TakesPlace {B = ℕ} 2 0 (5 ∷ 6 ∷ 7 ∷ []) (7 ∷ 6 ∷ 5 ∷ [])
into_place = record { spare = 7; port = 5; was = refl; there = refl; now = refl }

-- after a load of 0 0 1 1, with a spare
abbrev pub first_loaded : PortSeen
first_loaded = port (bit 0 false ∷ bit 1 false ∷ []) 2 0

abbrev pub first_after : PortSeen
first_after = port (bit 0 false ∷ bit 1 false ∷ bit 1 true ∷ []) 3 0

abbrev pub second_loaded : PortSeen
second_loaded = port (bit 2 true ∷ bit 3 true ∷ []) 2 0

abbrev pub second_failed : PortSeen
second_failed = port (bit 2 true ∷ bit 3 true ∷ []) 2 1

abbrev pub loaded : List PortSeen → BankSeen
loaded spares = the_bank (first_loaded ∷ second_loaded ∷ []) spares []

-- the first write was accepted, and the second port failed
abbrev pub half_sent : List PortSeen → BankSeen
half_sent spares = the_bank (first_after ∷ second_loaded ∷ []) spares []

abbrev pub broken : List PortSeen → BankSeen
broken spares = the_bank (first_after ∷ second_failed ∷ []) spares []

first_call : (spares : List PortSeen) → Called 0 (bit 1 true) true (loaded spares) (half_sent spares)
first_call spares = record { before = first_loaded; after = first_after; was = refl; answered = record { log = refl; accepted = refl; faults = refl }; now = refl }

second_call : (spares : List PortSeen) → Called 1 (bit 2 false) false (half_sent spares) (broken spares)
second_call spares = record { before = second_loaded; after = second_failed; was = refl; answered = record { log = refl; accepted = refl; faults = refl }; now = refl }

-- a port that failed and is called again isn't as after one call, whatever the second call answers
called_again : (old mid new : PortSeen) (write : Write) → old.faults < 2 ^ 64 - 1 → Fails old mid → Accepts mid write new → Accepts old write new → ⊥
called_again old mid new write low first second one = omega (arith, low, first.faults, second.faults, one.faults)

failed_again : (old mid new : PortSeen) → old.faults + 1 < 2 ^ 64 - 1 → Fails old mid → Fails mid new → Fails old new → ⊥
failed_again old mid new low first second one = omega (arith, low, first.faults, second.faults, one.faults)

-- the spare in the second port's place, with each bit of its region
abbrev pub mended : List Write → ℕ → BankSeen
mended log count = the_bank (first_after ∷ port log count 0 ∷ []) [] (second_failed ∷ [])

spare_comes : Replaced 1 (broken (port [] 0 0 ∷ [])) (mended [] 0)
spare_comes = record { port = second_failed; spare = port [] 0 0; was = refl; first = refl; now = refl }

third_call : Called 1 (bit 2 false) true (mended [] 0) (mended (bit 2 false ∷ []) 1)
third_call = record { before = port [] 0 0; after = port (bit 2 false ∷ []) 1 0; was = refl; answered = record { log = refl; accepted = refl; faults = refl }; now = refl }

last_call : Called 1 (bit 3 true) true (mended (bit 2 false ∷ []) 1) (mended (bit 2 false ∷ bit 3 true ∷ []) 2)
last_call = record { before = port (bit 2 false ∷ []) 1 0; after = port (bit 2 false ∷ bit 3 true ∷ []) 2 0; was = refl; answered = record { log = refl; accepted = refl; faults = refl }; now = refl }

half_way : (spares : List PortSeen) → Sends 2 bits_0101 event (loaded spares) (true ∷ []) (bit 2 false ∷ []) (half_sent spares)
half_way spares = accepted {answers = []} {write = bit 1 true} {left = bit 2 false ∷ []} start (first_call spares)

-- The answers are Ok, Failed, Ok, Ok: the spare is written its whole region.
pub sent : Sends 2 bits_0101 event (loaded (port [] 0 0 ∷ [])) (true ∷ false ∷ true ∷ true ∷ []) [] (mended (bit 2 false ∷ bit 3 true ∷ []) 2)
sent =
    let failed : Sends 2 bits_0101 event (loaded (port [] 0 0 ∷ [])) (true ∷ false ∷ []) (bit 2 false ∷ bit 3 true ∷ []) (mended [] 0) =
    replaced {answers = true ∷ []} {write = bit 2 false} {left = []} (half_way (port [] 0 0 ∷ [])) (second_call (port [] 0 0 ∷ [])) spare_comes in
    let third : Sends 2 bits_0101 event (loaded (port [] 0 0 ∷ [])) (true ∷ false ∷ true ∷ []) (bit 3 true ∷ []) (mended (bit 2 false ∷ []) 1) =
    accepted {answers = true ∷ false ∷ []} {write = bit 2 false} {left = bit 3 true ∷ []} failed third_call in
    accepted {answers = true ∷ false ∷ true ∷ []} {write = bit 3 true} {left = []} third last_call

played : Plays bits_0101 event (loaded (port [] 0 0 ∷ [])) (mended (bit 2 false ∷ bit 3 true ∷ []) 2) (Ok tt)
played = record { answers = true ∷ false ∷ true ∷ true ∷ []; sends = sent }

-- every region has a port again, and the port that moved has its cause
places : KeepsPlaces (loaded (port [] 0 0 ∷ [])) (mended (bit 2 false ∷ bit 3 true ∷ []) 2)
places = keeps_places sent

cause : MovesWithCause (loaded (port [] 0 0 ∷ [])) (mended (bit 2 false ∷ bit 3 true ∷ []) 2)
cause = moves_with_cause sent

-- without a spare the second region loses its port
pub lost : Loses 2 bits_0101 event (loaded []) 1 (the_bank (first_after ∷ []) [] (second_failed ∷ []))
lost = record {
  answers = true ∷ [];
  write = bit 2 false;
  left = [];
  mid = half_sent [];
  next = broken [];
  sends = half_way [];
  place = refl;
  failed = second_call [];
  retired = record { port = second_failed; was = refl; none_left = refl; now = refl };
}

lost_place : LosesPlace (loaded []) (the_bank (first_after ∷ []) [] (second_failed ∷ []))
lost_place = loses_place lost

-- where no port serves, no write is sent
nothing_sent : with_port [] event ≡ []
nothing_sent = refl

value_at : (address : ℕ) (value : Bool) → slice_get (false ∷ true ∷ []) address ≡ Some value → image (bit 0 false ∷ bit 1 false ∷ bit 1 true ∷ []) address ≡ Some value
value_at zero value e = e
value_at (suc zero) value e = e
value_at (suc (suc n)) value e = absurd (none-some value e)

shown : (i address : ℕ) (p : PortSeen) (log : List Write) (value : Bool) → slice_get (first_after ∷ []) i ≡ Some p → p.log ≡ Some log →
    address / 2 ≡ i → slice_get (false ∷ true ∷ []) address ≡ Some value → image log address ≡ Some value
shown (suc i) address p log value here told place there = absurd (none-some p here)
shown zero address p log value here told place there =
    let same : first_after ≡ p = same_Some first_after p here in
    let its_log : (bit 0 false ∷ bit 1 false ∷ bit 1 true ∷ []) ≡ log = same_Some _ log (ap (λ (q : PortSeen). q.log) same ∙ told) in
    subst (λ l. image l address ≡ Some value) its_log (value_at address value there)

-- a bank of one port that was sent 1=1 after a load of 0 0 holds 0 1
pub held : Holds (false ∷ true ∷ []) (the_bank (first_after ∷ []) [] [])
held = record { shows = shown }
