-- The writes of a region, the regions of addresses, and the image of a log that has one more write at its end.
use Rattle.port_bank.proofs.Common.{◌≡◌, ℕ, zero, suc, ◌+◌, ◌*◌, ◌/◌, ◌<◌, ◌≤◌, Bool, List, [], ◌∷◌, length, take, drop, map, Some, refl, ap, sym, ◌∙◌, arith, subst, inl, inr, slice_get, length-take, length-drop, none-some, slice_get_within, In, Write, width, region_of, region, writes_from, address_of, AreBitsOf, rules, ◌++◌, Option, None, eqb-true, eq-eqb, both_ways, same_Some, extended, first_of, image}
use Rattle.std.proofs.lemmas.Nat.{div-add-mod', div-mul-add, mod_below, div_below, le-div}
use Rattle.std.proofs.Math.Nat.{mul_comm}
use Rattle.std.proofs.lemmas.Grind.{div_ceil_times}

none_at : {X : Type 0} (i k : ℕ) → slice_get {X = X} [] i ≡ slice_get {X = X} [] k
none_at i k = refl

-- the element at a place of what is left, and of the first ones
pub get_drop : {X : Type 0} (n k : ℕ) (xs : List X) → slice_get (drop n xs) k ≡ slice_get xs (n + k)
get_drop zero k xs = ap (slice_get xs) (let e : k ≡ 0 + k = omega arith in e)
get_drop (suc n) k [] = ap (slice_get []) (let e : k ≡ k = refl in e) ∙ none_at k (suc n + k)
get_drop (suc n) k (x ∷ xs) = get_drop n k xs ∙ ap (slice_get (x ∷ xs)) (let e : suc (n + k) ≡ suc n + k = omega arith in e)

pub get_take : {X : Type 0} (n k : ℕ) (xs : List X) (x : X) → slice_get (take n xs) k ≡ Some x → slice_get xs k ≡ Some x
get_take (suc n) zero (y ∷ xs) x e = e
get_take (suc n) (suc k) (y ∷ xs) x e = get_take n k xs x e
get_take o k xs x e = absurd (none-some x e)

-- each address from the first one on has its write
pub address_there : (bits : List Bool) (s k : ℕ) → k < length bits → In (map address_of (writes_from s bits)) (s + k)
address_there [] s k h = absurd (omega (arith, h))
address_there (b ∷ bs) s zero h = inl (omega arith)
address_there (b ∷ bs) s (suc k) h = grind (arith, address_there bs (s + 1) k (omega (arith, h)))

-- each of the writes has the bit of its address
pub bit_there : (bits config : List Bool) (s : ℕ) → ((k : ℕ) (bit : Bool) → slice_get bits k ≡ Some bit → slice_get config (s + k) ≡ Some bit) →
    (write : Write) → In (writes_from s bits) write → slice_get config write.address ≡ Some write.bit
bit_there [] config s h write i = absurd i
bit_there (b ∷ bs) config s h write (inl e) =
    subst (λ w. slice_get config w.address ≡ Some w.bit) (sym e) (ap (slice_get config) (let z : s ≡ s + 0 = omega arith in z) ∙ h 0 b refl)
bit_there (b ∷ bs) config s h write (inr i) = grind (arith, bit_there bs config (s + 1) (λ k bit e. ap (slice_get config) (let z : (s + 1) + k ≡ s + suc k = omega arith in z) ∙ h (suc k) bit e) write i)

pub region_bits_are : (w i : ℕ) (config : List Bool) → AreBitsOf config (region w config i)
region_bits_are w i config = search (rules, bit_there, get_drop, get_take)

pub all_bits_are : (config : List Bool) → AreBitsOf config (writes_from 0 config)
all_bits_are config = record { bits = bit_there config config 0 (λ k bit e. ap (slice_get config) (let z : 0 + k ≡ k = omega arith in z) ∙ e) }

pub all_addresses : (config : List Bool) (address : ℕ) (bit : Bool) → slice_get config address ≡ Some bit → In (map address_of (writes_from 0 config)) address
all_addresses config address bit e =
    subst (λ a. In (map address_of (writes_from 0 config)) a) (let z : 0 + address ≡ address = omega arith in z) (address_there config 0 address (slice_get_within config address bit e))

-- an address stands in its region
pub address_in_region : (w i : ℕ) (config : List Bool) (address : ℕ) (bit : Bool) → 0 < w → address / w ≡ i → slice_get config address ≡ Some bit → In (map address_of (region w config i)) address
address_in_region w i config address bit wide e g = grind (arith, mod_below, wide, div-add-mod', slice_get_within, length-take, length-drop, address_there)

-- a write of a region goes to it
pub region_of_place : (w i k : ℕ) (bit : Bool) → k < w → region_of w (record { address = i * w + k; bit = bit }) ≡ i
region_of_place w i k bit h = div-mul-add i w k h

positive : (bits w n : ℕ) → 0 < bits → bits ≤ w * n → 0 < w
positive bits zero n h l = absurd (omega (arith, h, l))
positive bits (suc w) n h l = omega arith

-- where there is an address, regions have addresses, and each has a port
pub wide : (ports bits address : ℕ) → address < bits → 0 < width ports bits
wide ports bits address h = grind (arith, positive, div_ceil_times)

pub has_port : (ports bits address : ℕ) → 0 < ports → address < bits → address / width ports bits < ports
has_port ports bits address some h = grind (arith, div_ceil_times, mul_comm, div_below, wide)

-- a region begins at its first address
pub region_begins : (w address : ℕ) → address / w * w ≤ address
region_begins w address = omega (arith, div-add-mod' address w)

-- regions don't fall where addresses don't
pub regions_rise : (w a b : ℕ) → 0 < w → a ≤ b → a / w ≤ b / w
regions_rise w a b some h = le-div (a / w) b w some (omega (arith, region_begins w a, h))

first_of_assoc : (a b c : Option Bool) → first_of (first_of a b) c ≡ first_of a (first_of b c)
first_of_assoc None b c = refl
first_of_assoc (Some x) b c = refl

first_of_none : (a : Option Bool) → a ≡ first_of a None
first_of_none None = refl
first_of_none (Some x) = refl

pub image-append : (xs ys : List Write) (address : ℕ) → image (xs ++ ys) address ≡ first_of (image ys address) (image xs address)
image-append [] ys address = first_of_none (image ys address)
image-append (x ∷ xs) ys address = grind (arith, first_of_assoc, image-append xs ys address)

-- at the address of the last write, and at another one
pub image_last : (log : List Write) (write : Write) → image (log ++ write ∷ []) write.address ≡ Some write.bit
image_last log write = grind (arith, image-append, both_ways, eq-eqb)

pub image_elsewhere : (log : List Write) (write : Write) (address : ℕ) → (address ≡ write.address → ⊥) → image (log ++ write ∷ []) address ≡ image log address
image_elsewhere log write address other = grind (arith, image-append, eqb-true)

-- what is told with a text behind it was told before
pub told_before : {V : Type 0} (told : Option (List V)) (text log : List V) → extended told text ≡ Some log → (old : List V) × (told ≡ Some old) × (log ≡ old ++ text)
told_before None text log e = absurd (none-some log e)
told_before (Some old) text log e = (old, refl, sym (same_Some (old ++ text) log e))
