-- Writes outside a region, and from a region on; and a list of ports in four parts, after a call of one port and after a port moved.
use Rattle.port_bank.proofs.Common.{◌≡◌, ℕ, zero, suc, ◌+◌, ◌<◌, ◌≤◌, if◌then◌else◌, not, Bool, true, false, List, [], ◌∷◌, ◌++◌, length, take, drop, get_or, map, refl, ap, sym, ◌∙◌, arith, inl, inr, eq-eqb, le-leb, cases_eq, ne_eqb, lt-leb, length-take, In, In-map, Write, region_of, region, is_outside, outside, writes_from, address_of, AreAscending, from_region, AreInOrder, rules, Result, Ok, Err, OnOk, OnErr, ◌-◌, set, Some, remove, slice_get, map-set, map-append, length-set, length-map, length-append, length-drop, take-append-le, drop-append-le, take-append-drop, drop-drop, drop-set-lt, length-remove, get_or-remove_below, PortSeen, Writes, BankSeen, Answers, Called, Replaced, Retired, all_ports, in_parts}
use Rattle.std.proofs.lemmas.List.Elements.{filter-append}
use Rattle.port_bank.proofs.RegionLemmas.{regions_rise, region_of_place}
use Rattle.std.proofs.Math.Seq.{take-set-lt}

-- the first element stays, or is left out
outside_keeps : (w i : ℕ) (x : Write) (xs : List Write) → is_outside w i x ≡ true → outside w i (x ∷ xs) ≡ x ∷ outside w i xs
outside_keeps w i x xs e = ap (λ b. if b then x ∷ outside w i xs else outside w i xs) e

outside_drops : (w i : ℕ) (x : Write) (xs : List Write) → is_outside w i x ≡ false → outside w i (x ∷ xs) ≡ outside w i xs
outside_drops w i x xs e = ap (λ b. if b then x ∷ outside w i xs else outside w i xs) e

pub from_keeps : (w p : ℕ) (x : Write) (xs : List Write) → p ≤ region_of w x → from_region w p (x ∷ xs) ≡ x ∷ from_region w p xs
from_keeps w p x xs h = ap (λ b. if b then x ∷ from_region w p xs else from_region w p xs) (le-leb p (region_of w x) h)

pub from_first : (w : ℕ) (xs : List Write) → from_region w 0 xs ≡ xs
from_first w [] = refl
from_first w (x ∷ xs) = from_keeps w 0 x xs (omega arith) ∙ ap (λ t. x ∷ t) (from_first w xs)

is_other : (w i : ℕ) (x : Write) → (region_of w x ≡ i → ⊥) → is_outside w i x ≡ true
is_other w i x h = ap not (ne_eqb (region_of w x) i h)

is_own : (w i : ℕ) (x : Write) → region_of w x ≡ i → is_outside w i x ≡ false
is_own w i x h = ap not (eq-eqb (region_of w x) i h)

pub outside_twice : (w i : ℕ) (xs : List Write) → outside w i (outside w i xs) ≡ outside w i xs
outside_twice w i [] = refl
outside_twice w i (x ∷ xs) = search (rules, cases_eq, outside_drops, is_own, outside_keeps, is_other, outside_twice w i xs)

-- where no region is lower, those outside one are those from the next one on
pub outside_from : (w i p : ℕ) (xs : List Write) → p ≤ i → ((x : Write) → In xs x → i ≤ region_of w x) → outside w i (from_region w p xs) ≡ from_region w (i + 1) xs
outside_from w i p [] h o = refl
outside_from w i p (x ∷ xs) h o =
    let above : i ≤ region_of w x = o x (inl refl) in
    let rest = outside_from w i p xs h (λ y m. o y (inr m)) in
    let keeps = ap (outside w i) (from_keeps w p x xs (omega (arith, h, above))) in
    elim (cases_eq (region_of w x) i) [
      | inl e ↦ keeps ∙ (outside_drops w i x (from_region w p xs) (is_own w i x e) ∙ (rest
          ∙ sym (ap (λ b. if b then x ∷ from_region w (i + 1) xs else from_region w (i + 1) xs) (lt-leb (i + 1) (region_of w x) (omega (arith, e))))))
      | inr n ↦
          keeps ∙ (outside_keeps w i x (from_region w p xs) (is_other w i x n) ∙ (ap (λ t. x ∷ t) rest ∙ sym (from_keeps w (i + 1) x xs (omega (arith, above, n)))))
    ]

-- no write of a region is outside it
pub none_outside : (w i : ℕ) (xs : List Write) → ((x : Write) → In xs x → region_of w x ≡ i) → outside w i xs ≡ []
none_outside w i [] h = refl
none_outside w i (x ∷ xs) h = outside_drops w i x xs (is_own w i x (h x (inl refl))) ∙ none_outside w i xs (λ y m. h y (inr m))

in_drop : (n : ℕ) (xs : List Write) (x : Write) → In (drop n xs) x → In xs x
in_drop (suc n) (y ∷ xs) x h = inr (in_drop n xs x h)
in_drop n xs x h = h

place_of : (bits : List Bool) (s : ℕ) (x : Write) → In (writes_from s bits) x → (k : ℕ) × (k < length bits) × (x.address ≡ s + k)
place_of [] s x h = absurd h
place_of (b ∷ bs) s x (inl e) = (0, omega arith, ap address_of e ∙ (let z : s ≡ s + 0 = omega arith in z))
place_of (b ∷ bs) s x (inr r) = let p = place_of bs (s + 1) x r in (suc p.0, omega (arith, p.1), p.2 ∙ (let z : (s + 1) + p.0 ≡ s + suc p.0 = omega arith in z))

pub region_goes_there : (w i : ℕ) (config : List Bool) (x : Write) → In (region w config i) x → region_of w x ≡ i
region_goes_there w i config x h = grind (arith, place_of, region_of_place, length-take)

pub outside_left : (w i n : ℕ) (config : List Bool) (others : List Write) → outside w i others ≡ others → outside w i (drop n (region w config i) ++ others) ≡ others
outside_left w i n config others e = grind (arith, filter-append, none_outside, region_goes_there, in_drop)

-- the writes of bits from a place on
pub left_from : (bits : List Bool) (s k : ℕ) (d : Bool) → k < length bits → drop k (writes_from s bits) ≡ record { address = s + k; bit = get_or bits k d } ∷ drop (k + 1) (writes_from s bits)
left_from [] s k d h = absurd (omega (arith, h))
left_from (b ∷ bs) s zero d h = ap (λ a. record { address = a; bit = b } ∷ writes_from (s + 1) bs) (let z : s ≡ s + 0 = omega arith in z)
left_from (b ∷ bs) s (suc k) d h = grind (arith, left_from bs (s + 1) k d (omega (arith, h)))

-- ascending addresses have regions that don't fall
pub in_order : (w : ℕ) (xs : List Write) → 0 < w → AreAscending xs → AreInOrder w xs
in_order w [] h a = tt
in_order w (x ∷ xs) h a = (λ y m. let below : x.address < y.address = a.0 y.address (In-map address_of xs y m) in regions_rise w x.address y.address h (omega (arith, below)), in_order w xs h a.1)

above : (bits : List Bool) (s n : ℕ) → In (map address_of (writes_from s bits)) n → s ≤ n
above [] s n m = absurd m
above (b ∷ bs) s n (inl e) = omega (arith, e)
above (b ∷ bs) s n (inr r) = let l : s + 1 ≤ n = above bs (s + 1) n r in omega (arith, l)

pub ascend_from : (bits : List Bool) (s : ℕ) → AreAscending (writes_from s bits)
ascend_from [] s = tt
ascend_from (b ∷ bs) s = (λ n m. omega (arith, above bs (s + 1) n m), ascend_from bs (s + 1))

pub in_order_left : (w n : ℕ) (xs : List Write) → AreInOrder w xs → AreInOrder w (drop n xs)
in_order_left w (suc n) (x ∷ xs) o = in_order_left w n xs o.1
in_order_left w n xs o = o

-- the bit of a place and its address
pub left_here : (bits : List Bool) (i : ℕ) → i < length bits → drop i (writes_from 0 bits) ≡ record { address = i; bit = get_or bits i false } ∷ drop (i + 1) (writes_from 0 bits)
left_here bits i h = left_from bits 0 i false h ∙ ap (λ a. record { address = a; bit = get_or bits i false } ∷ drop (i + 1) (writes_from 0 bits)) (let z : 0 + i ≡ i = omega arith in z)

-- a removed element, before and behind its place
pub drop-remove : {X : Type 0} (xs : List X) (i n : ℕ) → i ≤ n → i < length xs → drop n (remove xs i) ≡ drop (suc n) xs
drop-remove [] i n l h = absurd (omega (arith, h))
drop-remove (x ∷ xs) zero n l h = refl
drop-remove (x ∷ xs) (suc i) zero l h = absurd (omega (arith, l))
drop-remove (x ∷ xs) (suc i) (suc n) l h = drop-remove xs i n (omega (arith, l)) (omega (arith, h))

pub take-remove : {X : Type 0} (xs : List X) (n : ℕ) → n < length xs → take n (remove xs n) ≡ take n xs
take-remove [] n h = absurd (omega (arith, h))
take-remove (x ∷ xs) zero h = refl
take-remove (x ∷ xs) (suc n) h = ap (λ (t : List _). x ∷ t) (take-remove xs n (omega (arith, h)))

pub take-remove_within : {X : Type 0} (xs : List X) (i n : ℕ) → i ≤ n → n < length xs → take n (remove xs i) ≡ remove (take (suc n) xs) i
take-remove_within [] i n l h = absurd (omega (arith, h))
take-remove_within (x ∷ xs) zero n l h = refl
take-remove_within (x ∷ xs) (suc i) zero l h = absurd (omega (arith, l))
take-remove_within (x ∷ xs) (suc i) (suc n) l h = ap (λ (t : List _). x ∷ t) (take-remove_within xs i n (omega (arith, l)) (omega (arith, h)))

-- the element at a place, of the first ones of a list of views
pub seen_there : {B X : Type 0} (seen : B → X) (items : List B) (n i : ℕ) (b : B) → i < n → i < length items → b ≡ get_or items i b → slice_get (take n (map seen items)) i ≡ Some (seen b)
seen_there seen [] n i b l h e = absurd (omega (arith, h))
seen_there seen (x ∷ xs) zero i b l h e = absurd (omega (arith, l))
seen_there seen (x ∷ xs) (suc n) zero b l h e = ap (λ y. Some (seen y)) (sym e)
seen_there seen (x ∷ xs) (suc n) (suc i) b l h e = seen_there seen xs n i b (omega (arith, l)) (omega (arith, h)) e

pub map-remove : {X Y : Type 0} (f : X → Y) (xs : List X) (i : ℕ) → map f (remove xs i) ≡ remove (map f xs) i
map-remove f [] zero = refl
map-remove f [] (suc i) = refl
map-remove f (x ∷ xs) zero = refl
map-remove f (x ∷ xs) (suc i) = ap (λ (t : List _). f x ∷ t) (map-remove f xs i)

pub get_or-remove_before : {X : Type 0} (xs : List X) (n i : ℕ) (d : X) → i < n → n < length xs → get_or (remove xs n) i d ≡ get_or xs i d
get_or-remove_before xs n i d l h = get_or-remove_below xs n d i l h

-- the views from a place on
pub dropped_there : {B X : Type 0} (seen : B → X) (items : List B) (i : ℕ) (b : B) → i < length items → b ≡ get_or items i b → drop i (map seen items) ≡ seen b ∷ drop (suc i) (map seen items)
dropped_there seen [] i b h e = absurd (omega (arith, h))
dropped_there seen (x ∷ xs) zero b h e = ap (λ y. seen y ∷ map seen xs) (sym e)
dropped_there seen (x ∷ xs) (suc i) b h e = dropped_there seen xs i b (omega (arith, h)) e

abbrev pub the_parts : List PortSeen → List PortSeen → List PortSeen → List PortSeen → BankSeen
the_parts serving spares rest failed = record { serving = serving; spares = spares; rest = rest; failed = failed }

pub same_parts : {a b c d e f g h : List PortSeen} → a ≡ e → b ≡ f → c ≡ g → d ≡ h →
    the_parts a b c d ≡ the_parts e f g h
same_parts {a} {b} {c} {d} {e} {f} {g} {h} p q r s = grind (arith, the_parts)

-- a serving port was called
pub parts_set : (s k f i : ℕ) (xs : List PortSeen) (y : PortSeen) → i < s → s + k + f ≤ length xs →
    in_parts s k f (set xs i y) ≡ record (in_parts s k f xs) { serving = set (take s xs) i y }
parts_set s k f i xs y l h = grind (arith, length-set, same_parts, take-set-lt, drop-set-lt)

pub called : {B : Type 0} (seen : B → PortSeen) (items : List B) (s k f i : ℕ) (old new : B) (write : Write) (answer : Bool) → i < s → s + k + f ≤ length items →
    old ≡ get_or items i old → Answers answer (seen old) write (seen new) →
    Called i write answer (in_parts s k f (map seen items)) (in_parts s k f (map seen (set items i new)))
called seen items s k f i old new write answer l h e a = search (rules, seen_there, map-set, parts_set, length-map)

-- the same by the answer of the call
pub called_ok : {B E : Type 0} (seen : B → PortSeen) (items : List B) (s k f i : ℕ) (old new : B) (write : Write) (result : Result Unit E) → i < s → s + k + f ≤ length items →
    old ≡ get_or items i old → Writes (seen old) write (seen new) result →
    OnOk result (Called i write true (in_parts s k f (map seen items)) (in_parts s k f (map seen (set items i new))))
called_ok seen items s k f i old new write (Ok v) l h e w = called seen items s k f i old new write true l h e w
called_ok seen items s k f i old new write (Err x) l h e w = tt

pub called_err : {B E : Type 0} (seen : B → PortSeen) (items : List B) (s k f i : ℕ) (old new : B) (write : Write) (result : Result Unit E) → i < s → s + k + f ≤ length items →
    old ≡ get_or items i old → Writes (seen old) write (seen new) result →
    OnErr result (Called i write false (in_parts s k f (map seen items)) (in_parts s k f (map seen (set items i new))))
called_err seen items s k f i old new write (Ok v) l h e w = tt
called_err seen items s k f i old new write (Err x) l h e w = called seen items s k f i old new write false l h e w

-- a list with one element more, in front and behind
take-pushed : {X : Type 0} (n : ℕ) (xs : List X) (y : X) → n ≤ length xs → take n (xs ++ y ∷ []) ≡ take n xs
take-pushed n xs y h = take-append-le n xs (y ∷ []) h

drop-pushed : {X : Type 0} (n : ℕ) (xs : List X) (y : X) → n ≤ length xs → drop n (xs ++ y ∷ []) ≡ drop n xs ++ y ∷ []
drop-pushed n xs y h = drop-append-le n xs (y ∷ []) h

-- the first spare took the place of a serving port, which stands at the end
pub parts_replaced : (s k f i : ℕ) (xs : List PortSeen) (spare port : PortSeen) → i < s → s + suc k + f ≤ length xs →
    in_parts s k (f + 1) (set (remove xs s) i spare ++ port ∷ []) ≡
    the_parts (set (take s xs) i spare) (take k (drop (suc s) xs)) (in_parts s (suc k) f xs).rest ((in_parts s (suc k) f xs).failed ++ port ∷ [])
parts_replaced s k f i xs spare port l h =
    let inside : s < length xs = omega (arith, h) in
    let ys = remove xs s in
    let zs = set ys i spare in
    let long : length zs + 1 ≡ length xs = omega (arith, length-set ys i spare, length-remove xs s inside) in
    let whole : length (zs ++ port ∷ []) ≡ length xs = omega (arith, length-append zs (port ∷ []), long) in
    let behind : (n : ℕ) → s ≤ n → n ≤ length zs → drop n (zs ++ port ∷ []) ≡ drop (suc n) xs ++ port ∷ [] = grind (arith, drop-pushed, drop-set-lt, drop-remove) in
    let m = length xs - (s + suc k) - f in
    same_parts
    (take-pushed s zs port (omega (arith, h, long)) ∙ (take-set-lt s ys i spare l ∙ ap (λ t. set t i spare) (take-remove xs s inside)))
    (ap (take k) (behind s (omega arith) (omega (arith, h, long))) ∙ take-pushed k (drop (suc s) xs) port (omega (arith, h, length-drop (suc s) xs)))
    (ap (λ n. take (n - (s + k) - (f + 1)) (drop (s + k) (zs ++ port ∷ []))) whole
    ∙ (ap (λ n. take n (drop (s + k) (zs ++ port ∷ []))) (omega arith)
    ∙ (ap (take m) (behind (s + k) (omega arith) (omega (arith, h, long)))
    ∙ (take-pushed m (drop (suc (s + k)) xs) port (omega (arith, h, length-drop (suc (s + k)) xs))
    ∙ ap (λ n. take m (drop n xs)) (let e : suc (s + k) ≡ s + suc k = omega arith in e)))))
    (ap (λ n. drop (n - (f + 1)) (zs ++ port ∷ [])) whole
    ∙ (behind (length xs - (f + 1)) (omega (arith, h)) (omega (arith, h, long))
    ∙ ap (λ n. drop n xs ++ port ∷ []) (let e : suc (length xs - (f + 1)) ≡ length xs - f = omega (arith, h) in e)))

pub replaced_by : {B : Type 0} (seen : B → PortSeen) (items after : List B) (s k n f i : ℕ) (spare port : B) → i < s → n ≡ suc k → s + n + f ≤ length items →
    spare ≡ get_or items s spare → port ≡ get_or (remove items s) i port → after ≡ set (remove items s) i spare ++ port ∷ [] →
    Replaced i (in_parts s n f (map seen items)) (in_parts s k (f + 1) (map seen after))
replaced_by seen items after s k n f i spare port l e h a b c = grind (arith, length-map, map-append, map-set, map-remove, parts_replaced, dropped_there, seen_there, get_or-remove_before, the_parts)

-- a serving port moved to the end while no spare was left
pub parts_retired : (s f i : ℕ) (xs : List PortSeen) (port : PortSeen) → i ≤ s → suc s + f ≤ length xs →
    in_parts s 0 (f + 1) (remove xs i ++ port ∷ []) ≡
    the_parts (remove (take (suc s) xs) i) [] (in_parts (suc s) 0 f xs).rest ((in_parts (suc s) 0 f xs).failed ++ port ∷ [])
parts_retired s f i xs port l h =
    let ys = remove xs i in
    let long : length ys + 1 ≡ length xs = length-remove xs i (omega (arith, h, l)) in
    let whole : length (ys ++ port ∷ []) ≡ length xs = omega (arith, length-append ys (port ∷ []), long) in
    let behind : (n : ℕ) → s ≤ n → n ≤ length ys → drop n (ys ++ port ∷ []) ≡ drop (suc n) xs ++ port ∷ [] = grind (arith, drop-pushed, drop-remove) in
    let m = length xs - (suc s + 0) - f in
    same_parts
    (take-pushed s ys port (omega (arith, h, long)) ∙ take-remove_within xs i s l (omega (arith, h)))
    refl
    (ap (λ n. take (n - (s + 0) - (f + 1)) (drop (s + 0) (ys ++ port ∷ []))) whole
    ∙ (ap (λ n. take n (drop (s + 0) (ys ++ port ∷ []))) (omega arith)
    ∙ (ap (take m) (behind (s + 0) (omega arith) (omega (arith, h, long)))
    ∙ (take-pushed m (drop (suc (s + 0)) xs) port (omega (arith, h, length-drop (suc (s + 0)) xs))
    ∙ ap (λ n. take m (drop n xs)) (let e : suc (s + 0) ≡ suc s + 0 = omega arith in e)))))
    (ap (λ n. drop (n - (f + 1)) (ys ++ port ∷ [])) whole
    ∙ (behind (length xs - (f + 1)) (omega (arith, h)) (omega (arith, h, long))
    ∙ ap (λ n. drop n xs ++ port ∷ []) (let e : suc (length xs - (f + 1)) ≡ length xs - f = omega (arith, h) in e)))

pub retired : {B : Type 0} (seen : B → PortSeen) (items after : List B) (s n k f i : ℕ) (port : B) → i < n → n ≡ suc s → k ≡ 0 → n + k + f ≤ length items →
    port ≡ get_or items i port → after ≡ remove items i ++ port ∷ [] →
    Retired i (in_parts n k f (map seen items)) (in_parts s k (f + 1) (map seen after))
retired seen items after s n k f i port l e z h a c = grind (arith, length-map, map-append, map-remove, seen_there, parts_retired)

-- how many serve, and how many failed
pub serving_count : {B : Type 0} (seen : B → PortSeen) (items : List B) (s k f : ℕ) → s + k + f ≤ length items → length (in_parts s k f (map seen items)).serving ≡ s
serving_count seen items s k f h = omega (arith, h, length-take s (map seen items), length-map items seen)

-- the parts joined are the list
pub parts_joined : (s k f : ℕ) (xs : List PortSeen) → s + k + f ≤ length xs → all_ports (in_parts s k f xs) ≡ xs
parts_joined s k f xs h =
    let m = length xs - (s + k) - f in
    let last : drop m (drop (s + k) xs) ≡ drop (length xs - f) xs = drop-drop m (s + k) xs ∙ ap (λ n. drop n xs) (let e : s + k + m ≡ length xs - f = omega (arith, h) in e) in
    let second = ap (λ t. take k (drop s xs) ++ t) (sym (drop-drop k s xs)) ∙ take-append-drop k (drop s xs) in
    ap (λ t. take s xs ++ (take k (drop s xs) ++ t)) (ap (λ t. take m (drop (s + k) xs) ++ t) (sym last) ∙ take-append-drop m (drop (s + k) xs)) ∙ (ap (λ t. take s xs ++ t) second ∙ take-append-drop s xs)
