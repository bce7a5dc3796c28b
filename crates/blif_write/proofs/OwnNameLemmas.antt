-- Own names are clean, they are no port's names, and different numbers have different names; the places of the regular inputs, and the bytes of names after blanks.
use Rattle.blif_write.proofs.Common.{◌≡◌, ℕ, zero, suc, ◌+◌, ◌-◌, ◌/◌, ◌<◌, ◌≤◌, leb, Bool, true, false, cond, ◌&&◌, List, [], ◌∷◌, ◌++◌, length, map, replicate, get_or, Some, bytes_eq, decimal, refl, sym, ap, ◌∙◌, inl, inr, arith, flat_map, slice_get, length-map, get_or-map, get_or_read, flat_map-map, cases_Bool, In, underscores, Shape, is_plain, many_underscores, Naming, own_name, table_name, literal_name, words_text, ◌*◌, ◌^◌, eqb, IsTrue, drop, append_cancel_left, is_regular, source_name, rules}
use lib.Pointwise.{bytes_decides}
use Rattle.std.proofs.lemmas.Fmt.{decimal_injective}

-- words, each behind a blank
pub words_of : {X : Type 0} (f : X → List ℕ) (xs : List X) → flat_map (λ (x : X). 32 ∷ f x) xs ≡ words_text (map f xs)
words_of f xs = sym (flat_map-map (λ (w : List ℕ). 32 ∷ w) f xs)

-- an own name, as it is added
pub own_is : (g : Naming) (under letter number : ℕ) → under ≡ g.under → replicate (under + 1) 95 ++ (letter ∷ decimal number) ≡ own_name g letter number
own_is g under letter number e = grind arith

-- a name with few underscores is no own name
pub not_own : (g : Naming) (letter number : ℕ) (name : List ℕ) → underscores name ≤ g.under → false ≡ bytes_eq name (own_name g letter number)
not_own g letter number name h = grind (arith, many_underscores, decimal, cases_Bool, bytes_eq, bytes_decides)

-- places of names
found : (inputs : List (List ℕ)) (i : ℕ) (name : List ℕ) → slice_get inputs i ≡ Some name → (i < length inputs) × (get_or inputs i [] ≡ name)
found [] i name e = absurd (let wrong : ⊥ = cc in wrong)
found (x ∷ xs) zero name e = (omega arith, let s : x ≡ name = cc in s)
found (x ∷ xs) (suc i) name e = let r = found xs i name e in (let l : i < length xs = r.0 in omega arith, r.1)

pub placed_names : (inputs : List (List ℕ)) (regular : List ℕ) (names : List (List ℕ)) → map (slice_get inputs) regular ≡ map (λ (name : List ℕ). Some name) names
    → map (λ (i : ℕ). get_or inputs i []) regular ≡ names
placed_names inputs [] [] e = refl
placed_names inputs (i ∷ is) (name ∷ names) e = grind (arith, found, placed_names inputs is names cc)
placed_names inputs regular names e = absurd (let wrong : ⊥ = cc in wrong)

pub placed_within : (inputs : List (List ℕ)) (regular : List ℕ) (names : List (List ℕ)) → map (slice_get inputs) regular ≡ map (λ (name : List ℕ). Some name) names
    → (i : ℕ) → In regular i → i < length inputs
placed_within inputs (k ∷ ks) (name ∷ names) e i (inl same) = grind (arith, found)
placed_within inputs (k ∷ ks) (name ∷ names) e i (inr there) =
    let others : map (slice_get inputs) ks ≡ map (λ (n : List ℕ). Some n) names = cc in placed_within inputs ks names others i there
placed_within inputs regular names e i h = search rules

pub placed_count : (inputs : List (List ℕ)) (regular : List ℕ) (names : List (List ℕ)) → map (slice_get inputs) regular ≡ map (λ (name : List ℕ). Some name) names
    → length regular ≡ length names
placed_count inputs regular names e = grind (arith, length-map)

-- the name of a regular input, by its place
pub name_at : (inputs : List (List ℕ)) (regular : List ℕ) (k : ℕ) (name : List ℕ) → k < length regular → get_or regular k 0 < length inputs → name ≡ get_or inputs (get_or regular k 0) name
    → name ≡ get_or (map (λ (i : ℕ). get_or inputs i []) regular) k []
name_at inputs regular k name h l e = grind (arith, get_or_read, get_or-map)

-- The literal of a regular input has its name, and each other one an own name.
pub input_literal : (g : Naming) (lit : ℕ) → (is_plain g.shape lit && leb (lit / 2) g.shape.regular) ≡ true → get_or g.regular (lit / 2 - 1) [] ≡ literal_name g lit
input_literal g lit h = grind arith

pub other_literal : (g : Naming) (lit : ℕ) (name : List ℕ) → (is_plain g.shape lit && leb (lit / 2) g.shape.regular) ≡ false → underscores name ≤ g.under → false ≡ bytes_eq name (literal_name g lit)
other_literal g lit name h few = grind (arith, leb, bytes_eq, cond, not_own)

-- the parts of what names are made from
pub same_shape : (s t : Shape) → s.regular ≡ t.regular → s.params ≡ t.params → s.latches ≡ t.latches → s ≡ t
same_shape s t regular params latches = grind arith

pub same_naming : (g h : Naming) → g.under ≡ h.under → g.regular ≡ h.regular → g.shape ≡ h.shape → g ≡ h
same_naming g h under regular shape = grind arith

-- how many underscores they begin with
under_letter : (count letter : ℕ) (rest : List ℕ) → eqb letter 95 ≡ false → underscores (replicate count 95 ++ letter ∷ rest) ≡ count
under_letter zero letter rest h = ap (λ (t : Bool). cond t (1 + underscores rest) 0) h
under_letter (suc count) letter rest h = let e : 1 + count ≡ suc count = omega arith in ap (λ (k : ℕ). 1 + k) (under_letter count letter rest h) ∙ e

pub own_under : (g : Naming) (letter number : ℕ) → eqb letter 95 ≡ false → underscores (own_name g letter number) ≡ suc g.under
own_under g letter number h = under_letter (suc g.under) letter (decimal number) h

-- so they are no ports
pub no_port_name : (g : Naming) (letter number : ℕ) (name : List ℕ) → eqb letter 95 ≡ false → underscores name ≤ g.under → own_name g letter number ≡ name → ⊥
no_port_name g letter number name h few e = let c : underscores name ≡ suc g.under = ap underscores (sym e) ∙ own_under g letter number h in omega (arith, few, c)

-- two of them
heads : (x y : ℕ) (xs ys : List ℕ) → x ∷ xs ≡ y ∷ ys → x ≡ y
heads x y xs ys e = ap (λ (l : List ℕ). get_or l 0 0) e

tails : (x y : ℕ) (xs ys : List ℕ) → x ∷ xs ≡ y ∷ ys → xs ≡ ys
tails x y xs ys e = ap (drop 1) e

pub own_letter : (g : Naming) (l m a b : ℕ) → own_name g l a ≡ own_name g m b → l ≡ m
own_letter g l m a b e = heads l m (decimal a) (decimal b) (append_cancel_left (replicate (suc g.under) 95) (l ∷ decimal a) (m ∷ decimal b) e)

pub own_number : (g : Naming) (l a b : ℕ) → a < 2 ^ 64 → b < 2 ^ 64 → own_name g l a ≡ own_name g l b → a ≡ b
own_number g l a b h k e = decimal_injective a b h k (tails l l (decimal a) (decimal b) (append_cancel_left (replicate (suc g.under) 95) (l ∷ decimal a) (l ∷ decimal b) e))

-- literals
pub plain_even : (shape : Shape) (n : ℕ) → is_plain shape (2 * n) ≡ is_regular shape n
plain_even shape n = grind arith

pub source_literal : (g : Naming) (n : ℕ) → IsTrue (is_regular g.shape n) → literal_name g (2 * n) ≡ source_name g n
source_literal g n h = grind arith

pub table_literal : (g : Naming) (lit : ℕ) → is_plain g.shape lit ≡ false → literal_name g lit ≡ table_name g lit
table_literal g lit h = ap (λ (t : Bool). cond t (source_name g (lit / 2)) (table_name g lit)) h
