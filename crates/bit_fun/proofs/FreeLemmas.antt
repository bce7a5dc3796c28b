-- The free nodes: the function of one is the same for all tables and digits, so its literal stands once it is made.
use Rattle.bit_fun.proofs.Common.{refl, sym, ◌≡◌, ℕ, ◌/◌, none-some, In-get, Bool, List, [], ◌++◌, subst, inl, inr, In, Lit, Pair, Aig, first_and, Answer, Lut, lit_of, IsFree, free_constant, free_parameter, free_product, AreFree, Stands, AreKept, AreMarked, IsBetween, rules, free_apart}
use Rattle.bit_fun.specs.PackOf.{MakesNode, leaf, constant, parameter, node}
use Rattle.bit_fun.proofs.BitLemmas.{AreLeaves, node_not_constant, node_not_parameter, one_pair}
use Rattle.bit_fun.proofs.ConeMakesLemmas.{IsKnown}

-- what is made for it for a table is made without leaves
pub makes_free : (g : Aig) (luts : List Lut) (t : Lut) (first v : ℕ) (pairs : List Pair) (n : ℕ) (made : Answer) → In luts t → AreLeaves g t.leaves → IsFree g luts n → MakesNode g first t.leaves v pairs n made → MakesNode g first [] 0 pairs n made
makes_free g luts t first v pairs n made among are free (leaf j at e) = absurd (free_apart g luts t n among are.kinds free (In-get t.leaves j n at))
makes_free g luts t first v pairs n made among are free (constant z e) = constant z e
makes_free g luts t first v pairs n made among are free (parameter j is e) = parameter j is e
makes_free g luts t first v pairs n made among are (free_constant z) (node p x y out is mx my e) = absurd (node_not_constant g n p z is)
makes_free g luts t first v pairs n made among are (free_parameter s) (node p x y out is mx my e) = absurd (node_not_parameter g _ n p (record { source = s; place = refl }) is)
makes_free g luts t first v pairs n made among are (free_product q off at fx fy) (node p x y out is mx my e) =
    let same : q ≡ p = one_pair g n p q is at in
    node p x y (λ i. i) is
    (makes_free g luts t first v pairs (p.x.0 / 2) x among are (subst (λ (r : Pair). IsFree g luts (r.x.0 / 2)) same fx) mx)
    (makes_free g luts t first v x.pairs (p.y.0 / 2) y among are (subst (λ (r : Pair). IsFree g luts (r.y.0 / 2)) same fy) my) e

-- and what is made without leaves is made for each table and all digits
pub free_makes : (g : Aig) (luts : List Lut) (t : Lut) (first v : ℕ) (pairs : List Pair) (n : ℕ) (made : Answer) → In luts t → AreLeaves g t.leaves → IsFree g luts n → MakesNode g first [] 0 pairs n made → MakesNode g first t.leaves v pairs n made
free_makes g luts t first v pairs n made among are free (leaf j at e) = absurd (none-some n at)
free_makes g luts t first v pairs n made among are free (constant z e) = constant z e
free_makes g luts t first v pairs n made among are free (parameter j is e) = parameter j is e
free_makes g luts t first v pairs n made among are (free_constant z) (node p x y out is mx my e) = absurd (node_not_constant g n p z is)
free_makes g luts t first v pairs n made among are (free_parameter s) (node p x y out is mx my e) = absurd (node_not_parameter g _ n p (record { source = s; place = refl }) is)
free_makes g luts t first v pairs n made among are (free_product q off at fx fy) (node p x y out is mx my e) =
    let same : q ≡ p = one_pair g n p q is at in
    node p x y (off t among) is
    (free_makes g luts t first v pairs (p.x.0 / 2) x among are (subst (λ (r : Pair). IsFree g luts (r.x.0 / 2)) same fx) mx)
    (free_makes g luts t first v x.pairs (p.y.0 / 2) y among are (subst (λ (r : Pair). IsFree g luts (r.y.0 / 2)) same fy) my) e

-- a free node that is known for a table stands
pub known_stands : (g : Aig) (luts : List Lut) (t : Lut) (first v : ℕ) (pack : Aig) (lits : List Lit) (m : ℕ) → In luts t → AreLeaves g t.leaves → first_and pack ≡ first → IsFree g luts m
    → IsKnown g first t.leaves v (record { pairs = pack.pairs; lits = lits }) m → Stands g pack lits m
known_stands g luts t first v pack lits m among are at free known = record {
  again = λ more.
      subst (λ f. MakesNode g f [] 0 (pack.pairs ++ more) m (record { pairs = pack.pairs ++ more; lit = lit_of lits m })) (sym at)
      (makes_free g luts t first v (pack.pairs ++ more) m _ among are free (known.again (pack.pairs ++ more) (record { more = more; is = refl })));
}

-- and one that stands is known for each table, as long as its literal stays
pub stands_known : (g : Aig) (luts : List Lut) (t : Lut) (v : ℕ) (pack : Aig) (before lits : List Lit) (m : ℕ) → In luts t → AreLeaves g t.leaves → IsFree g luts m → lit_of lits m ≡ lit_of before m → Stands g pack before m
    → IsKnown g (first_and pack) t.leaves v (record { pairs = pack.pairs; lits = lits }) m
stands_known g luts t v pack before lits m among are free same stands = search (rules, free_makes)

-- the nodes of an order that stand are kept
pub kept_marked : (g : Aig) (luts : List Lut) (pack : Aig) (lits : List Lit) (free old new : List Bool) (order : List ℕ) → AreFree g luts free → AreMarked free old new order → ((m : ℕ) → In order m → IsFree g luts m → Stands g pack lits m)
    → AreKept g luts pack old lits → AreKept g luts pack new lits
kept_marked g luts pack lits free old new order are marked stand have = search rules

-- so the state between two bits stays one
pub between_marked : (g : Aig) (luts : List Lut) (pack : Aig) (lits : List Lit) (free old new : List Bool) (order : List ℕ) → AreFree g luts free → AreMarked free old new order → ((m : ℕ) → In order m → IsFree g luts m → Stands g pack lits m)
    → IsBetween g luts pack old lits → IsBetween g luts pack new lits
between_marked g luts pack lits free old new order are marked stand have = search (rules, kept_marked)
