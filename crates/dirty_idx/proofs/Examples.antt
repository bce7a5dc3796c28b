-- A worked example: the set of 1 and 3 among the numbers below 5, and where its words would lie.
use Rattle.dirty_idx.proofs.Common.{◌≡◌, ℕ, zero, suc, ◌<◌, Bool, true, false, List, [], ◌∷◌, Some, None, refl, arith, is_marked, IsLeast, IsEmpty, without, ◌+◌, ◌-◌, ◌/◌, ◌%◌, subst, sym, ap, ◌∙◌, inl, inr, slice_get, none-some, same_Some, In, Lit, Pair, Aig, IsNormal, AreNormal, PackValue, IsPack, ReadersValue, nodes_of, addresses_of, AreReaders}
use Rattle.dirty_idx.specs.Layers.{upper_words, mark_bit, marks_of}
use Rattle.aig_core.specs.declared.lit.Kind.TheVariants.{Parameter}
use Rattle.ppc_pack.proofs.PackExample.{two_parameters, two_parameters_is}
use Rattle.dirty_idx.proofs.ReadLemmas.{are_readers}

abbrev one_and_three : List Bool
one_and_three = false ∷ true ∷ false ∷ true ∷ false ∷ []

has_three : is_marked one_and_three 3 ≡ true
has_three = refl

lacks_two : is_marked one_and_three 2 ≡ false
lacks_two = refl

-- past the size there is nothing
lacks_seven : is_marked one_and_three 7 ≡ false
lacks_seven = refl

below_one : (j : ℕ) → j < 1 → is_marked one_and_three j ≡ false
below_one zero l = refl
below_one (suc j) l = absurd (omega arith)

one_is_least : IsLeast one_and_three 1
one_is_least = record { within = omega arith; marked = refl; least = below_one }

-- 3 is left once 1 is taken, and then nothing
three_left : without one_and_three (Some 1) ≡ false ∷ false ∷ false ∷ true ∷ false ∷ []
three_left = refl

nothing_left : without (false ∷ false ∷ false ∷ true ∷ false ∷ []) (Some 3) ≡ false ∷ false ∷ false ∷ false ∷ false ∷ []
nothing_left = refl

none_of_five : (i : ℕ) → is_marked (false ∷ false ∷ false ∷ false ∷ false ∷ []) i ≡ false
none_of_five zero = refl
none_of_five (suc zero) = refl
none_of_five (suc (suc zero)) = refl
none_of_five (suc (suc (suc zero))) = refl
none_of_five (suc (suc (suc (suc zero)))) = refl
none_of_five (suc (suc (suc (suc (suc i))))) = refl

five_empty : IsEmpty (false ∷ false ∷ false ∷ false ∷ false ∷ [])
five_empty = record { none = none_of_five }

empty_stays : without (false ∷ false ∷ []) None ≡ false ∷ false ∷ []
empty_stays = refl

-- one word has the marks of the set: 2 + 8
one_word : marks_of 5 0 (10 ∷ []) ≡ one_and_three
one_word = refl

-- where there is a layer above, the words of the lowest one begin behind it, and 64 is the lowest bit of its second word
upper_layers : upper_words 3 ≡ 4161
unfolding upper_words
upper_layers = refl

second_word : mark_bit 1 (2 ∷ 0 ∷ 1 ∷ []) 64 ≡ 1
second_word = refl

-- A worked example: the pack of two parameters p and q with the nodes p q, p' q and their product, and some bits of each.
abbrev pub lit : ℕ → Lit
lit n = record { 0 = n }

abbrev pub pair : ℕ → ℕ → Pair
pair x y = record { x = lit x; y = lit y }

-- p and q are the nodes 1 and 2, and the ANDs the nodes 3, 4 and 5
abbrev pub three_nodes : Aig
three_nodes = record { kinds = Parameter ∷ Parameter ∷ []; pairs = pair 2 4 ∷ pair 3 4 ∷ pair 6 8 ∷ []; max = 3 }

-- 0, p q, the product, its complement, p, 1, and the product again
abbrev pub seven_bits : List Lit
seven_bits = lit 0 ∷ lit 6 ∷ lit 10 ∷ lit 11 ∷ lit 2 ∷ lit 1 ∷ lit 10 ∷ []

abbrev pub small_pack : PackValue
small_pack = record { params = two_parameters.params; graph = three_nodes; bits = seven_bits }

abbrev pub small_readers : ReadersValue
small_readers = record {
  nodes = [] ∷ (3 ∷ 4 ∷ []) ∷ (3 ∷ 4 ∷ []) ∷ (5 ∷ []) ∷ (5 ∷ []) ∷ [] ∷ [];
  addresses = (0 ∷ 5 ∷ []) ∷ (4 ∷ []) ∷ [] ∷ (1 ∷ []) ∷ [] ∷ (2 ∷ 3 ∷ 6 ∷ []) ∷ [];
}

reads_of_p : nodes_of small_readers 1 ≡ 3 ∷ 4 ∷ []
reads_of_p = refl

addresses_of_product : addresses_of small_readers 5 ≡ 2 ∷ 3 ∷ 6 ∷ []
addresses_of_product = refl

normal_at : (n : ℕ) (x y : ℕ) (p : Pair) → pair x y ≡ p → IsNormal n (pair x y) → IsNormal n p
normal_at n x y p e is = subst (IsNormal n) e is

first_is : (p : Pair) (x y : ℕ) → Some (pair x y) ≡ Some p → p.x.0 ≡ x
first_is p x y e = sym (ap (λ (q : Pair). q.x.0) (same_Some (pair x y) p e))

below_twelve : (n : ℕ) (l : Lit) → l ≡ lit n → n < 12 → l.0 < 12
below_twelve n l e h = subst (λ (m : Lit). m.0 < 12) (sym e) h

each_normal : (i : ℕ) (p : Pair) → slice_get three_nodes.pairs i ≡ Some p → IsNormal (3 + i) p
each_normal zero p e = normal_at 3 2 4 p (same_Some (pair 2 4) p e) (record { no_constant = omega arith; ordered = omega arith; below = omega arith })
each_normal (suc zero) p e = normal_at 4 3 4 p (same_Some (pair 3 4) p e) (record { no_constant = omega arith; ordered = omega arith; below = omega arith })
each_normal (suc (suc zero)) p e = normal_at 5 6 8 p (same_Some (pair 6 8) p e) (record { no_constant = omega arith; ordered = omega arith; below = omega arith })
each_normal (suc (suc (suc i))) p e = absurd (none-some p e)

-- which pair has this first literal
place_of : (i : ℕ) (p : Pair) → slice_get three_nodes.pairs i ≡ Some p → i ≡ (p.x.0 - 2) / 2 + p.x.0 % 2
place_of zero p e = let f : p.x.0 ≡ 2 = first_is p 2 4 e in omega arith
place_of (suc zero) p e = let f : p.x.0 ≡ 3 = first_is p 3 4 e in omega arith
place_of (suc (suc zero)) p e = let f : p.x.0 ≡ 6 = first_is p 6 8 e in omega arith
place_of (suc (suc (suc i))) p e = absurd (none-some p e)

three_normal : AreNormal 3 three_nodes.pairs
three_normal = record { each = each_normal; once = λ i j p e f. place_of i p e ∙ sym (place_of j p f) }

-- who reads its nodes
pub small_are_readers : AreReaders small_pack small_readers
small_are_readers = are_readers small_pack three_normal

-- it is a pack: its parameters are those of the smaller one
is_bit : (l : Lit) → In seven_bits l → l.0 < 12
is_bit l (inl e) = below_twelve 0 l e (omega arith)
is_bit l (inr (inl e)) = below_twelve 6 l e (omega arith)
is_bit l (inr (inr (inl e))) = below_twelve 10 l e (omega arith)
is_bit l (inr (inr (inr (inl e)))) = below_twelve 11 l e (omega arith)
is_bit l (inr (inr (inr (inr (inl e))))) = below_twelve 2 l e (omega arith)
is_bit l (inr (inr (inr (inr (inr (inl e)))))) = below_twelve 1 l e (omega arith)
is_bit l (inr (inr (inr (inr (inr (inr (inl e))))))) = below_twelve 10 l e (omega arith)
is_bit l (inr (inr (inr (inr (inr (inr (inr i))))))) = absurd i

pub small_is : IsPack small_pack.params small_pack.graph small_pack.bits
small_is = record {
  few_params = two_parameters_is.few_params;
  short = two_parameters_is.short;
  clean = two_parameters_is.clean;
  once = two_parameters_is.once;
  kinds = two_parameters_is.kinds;
  few_nodes = omega arith;
  few_bits = omega arith;
  lits = is_bit;
}
