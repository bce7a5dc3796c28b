-- The files of two small packs in both versions, and three files that are refused.
use Rattle.ppc_file.proofs.Common.{◌≡◌, ℕ, ◌≤◌, List, [], ◌∷◌, ◌++◌, length, false, refl, sym, subst, inl, inr, arith, ap, get_or, IsClean, Parameter, Lit, AreNormal-push, PackValue, PackParam, MOST_PACK_NODES, One, Two, bytes_of, magic, pair, lettered, in_nodes, in_bits, AreParams, AreNodes, IsPackFault}
use Rattle.ppc_file.proofs.FieldLemmas.{clean_name}
use Rattle.ppc_file.specs.declared.pack_err.PackErr.TheVariants as refused

abbrev p : PackParam
p = record { name = 112 ∷ []; init = false }

abbrev q : PackParam
q = record { name = 113 ∷ []; init = false }

abbrev lit : ℕ → Lit
lit n = record { 0 = n }

-- the parameter p, no node, and the bits 0, p, not p and 1
abbrev without_nodes : PackValue
without_nodes = record { params = p ∷ []; graph = record { kinds = Parameter ∷ []; pairs = []; max = MOST_PACK_NODES }; bits = lit 0 ∷ lit 2 ∷ lit 3 ∷ lit 1 ∷ [] }

without_nodes_one : bytes_of One without_nodes ≡ magic ++ 0 ∷ 1 ∷ 0 ∷ 1 ∷ 0 ∷ 1 ∷ 112 ∷ 0 ∷ 0 ∷ 0 ∷ 0 ∷ 0 ∷ 0 ∷ 0 ∷ 0 ∷ 4 ∷ 0 ∷ 0 ∷ 0 ∷ 0 ∷ 0 ∷ 0 ∷ 0 ∷ 2 ∷ 0 ∷ 0 ∷ 0 ∷ 3 ∷ 0 ∷ 0 ∷ 0 ∷ 1 ∷ []
without_nodes_one = refl

without_nodes_two : bytes_of Two without_nodes ≡ magic ++ 0 ∷ 2 ∷ 1 ∷ 1 ∷ 112 ∷ 0 ∷ 0 ∷ 4 ∷ 0 ∷ 2 ∷ 3 ∷ 1 ∷ []
without_nodes_two = refl

-- the parameters p and q, their product, and it as the one bit
abbrev one_node : PackValue
one_node = record { params = p ∷ q ∷ []; graph = record { kinds = Parameter ∷ Parameter ∷ []; pairs = pair 2 4 ∷ []; max = MOST_PACK_NODES }; bits = lit 6 ∷ [] }

one_node_one : bytes_of One one_node ≡ magic ++ 0 ∷ 1 ∷ 0 ∷ 2 ∷ 0 ∷ 1 ∷ 112 ∷ 0 ∷ 0 ∷ 1 ∷ 113 ∷ 0 ∷ 0 ∷ 0 ∷ 0 ∷ 1 ∷ 0 ∷ 0 ∷ 0 ∷ 2 ∷ 0 ∷ 0 ∷ 0 ∷ 4 ∷ 0 ∷ 0 ∷ 0 ∷ 1 ∷ 0 ∷ 0 ∷ 0 ∷ 6 ∷ []
one_node_one = refl

one_node_two : bytes_of Two one_node ≡ magic ++ 0 ∷ 2 ∷ 2 ∷ 1 ∷ 112 ∷ 0 ∷ 1 ∷ 113 ∷ 0 ∷ 1 ∷ 2 ∷ 2 ∷ 1 ∷ 6 ∷ []
one_node_two = refl

-- version 3
version_three : IsPackFault (magic ++ 0 ∷ 3 ∷ []) (refused.Version 4)
version_three = record { front = lettered; rest = 0 ∷ 3 ∷ []; spelled = refl; sound = tt; refused = refl }

clean_p : IsClean p.name
clean_p = (clean_name [] p.name (omega arith) refl).0

clean_q : IsClean q.name
clean_q = (clean_name [] q.name (omega arith) refl).0

are_params : AreParams (p ∷ q ∷ [])
are_params = record {
  few = omega arith;
  short = λ r i. elim i [ inl e ↦ subst (λ (s : PackParam). length s.name ≤ 65535) (sym e) (omega arith) | inr j ↦ elim j [ inl e ↦ subst (λ (s : PackParam). length s.name ≤ 65535) (sym e) (omega arith) | inr none ↦ absurd none ] ];
  clean = λ r i. elim i [ inl e ↦ subst (λ (s : PackParam). IsClean s.name) (sym e) clean_p | inr j ↦ elim j [ inl e ↦ subst (λ (s : PackParam). IsClean s.name) (sym e) clean_q | inr none ↦ absurd none ] ];
  once = (λ i. elim i [ inl e ↦ absurd (let first : 112 ≡ 113 = ap (λ (name : List ℕ). get_or name 0 0) e in omega arith) | inr none ↦ none ], (λ i. i, tt));
}

no_nodes : AreNodes (p ∷ q ∷ []) []
no_nodes = record { few = omega arith; normal = record { each = λ i r h. absurd cc; once = λ i j r h k. absurd cc } }

one_pair : AreNodes (p ∷ q ∷ []) (pair 2 4 ∷ [])
one_pair = record { few = omega arith; normal = AreNormal-push 3 [] (pair 2 4) no_nodes.normal refl (record { no_constant = omega arith; ordered = omega arith; below = omega arith }) }

-- two nodes, and the same pair twice: in each version the second one is refused
pair_twice_one : IsPackFault (magic ++ 0 ∷ 1 ∷ 0 ∷ 2 ∷ 0 ∷ 1 ∷ 112 ∷ 0 ∷ 0 ∷ 1 ∷ 113 ∷ 0 ∷ 0 ∷ 0 ∷ 0 ∷ 2 ∷ 0 ∷ 0 ∷ 0 ∷ 2 ∷ 0 ∷ 0 ∷ 0 ∷ 4 ∷ 0 ∷ 0 ∷ 0 ∷ 2 ∷ 0 ∷ 0 ∷ 0 ∷ 4 ∷ []) (refused.BadNode 28)
pair_twice_one = record { front = in_nodes One (p ∷ q ∷ []) 2 (pair 2 4 ∷ []); rest = 0 ∷ 0 ∷ 0 ∷ 2 ∷ 0 ∷ 0 ∷ 0 ∷ 4 ∷ []; spelled = refl; sound = (record { few = omega arith; within = omega arith }, (are_params, one_pair)); refused = refl }

pair_twice_two : IsPackFault (magic ++ 0 ∷ 2 ∷ 2 ∷ 1 ∷ 112 ∷ 0 ∷ 1 ∷ 113 ∷ 0 ∷ 2 ∷ 2 ∷ 2 ∷ 4 ∷ 2 ∷ 1 ∷ 6 ∷ []) (refused.BadNode 16)
pair_twice_two = record { front = in_nodes Two (p ∷ q ∷ []) 2 (pair 2 4 ∷ []); rest = 4 ∷ 2 ∷ 1 ∷ 6 ∷ []; spelled = refl; sound = (record { few = omega arith; within = omega arith }, (are_params, one_pair)); refused = refl }

-- a file that ends before its one bit
without_its_bit : IsPackFault (magic ++ 0 ∷ 2 ∷ 2 ∷ 1 ∷ 112 ∷ 0 ∷ 1 ∷ 113 ∷ 0 ∷ 1 ∷ 2 ∷ 2 ∷ 1 ∷ []) (refused.Truncated 17)
without_its_bit = record {
  front = in_bits Two (p ∷ q ∷ []) (pair 2 4 ∷ []) 1 [];
  rest = [];
  spelled = refl;
  sound = (record { few = omega arith; within = omega arith }, (are_params, (one_pair, record { few = omega arith; below = λ l i. absurd i })));
  refused = refl;
}
