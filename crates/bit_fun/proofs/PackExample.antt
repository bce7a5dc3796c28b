-- Worked examples: the multiplexer's LUT over its two inputs, whose bits are the functions 0, p, not p and 1 of the parameter, and a LUT without leaves, the product of two parameters.
use Rattle.bit_fun.proofs.Common.{ℕ, ◌<◌, List, [], ◌∷◌, refl, inl, inr, arith, In, bit_value, digit, Aig, Answer, product_of, Parameter, Pair, multiplexer, pair, Lut, IsParam}
use Rattle.bit_fun.specs.PackOf.{phase_literal, MakesNode, leaf, parameter, node, BitsMade, MakesTable, done, more, MakesTables, none, tables}
use Rattle.bit_fun.proofs.BitExample.{root_table}

-- the functions of the AND nodes for v, over no nodes
abbrev node_4 : ℕ → Answer
node_4 v = product_of 2 [] (phase_literal 2 (bit_value (digit v 0))) (phase_literal 6 2)

abbrev node_5 : ℕ → List Pair → Answer
node_5 v pairs = product_of 2 pairs (phase_literal 4 (bit_value (digit v 1))) (phase_literal 7 2)

abbrev node_6 : ℕ → Answer
node_6 v = product_of 2 (node_5 v (node_4 v).pairs).pairs (phase_literal 9 (node_4 v).lit) (phase_literal 11 (node_5 v (node_4 v).pairs).lit)

no_leaf : (n : ℕ) → 2 < n → In (1 ∷ 2 ∷ []) n → ⊥
no_leaf n l (inl e) = omega arith
no_leaf n l (inr (inl e)) = omega arith
no_leaf n l (inr (inr i)) = i

makes_6 : (v : ℕ) → MakesNode multiplexer 2 (1 ∷ 2 ∷ []) v [] 6 (node_6 v)
makes_6 v =
    let is_p : IsParam multiplexer 0 3 = record { source = record { above = omega arith; is = refl }; place = refl } in
    let made_4 : MakesNode multiplexer 2 (1 ∷ 2 ∷ []) v [] 4 (node_4 v) =
    node (pair 2 6) (record { pairs = []; lit = bit_value (digit v 0) }) (record { pairs = []; lit = 2 }) (no_leaf 4 (omega arith)) (record { above = omega arith; is = refl }) (leaf 0 refl refl) (parameter 0 is_p refl) refl in
    let made_5 : MakesNode multiplexer 2 (1 ∷ 2 ∷ []) v (node_4 v).pairs 5 (node_5 v (node_4 v).pairs) =
    node (pair 4 7) (record { pairs = (node_4 v).pairs; lit = bit_value (digit v 1) }) (record { pairs = (node_4 v).pairs; lit = 2 }) (no_leaf 5 (omega arith)) (record { above = omega arith; is = refl }) (leaf 1 refl refl) (parameter 0 is_p refl) refl in
    node (pair 9 11) (node_4 v) (node_5 v (node_4 v).pairs) (no_leaf 6 (omega arith)) (record { above = omega arith; is = refl }) made_4 made_5 refl

-- the bits of the multiplexer's table
abbrev pub mux_bits : BitsMade
mux_bits = record { pairs = []; bits = record { 0 = 0 } ∷ record { 0 = 2 } ∷ record { 0 = 3 } ∷ record { 0 = 1 } ∷ [] }

mux_table : MakesTable multiplexer 2 root_table [] 0 mux_bits
mux_table = more (node_6 0) _ (makes_6 0) (more (node_6 1) _ (makes_6 1) (more (node_6 2) _ (makes_6 2) (more (node_6 3) _ (makes_6 3) (done refl refl) refl) refl) refl) refl

pub mux_made : MakesTables multiplexer 2 [] (root_table ∷ []) mux_bits
mux_made = tables root_table [] mux_bits (record { pairs = []; bits = [] }) refl mux_table (none refl refl) refl

-- two parameters and their product
abbrev pub both : Aig
both = record { kinds = Parameter ∷ Parameter ∷ []; pairs = pair 2 4 ∷ []; max = 1 }

abbrev pub both_table : Lut
both_table = record { lit = record { 0 = 6 }; leaves = []; base = 0 }

both_node : MakesNode both 3 [] 0 [] 3 (record { pairs = pair 2 4 ∷ []; lit = 6 })
both_node =
    let is_p : IsParam both 0 1 = record { source = record { above = omega arith; is = refl }; place = refl } in
    let is_q : IsParam both 1 2 = record { source = record { above = omega arith; is = refl }; place = refl } in
    node (pair 2 4) (record { pairs = []; lit = 2 }) (record { pairs = []; lit = 4 }) (λ i. i) (record { above = omega arith; is = refl }) (parameter 0 is_p refl) (parameter 1 is_q refl) refl

-- it has one node and one bit
pub both_made : MakesTables both 3 [] (both_table ∷ []) (record { pairs = pair 2 4 ∷ []; bits = record { 0 = 6 } ∷ [] })
both_made =
    tables both_table [] (record { pairs = pair 2 4 ∷ []; bits = record { 0 = 6 } ∷ [] }) (record { pairs = pair 2 4 ∷ []; bits = [] }) refl
    (more (record { pairs = pair 2 4 ∷ []; lit = 6 }) (record { pairs = pair 2 4 ∷ []; bits = [] }) both_node (done refl refl) refl) (none refl refl) refl
