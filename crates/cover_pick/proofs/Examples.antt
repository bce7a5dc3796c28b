-- Worked examples: the chosen LUT of the multiplexer whose choice is a parameter, with the complement of its last node as the root; its flows, and what a cut costs.
use Rattle.cover_pick.proofs.Common.{◌≡◌, ℕ, ◌*◌, ◌/◌, ◌<◌, ◌≤◌, cond, eqb, List, [], ◌∷◌, Option, Some, None, refl, sym, ap, subst, inl, inr, arith, same_Some, none-some, eqb-true, IsSource, Regular, Parameter, In, some_then, none_then, row_at, mux, mux_rows, mux_normal, last_cuts, height, label_of, Lut, FewestLeaves, Rows, fan_out, flow_at, flows_below, AtMost, HasRuled, no_flow, IsPlan, IsCone, IsWork, Aig, pair, label_at, AnyHeight, LeastHeight, allowed_row, flows_by, uses, cost_of, PlanValue, IsFirst}
use Rattle.depth_label.proofs.Examples.{mux_labels}
use Rattle.cover_pick.specs.Choice.{Precedes, before, IsChosen}
use Rattle.cover_pick.specs.Sharing.{IsNeededAbove, shared, free as free_leaf, new, IsCost}
use Rattle.cover_pick.specs.Tables.{IsNeeded, root, leaf, IsLeaves, constant, parameter, source, node, HasTable, AreTables}
use Rattle.cover_pick.proofs.WorkLemmas.{cone_is}
use Rattle.cover_pick.proofs.OwnLemmas.{cone_own, none_shared}

-- node 6 is required by depth 1, and takes its cut of the two inputs; no other node is needed
abbrev pub mux_depths : ℕ → Option ℕ
mux_depths n = cond (eqb n 6) (Some 1) None

abbrev pub mux_cover : ℕ → Option (List ℕ)
mux_cover n = cond (eqb n 6) (Some (1 ∷ 2 ∷ [])) None

depth_at : (n r : ℕ) → mux_depths n ≡ Some r → (n ≡ 6) × (1 ≡ r)
depth_at n r e = let s = some_then (eqb n 6) (Some 1) r e in (eqb-true n 6 s.0, same_Some 1 r s.1)

cut_at_node : (n : ℕ) (c : List ℕ) → mux_cover n ≡ Some c → (n ≡ 6) × ((1 ∷ 2 ∷ []) ≡ c)
cut_at_node n c e = let s = some_then (eqb n 6) (Some (1 ∷ 2 ∷ [])) c e in (eqb-true n 6 s.0, same_Some (1 ∷ 2 ∷ []) c s.1)

-- the one cut of height 1 is chosen
mux_chosen : IsChosen (label_of mux_labels) 1 (row_at mux_rows 6) (1 ∷ 2 ∷ [])
mux_chosen = record {
  one = inl refl;
  low = omega arith;
  first = last_cuts (λ d. height (label_of mux_labels) d ≤ 1 → Precedes (label_of mux_labels) (1 ∷ 2 ∷ []) d) (λ l. before refl refl (inl refl)) (λ l. absurd (omega arith)) (λ l. absurd (omega arith)) (λ l. absurd (omega arith));
}

no_node : (m : ℕ) → In (1 ∷ 2 ∷ []) m → m < 4
no_node m (inl e) = omega arith
no_node m (inr (inl e)) = omega arith
no_node m (inr (inr b)) = absurd b

only_root : (l : ℕ) → In (13 ∷ []) l → l ≡ 13
only_root l (inl e) = e
only_root l (inr b) = absurd b

pub mux_plan : IsPlan (Rows mux_rows) mux (label_of mux_labels) (13 ∷ []) mux_depths mux_cover
mux_plan = record {
  schedule = record {
    nodes = λ n r e. let six : n ≡ 6 = (depth_at n r e).0 in (omega arith, omega arith);
    low = λ n r e. let d = depth_at n r e in let one : 1 ≡ r = d.1 in let label : label_of mux_labels n ≡ 1 = ap (λ i. label_of mux_labels i) d.0 in omega arith;
    root = λ l i and. subst (λ x. AtMost (mux_depths (x / 2)) 1) (sym (only_root l i)) (record { by = 1; is = refl; le = omega arith });
    leaf = λ n r m c e at i and. absurd (let b : m < 4 = no_node m (subst (λ x. In x m) (sym (cut_at_node n c at).1) i) in let a : 4 ≤ m = and.0 in omega arith);
    whence = λ n r e. let d = depth_at n r e in inl (record { root = 13; is_root = inl refl; node = sym d.0; is = sym d.1 });
  };
  chosen = λ n r e.
      let d = depth_at n r e in
      subst (λ i. HasRuled FewestLeaves no_flow (IsNeededAbove (13 ∷ []) mux_cover i) (label_of mux_labels) r (row_at mux_rows i) (mux_cover i)) (sym d.0)
      (subst (λ q. HasRuled FewestLeaves no_flow (IsNeededAbove (13 ∷ []) mux_cover 6) (label_of mux_labels) q (row_at mux_rows 6) (mux_cover 6)) d.1 (record { cut = 1 ∷ 2 ∷ []; is = refl; best = mux_chosen }));
  none = λ n e. ap (λ b. cond b (Some (1 ∷ 2 ∷ [])) None) (none_then (eqb n 6) 1 e);
}

-- one table of two inputs: the parameter is no leaf, and a positive input has no table
abbrev pub mux_luts : List Lut
mux_luts = record { lit = record { 0 = 13 }; leaves = 1 ∷ 2 ∷ []; base = 0 } ∷ []

other_kind : Some Regular ≡ Some Parameter → ⊥
other_kind e = cc

no_input : (m : ℕ) (c : List ℕ) → In (1 ∷ 2 ∷ []) m → IsLeaves mux mux_cover (2 * m) c → HasTable mux_luts (2 * m) c
no_input m c i (constant z e) = absurd (elim i [ inl q ↦ omega arith | inr j ↦ elim j [ inl q ↦ omega arith | inr b ↦ b ] ])
no_input m c i (source s o e) = absurd (omega arith)
no_input m c i (node at) = absurd (let six : (2 * m) / 2 ≡ 6 = (cut_at_node ((2 * m) / 2) c at).0 in let b : m < 4 = no_node m i in omega arith)
no_input m c (inl q) (parameter s e) = absurd (other_kind (subst (λ x. IsSource mux Parameter ((2 * x) / 2)) q s).is)
no_input m c (inr (inl q)) (parameter s e) = absurd (other_kind (subst (λ x. IsSource mux Parameter ((2 * x) / 2)) q s).is)
no_input m c (inr (inr b)) (parameter s e) = absurd b

root_table : (c : List ℕ) → IsLeaves mux mux_cover 13 c → HasTable mux_luts 13 c
root_table c (constant z e) = absurd (omega arith)
root_table c (parameter s e) = absurd (none-some Parameter s.is)
root_table c (source s o e) = absurd (none-some Regular s.is)
root_table c (node at) = record { by = record { lit = record { 0 = 13 }; leaves = 1 ∷ 2 ∷ []; base = 0 }; in' = inl refl; lit_is = refl; leaves_are = same_Some (1 ∷ 2 ∷ []) c at }

needed_table : (l : ℕ) (c : List ℕ) → IsNeeded (13 ∷ []) mux_cover l → IsLeaves mux mux_cover l c → HasTable mux_luts l c
needed_table l c (root i) leaves = subst (λ x. HasTable mux_luts x c) (sym (only_root l i)) (root_table c (subst (λ x. IsLeaves mux mux_cover x c) (only_root l i) leaves))
needed_table l c (leaf n m d at i e) leaves =
    subst (λ x. HasTable mux_luts x c) (sym e) (no_input m c (subst (λ x. In x m) (sym (cut_at_node n d at).1) i) (subst (λ x. IsLeaves mux mux_cover x c) e leaves))

one_table : (P : Lut → Type 0) → P (record { lit = record { 0 = 13 }; leaves = 1 ∷ 2 ∷ []; base = 0 }) → (t : Lut) → In mux_luts t → P t
one_table P p t (inl e) = subst P (sym e) p
one_table P p t (inr b) = absurd b

pub mux_tables : AreTables mux (13 ∷ []) mux_cover mux_luts 4
mux_tables = record {
  needed = one_table (λ t. IsNeeded (13 ∷ []) mux_cover t.lit.0) (root (inl refl));
  leaves = one_table (λ t. IsLeaves mux mux_cover t.lit.0 t.leaves) (node refl);
  all = needed_table;
  ascending = ((λ u i. absurd i), tt);
  bases = (refl, tt);
  sum = refl;
}

-- Its cone is the three AND nodes, and its work 4 * (1 + 3).
pub mux_cone : IsCone mux (1 ∷ 2 ∷ []) 6 (6 ∷ 5 ∷ 4 ∷ [])
mux_cone = cone_is mux (1 ∷ 2 ∷ []) 6 mux_normal (omega arith)

pub mux_work : IsWork mux (λ n. ⊥) mux_luts 16
mux_work = record {
  own = 16;
  is_own = (16, 0, record { nodes = 6 ∷ 5 ∷ 4 ∷ []; are = cone_own mux (1 ∷ 2 ∷ []) 6 (6 ∷ 5 ∷ 4 ∷ []) mux_cone; work_is = refl }, refl, refl);
  shared = [];
  are_shared = none_shared mux mux_luts;
  work_is = refl;
}

-- The flows: a table of one input above each of the two inputs, and one of both above them.
pub mux_flows : flows_below mux AnyHeight (label_of mux_labels) mux_rows (fan_out mux) 7 ≡ 0 ∷ 0 ∷ 0 ∷ 0 ∷ 258 ∷ 258 ∷ 260 ∷ []
mux_flows = refl

-- A cut of an input and node 5 costs its four bits, and the flow of node 5 unless that is needed already.
pub shared_cost : IsCost (flow_at (flows_below mux AnyHeight (label_of mux_labels) mux_rows (fan_out mux) 7)) (λ m. m ≡ 5) (1 ∷ 5 ∷ []) 4
shared_cost = record { leaves = 0; are = (0, 0, free_leaf refl refl, (0, 0, shared refl refl, refl, refl), refl); is = refl }

pub new_cost : IsCost (flow_at (flows_below mux AnyHeight (label_of mux_labels) mux_rows (fan_out mux) 7)) (λ m. ⊥) (1 ∷ 5 ∷ []) 262
new_cost = record { leaves = 258; are = (0, 258, free_leaf refl refl, (258, 0, new (λ x. x) refl, refl, refl), refl); is = refl }

-- A worked example of two rounds: a node that two nodes read, of which one is needed.
--
-- Its sources are the inputs 1 to 4. Nodes 6 and 7 read node 5, node 8 reads node 7 and is the root; node 6 is not needed. The
-- first round shares node 5 between its two readers, and takes it as a leaf of node 8. The cover uses it once, so in the
-- second round it costs twice as much, and node 8 takes node 7 as a leaf. The second cover costs as much as the first one.
abbrev pub fork : Aig
fork = record { kinds = Regular ∷ Regular ∷ Regular ∷ Regular ∷ []; pairs = pair 5 8 ∷ pair 4 10 ∷ pair 2 10 ∷ pair 7 15 ∷ []; max = 4 }

-- the minimal cuts of its nodes, of at most three leaves, and the labels
abbrev pub fork_rows : List (List (List ℕ))
fork_rows = [] ∷ [] ∷ [] ∷ [] ∷ [] ∷ ((2 ∷ 4 ∷ []) ∷ []) ∷ ((2 ∷ 4 ∷ []) ∷ (2 ∷ 5 ∷ []) ∷ []) ∷ ((1 ∷ 5 ∷ []) ∷ (1 ∷ 2 ∷ 4 ∷ []) ∷ []) ∷ ((3 ∷ 7 ∷ []) ∷ (1 ∷ 3 ∷ 5 ∷ []) ∷ []) ∷ []

abbrev pub fork_label : ℕ → ℕ
fork_label = label_at (0 ∷ 0 ∷ 0 ∷ 0 ∷ 0 ∷ 1 ∷ 1 ∷ 1 ∷ 2 ∷ [])

-- two of these cuts are higher than their node's label
pub low_six : allowed_row LeastHeight fork_label (fork_label 6) (row_at fork_rows 6) ≡ (2 ∷ 4 ∷ []) ∷ []
low_six = refl

pub low_seven : allowed_row LeastHeight fork_label (fork_label 7) (row_at fork_rows 7) ≡ (1 ∷ 2 ∷ 4 ∷ []) ∷ []
low_seven = refl

pub low_eight : allowed_row LeastHeight fork_label (fork_label 8) (row_at fork_rows 8) ≡ (3 ∷ 7 ∷ []) ∷ (1 ∷ 3 ∷ 5 ∷ []) ∷ []
low_eight = refl

-- The first round: node 5 has two readers, so its 256 + 4 are halved.
pub first_flows : flows_by fork fork_rows fork_label AnyHeight (fan_out fork) ≡ 0 ∷ 0 ∷ 0 ∷ 0 ∷ 0 ∷ 130 ∷ 260 ∷ 264 ∷ 394 ∷ []
first_flows = refl

-- Of the cuts of node 8 that of three leaves is the cheaper one.
pub first_three : IsCost (flow_at (flows_by fork fork_rows fork_label AnyHeight (fan_out fork))) (λ m. m ≡ 8) (1 ∷ 3 ∷ 5 ∷ []) 138
first_three = record { leaves = 130; are = (0, 130, free_leaf refl refl, (0, 130, free_leaf refl refl, (130, 0, new (λ e. absurd (omega arith)) refl, refl, refl), refl), refl); is = refl }

pub first_two : IsCost (flow_at (flows_by fork fork_rows fork_label AnyHeight (fan_out fork))) (λ m. m ≡ 8) (3 ∷ 7 ∷ []) 268
first_two = record { leaves = 264; are = (0, 264, free_leaf refl refl, (264, 0, new (λ e. absurd (omega arith)) refl, refl, refl), refl); is = refl }

abbrev pub first_plan : PlanValue
first_plan = record { reqs = λ n. cond (eqb n 8) (Some 2) (cond (eqb n 5) (Some 1) None); cover = λ n. cond (eqb n 8) (Some (1 ∷ 3 ∷ 5 ∷ [])) (cond (eqb n 5) (Some (2 ∷ 4 ∷ [])) None) }

-- Its cover uses node 5 once, and node 7 not at all.
pub five_used : uses fork first_plan.cover 5 ≡ 1
five_used = refl

pub seven_used : uses fork first_plan.cover 7 ≡ 0
seven_used = refl

-- The second round: node 5 costs twice as much.
pub second_flows : flows_by fork fork_rows fork_label AnyHeight (uses fork first_plan.cover) ≡ 0 ∷ 0 ∷ 0 ∷ 0 ∷ 0 ∷ 260 ∷ 260 ∷ 264 ∷ 524 ∷ []
second_flows = refl

-- Now both cuts of node 8 cost the same, and that of two leaves comes first.
pub second_three : IsCost (flow_at (flows_by fork fork_rows fork_label AnyHeight (uses fork first_plan.cover))) (λ m. m ≡ 8) (1 ∷ 3 ∷ 5 ∷ []) 268
second_three = record { leaves = 260; are = (0, 260, free_leaf refl refl, (0, 260, free_leaf refl refl, (260, 0, new (λ e. absurd (omega arith)) refl, refl, refl), refl), refl); is = refl }

pub second_two : IsCost (flow_at (flows_by fork fork_rows fork_label AnyHeight (uses fork first_plan.cover))) (λ m. m ≡ 8) (3 ∷ 7 ∷ []) 268
second_two = record { leaves = 264; are = (0, 264, free_leaf refl refl, (264, 0, new (λ e. absurd (omega arith)) refl, refl, refl), refl); is = refl }

abbrev pub second_plan : PlanValue
second_plan = record { reqs = λ n. cond (eqb n 8) (Some 2) (cond (eqb n 7) (Some 1) None); cover = λ n. cond (eqb n 8) (Some (3 ∷ 7 ∷ [])) (cond (eqb n 7) (Some (1 ∷ 2 ∷ 4 ∷ [])) None) }

-- Both covers cost 256 + 4 and 256 + 8, so the first one is the first of the least cost.
pub first_cost : cost_of fork first_plan.cover ≡ 524
first_cost = refl

pub second_cost : cost_of fork second_plan.cover ≡ 524
second_cost = refl

pub first_of_two : IsFirst fork first_plan (first_plan ∷ second_plan ∷ [])
first_of_two = inl (refl, λ p i. elim i [ inl e ↦ subst (λ q. cost_of fork first_plan.cover ≤ cost_of fork q.cover) (sym e) (omega arith) | inr b ↦ absurd b ])
