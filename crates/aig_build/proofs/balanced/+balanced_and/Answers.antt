use Rattle.aig_build.proofs.Lemmas.{◌≡◌, ◌≤◌, ◌∙◌, ap, arith, drop, length, List, refl, rules, take, All-drop, Lit, Aig, first_and, and_of, Answer, with_pairs, back_half, front_half, balanced_and, AreBelow, AreBelow-more, balanced-grows, balanced_and-back_length, balanced_and-front_length, full_weaker, halved, IsBelow, IsLit-more}
use Rattle.aig_build.proofs.balanced.+balanced_and.Goals as goal

pub returns-in_err-x-in_default-clause-full : goal.returns-in_err-x-in_default-clause-full
returns-in_err-x-in_default-clause-full t c =
    let g : Aig = c.args.graph.now in
    let lits : List Lit = c.args.lits.now in
    let ef : c.split_at.result.0.now ≡ front_half lits = c.split_at.ensures.front ∙ ap (λ n. take n lits) c.div_ceil.ensures in
    let l : length (balanced_and (first_and g) g.pairs c.split_at.result.0.now).pairs ≤ length (balanced_and (first_and g) g.pairs lits).pairs =
    rw ef (balanced_and-front_length (first_and g) g.pairs lits c.in_default.len_at_least) in
    full_weaker g.max g.max _ _ refl l (search rules)

pub balanced_and-requires-in_default : goal.balanced_and-requires-in_default
balanced_and-requires-in_default t c =
    let g : Aig = c.args.graph.now in
    let lits : List Lit = c.args.lits.now in
    let eb : c.split_at.result.1.now ≡ drop c.div_ceil.result lits = c.split_at.ensures.back in
    let below : AreBelow (first_and g) g.pairs c.split_at.result.1.now = rw eb (All-drop (IsBelow (first_and g) g.pairs) c.div_ceil.result lits c.requires) in
    (search rules, rw c.in_ok-x-in_default.ensures.pairs (AreBelow-more (first_and g) g.pairs (balanced_and (first_and g) g.pairs c.split_at.result.0.now).pairs c.split_at.result.1.now (balanced-grows (first_and g) (length c.split_at.result.0.now) g.pairs c.split_at.result.0.now) below))

pub returns-in_err-y-in_default-clause-full : goal.returns-in_err-y-in_default-clause-full
returns-in_err-y-in_default-clause-full t c =
    let g : Aig = c.args.graph.now in
    let g1 : Aig = c.balanced_and.new.graph in
    let lits : List Lit = c.args.lits.now in
    let ef : c.split_at.result.0.now ≡ front_half lits = c.split_at.ensures.front ∙ ap (λ n. take n lits) c.div_ceil.ensures in
    let eb : c.split_at.result.1.now ≡ back_half lits = c.split_at.ensures.back ∙ ap (λ n. drop n lits) c.div_ceil.ensures in
    let m : g1.max ≡ g.max = ap (λ (h : Aig). h.max) c.in_ok-x-in_default.ensures.pairs in
    let l : length (balanced_and (first_and g1) g1.pairs c.split_at.result.1.now).pairs ≤ length (balanced_and (first_and g) g.pairs lits).pairs =
    rw (c.in_ok-x-in_default.ensures.pairs, eb, ef) (balanced_and-back_length (first_and g) g.pairs lits c.in_default.len_at_least) in
    full_weaker g1.max g.max _ _ m l (search rules)

pub and-requires-clause-a_in : goal.and-requires-clause-a_in
and-requires-clause-a_in t c =
    let g1 : Aig = c.balanced_and.new.graph in
    rw c.in_ok-y-in_default.ensures.pairs (IsLit-more g1 (balanced_and (first_and g1) g1.pairs c.split_at.result.1.now).pairs c.in_ok-x-in_default.x.0
    (balanced-grows (first_and g1) (length c.split_at.result.1.now) g1.pairs c.split_at.result.1.now) c.in_ok-x-in_default.ensures.is_lit)

pub returns-in_err-lit-in_default-clause-full : goal.returns-in_err-lit-in_default-clause-full
returns-in_err-lit-in_default-clause-full t c =
    let g : Aig = c.args.graph.now in
    let g2 : Aig = c.balanced_and-in_default.new.graph in
    let lits : List Lit = c.args.lits.now in
    let h = halved g lits c.split_at.result.0.now c.split_at.result.1.now c.balanced_and.new.graph g2 c.in_ok-x-in_default.x.0 c.in_ok-y-in_default.y.0 c.in_default.len_at_least
    (c.split_at.ensures.front ∙ ap (λ n. take n lits) c.div_ceil.ensures) (c.split_at.ensures.back ∙ ap (λ n. drop n lits) c.div_ceil.ensures)
    c.in_ok-x-in_default.ensures.lit c.in_ok-x-in_default.ensures.pairs c.in_ok-y-in_default.ensures.lit c.in_ok-y-in_default.ensures.pairs in
    let e : and_of g2 c.in_ok-x-in_default.x.0 c.in_ok-y-in_default.y.0 ≡ balanced_and (first_and g) g.pairs lits = h.0 in
    let l : length (and_of g2 c.in_ok-x-in_default.x.0 c.in_ok-y-in_default.y.0).pairs ≤ length (balanced_and (first_and g) g.pairs lits).pairs = rw e (omega arith) in
    full_weaker g2.max g.max _ _ h.2 l (search rules)

pub returns-in_ok-lit-in_default-clause-lit : goal.returns-in_ok-lit-in_default-clause-lit
returns-in_ok-lit-in_default-clause-lit t c =
    let g : Aig = c.args.graph.now in
    let g2 : Aig = c.balanced_and-in_default.new.graph in
    let lits : List Lit = c.args.lits.now in
    let h = halved g lits c.split_at.result.0.now c.split_at.result.1.now c.balanced_and.new.graph g2 c.in_ok-x-in_default.x.0 c.in_ok-y-in_default.y.0 c.in_default.len_at_least
    (c.split_at.ensures.front ∙ ap (λ n. take n lits) c.div_ceil.ensures) (c.split_at.ensures.back ∙ ap (λ n. drop n lits) c.div_ceil.ensures)
    c.in_ok-x-in_default.ensures.lit c.in_ok-x-in_default.ensures.pairs c.in_ok-y-in_default.ensures.lit c.in_ok-y-in_default.ensures.pairs in
    c.in_ok-lit-in_default.ensures.lit ∙ ap (λ (a : Answer). a.lit) h.0

pub returns-in_ok-lit-in_default-clause-pairs : goal.returns-in_ok-lit-in_default-clause-pairs
returns-in_ok-lit-in_default-clause-pairs t c =
    let g : Aig = c.args.graph.now in
    let g2 : Aig = c.balanced_and-in_default.new.graph in
    let lits : List Lit = c.args.lits.now in
    let h = halved g lits c.split_at.result.0.now c.split_at.result.1.now c.balanced_and.new.graph g2 c.in_ok-x-in_default.x.0 c.in_ok-y-in_default.y.0 c.in_default.len_at_least
    (c.split_at.ensures.front ∙ ap (λ n. take n lits) c.div_ceil.ensures) (c.split_at.ensures.back ∙ ap (λ n. drop n lits) c.div_ceil.ensures)
    c.in_ok-x-in_default.ensures.lit c.in_ok-x-in_default.ensures.pairs c.in_ok-y-in_default.ensures.lit c.in_ok-y-in_default.ensures.pairs in
    c.in_ok-lit-in_default.ensures.ok ∙ h.1 _ ∙ ap (λ (a : Answer). with_pairs g a.pairs) h.0
