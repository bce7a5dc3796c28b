use Rattle.bounded_cuts.proofs.Common.{◌≡◌, ◌≤◌, ℕ, List, sym, ap, ◌∙◌, subst, arith, label_at, height, eqb-true, first_and, Blocks, constant, parameter, height_none, Some}
use Rattle.bounded_cuts.proofs.candidates.is_free.Goals as goal

pub returns-then-m-eq0-clause-free : goal.returns-then-m-eq0-clause-free
returns-then-m-eq0-clause-free c _ k least = constant c.if-m-eq0.true

pub returns-then-m-sources-clause-free : goal.returns-then-m-sources-clause-free
returns-then-m-sources-clause-free c zero_label k least =
    let l : c.label.result ≡ 0 = eqb-true c.label.result 0 zero_label in
    let m = c.args.m in
    let above : first_and c.args.graph.now ≤ m = omega (arith, c.if-m-sources.true, c.sources.ensures.count) in
    let met = least.met m (above, c.requires) in
    let e : height (label_at c.args.labels.now) met.0 ≡ 0 = sym met.2 ∙ sym c.label.ensures.value ∙ l in
    subst (λ (d : List ℕ). Blocks c.args.graph.now d m) (height_none (label_at c.args.labels.now) met.0 e) met.1.blocks

pub returns-in-Parameter-clause-free : goal.returns-in-Parameter-clause-free
returns-in-Parameter-clause-free c _ k least = parameter (record {
  above = (let n = c.if-m-eq0.false in omega arith);
  is = c.kind.ensures ∙ ap Some c.in-Parameter.is;
})
