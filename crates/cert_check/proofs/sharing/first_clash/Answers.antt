use Rattle.cert_check.proofs.Common.{ℕ, List, Some, None, get_or, refl, sym, subst, inl, inr, arith, In-get_or, drop_past, drop_get, slice_get-get_or, IsFirstClash}
use Rattle.cert_check.proofs.sharing.first_clash.Goals as goal

pub clashes-requires-clause-stamps : goal.clashes-requires-clause-stamps
clashes-requires-clause-stamps c = c.requires.stamps _ (In-get_or c.args.nodes.now c.loop-m.m-index 0 c.loop-m-test.true)

pub clashes-requires-clause-claims : goal.clashes-requires-clause-claims
clashes-requires-clause-claims c = c.requires.claims _ (In-get_or c.args.nodes.now c.loop-m.m-index 0 c.loop-m-test.true)

pub returns-then-clashes : goal.returns-then-clashes
returns-then-clashes c =
    let m : ℕ = get_or c.args.nodes.now c.loop-m.m-index 0 in
    c.loop-m.invariant (Some m) (subst (λ (ms : List ℕ). IsFirstClash c.args.stamps.now c.args.claims.now c.args.n c.args.claim ms (Some m)) (sym (drop_get c.args.nodes.now c.loop-m.m-index _ (slice_get-get_or c.args.nodes.now c.loop-m.m-index 0 c.loop-m-test.true))) (inl (c.clashes.ensures.yes c.if-clashes.true, refl)))

pub loop-m-preserved : goal.loop-m-preserved
loop-m-preserved c = λ found first.
    let m : ℕ = get_or c.args.nodes.now c.loop-m.m-index 0 in
    c.loop-m.invariant found (subst (λ (ms : List ℕ). IsFirstClash c.args.stamps.now c.args.claims.now c.args.n c.args.claim ms found) (sym (drop_get c.args.nodes.now c.loop-m.m-index _ (slice_get-get_or c.args.nodes.now c.loop-m.m-index 0 c.loop-m-test.true))) (inr (c.clashes.ensures.no c.if-clashes.false, first)))

pub returns : goal.returns
returns c = c.loop-m.invariant None (subst (λ (ms : List ℕ). IsFirstClash c.args.stamps.now c.args.claims.now c.args.n c.args.claim ms None) (sym (drop_past c.args.nodes.now c.loop-m.m-index (omega arith))) refl)
