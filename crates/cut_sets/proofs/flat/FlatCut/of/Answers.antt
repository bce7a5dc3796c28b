use Rattle.cut_sets.proofs.Common.{◌≡◌, ◌∙◌, ap, sym, subst, length, take, arith, take_all, IsAscending, signature_of}
use Rattle.cut_sets.proofs.flat.FlatCut.of.Goals as goal

pub invariant_of-result : goal.invariant_of-result
invariant_of-result c =
    let n : length c.args.leaves.now ≡ c.loop-n.n = omega (arith, c.loop-n.auto.n-end, c.loop-n-test.false) in
    let all : take (length c.args.leaves.now) c.loop-n.own ≡ c.args.leaves.now = ap (λ m. take m c.loop-n.own) n ∙ (c.loop-n.invariant.so_far ∙ take_all c.loop-n.n c.args.leaves.now c.loop-n-test.false) in
    record {
      few = c.requires.few;
      ascending = subst IsAscending (sym all) c.requires.ascending;
      signed = c.requires.signed ∙ ap signature_of (sym all);
    }
