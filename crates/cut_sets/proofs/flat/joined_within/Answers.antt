use Rattle.cut_sets.proofs.Common.{◌≡◌, ◌≤◌, ◌∙◌, length, arith, length-take-le, union, MOST_LEAVES}
use Rattle.list_laws.proofs.Places.{set_length}
use Rattle.cut_sets.proofs.SignatureLemmas.{union_over_bits}
use Rattle.cut_sets.proofs.HeadLemmas.{joined_step, joined_all, joined_over, flat_union}
use Rattle.cut_sets.proofs.flat.joined_within.Goals as goal

pub returns-then-signature-most : goal.returns-then-signature-most
returns-then-signature-most c =
    union_over_bits c.args.a.now c.args.b.now c.args.most (rw (← c.signature.ensures, ← c.signature-2.ensures) c.if-signature-most.true)

pub loop-n-preserved : goal.loop-n-preserved
loop-n-preserved c =
    let len : length c.loop-n.leaves ≡ MOST_LEAVES = c.loop-n.invariant.len in
    record {
      len = set_length c.loop-n.leaves c.loop-n.n c.in-Some.heads.least ∙ len;
      so_far =
          joined_step c.loop-n.leaves (union c.args.a.now c.args.b.now) (union c.loop-n.xs.now c.loop-n.ys.now) (union c.in-Some.heads.xs.now c.in-Some.heads.ys.now) c.loop-n.n c.in-Some.heads.least (omega arith)
          c.loop-n.invariant.so_far c.in-Some.ensures.some;
      x_up = c.in-Some.ensures.x_up;
      y_up = c.in-Some.ensures.y_up;
    }

pub invariant_of-result : goal.invariant_of-result
invariant_of-result c =
    let few : c.args.most ≤ MOST_LEAVES = c.requires in
    flat_union c.loop-n.leaves c.args.a.now c.args.b.now (union c.loop-n.xs.now c.loop-n.ys.now) c.loop-n.n c.loop-n.n c.signature.result c.signature-2.result c.loop-n.invariant.so_far c.in-None.ensures.none (omega arith) (omega arith)
    c.leaves-ys.ensures.ascending c.signature.ensures c.signature-2.ensures

pub invariant_of-result-in-None-least_head : goal.invariant_of-result-in-None-least_head
invariant_of-result-in-None-least_head c =
    flat_union c.loop-n.leaves c.args.a.now c.args.b.now (union c.loop-n.xs.now c.loop-n.ys.now) c.loop-n.n c.args.most c.signature.result c.signature-2.result c.loop-n.invariant.so_far c.in-None-least_head.ensures.none (omega arith) c.requires
    c.leaves-ys.ensures.ascending c.signature.ensures c.signature-2.ensures

pub returns-in-None : goal.returns-in-None
returns-in-None c =
    let len : length c.loop-n.leaves ≡ MOST_LEAVES = c.loop-n.invariant.len in
    let few : c.args.most ≤ MOST_LEAVES = c.requires in
    (joined_all c.loop-n.leaves (union c.args.a.now c.args.b.now) (union c.loop-n.xs.now c.loop-n.ys.now) c.loop-n.n c.loop-n.n (omega arith) c.loop-n.invariant.so_far c.in-None.ensures.none, omega (arith, length-take-le c.loop-n.n c.loop-n.leaves (omega arith)))

pub returns-in-Some-least_head : goal.returns-in-Some-least_head
returns-in-Some-least_head c =
    let len : length c.loop-n.leaves ≡ MOST_LEAVES = c.loop-n.invariant.len in
    let few : c.args.most ≤ MOST_LEAVES = c.requires in
    joined_over c.loop-n.leaves (union c.args.a.now c.args.b.now) (union c.loop-n.xs.now c.loop-n.ys.now) (union c.in-Some-least_head.field-0.xs.now c.in-Some-least_head.field-0.ys.now) c.loop-n.n c.args.most c.in-Some-least_head.field-0.least
    (omega arith) (omega arith) c.loop-n.invariant.so_far c.in-Some-least_head.ensures.some

pub returns-in-None-least_head : goal.returns-in-None-least_head
returns-in-None-least_head c =
    let len : length c.loop-n.leaves ≡ MOST_LEAVES = c.loop-n.invariant.len in
    let few : c.args.most ≤ MOST_LEAVES = c.requires in
    (joined_all c.loop-n.leaves (union c.args.a.now c.args.b.now) (union c.loop-n.xs.now c.loop-n.ys.now) c.loop-n.n c.args.most (omega arith) c.loop-n.invariant.so_far c.in-None-least_head.ensures.none, omega (arith, length-take-le c.args.most c.loop-n.leaves (omega arith)))
