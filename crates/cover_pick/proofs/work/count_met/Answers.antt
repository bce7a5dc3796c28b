use Rattle.cover_pick.proofs.Common.{arith, ◌≡◌, ◌+◌, ◌-◌, ℕ, List, Bool, length, sym, subst, subst₂, first_and}
use Rattle.cover_pick.proofs.MetLemmas.{AreCountedFrom, count_start, count_next, count_skip, count_end}
use Rattle.cover_pick.proofs.work.count_met.Goals.{then-met-n, else-met-n}
use Rattle.cover_pick.proofs.work.count_met.Goals as goal

pub loop-i-init : goal.loop-i-init
loop-i-init c = count_start c.args.graph.now c.args.met.now (first_and c.args.graph.now + (length c.args.graph.now.pairs - 0)) c.requires (omega arith)

pub loop-i-preserved : goal.loop-i-preserved
loop-i-preserved c =
    let g = c.args.graph.now in
    let k : ℕ = first_and g + (length g.pairs - c.loop-i.i) in
    let n : ℕ = c.sources-first.result + 1 + (c.len.result - (c.sources-first.result + 1) - 1 - c.loop-i.i) in
    let here : n ≡ first_and g + (length g.pairs - (c.loop-i.i + 1)) = omega arith in
    let step : k ≡ n + 1 = omega arith in
    subst (λ j. AreCountedFrom g c.args.met.now c.if-met-n.met j c.if-met-n.count) here (elim c.if-met-n.branch [
      | then-met-n w ↦ subst₂ (λ (ms : List Bool) (j : ℕ). AreCountedFrom g c.args.met.now ms n j) (sym w.met-is) (sym w.count-is)
          (count_next g c.args.met.now c.loop-i.met w.meet_fan_ins.new.met n k c.loop-i.count c.len.ensures.normal step (omega arith, omega arith) w.if-met-n.true w.meet_fan_ins.ensures c.loop-i.invariant)
      | else-met-n w ↦ subst₂ (λ (ms : List Bool) (j : ℕ). AreCountedFrom g c.args.met.now ms n j) (sym w.met-is) (sym w.count-is)
          (count_skip g c.args.met.now c.loop-i.met n k c.loop-i.count step w.if-met-n.false c.loop-i.invariant)
    ])

pub returns : goal.returns
returns c = record { count = count_end c.args.graph.now c.args.met.now c.loop-i.met (first_and c.args.graph.now + (length c.args.graph.now.pairs - c.loop-i.i)) c.loop-i.count (omega arith) c.loop-i.invariant }
