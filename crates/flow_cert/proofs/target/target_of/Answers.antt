use Rattle.flow_cert.proofs.Common.{sym, subst, take, lits_of, label_at, IsTarget}
use Rattle.flow_cert.proofs.TargetLemmas.{in_lits, lits_more, target_more}
use Rattle.flow_cert.proofs.target.target_of.Goals as goal

pub deeper-best-requires : goal.deeper-best-requires
deeper-best-requires c = c.requires _ (in_lits c.args.roots.now c.loop-root.root-index (record { 0 = 0 }) c.loop-root-test.true)

pub loop-root-preserved : goal.loop-root-preserved
loop-root-preserved c =
    subst (λ ls. IsTarget c.args.graph.now (label_at c.args.labels.now) ls c.deeper-best.result.depth c.deeper-best.result.begin)
    (sym (lits_more c.args.roots.now c.loop-root.root-index (record { 0 = 0 }) c.loop-root-test.true))
    (target_more c.args.graph.now (label_at c.args.labels.now) (lits_of (take c.loop-root.root-index c.args.roots.now)) _ c.loop-root.best.depth c.loop-root.best.begin c.loop-root.invariant c.deeper-best.result.depth c.deeper-best.result.begin c.deeper-best.ensures)
