use Rattle.flow_label.proofs.Common.{IsOpen, IsLive, net_of, label_at, subst, sym, inl, inr}
use Rattle.flow_label.proofs.tight.reads_open.Goals as goal

pub returns-then-is_free_or_open : goal.returns-then-is_free_or_open
returns-then-is_free_or_open c = λ e m f live. elim (c.fan_ins-below.ensures.all m f) [
  | inl q ↦ subst (λ x. IsOpen (net_of c.args.site.now) x) (sym q) (c.is_free_or_open.ensures c.if-is_free_or_open.true (subst (λ x. IsLive c.args.site.now.graph (label_at c.args.site.now.labels) x) q live))
  | inr q ↦ subst (λ x. IsOpen (net_of c.args.site.now) x) (sym q) (c.is_free_or_open-then-is_free_or_open.ensures e (subst (λ x. IsLive c.args.site.now.graph (label_at c.args.site.now.labels) x) q live))
]
