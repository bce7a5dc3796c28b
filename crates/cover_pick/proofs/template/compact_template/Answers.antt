use Rattle.cover_pick.proofs.Common.{◌∙◌, ℕ, List, ap, subst, sym, lits_of, label_at, low_in, AreRoots, Sets, ArePicked}
use Rattle.cover_pick.proofs.template.compact_template.Goals as goal

pub cheapest_tables-picked-requires-clause-roots : goal.cheapest_tables-picked-requires-clause-roots
cheapest_tables-picked-requires-clause-roots c = subst (AreRoots c.args.graph.now) (sym (ap lits_of c.deref.ensures.value ∙ c.in_ok-all.ensures)) c.requires.roots

pub template_for-requires-clause-all : goal.template_for-requires-clause-all
template_for-requires-clause-all c = ap lits_of c.deref-2.ensures.value ∙ c.in_ok-all.ensures

pub returns : goal.returns
returns c = c.template_for.ensures (Sets c.args.k (low_in c.args.lows.now)) (subst (λ (rs : List ℕ). ArePicked (Sets c.args.k (low_in c.args.lows.now)) c.args.graph.now (label_at c.args.labels.now) rs c.cheapest_tables-picked.result) (ap lits_of c.deref.ensures.value ∙ c.in_ok-all.ensures) c.cheapest_tables-picked.ensures)
