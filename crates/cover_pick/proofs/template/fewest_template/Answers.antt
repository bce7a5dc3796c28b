use Rattle.cover_pick.proofs.Common.{◌∙◌, ℕ, List, ap, subst, subst₂, sym, lits_of, label_at, AreRoots, Rows, ArePicked, IsPicked}
use Rattle.cover_pick.proofs.template.fewest_template.Goals as goal

pub fewest_tables-picked-requires : goal.fewest_tables-picked-requires
fewest_tables-picked-requires c = record {
  table = c.requires.table;
  labels = c.requires.labels;
  roots = subst (AreRoots c.args.graph.now) (sym (ap lits_of c.deref.ensures.value ∙ c.in_ok-all.ensures)) c.requires.roots;
}

pub template_for-requires-clause-all : goal.template_for-requires-clause-all
template_for-requires-clause-all c = ap lits_of c.deref-2.ensures.value ∙ c.in_ok-all.ensures

pub returns : goal.returns
returns c =
    subst (λ (ls : List ℕ). IsPicked (Rows c.args.table.now) c.args.graph.now (label_at ls) c.args.roots.now c.template_for.result) c.node_labels.ensures
    (c.template_for.ensures (Rows c.args.table.now) (subst₂ (λ (ls rs : List ℕ). ArePicked (Rows c.args.table.now) c.args.graph.now (label_at ls) rs c.fewest_tables-picked.result) (sym c.node_labels.ensures) (ap lits_of c.deref.ensures.value ∙ c.in_ok-all.ensures) c.fewest_tables-picked.ensures))
