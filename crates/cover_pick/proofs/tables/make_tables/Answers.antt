use Rattle.cover_pick.proofs.Lemmas.{◌∙◌, ap, length, List, Bool, [], lits_of, tables_from, marks_length}
use Rattle.cover_pick.proofs.tables.make_tables.Goals as goal

pub marked_tables-requires : goal.marked_tables-requires
marked_tables-requires c =
    ap (λ (ms : List Bool). length ms) (c.deref.ensures.value ∙ c.in_ok-marks.ensures) ∙ marks_length c.args.graph.now (lits_of c.args.roots.now) c.args.cuts.now

pub returns-clause-ok : goal.returns-clause-ok
returns-clause-ok c = c.in_ok-made.ensures.ok ∙ ap (λ ms. tables_from c.args.graph.now c.args.cuts.now (record { luts = []; bits = 0 }) 0 ms) (c.deref.ensures.value ∙ c.in_ok-marks.ensures)
