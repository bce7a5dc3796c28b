use Rattle.blif_write.proofs.Lemmas.{ℕ, ◌*◌, ◌∷◌, List, ap, arith, ◌∙◌, flat_map, take_all, added_as, added_twice, added_none, added_part, literal_name, words_of}
use Rattle.blif_write.proofs.tables.add_leaves.Goals as goal

pub loop-leaf-init : goal.loop-leaf-init
loop-leaf-init g c = added_none g.O.Sink.seen c.args.writer.now

pub loop-leaf-preserved : goal.loop-leaf-preserved
loop-leaf-preserved g c = added_part (λ (m : ℕ). 32 ∷ literal_name c.args.names.now (2 * m)) c.args.leaves.now c.loop-leaf.leaf-index 0 (omega arith) c.loop-leaf.invariant (added_twice c.add_byte.ensures c.add_literal.ensures)

pub returns : goal.returns
returns g c =
    let f : ℕ → List ℕ = λ (m : ℕ). literal_name c.args.names.now (2 * m) in
    added_as (ap (flat_map (λ (m : ℕ). 32 ∷ f m)) (take_all c.loop-leaf.leaf-index c.args.leaves.now (omega arith)) ∙ words_of f c.args.leaves.now) c.loop-leaf.invariant
