use Rattle.blif_flat.proofs.Lemmas.{◌∙◌, length, refl, arith, slice_get_read, place_body, row_within, row_body, found_by}
use Rattle.blif_flat.proofs.circuit.instances.gate_body.Goals as goal

pub returns-in-None-clause-place : goal.returns-in-None-clause-place
returns-in-None-clause-place c = λ are p at.
    absurd (let h = c.in-None.ensures.lookup in omega (arith, row_within c.args.instances.now c.args.gate.row p.path at.row))

pub returns-in-Some-clause-place : goal.returns-in-Some-clause-place
returns-in-Some-clause-place c = λ are p at.
    let h = c.in-Some.ensures.lookup in
    let here = slice_get_read c.args.instances.now (length c.args.instances.now) c.args.gate.row c.in-Some.row.now refl h.3.0 h.1 in
    found_by (λ b. b.now) c.model_body.result (place_body c.args.library.now p) (c.model_body.ensures ∙ row_body c.args.library.now c.args.instances.now are c.args.gate p at c.in-Some.row.now here)
