use Rattle.spec_core.proofs.Lemmas.{◌*◌, ◌<◌, length, get_or, sym, ap, ◌∙◌, arith, slice_get-get_or, In-get_or, Lit, node_count, value_of, config_bit, EvaluationValue, bits_under, bit_of}
use Rattle.spec_core.proofs.evaluation.Evaluation.bit.Goals as goal

pub lit_value-requires : goal.lit_value-requires
lit_value-requires c =
    let count = ap (λ (e : EvaluationValue). length e.pack.bits) c.self.view_is in
    let below : (get_or c.self.inside.pack.pack.bits c.args.address (record { 0 = 0 })).0 < 2 * node_count c.self.inside.pack.pack.graph = c.self.invariant.is.lits _ (In-get_or c.self.inside.pack.pack.bits c.args.address (record { 0 = 0 }) (omega (arith, count))) in
    let long = ap length c.deref.ensures.value ∙ c.self.invariant.values in
    rw c.bits.ensures.value (omega (arith, long, below))

pub returns : goal.returns
returns c =
    let d : Lit = record { 0 = 0 } in
    let count = ap (λ (e : EvaluationValue). length e.pack.bits) c.self.view_is in
    c.lit_value.ensures
    ∙ ap (λ vs. value_of vs (get_or c.bits.result.now c.args.address d).0) c.deref.ensures.value
    ∙ ap (λ ls. value_of c.self.inside.values.items (get_or ls c.args.address d).0) c.bits.ensures.value
    ∙ sym (bit_of (value_of c.self.inside.values.items) c.self.inside.pack.pack.bits c.args.address (get_or c.self.inside.pack.pack.bits c.args.address d) (slice_get-get_or c.self.inside.pack.pack.bits c.args.address d (omega (arith, count))))
    ∙ ap (λ (e : EvaluationValue). config_bit (bits_under e.pack e.now.values) c.args.address) c.self.view_is
