use Rattle.ppc_file.proofs.Lemmas.{◌≡◌, ℕ, List, length, replicate, ap, ◌∙◌, sym, subst, eqb-true, Aig, Parameter, PackParam, Trailing, in_bits, IsPackFile, IsPackFault, StandsAt, nil_from_length, is_pack, is_file, trailing, not_zero}
use Rattle.ppc_file.proofs.decoder.read_whole.Goals as goal

pub make-requires : goal.make-requires
make-requires c =
    let params = c.in_ok-params.params.items in
    let g = c.in_ok-graph.graph in
    let bits = c.in_ok-bits.bits.items in
    let kinds : g.kinds ≡ replicate (length params) Parameter = ap (λ (h : Aig). h.kinds) c.in_ok-graph.ensures.graph ∙ ap (λ (ps : List PackParam). replicate (length ps) Parameter) c.deref.ensures.value in
    is_pack c.args.bytes.now params g bits kinds c.in_ok-version.version c.in_ok-bits.rest.now
    (subst (λ (ps : List PackParam). StandsAt c.args.bytes.now (in_bits c.in_ok-version.version ps g.pairs (length bits) bits) c.in_ok-bits.rest.now) c.deref-2.ensures.value c.in_ok-bits.ensures.stands)

pub returns-then-not-is_empty-clause-fault : goal.returns-then-not-is_empty-clause-fault
returns-then-not-is_empty-clause-fault c =
    let rest = c.in_ok-bits.rest.now in
    subst (λ (at : ℕ). IsPackFault c.args.bytes.now (Trailing at)) (sym c.offset.ensures)
    (trailing c.args.bytes.now c.in_ok-version.version c.deref-2.result.now c.in_ok-graph.graph.pairs c.in_ok-bits.bits.items rest c.in_ok-bits.ensures.stands
    (not_zero (length rest) (sym c.is_empty.ensures ∙ c.if-not-is_empty.true)))

pub returns-clause-ok : goal.returns-clause-ok
returns-clause-ok c =
    let params = c.in_ok-params.params.items in
    let g = c.in_ok-graph.graph in
    let bits = c.in_ok-bits.bits.items in
    let rest = c.in_ok-bits.rest.now in
    let kinds : g.kinds ≡ replicate (length params) Parameter = ap (λ (h : Aig). h.kinds) c.in_ok-graph.ensures.graph ∙ ap (λ (ps : List PackParam). replicate (length ps) Parameter) c.deref.ensures.value in
    let stands : StandsAt c.args.bytes.now (in_bits c.in_ok-version.version params g.pairs (length bits) bits) rest =
    subst (λ (ps : List PackParam). StandsAt c.args.bytes.now (in_bits c.in_ok-version.version ps g.pairs (length bits) bits) rest) c.deref-2.ensures.value c.in_ok-bits.ensures.stands in
    subst (IsPackFile c.args.bytes.now) (sym c.make.ensures)
    (is_file c.args.bytes.now params g bits kinds c.in_ok-version.version
    (subst (StandsAt c.args.bytes.now (in_bits c.in_ok-version.version params g.pairs (length bits) bits)) (nil_from_length rest (eqb-true (length rest) 0 (sym c.is_empty.ensures ∙ c.if-not-is_empty.false))) stands))
