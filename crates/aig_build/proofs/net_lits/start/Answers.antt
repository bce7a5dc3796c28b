use Rattle.aig_build.proofs.Lemmas.{◌≡◌, ◌+◌, ◌<◌, ◌≤◌, List, length, replicate, false, ap, ◌∙◌, subst, arith, length-replicate, In, FlatValue, Param, ParamsValue, regular_next, length-marked, length-regular, regular_next-le}
use Rattle.aig_build.proofs.net_lits.start.Goals as goal

pub regular_lits-requires : goal.regular_lits-requires
regular_lits-requires c =
    let e : c.len.result ≡ length c.args.flat.now.inputs = c.len.ensures ∙ c.flat.inside.inputs.ok.0 ∙ ap (λ (f : FlatValue). length f.inputs) c.flat.view_is in
    omega (arith, ap length (c.deref.ensures.value ∙ c.in_ok-marks.ensures) ∙ length-marked (replicate c.len.result false) c.as_slice-params.result.now ∙ length-replicate c.len.result false, c.requires.few)

pub set_param_lits-requires-clause-places : goal.set_param_lits-requires-clause-places
set_param_lits-requires-clause-places c p i =
    let e : c.len.result ≡ length c.args.flat.now.inputs = c.len.ensures ∙ c.flat.inside.inputs.ok.0 ∙ ap (λ (f : FlatValue). length f.inputs) c.flat.view_is in
    let m : length c.deref_mut.result.now ≡ length c.deref.result.now = ap length (c.deref_mut.ensures.value ∙ c.in_ok-inputs.ensures.lits) ∙ length-regular 1 c.deref.result.now in
    let same : c.as_slice-params.result.now ≡ c.args.params.now.list = c.as_slice-params.ensures.value ∙ ap (λ (ps : ParamsValue). ps.list) c.params.view_is in
    let l : p.input < length c.args.flat.now.inputs = c.requires.places p (subst (λ (ps : List Param). In ps p) same i) in
    omega (arith, ap length (c.deref.ensures.value ∙ c.in_ok-marks.ensures) ∙ length-marked (replicate c.len.result false) c.as_slice-params.result.now ∙ length-replicate c.len.result false)

pub set_param_lits-requires-clause-small : goal.set_param_lits-requires-clause-small
set_param_lits-requires-clause-small c =
    let e : c.len.result ≡ length c.args.flat.now.inputs = c.len.ensures ∙ c.flat.inside.inputs.ok.0 ∙ ap (λ (f : FlatValue). length f.inputs) c.flat.view_is in
    let same : length c.as_slice-params.result.now ≡ length c.args.params.now.list = ap length (c.as_slice-params.ensures.value ∙ ap (λ (ps : ParamsValue). ps.list) c.params.view_is) in
    let x : c.in_ok-inputs.next ≡ regular_next 1 c.deref.result.now = c.in_ok-inputs.ensures.next in
    let l : regular_next 1 c.deref.result.now ≤ 1 + length c.deref.result.now = regular_next-le 1 c.deref.result.now in
    omega (arith, ap length (c.deref.ensures.value ∙ c.in_ok-marks.ensures) ∙ length-marked (replicate c.len.result false) c.as_slice-params.result.now ∙ length-replicate c.len.result false, c.requires.few, c.requires.short)

pub overflow_add-result : goal.overflow_add-result
overflow_add-result c =
    let e : c.len.result ≡ length c.args.flat.now.inputs = c.len.ensures ∙ c.flat.inside.inputs.ok.0 ∙ ap (λ (f : FlatValue). length f.inputs) c.flat.view_is in
    let same : length c.as_slice-params.result.now ≡ length c.args.params.now.list = ap length (c.as_slice-params.ensures.value ∙ ap (λ (ps : ParamsValue). ps.list) c.params.view_is) in
    let x : c.in_ok-inputs.next ≡ regular_next 1 c.deref.result.now = c.in_ok-inputs.ensures.next in
    let l : regular_next 1 c.deref.result.now ≤ 1 + length c.deref.result.now = regular_next-le 1 c.deref.result.now in
    omega (arith, ap length (c.deref.ensures.value ∙ c.in_ok-marks.ensures) ∙ length-marked (replicate c.len.result false) c.as_slice-params.result.now ∙ length-replicate c.len.result false, c.requires.few, c.requires.short)
