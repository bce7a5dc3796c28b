use Rattle.param_list.proofs.Common.{◌≡◌, ◌<◌, true, Bool, List, length, take, Some, vec_len, slice_set, refl, sym, ap, ◌∙◌, arith, slice_get, length-map, slice_get_read, slice_get_within, member_at, has_name, marks_of, param_names, take_get}
use Rattle.param_list.proofs.MarkLemmas.{no_marks, mark_set}
use Rattle.param_list.proofs.LineLemmas.{param_names-push}
use Rattle.param_list.proofs.regular_inputs.marks.Goals as goal

pub loop-param-init : goal.loop-param-init
loop-param-init c = c.in_ok-marks.ensures.items_if_clones_equal (λ y h. h) ∙ no_marks c.args.inputs.now

pub index_mut-requires : goal.index_mut-requires
index_mut-requires c =
    let there = c.requires.places c.param-item.result (member_at c.args.params.now c.loop-param.param-index c.param-item.result c.loop-param-test.true c.param-item.is) in
    let within : c.param-item.result.input < length c.args.inputs.now = slice_get_within c.args.inputs.now c.param-item.result.input c.param-item.result.name there in
    let counted : vec_len c.loop-param.marks ≡ length c.loop-param.marks.items = c.loop-param.marks.ok.0 in
    let same : length c.loop-param.marks.items ≡ length c.args.inputs.now = ap (λ (l : List Bool). length l) c.loop-param.invariant ∙ length-map c.args.inputs.now (has_name (param_names (take c.loop-param.param-index c.args.params.now))) in
    omega arith

pub loop-param-preserved : goal.loop-param-preserved
loop-param-preserved c =
    let there = c.requires.places c.param-item.result (member_at c.args.params.now c.loop-param.param-index c.param-item.result c.loop-param-test.true c.param-item.is) in
    let at : slice_get c.args.params.now c.loop-param.param-index ≡ Some c.param-item.result = slice_get_read c.args.params.now (length c.args.params.now) c.loop-param.param-index c.param-item.result refl c.loop-param-test.true c.param-item.is in
    ap (λ (l : List Bool). slice_set l c.param-item.result.input true) c.loop-param.invariant
    ∙ mark_set c.args.inputs.now (param_names (take c.loop-param.param-index c.args.params.now)) c.param-item.result.input c.param-item.result.name c.requires.once there
    ∙ ap (marks_of c.args.inputs.now) (sym (ap param_names (take_get c.args.params.now c.loop-param.param-index c.param-item.result at) ∙ param_names-push (take c.loop-param.param-index c.args.params.now) c.param-item.result))
