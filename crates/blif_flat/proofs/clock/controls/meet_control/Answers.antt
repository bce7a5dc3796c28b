use Rattle.blif_flat.proofs.Lemmas.{◌≡◌, ◌<◌, ◌∙◌, length, Some, sym, ap, subst, same_Some, refusal_of, table_of, Unless-map, passed_on, none_read, met_input, met_another, met_latch, met_cover, input_within, latch_within, cover_within, kept_within}
use Rattle.netlist.specs.declared.flat.FlatNet.TheVariants.{Input, Latch, Cover}
use Rattle.blif_flat.proofs.clock.controls.meet_control.Goals.{In-Some-Input, In-Some-Latch, In-Some-Cover}
use Rattle.blif_flat.proofs.clock.controls.meet_control.Goals as goal

at_input : (c : In-Some-Input) → table_of c.args.wiring.now.nets.now c.args.row c.args.control.now ≡ Some (Input c.in-Some-Input.j)
at_input c = ap (table_of c.args.wiring.now.nets.now c.args.row) (sym c.bytes.ensures) ∙ sym c.in-Some-Input.ensures ∙ ap Some c.in-Some-Input.field-0-is

at_latch : (c : In-Some-Latch) → table_of c.args.wiring.now.nets.now c.args.row c.args.control.now ≡ Some (Latch c.in-Some-Latch.k)
at_latch c = ap (table_of c.args.wiring.now.nets.now c.args.row) (sym c.bytes.ensures) ∙ sym c.in-Some-Latch.ensures ∙ ap Some c.in-Some-Latch.field-0-is

at_cover : (c : In-Some-Cover) → table_of c.args.wiring.now.nets.now c.args.row c.args.control.now ≡ Some (Cover c.in-Some-Cover.k)
at_cover c = ap (table_of c.args.wiring.now.nets.now c.args.row) (sym c.bytes.ensures) ∙ sym c.in-Some-Cover.ensures ∙ ap Some c.in-Some-Cover.field-0-is

pub keep_input-requires-clause-here : goal.keep_input-requires-clause-here
keep_input-requires-clause-here c =
    input_within c.args.library.now c.args.wiring.now.instances.now c.requires.instances c.args.wiring.now.nets.now c.requires.nets c.args.row c.args.control.now c.requires.here c.args.wiring.now.inputs.now c.requires.inputs c.in-Some-Input.j (at_input (goal.at.keep_input-requires-clause-here c).In-Some-Input)

pub write_latch-requires-clause-here : goal.write_latch-requires-clause-here
write_latch-requires-clause-here c =
    latch_within c.args.library.now c.args.wiring.now.instances.now c.requires.instances c.args.wiring.now.nets.now c.requires.nets c.args.row c.args.control.now c.requires.here c.args.wiring.now.latches.now c.requires.latches c.in-Some-Latch.k (at_latch (goal.at.write_latch-requires-clause-here c).In-Some-Latch)

pub written_cover-requires-clause-here : goal.written_cover-requires-clause-here
written_cover-requires-clause-here c =
    cover_within c.args.library.now c.args.wiring.now.instances.now c.requires.instances c.args.wiring.now.nets.now c.requires.nets c.args.row c.args.control.now c.requires.here c.args.wiring.now.covers.now c.requires.covers c.in-Some-Cover.k (at_cover (goal.at.written_cover-requires-clause-here c).In-Some-Cover)

pub returns-in-None-clause-ok : goal.returns-in-None-clause-ok
returns-in-None-clause-ok c = λ path at read.
    absurd (none_read c.args.library.now c.args.wiring.now.instances.now c.requires.instances c.args.wiring.now.nets.now c.requires.nets c.args.row c.args.control.now c.args.wiring.now.inputs.now c.requires.inputs path at c.requires.driven read
    (ap (table_of c.args.wiring.now.nets.now c.args.row) (sym c.bytes.ensures) ∙ sym c.in-None.ensures))

pub returns-in_ok-keep_input-in-Some-Input-clause-ok : goal.returns-in_ok-keep_input-in-Some-Input-clause-ok
returns-in_ok-keep_input-in-Some-Input-clause-ok c = λ path at read.
    met_input c.args.library.now c.args.wiring.now.instances.now c.requires.instances c.args.wiring.now.nets.now c.requires.nets c.args.row c.args.control.now c.args.wiring.now.inputs.now c.requires.inputs path at c.args.first c.in-Some-Input.j c.in_ok-keep_input-in-Some-Input.field-0
    (at_input (goal.at.returns-in_ok-keep_input-in-Some-Input-clause-ok c).In-Some-Input) c.in_ok-keep_input-in-Some-Input.ensures.ok

pub returns-in_ok-keep_input-in-Some-Input-clause-within : goal.returns-in_ok-keep_input-in-Some-Input-clause-within
returns-in_ok-keep_input-in-Some-Input-clause-within c = λ j e.
    subst (λ n. n < length c.args.wiring.now.inputs.now) (same_Some c.in_ok-keep_input-in-Some-Input.field-0 j e) (kept_within c.args.wiring.now.inputs.now c.args.first c.in-Some-Input.j c.in_ok-keep_input-in-Some-Input.field-0 c.in_ok-keep_input-in-Some-Input.ensures.ok)

pub returns-in_err-keep_input-in-Some-Input-clause-err : goal.returns-in_err-keep_input-in-Some-Input-clause-err
returns-in_err-keep_input-in-Some-Input-clause-err c = passed_on c.from_residual.result c.in_err-keep_input-in-Some-Input.field-0.0 _ _ c.from_residual.ensures.1
    (Unless-map (refusal_of c.in_err-keep_input-in-Some-Input.field-0.0) _ _
    (λ s path at. met_another c.args.library.now c.args.wiring.now.instances.now c.requires.instances c.args.wiring.now.nets.now c.requires.nets c.args.row c.args.control.now c.args.wiring.now.inputs.now c.requires.inputs path at c.args.first c.in-Some-Input.j c.in_err-keep_input-in-Some-Input.field-0.0
    (at_input (goal.at.returns-in_err-keep_input-in-Some-Input-clause-err c).In-Some-Input) s) c.in_err-keep_input-in-Some-Input.ensures.err)

pub returns-in_ok-write_latch-in-Some-Latch-clause-err : goal.returns-in_ok-write_latch-in-Some-Latch-clause-err
returns-in_ok-write_latch-in-Some-Latch-clause-err c = λ path at.
    met_latch c.args.library.now c.args.wiring.now.instances.now c.requires.instances c.args.wiring.now.nets.now c.requires.nets c.args.row c.args.control.now c.args.wiring.now.inputs.now c.requires.inputs path at c.args.first c.in-Some-Latch.k
    c.in_ok-write_latch-in-Some-Latch.field-0 (at_latch (goal.at.returns-in_ok-write_latch-in-Some-Latch-clause-err c).In-Some-Latch) c.in_ok-write_latch-in-Some-Latch.ensures

pub returns-in_ok-written_cover-in-Some-Cover-clause-err : goal.returns-in_ok-written_cover-in-Some-Cover-clause-err
returns-in_ok-written_cover-in-Some-Cover-clause-err c = λ path at.
    met_cover c.args.library.now c.args.wiring.now.instances.now c.requires.instances c.args.wiring.now.nets.now c.requires.nets c.args.row c.args.control.now c.args.wiring.now.inputs.now c.requires.inputs path at c.args.first c.in-Some-Cover.k
    c.in_ok-written_cover-in-Some-Cover.field-0 (at_cover (goal.at.returns-in_ok-written_cover-in-Some-Cover-clause-err c).In-Some-Cover) c.in_ok-written_cover-in-Some-Cover.ensures
