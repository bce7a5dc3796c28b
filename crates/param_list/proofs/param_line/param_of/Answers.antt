use Rattle.param_list.proofs.Common.{◌≡◌, ℕ, true, false, List, length, is_some, refl, sym, ap, ◌∙◌, arith, has_name, place_is, place_some, place_of}
use Rattle.param_list.proofs.OnceLemmas.{no_input, stood_earlier, no_refusal}
use Rattle.param_list.proofs.param_line.param_of.Goals as goal

pub returns-in_default : goal.returns-in_default
returns-in_default c =
    let same : length c.bytes.result.now ≡ length c.args.name = ap (λ (n : List ℕ). length n) c.bytes.ensures in
    let clock : has_name c.args.clocks.now c.args.name ≡ false = ap (has_name c.args.clocks.now) (sym c.bytes-2.ensures) ∙ sym c.has.ensures ∙ c.if-has.false in
    let input : has_name c.args.inputs.now c.args.name ≡ false = sym (place_some c.args.inputs.now c.args.name) ∙ ap (λ n. is_some (place_of c.args.inputs.now n)) (sym c.bytes-3.ensures) ∙ ap is_some (sym c.place.ensures ∙ c.in_default.is) in
    no_input c.args.inputs.now c.args.clocks.now c.args.seen.now c.args.number c.args.name c.args.init (omega arith) (omega arith) clock input

pub returns-then-has-2 : goal.returns-then-has-2
returns-then-has-2 c =
    let same : length c.bytes.result.now ≡ length c.args.name = ap (λ (n : List ℕ). length n) c.bytes.ensures in
    let clock : has_name c.args.clocks.now c.args.name ≡ false = ap (has_name c.args.clocks.now) (sym c.bytes-2.ensures) ∙ sym c.has.ensures ∙ c.if-has.false in
    let input : has_name c.args.inputs.now c.args.name ≡ true = sym (place_some c.args.inputs.now c.args.name) ∙ ap (λ n. is_some (place_of c.args.inputs.now n)) (sym c.bytes-3.ensures) ∙ ap is_some (sym c.place.ensures ∙ c.in-Some.is) in
    let earlier : has_name c.args.seen.now c.args.name ≡ true = ap (has_name c.args.seen.now) (sym c.bytes-4.ensures) ∙ sym c.has-2.ensures ∙ c.if-has-2.true in
    stood_earlier c.args.inputs.now c.args.clocks.now c.args.seen.now c.args.number c.args.name c.args.init (omega arith) (omega arith) clock input earlier

pub returns : goal.returns
returns c =
    let same : length c.bytes.result.now ≡ length c.args.name = ap (λ (n : List ℕ). length n) c.bytes.ensures in
    let clock : has_name c.args.clocks.now c.args.name ≡ false = ap (has_name c.args.clocks.now) (sym c.bytes-2.ensures) ∙ sym c.has.ensures ∙ c.if-has.false in
    let found = ap (place_of c.args.inputs.now) (sym c.bytes-3.ensures) ∙ sym c.place.ensures ∙ c.in-Some.is in
    let input : has_name c.args.inputs.now c.args.name ≡ true = sym (place_some c.args.inputs.now c.args.name) ∙ ap is_some found in
    let earlier : has_name c.args.seen.now c.args.name ≡ false = ap (has_name c.args.seen.now) (sym c.bytes-4.ensures) ∙ sym c.has-2.ensures ∙ c.if-has-2.false in (
      no_refusal c.args.inputs.now c.args.clocks.now c.args.seen.now c.args.number c.args.name c.args.init (omega arith) (omega arith) clock input earlier,
      refl,
      refl,
      place_is c.args.inputs.now c.args.name c.in-Some.input found,
    )
