use Rattle.run_text.proofs.Common.{◌≡◌, ℕ, true, false, List, Some, is_some, sym, ap, ◌∙◌, option_map, has_name, place_some, place_none, place_of, assigned, NotParameter, RepeatedInSet}
use Rattle.run_text.proofs.ScriptReadLemmas.{no_parameter, repeated, passed}
use Rattle.run_text.proofs.assigns.read_assign.Goals as goal

pub returns-in_default : goal.returns-in_default
returns-in_default c =
    let found = ap (place_of c.args.params.now) (sym c.bytes-name.ensures) ∙ sym c.place.ensures ∙ c.in_default.is in
    let none : has_name c.args.params.now c.args.setting.now.name ≡ false = sym (place_some c.args.params.now c.args.setting.now.name) ∙ ap is_some found in
    λ rest. no_parameter c.args.params.now c.args.number c.args.seen.now c.args.setting.now rest none ∙ ap (λ (n : List ℕ). Some (NotParameter c.args.number n)) (sym (c.in_ok-make.ensures ∙ c.bytes-name.ensures))

pub returns-then-has : goal.returns-then-has
returns-then-has c =
    let found = ap (place_of c.args.params.now) (sym c.bytes-name.ensures) ∙ sym c.place.ensures ∙ c.in-Some.is in
    let some : has_name c.args.params.now c.args.setting.now.name ≡ true = sym (place_some c.args.params.now c.args.setting.now.name) ∙ ap is_some found in
    let earlier : has_name c.args.seen.now c.args.setting.now.name ≡ true = ap (has_name c.args.seen.now) (sym c.bytes-name.ensures) ∙ sym c.has.ensures ∙ c.if-has.true in
    λ rest. repeated c.args.params.now c.args.number c.args.seen.now c.args.setting.now rest some earlier ∙ ap (λ (n : List ℕ). Some (RepeatedInSet c.args.number n)) (sym (c.in_ok-make-2.ensures ∙ c.bytes-name.ensures))

pub returns : goal.returns
returns c =
    let found = ap (place_of c.args.params.now) (sym c.bytes-name.ensures) ∙ sym c.place.ensures ∙ c.in-Some.is in
    let some : has_name c.args.params.now c.args.setting.now.name ≡ true = sym (place_some c.args.params.now c.args.setting.now.name) ∙ ap is_some found in
    let earlier : has_name c.args.seen.now c.args.setting.now.name ≡ false = ap (has_name c.args.seen.now) (sym c.bytes-name.ensures) ∙ sym c.has.ensures ∙ c.if-has.false in (
      ap (option_map (assigned c.args.setting.now.bit)) found,
      place_none c.args.seen.now c.args.setting.now.name earlier,
      λ rest. passed c.args.params.now c.args.number c.args.seen.now c.args.setting.now rest some earlier,
    )
