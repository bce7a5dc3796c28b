use Rattle.blif_read.proofs.Common.{◌≡◌, ◌∙◌, ap, sym, refl, cond, Bool, true, false, ℕ, List, [], ◌∷◌, ◌++◌, Some, None, DuplicateModel, has, model_fault}
use Rattle.blif_read.proofs.TextLemmas.{has_from}
use Rattle.blif_read.proofs.reader.new_name.Goals as goal

pub returns-then-is_some : goal.returns-then-is_some
returns-then-is_some c =
    let found : has c.args.names.now c.in-Some.name ≡ true = has_from c.args.names.now c.args.names.now c.in-Some.name c.bytes.result.now c.place.result c.is_some.result refl c.bytes.ensures c.place.ensures c.is_some.ensures ∙ c.if-is_some.true in
    ap (model_fault c.args.number c.args.names.now) c.in-Some.ensures ∙ ap (λ (b : Bool). cond b (Some (DuplicateModel c.args.number c.in-Some.name)) None) found

pub returns : goal.returns
returns c =
    let new : has c.args.names.now c.in-Some.name ≡ false = has_from c.args.names.now c.args.names.now c.in-Some.name c.bytes.result.now c.place.result c.is_some.result refl c.bytes.ensures c.place.ensures c.is_some.ensures ∙ c.if-is_some.false in (
      ap (model_fault c.args.number c.args.names.now) c.in-Some.ensures ∙ ap (λ (b : Bool). cond b (Some (DuplicateModel c.args.number c.in-Some.name)) None) new,
      (c.in-Some.ensures, c.in_ok-add.ensures.ok ∙ ap (λ (l : List ℕ). c.args.names.now ++ l ∷ []) c.bytes-2.ensures ∙ ap (λ (l : List (List ℕ)). c.args.names.now ++ l) (sym c.in-Some.ensures)),
    )
