use Rattle.blif_read.proofs.Common.{◌≡◌, ◌∙◌, ap, sym, refl, true, false, List, Option, Some, ℕ, ◌++◌, ◌∷◌, [], Connection, has, connection_of, repeats_formal, with_formal, put_pair}
use Rattle.blif_read.proofs.TextLemmas.{has_from}
use Rattle.blif_read.proofs.connections.add_pair.Goals as goal

pub returns-then-is_some : goal.returns-then-is_some
returns-then-is_some c =
    let is : connection_of c.args.word.now ≡ Some c.in-Some.pair = sym c.in_ok-pair.ensures ∙ c.in-Some.is in
    let again : has c.args.formals.now c.in-Some.pair.formal ≡ true = has_from c.args.formals.now c.args.formals.now c.in-Some.pair.formal c.bytes.result.now c.place.result c.is_some.result refl c.bytes.ensures c.place.ensures c.is_some.ensures ∙ c.if-is_some.true in
    (ap (repeats_formal c.args.formals.now) is ∙ again, refl)

pub returns : goal.returns
returns c =
    let is : connection_of c.args.word.now ≡ Some c.in-Some.pair = sym c.in_ok-pair.ensures ∙ c.in-Some.is in
    let new : has c.args.formals.now c.in-Some.pair.formal ≡ false = has_from c.args.formals.now c.args.formals.now c.in-Some.pair.formal c.bytes.result.now c.place.result c.is_some.result refl c.bytes.ensures c.place.ensures c.is_some.ensures ∙ c.if-is_some.false in (
      ap (repeats_formal c.args.formals.now) is ∙ new,
      c.in_ok-add.ensures.ok ∙ ap (λ (l : List ℕ). c.args.formals.now ++ l ∷ []) c.bytes-2.ensures ∙ ap (with_formal c.args.formals.now) (sym is),
      c.in_ok-push.ensures.items ∙ ap (λ (o : Option Connection). c.args.pairs.now.items ++ put_pair o []) (sym is),
    )
