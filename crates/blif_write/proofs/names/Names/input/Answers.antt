use Rattle.blif_write.proofs.Lemmas.{◌≡◌, ◌-◌, ◌<◌, [], length, get_or, ap, sym, ◌∙◌, arith, In-get_or, Naming, name_at}
use Rattle.blif_write.proofs.names.Names.input.Goals as goal

pub bounds-self-inside-place : goal.bounds-self-inside-place
bounds-self-inside-place c =
    let same : c.self.inside.shape.regular ≡ c.args.self.now.shape.regular = ap (λ (n : Naming). n.shape.regular) c.self.view_is in
    c.self.invariant.0 (get_or c.self.inside.regular.now (c.args.n - 1) 0) (In-get_or c.self.inside.regular.now (c.args.n - 1) 0 (omega (arith, same, c.self.invariant.1)))

pub returns : goal.returns
returns c =
    let same : c.self.inside.shape.regular ≡ c.args.self.now.shape.regular = ap (λ (n : Naming). n.shape.regular) c.self.view_is in
    let there : c.args.n - 1 < length c.self.inside.regular.now = omega (arith, same, c.self.invariant.1) in
    let within : get_or c.self.inside.regular.now (c.args.n - 1) 0 < length c.self.inside.inputs.now = c.self.invariant.0 (get_or c.self.inside.regular.now (c.args.n - 1) 0) (In-get_or c.self.inside.regular.now (c.args.n - 1) 0 there) in
    c.bytes.ensures ∙ sym c.index-self-place.is ∙ name_at c.self.inside.inputs.now c.self.inside.regular.now (c.args.n - 1) c.index-self-place.result there within c.index-self-place.is
    ∙ ap (λ (n : Naming). get_or n.regular (c.args.n - 1) []) c.self.view_is
