use Rattle.flow_label.proofs.Lemmas.{◌≡◌, arith, sym, ap, ◌∙◌, length, set, length_values, values_set}
use Rattle.flow_label.proofs.stamped.Stamped.set.Goals as goal

pub index_mut-requires : goal.index_mut-requires
index_mut-requires c =
    let size : length c.self.inside.stamps.items ≡ length c.self.inside.values.items = c.self.invariant.size in
    omega (arith, c.self.inside.stamps.ok.0, ap length (sym c.self.view_is) ∙ length_values c.self.inside.present c.self.inside.stamps.items c.self.inside.values.items size, c.requires)

pub index_mut-requires-2 : goal.index_mut-requires-2
index_mut-requires-2 c =
    let size : length c.self.inside.stamps.items ≡ length c.self.inside.values.items = c.self.invariant.size in
    omega (arith, c.self.inside.values.ok.0, ap length (sym c.self.view_is) ∙ length_values c.self.inside.present c.self.inside.stamps.items c.self.inside.values.items size, c.requires)

pub returns : goal.returns
returns c =
    values_set c.self.inside.present c.self.inside.stamps.items c.self.inside.values.items c.args.i c.args.value c.self.invariant.size
    ∙ ap (λ xs. set xs c.args.i c.args.value) c.self.view_is
