use Rattle.flow_label.proofs.Lemmas.{◌≡◌, ◌+◌, ◌≤◌, arith, sym, ap, ◌∙◌, length, get_or, vec_len, zeros, length-replicate, length_values, values_none, zeros_none}
use Rattle.flow_label.proofs.stamped.Stamped.clear.Goals as goal

pub returns-then-self : goal.returns-then-self
returns-then-self c =
    let k : vec_len c.self.inside.stamps ≡ length c.self.inside.stamps.items = c.self.inside.stamps.ok.0 in
    let size : length c.self.inside.stamps.items ≡ length c.self.inside.values.items = c.self.invariant.size in
    let n : length c.args.self.now ≡ length c.self.inside.values.items = ap length (sym c.self.view_is) ∙ length_values c.self.inside.present c.self.inside.stamps.items c.self.inside.values.items size in
    let z : c.fill.new.self.items ≡ zeros (vec_len c.self.inside.stamps) = c.fill.ensures.items (λ y e. e) in
    let m : length c.fill.new.self.items ≡ vec_len c.self.inside.stamps = ap length z ∙ length-replicate (vec_len c.self.inside.stamps) 0 in
    values_none 1 c.fill.new.self.items c.self.inside.values.items (omega arith) (λ i l e. zeros_none 1 (vec_len c.self.inside.stamps) (omega arith) i (ap (λ xs. get_or xs i 0) (sym z) ∙ e))
    ∙ ap zeros (sym n)

pub returns-else-self : goal.returns-else-self
returns-else-self c =
    let size : length c.self.inside.stamps.items ≡ length c.self.inside.values.items = c.self.invariant.size in
    let n : length c.args.self.now ≡ length c.self.inside.values.items = ap length (sym c.self.view_is) ∙ length_values c.self.inside.present c.self.inside.stamps.items c.self.inside.values.items size in
    values_none (c.self.inside.present + 1) c.self.inside.stamps.items c.self.inside.values.items size
    (λ i l e. let u : get_or c.self.inside.stamps.items i 0 ≤ c.self.inside.present = c.self.invariant.used i in omega arith)
    ∙ ap zeros (sym n)
