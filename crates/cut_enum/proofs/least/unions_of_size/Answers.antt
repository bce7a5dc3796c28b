use Rattle.cut_enum.proofs.Lemmas.{◌++◌, ◌∙◌, ℕ, List, ap, ◌≡◌, ◌+◌, [], err_from_is_err_and, add_holders, leading, unions_at, left_clear_at, right_clear_at, too_many_more, holders_at, left_holders_at}
use Rattle.cut_enum.proofs.least.unions_of_size.Goals as goal

pub returns-in_err-add_holders-clause-too_many : goal.returns-in_err-add_holders-clause-too_many
returns-in_err-add_holders-clause-too_many c =
    let p = err_from_is_err_and c.from_residual.result c.from_residual.ensures.1 in
    rw (p.1, p.2)
    (too_many_more c.args.node (c.args.smaller.now ++ add_holders c.args.size c.args.smaller.now c.leading-ys_parts.result c.cuts.result.now c.clear.new.self)
    (c.args.smaller.now ++ unions_at c.args.size c.args.smaller.now c.args.xs.now c.args.ys.now) c.in_err-add_holders.field-0.0
    (left_holders_at c.args.size c.args.smaller.now c.leading-ys_parts.result c.cuts.result.now c.clear.new.self c.args.xs.now c.args.ys.now c.leading-ys_parts.ensures c.cuts.ensures c.clear.ensures)
    c.in_err-add_holders.ensures.too_many)

pub returns-in_err-add_holders-2-clause-too_many :
    goal.returns-in_err-add_holders-2-clause-too_many
returns-in_err-add_holders-2-clause-too_many c =
    let p = err_from_is_err_and c.from_residual-in_err-add_holders-2.result c.from_residual-in_err-add_holders-2.ensures.1 in
    let first : c.add_holders.new.level ≡ add_holders c.args.size c.args.smaller.now (leading (c.args.size + 1) c.args.ys.now) c.args.xs.now [] =
    c.in_ok-add_holders.ensures.ok
    ∙ ap (λ (s : List (List ℕ)). add_holders c.args.size c.args.smaller.now s c.cuts.result.now c.clear.new.self) c.leading-ys_parts.ensures
    ∙ ap (λ (s : List (List ℕ)). add_holders c.args.size c.args.smaller.now (leading (c.args.size + 1) c.args.ys.now) s c.clear.new.self) c.cuts.ensures
    ∙ ap (λ (s : List (List ℕ)). add_holders c.args.size c.args.smaller.now (leading (c.args.size + 1) c.args.ys.now) c.args.xs.now s) c.clear.ensures in
    rw (p.1, p.2)
    (too_many_more c.args.node (c.args.smaller.now ++ add_holders c.args.size c.args.smaller.now c.leading-xs_below.result c.cuts-2.result.now c.add_holders.new.level)
    (c.args.smaller.now ++ unions_at c.args.size c.args.smaller.now c.args.xs.now c.args.ys.now) c.in_err-add_holders-2.field-0.0
    (holders_at c.args.size c.args.smaller.now c.leading-xs_below.result c.cuts-2.result.now c.add_holders.new.level c.args.xs.now c.args.ys.now c.leading-xs_below.ensures c.cuts-2.ensures first)
    c.in_err-add_holders-2.ensures.too_many)

pub add_holders-requires-clause-clear : goal.add_holders-requires-clause-clear
add_holders-requires-clause-clear c =
    left_clear_at c.args.size c.args.smaller.now c.cuts.result.now c.args.xs.now c.args.ys.now c.requires.x_apart c.requires.y_apart c.requires.smaller c.cuts.ensures

pub add_holders-requires-2-clause-clear : goal.add_holders-requires-2-clause-clear
add_holders-requires-2-clause-clear c =
    right_clear_at c.args.size c.args.smaller.now c.cuts-2.result.now c.args.xs.now c.args.ys.now c.requires.x_apart c.requires.y_apart c.requires.smaller c.cuts-2.ensures
