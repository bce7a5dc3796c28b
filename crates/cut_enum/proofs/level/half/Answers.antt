use Rattle.cut_enum.proofs.Lemmas.{◌+◌, ◌-◌, ◌/◌, ◌<◌, ◌≤◌, ℕ, List, length, sym, ap, ◌∙◌, arith, before, upper_half, lower_half}
use Rattle.cut_enum.proofs.level.half.Goals as goal

pub returns-then-before-clause-around : goal.returns-then-before-clause-around
returns-then-before-clause-around c =
    let cuts : List (List ℕ) = c.args.level.now in
    let middle : ℕ = c.args.low + (c.args.high - c.args.low) / 2 in
    let w : c.args.high ≤ length c.args.level.now = c.requires.around.within in
    let s : c.args.low < c.args.high = c.requires.some in
    upper_half c.args.cut.now cuts c.args.low c.args.high middle c.requires.ordered c.requires.around (omega arith)
    (ap (λ (e : List ℕ). before e c.args.cut.now) (sym c.at.ensures) ∙ sym c.before-2.ensures ∙ c.if-before.true)

pub returns-clause-around : goal.returns-clause-around
returns-clause-around c =
    let cuts : List (List ℕ) = c.args.level.now in
    let middle : ℕ = c.args.low + (c.args.high - c.args.low) / 2 in
    let w : c.args.high ≤ length c.args.level.now = c.requires.around.within in
    let s : c.args.low < c.args.high = c.requires.some in
    lower_half c.args.cut.now cuts c.args.low c.args.high middle c.requires.ordered c.requires.around (omega arith) (omega arith)
    (ap (λ (e : List ℕ). before e c.args.cut.now) (sym c.at.ensures) ∙ sym c.before-2.ensures ∙ c.if-before.false)
