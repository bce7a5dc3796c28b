use Rattle.cut_enum.proofs.Lemmas.{◌≡◌, ◌<◌, ◌≤◌, ℕ, List, length, sym, ap, ◌∙◌, arith, before, place-there, place-insert}
use Rattle.cut_enum.proofs.level.free_place.Goals.{else-at-len-via-then-at-len+else-not-before, else-at-len-via-else-at-len}
use Rattle.cut_enum.proofs.level.free_place.Goals as goal

pub returns-then-not-before-clause-there : goal.returns-then-not-before-clause-there
returns-then-not-before-clause-there c =
    let e : c.len.result ≡ length c.args.level.now = c.len.ensures in
    let l : c.halved_place-at.result < c.len.result = c.if-at-len.true in
    place-there c.args.cut.now c.args.level.now c.halved_place-at.result c.halved_place-at.ensures (omega arith)
    (ap (λ (e : List ℕ). before c.args.cut.now e) (sym c.at.ensures) ∙ sym c.before-then-at-len.ensures ∙ c.if-not-before.true)

pub returns-clause-free : goal.returns-clause-free
returns-clause-free c =
    let e : c.len.result ≡ length c.args.level.now = c.len.ensures in
    place-insert c.args.cut.now c.args.level.now c.halved_place-at.result c.halved_place-at.ensures
    (λ l. elim c.else-at-len.branch [
      | else-at-len-via-then-at-len+else-not-before w ↦ (ap (λ (e : List ℕ). before c.args.cut.now e) (sym w.at.ensures) ∙ sym w.before-then-at-len.ensures ∙ w.if-not-before.false)
      | else-at-len-via-else-at-len w ↦ (let h : c.len.result ≤ c.halved_place-at.result = w.if-at-len.false in absurd (omega arith))
    ])
