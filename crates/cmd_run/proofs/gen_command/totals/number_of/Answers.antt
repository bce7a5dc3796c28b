use Rattle.cmd_run.proofs.Lemmas.{◌≡◌, ℕ, ◌+◌, ◌*◌, ◌^◌, ◌<◌, ◌≤◌, sym, ap, ◌∙◌, subst, arith, bit_value, number, number_below, below_zero, below_none, below_last, below_more}
use Rattle.cmd_run.proofs.gen_command.totals.number_of.Goals as goal

pub loop-digit-init : goal.loop-digit-init
loop-digit-init c = rw (c.into_iter-digit-iterator.ensures.into_iter_gives, c.rev-digit-items.ensures.source, c.iter.ensures.rest) (below_zero c.args.digits.now)

pub with_lowest-value-requires : goal.with_lowest-value-requires
with_lowest-value-requires c =
    let rest = c.next.new.self.iter.rest.now in
    let next : ℕ = bit_value c.in-Some.digit.now + 2 * c.loop-digit.value in
    let same : number_below next rest ≡ number c.args.digits.now =
    sym (below_last c.loop-digit.value rest c.in-Some.digit.now) ∙ ap (number_below c.loop-digit.value) (sym c.in-Some.ensures.steps) ∙ c.loop-digit.invariant in
    let more : next ≤ number c.args.digits.now = subst (λ (n : ℕ). next ≤ n) same (below_more next rest) in
    let small : number c.args.digits.now < 2 ^ 128 = c.requires in
    omega (arith, more, small)

pub loop-digit-preserved : goal.loop-digit-preserved
loop-digit-preserved c =
    let rest = c.next.new.self.iter.rest.now in
    ap (λ (n : ℕ). number_below n rest) c.with_lowest-value.ensures ∙ sym (below_last c.loop-digit.value rest c.in-Some.digit.now) ∙ ap (number_below c.loop-digit.value) (sym c.in-Some.ensures.steps) ∙ c.loop-digit.invariant

pub returns : goal.returns
returns c = sym (below_none c.loop-digit.value c.loop-digit.digit-iterator.iter.rest.now c.in-None.ensures.steps.0) ∙ c.loop-digit.invariant
