use Rattle.tl_text.proofs.Common.{◌+◌, ◌-◌, ◌*◌, ◌<◌, arith, sym, inl, inr, slice_index, cases_lt}
use Rattle.tl_text.proofs.DecimalLemmas.{decimal_stops}
use Rattle.tl_text.proofs.decimals.decimal.Goals as goal

pub returns-in-None : goal.returns-in-None
returns-in-None c = let h : (10 * c.loop-b.number + (slice_index c.args.text.now c.loop-b.b-index - 48)) < 18446744073709551616 → ⊥ = c.in-None.ensures in sym (decimal_stops c.args.text.now c.loop-b.number c.loop-b.b-index (omega arith) c.loop-b.invariant.same (elim (cases_lt (10 * c.loop-b.number + (slice_index c.args.text.now c.loop-b.b-index - 48)) 18446744073709551616) [ inl l ↦ absurd (h l) | inr g ↦ g ]))
