use Rattle.tl_text.proofs.Common.{arith, eqb, ℕ, sym, length, eq-eqb, get_or, position_or_len_is}
use Rattle.tl_text.proofs.physical_line.comment_place.Goals as goal

pub returns-then-b-eq35 : goal.returns-then-b-eq35
returns-then-b-eq35 c = sym (position_or_len_is (λ (b : ℕ). eqb b 35) c.args.line.now c.loop-i.i 0 (omega arith) c.loop-i.invariant (λ l. eq-eqb (get_or c.args.line.now c.loop-i.i 0) 35 c.if-b-eq35.true))

pub returns : goal.returns
returns c = sym (position_or_len_is (λ (b : ℕ). eqb b 35) c.args.line.now (length c.args.line.now) 0 (omega arith) (λ k l. c.loop-i.invariant k (omega arith)) (λ l. absurd (omega arith)))
