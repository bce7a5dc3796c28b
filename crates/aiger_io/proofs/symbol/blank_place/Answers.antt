use Rattle.aiger_io.proofs.Common.{arith, eqb, ℕ, sym, length, eq-eqb, get_or, position_or_len_is}
use Rattle.aiger_io.proofs.symbol.blank_place.Goals as goal

pub returns-then-b-eq32-clause-value : goal.returns-then-b-eq32-clause-value
returns-then-b-eq32-clause-value c = sym (position_or_len_is (λ (b : ℕ). eqb b 32) c.args.row.now c.loop-i.i 0 (omega arith) c.loop-i.invariant (λ l. eq-eqb (get_or c.args.row.now c.loop-i.i 0) 32 c.if-b-eq32.true))

pub returns-clause-value : goal.returns-clause-value
returns-clause-value c = sym (position_or_len_is (λ (b : ℕ). eqb b 32) c.args.row.now (length c.args.row.now) 0 (omega arith) (λ k l. c.loop-i.invariant k (omega arith)) (λ l. absurd (omega arith)))
