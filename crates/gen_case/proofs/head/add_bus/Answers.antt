use Rattle.gen_case.proofs.Lemmas.{arith, Digit, net_name, word_added}
use Rattle.gen_case.proofs.head.add_bus.Goals as goal

pub loop-place-preserved : goal.loop-place-preserved
loop-place-preserved c = word_added (λ place. net_name (Digit c.args.bus place)) 0 c.loop-place.place _ c.loop-place.place _ _ _ (omega arith) (omega arith) c.loop-place.invariant c.in_ok-write.ensures.bytes
