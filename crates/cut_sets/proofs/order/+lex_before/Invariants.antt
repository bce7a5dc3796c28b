use Rattle.std.proofs.Common.{length}
use Rattle.cut_sets.proofs.order.+lex_before.Given as goal

abbrev pub decreases-lex_before : goal.decreases-lex_before
decreases-lex_before l = length l.a.now
