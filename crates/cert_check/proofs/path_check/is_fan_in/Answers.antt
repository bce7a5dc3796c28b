use Rattle.cert_check.proofs.Common.{sym, eqb-true, first, second}
use Rattle.cert_check.proofs.path_check.is_fan_in.Goals as goal

pub returns-then-pair-m-clause-yes : goal.returns-then-pair-m-clause-yes
returns-then-pair-m-clause-yes c = λ _. first c.pair_at-pair.result (record { above = (c.is_and.ensures.yes c.if-not-is_and.false).0; is = c.pair_at-pair.ensures.pair }) (sym c.if-pair-m.true)

pub returns-clause-yes : goal.returns-clause-yes
returns-clause-yes c = λ e. second c.pair_at-pair.result (record { above = (c.is_and.ensures.yes c.if-not-is_and.false).0; is = c.pair_at-pair.ensures.pair }) (sym (eqb-true _ _ e))
