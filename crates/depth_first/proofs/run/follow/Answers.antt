use Rattle.depth_first.proofs.Common.{Some, refl, ap, ◌∙◌, stops_at, enters, hits, skips_over}
use Rattle.depth_first.proofs.run.follow.Goals as goal

pub returns-in-Stop-clause-ok : goal.returns-in-Stop-clause-ok
returns-in-Stop-clause-ok g c = stops_at c.in-Stop.reason c.in-Stop.is refl refl

pub returns-in_ok-enter-in-New-clause-ok : goal.returns-in_ok-enter-in-New-clause-ok
returns-in_ok-enter-in-New-clause-ok g c = enters c.in-Node.n c.in-Node.is (c.mark.ensures ∙ ap Some c.in-New.is) c.in_ok-enter-in-New.ensures.ok refl

pub returns-in-OnPath-clause-ok : goal.returns-in-OnPath-clause-ok
returns-in-OnPath-clause-ok g c = hits c.in-Node.n c.in-Node.is (c.mark.ensures ∙ ap Some c.in-OnPath.is) refl refl

pub returns-in-Done-clause-ok : goal.returns-in-Done-clause-ok
returns-in-Done-clause-ok g c = skips_over c.in-Node.n c.in-Node.is (c.mark.ensures ∙ ap Some c.in-Done.is) refl refl
