use Rattle.pace_core.proofs.Lemmas.{◌≡◌, List, Bool, length, sym, ◌∙◌, subst, IsConf, differences, PacerValue, HasStalls, waits_for, keeps_stalls}
use Rattle.pace_core.proofs.pacer.Pacer.waiting.Goals as goal

pub returns-clause-count : goal.returns-clause-count
returns-clause-count c = subst (λ (p : PacerValue). (wanted : List Bool) → IsConf p.pack p.params wanted → c.waiting.result ≡ length (differences p.config wanted)) c.self.view_is
    (λ wanted conf. c.waiting.ensures ∙ waits_for c.self.inside.specialiser c.self.inside.backlog c.self.inside.sim c.self.inside.rate c.self.inside.luts c.self.inside.depth c.self.invariant wanted conf)

pub returns-clause-stalls : goal.returns-clause-stalls
returns-clause-stalls c = subst (λ (p : PacerValue). HasStalls p c.waiting.result) c.self.view_is
    (subst (HasStalls _) (sym c.waiting.ensures) (keeps_stalls c.self.inside.specialiser c.self.inside.backlog c.self.inside.sim c.self.inside.rate c.self.inside.luts c.self.inside.depth c.self.invariant))
