use Rattle.pace_core.proofs.Lemmas.{◌≡◌, ◌+◌, Bool, List, length, sym, ◌∙◌, subst, Assign, IsConf, differences, PaceEvent, pace_value, PacerValue, asked, IsAsked, IsPaced, waits_for}
use Rattle.pace_core.proofs.pacer.Pacer.step.Goals as goal

pub returns-in-Ask-clause-paced : goal.returns-in-Ask-clause-paced
returns-in-Ask-clause-paced g c =
    let p = c.self.inside in
    let new : PacerValue = record { pack = p.specialiser.pack; params = p.specialiser.state.params; config = p.backlog.config; sim = p.sim; rate = p.rate; looks = p.specialiser.reads + p.backlog.looks } in
    let counts = subst (λ (v : PacerValue). (wanted : List Bool) → IsConf v.pack v.params wanted → c.waiting.result ≡ length (differences v.config wanted)) c.self.view_is
    (λ wanted conf. c.waiting.ensures ∙ waits_for p.specialiser p.backlog p.sim p.rate p.luts p.depth c.self.invariant wanted conf) in (
      asked c.waiting.result,
      subst (λ (event : PaceEvent). IsPaced (pace_value event) c.args.self.now new (asked c.waiting.result)) (sym c.in-Ask.is)
          (subst (λ (assigns : List Assign). IsAsked assigns c.args.self.now new (asked c.waiting.result)) c.deref.ensures.value
          (subst (λ (v : PacerValue). IsAsked c.deref.result.now c.args.self.now v (asked c.waiting.result)) (sym c.self.view_is) (c.ask.ensures.asked c.waiting.result counts))),
      c.put_ask.ensures,
    )
