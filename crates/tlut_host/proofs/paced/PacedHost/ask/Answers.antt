use Rattle.tlut_host.proofs.Lemmas.{ℕ, List, length, map, sym, ap, ◌∙◌, subst, AreAssigned, Assign, PacedValue, IsRequest, IsAsk, settings_status, assign_of, seen, asked, settings_fit}
use Rattle.tlut_host.proofs.paced.PacedHost.ask.Goals as goal

pub request_with-requires-clause-assigns : goal.request_with-requires-clause-assigns
request_with-requires-clause-assigns c =
    let params = c.self.inside.params in let done = c.if-status-eq-DONE.true in
    subst (λ (n : ℕ). AreAssigned n c.deref.result.now) c.self.invariant.count
    (subst (λ (xs : List Assign). AreAssigned params xs) (sym (c.deref.ensures.value ∙ c.gather-status.ensures.are done)) (settings_fit params c.args.settings.now (sym c.gather-status.ensures.status ∙ done)))

pub returns-then-status-eq-DONE : goal.returns-then-status-eq-DONE
returns-then-status-eq-DONE c =
    let s = c.self.inside.specialiser in let b = c.self.inside.backlog in let rate = c.self.inside.rate in let done = c.if-status-eq-DONE.true in
    let new = c.request_with.new.specialiser in let after = c.request_with.new.backlog in let assigns = map assign_of c.args.settings.now in
    let request = subst (λ (xs : List Assign). IsRequest xs s b new after) (c.deref.ensures.value ∙ c.gather-status.ensures.are done) c.request_with.ensures in
    record {
      answer = c.gather-status.ensures.status ∙ ap (λ (n : ℕ). settings_status n 0 c.args.settings.now) (c.self.invariant.count ∙ ap (λ (v : PacedValue). length v.params) c.self.view_is);
      done = λ taken. subst (λ (old : PacedValue). IsAsk assigns old (seen new after rate) c.waiting.result) c.self.view_is
          (asked assigns s b new after rate c.waiting.result c.self.invariant.pacing request c.waiting.ensures);
      refused = λ n. absurd (n done);
    }
