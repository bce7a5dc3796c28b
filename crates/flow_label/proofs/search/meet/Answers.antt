use Rattle.flow_label.proofs.Common.{◌≡◌, ◌∙◌, ◌∷◌, [], ◌++◌, arith, ap, sym, refl, length, get_or, IsOpen, net_of}
use Rattle.flow_label.specs.Search.{free, old, end, new}
use Rattle.flow_label.proofs.search.meet.Goals as goal
use Rattle.flow_label.proofs.search.meet.Goals.{then-not-is_open-via-then-not-is_open, then-not-is_open-via-else-not-is_open+then-get-ne0}

pub returns-then-not-is_open-clause-met : goal.returns-then-not-is_open-clause-met
returns-then-not-is_open-clause-met c = elim c.then-not-is_open.branch [
  | then-not-is_open-via-then-not-is_open w ↦ free refl (w.if-not-is_open.ensures.no refl) refl refl refl refl
  | then-not-is_open-via-else-not-is_open+then-get-ne0 w ↦ (let ne : w.get.result ≡ 0 → ⊥ = w.if-get-ne0.true in let e : w.get.result ≡ get_or c.args.search.now.seen c.args.m 0 = w.get.ensures in old refl (omega arith) refl refl refl refl)
]

pub returns-then-owner-eq0-clause-met : goal.returns-then-owner-eq0-clause-met
returns-then-owner-eq0-clause-met c =
    let live : IsOpen (net_of c.args.site.now) c.args.m = c.if-not-is_open.ensures.yes refl in
    end refl live (sym c.get.ensures ∙ c.if-get-ne0.false) (sym c.owner.ensures ∙ c.if-owner-eq0.true) c.set.ensures c.in_ok-push.ensures.items c.in_ok-push-2.ensures.items refl

pub returns-clause-met : goal.returns-clause-met
returns-clause-met c =
    let live : IsOpen (net_of c.args.site.now) c.args.m = c.if-not-is_open.ensures.yes refl in
    let ne : c.owner.result ≡ 0 → ⊥ = c.if-owner-eq0.false in
    let place : c.len-place.result ≡ length c.args.search.now.queue.items = c.len-place.ensures ∙ c.args.search.now.queue.ok.0 in
    new refl live (sym c.get.ensures ∙ c.if-get-ne0.false) (omega (arith, c.owner.ensures)) c.set.ensures c.in_ok-push.ensures.items c.in_ok-push-2.ensures.items
    (c.in_ok-push-3.ensures.items ∙ ap (λ x. c.args.search.now.stack.items ++ x ∷ []) place)
