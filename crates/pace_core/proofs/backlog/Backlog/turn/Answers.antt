use Rattle.pace_core.proofs.Lemmas.{sym, ◌∙◌, subst, arith, BacklogValue, IsBehind, turn_waits, turn_has_room, one_behind_less, one_behind_more}
use Rattle.pace_core.proofs.backlog.Backlog.turn.Goals as goal

pub is_behind-requires : goal.is_behind-requires
is_behind-requires g c =
    let b : BacklogValue = record { config = c.self.inside.device.config; marks = c.self.inside.device.marks; waiting = c.self.inside.waiting; writes = c.self.inside.writes.items; looks = c.self.inside.device.looks } in
    let behind : IsBehind b c.requires.from = subst (λ (v : BacklogValue). IsBehind v c.requires.from) (sym c.self.view_is) c.requires.behind in
    omega (arith, behind.same, c.requires.within)

pub unmark-requires : goal.unmark-requires
unmark-requires g c = rw c.is_behind.ensures.device (sym c.is_behind.ensures.marked ∙ c.if-is_behind.true)

pub mark-requires : goal.mark-requires
mark-requires g c =
    let b : BacklogValue = record { config = c.self.inside.device.config; marks = c.self.inside.device.marks; waiting = c.self.inside.waiting; writes = c.self.inside.writes.items; looks = c.self.inside.device.looks } in
    let behind : IsBehind b c.requires.from = subst (λ (v : BacklogValue). IsBehind v c.requires.from) (sym c.self.view_is) c.requires.behind in
    rw c.is_behind.ensures.device (omega (arith, behind.same, c.requires.within))

pub overflow_sub-self : goal.overflow_sub-self
overflow_sub-self g c =
    let b : BacklogValue = record { config = c.self.inside.device.config; marks = c.self.inside.device.marks; waiting = c.self.inside.waiting; writes = c.self.inside.writes.items; looks = c.self.inside.device.looks } in
    let behind : IsBehind b c.requires.from = subst (λ (v : BacklogValue). IsBehind v c.requires.from) (sym c.self.view_is) c.requires.behind in
    turn_waits b c.requires.from c.args.write behind c.requires.within c.requires.other (sym c.is_behind.ensures.marked ∙ c.if-is_behind.true)

pub overflow_add-self : goal.overflow_add-self
overflow_add-self g c =
    let b : BacklogValue = record { config = c.self.inside.device.config; marks = c.self.inside.device.marks; waiting = c.self.inside.waiting; writes = c.self.inside.writes.items; looks = c.self.inside.device.looks } in
    let behind : IsBehind b c.requires.from = subst (λ (v : BacklogValue). IsBehind v c.requires.from) (sym c.self.view_is) c.requires.behind in
    omega (arith, turn_has_room b c.requires.from c.args.write behind c.requires.within c.requires.other (sym c.is_behind.ensures.marked ∙ c.if-is_behind.false), c.self.invariant.few)

pub returns-then-is_behind-clause-behind : goal.returns-then-is_behind-clause-behind
returns-then-is_behind-clause-behind g c = λ from is within other.
    let b : BacklogValue = record { config = c.self.inside.device.config; marks = c.self.inside.device.marks; waiting = c.self.inside.waiting; writes = c.self.inside.writes.items; looks = c.self.inside.device.looks } in
    let behind : IsBehind b from = subst (λ (v : BacklogValue). IsBehind v from) (sym c.self.view_is) is in
    rw (c.unmark.ensures, c.is_behind.ensures.device) (one_behind_less b from c.args.write behind within other (sym c.is_behind.ensures.marked ∙ c.if-is_behind.true))

pub returns-else-is_behind-clause-behind : goal.returns-else-is_behind-clause-behind
returns-else-is_behind-clause-behind g c = λ from is within other.
    let b : BacklogValue = record { config = c.self.inside.device.config; marks = c.self.inside.device.marks; waiting = c.self.inside.waiting; writes = c.self.inside.writes.items; looks = c.self.inside.device.looks } in
    let behind : IsBehind b from = subst (λ (v : BacklogValue). IsBehind v from) (sym c.self.view_is) is in
    rw (c.mark.ensures, c.is_behind.ensures.device) (one_behind_more b from c.args.write behind within other (sym c.is_behind.ensures.marked ∙ c.if-is_behind.false))
