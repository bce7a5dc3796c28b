use Rattle.pace_core.proofs.Lemmas.{◌≡◌, ◌<◌, ◌-◌, ◌++◌, [], ◌∷◌, length, sym, ap, subst, arith, length-set, BacklogValue, IsBehind, IsCaughtUp, empty_waits, mark_sent}
use Rattle.late_device.specs.Late.{LateValue}
use Rattle.pace_core.proofs.backlog.Backlog.catch_up_once.Goals as goal

pub note-requires : goal.note-requires
note-requires g c =
    let write = c.in-Some.write in
    let long = length-set c.self.inside.device.config write.address write.bit in
    let writes = ap (λ (v : BacklogValue). length v.writes) c.self.view_is in
    let config = ap (λ (v : BacklogValue). length v.config) c.self.view_is in
    subst (λ (d : LateValue). length c.self.inside.writes.items < length d.config) (sym c.in-Some.ensures.device) (omega (arith, long, writes, config, c.requires.room))

pub returns-in-Some-clause-caught : goal.returns-in-Some-clause-caught
returns-in-Some-clause-caught g c = λ wanted is.
    let b : BacklogValue = record { config = c.self.inside.device.config; marks = c.self.inside.device.marks; waiting = c.self.inside.waiting; writes = c.self.inside.writes.items; looks = c.self.inside.device.looks } in
    let behind : IsBehind b wanted = subst (λ (v : BacklogValue). IsBehind v wanted) (sym c.self.view_is) is in
    let write = c.in-Some.write in
    subst (λ (new : BacklogValue). IsCaughtUp wanted c.args.self.now new) (sym c.note.ensures)
    (subst (λ (old : BacklogValue). IsCaughtUp wanted old (record { config = c.send.new.self.config; marks = c.send.new.self.marks; waiting = b.waiting - 1; writes = b.writes ++ write ∷ []; looks = c.send.new.self.looks })) c.self.view_is
    (subst (λ (d : LateValue). IsCaughtUp wanted b (record { config = d.config; marks = d.marks; waiting = b.waiting - 1; writes = b.writes ++ write ∷ []; looks = d.looks })) (sym c.in-Some.ensures.device)
    (mark_sent b wanted behind write.address c.in-Some.ensures.least write.bit c.in-Some.ensures.bit)))

pub returns-in_default : goal.returns-in_default
returns-in_default g c =
    let b : BacklogValue = record { config = c.self.inside.device.config; marks = c.self.inside.device.marks; waiting = c.self.inside.waiting; writes = c.self.inside.writes.items; looks = c.self.inside.device.looks } in
    let behind : IsBehind b c.requires.late.wanted = subst (λ (v : BacklogValue). IsBehind v c.requires.late.wanted) (sym c.self.view_is) c.requires.late.behind in
    let none : b.waiting ≡ 0 = empty_waits b c.requires.late.wanted behind c.in_default.ensures.least in
    let seen : b.waiting ≡ c.args.self.now.waiting = ap (λ (v : BacklogValue). v.waiting) c.self.view_is in
    absurd (omega (arith, c.requires.some))
