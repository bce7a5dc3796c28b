use Rattle.cmd_run.proofs.Lemmas.{◌∙◌, subst, event_values, bank_seen, MachineValue, EventsEnd, IsLoaded, headed_end}
use Rattle.cmd_run.proofs.run.play.play_all.Goals as goal

pub returns-clause-ends : goal.returns-clause-ends
returns-clause-ends g c =
    let seen = g.P.ConfigPort.port_seen in
    let old = bank_seen seen c.args.bank.now in
    let loaded = bank_seen seen c.load.new.bank in
    let new = bank_seen seen c.play_events.new.bank in
    let events = event_values c.args.events.now in
    let headed = (g.O.Sink.seen c.header.new.out).bytes in
    let after = (g.O.Sink.seen c.play_events.new.out).bytes in
    let load = c.in_ok-load.ensures in
    let same = c.in_ok-header.ensures.same in
    headed_end c.args.machine.now old loaded
    (subst (λ (m : MachineValue). IsLoaded m.host.state.config old loaded) same (record { plays = load.loaded; becomes = load.left; places = load.places; holds = load.holds }))
    (g.O.Sink.seen c.args.out.now).bytes headed c.in_ok-header.ensures.put.grown events after new c.play_events.result
    (subst (λ (m : MachineValue). EventsEnd (record { machine = m; bank = loaded }) events headed after new c.play_events.result) (load.same ∙ same) c.play_events.ensures.ends)
