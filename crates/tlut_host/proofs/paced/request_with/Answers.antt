use Rattle.tlut_host.proofs.Lemmas.{ℕ, ◌+◌, List, length, sym, ap, ◌∙◌, subst, arith, Write, IsWithinTouched, AreTurns, writes_turn, asked_behind, asked_keeps, no_circuit, keeps_of, pacing_of}
use Rattle.tlut_host.proofs.paced.request_with.Goals as goal

pub ask-requires : goal.ask-requires
ask-requires g c =
    let s = c.args.specialiser.now in let b = c.args.backlog.now in let sim = no_circuit (length s.pack.bits) in
    subst (AreTurns b) (sym c.writes.ensures)
    (writes_turn s b sim 1 0 0 (keeps_of s b c.requires.pacing) c.change.new.self c.args.assigns.now c.change.ensures.pack c.change.ensures.set c.change.ensures.steady)

pub returns : goal.returns
returns g c =
    let s = c.args.specialiser.now in let b = c.args.backlog.now in let sim = no_circuit (length s.pack.bits) in let keeps = keeps_of s b c.requires.pacing in
    let new = c.change.new.self in let after = c.ask.new.self in
    let behind = asked_behind s b sim 1 0 0 keeps new c.args.assigns.now c.change.ensures.pack c.change.ensures.set c.change.ensures.steady after (λ from to is are same. c.ask.ensures.behind from to is (c.writes.ensures ∙ are) same) in
    record {
      change = record {
        pack = c.change.ensures.pack;
        set = c.change.ensures.set;
        steps = c.change.new.steps;
        reads = omega (arith, c.change.ensures.counted, c.start-steps.ensures);
        cost = subst (λ (start : ℕ). IsWithinTouched s.pack.graph s.state.params new.state.params start c.change.new.steps) c.start-steps.ensures c.change.ensures.cost;
        steady = c.change.ensures.steady;
      };
      pacing = pacing_of new after sim 1 0 0 (asked_keeps s b sim 1 0 0 keeps new c.args.assigns.now c.change.ensures.pack c.change.ensures.set c.change.ensures.steady after behind);
      config = c.ask.ensures.config;
      writes = c.ask.ensures.writes;
      looks = c.ask.ensures.looks ∙ ap (λ (ws : List Write). b.looks + length ws) c.writes.ensures;
    }
