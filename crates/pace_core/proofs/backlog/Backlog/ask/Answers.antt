use Rattle.pace_core.proofs.Lemmas.{◌≡◌, false, List, length, take, sym, ap, ◌∙◌, subst, arith, slice_get-get_or, Write, written, differences, IsBehind, all_written, written-next, next_within, next_other}
use Rattle.pace_core.proofs.backlog.Backlog.ask.Goals as goal

pub turn-requires : goal.turn-requires
turn-requires g c =
    let at = slice_get-get_or c.args.changed.now c.loop-write.write-index (record { address = 0; bit = false }) c.loop-write-test.true in
    record {
      from = written c.requires.from (take c.loop-write.write-index c.args.changed.now);
      behind = c.loop-write.invariant.behind c.requires.from c.requires.to c.requires.behind c.requires.are c.requires.same;
      within = next_within c.requires.from c.requires.to c.args.changed.now c.loop-write.write-index _ c.requires.same c.requires.are at;
      other = next_other c.requires.from c.requires.to c.args.changed.now c.loop-write.write-index _ c.requires.same c.requires.are at;
    }

pub loop-write-preserved : goal.loop-write-preserved
loop-write-preserved g c =
    let at = slice_get-get_or c.args.changed.now c.loop-write.write-index (record { address = 0; bit = false }) c.loop-write-test.true in
    record {
      behind = λ from to is are same. subst (IsBehind c.turn.new.self) (sym (written-next c.args.changed.now c.loop-write.write-index _ from at))
          (c.turn.ensures.behind (written from (take c.loop-write.write-index c.args.changed.now)) (c.loop-write.invariant.behind from to is are same)
          (next_within from to c.args.changed.now c.loop-write.write-index _ same are at) (next_other from to c.args.changed.now c.loop-write.write-index _ same are at));
      config = c.turn.ensures.config ∙ c.loop-write.invariant.config;
      writes = c.turn.ensures.writes ∙ c.loop-write.invariant.writes;
      looks = omega (arith, c.turn.ensures.looks, c.loop-write.invariant.looks);
      cost = omega (arith, c.turn.ensures.cost, c.loop-write.invariant.cost);
    }

pub returns-clause-behind : goal.returns-clause-behind
returns-clause-behind g c = λ from to is are same.
    let count : length c.args.changed.now ≡ length (differences from to) = ap (λ (ws : List Write). length ws) are in
    subst (IsBehind c.loop-write.self) (ap (λ (ws : List Write). written from (take c.loop-write.write-index ws)) are ∙ all_written c.loop-write.write-index from to same (omega (arith, c.loop-write-test.false)))
    (c.loop-write.invariant.behind from to is are same)
