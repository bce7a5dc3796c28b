use Rattle.std.proofs.Common.{◌<◌, rules, arith, refl, length, ◌/◌}
use Rattle.tl_io.proofs.mem_sink.MemSinkSink.put.Goals as goal

-- half of the piece stands
pub returns-then-not-is_empty-clause-put : goal.returns-then-not-is_empty-clause-put
returns-then-not-is_empty-clause-put c =
    let some : 0 < length c.args.piece.now = search rules in
    record {
      cause = search rules;
      grown = (length c.args.piece.now / 2, omega (arith, some), search rules);
      through = refl;
      others = refl;
    }
