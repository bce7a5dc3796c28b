use Rattle.cmd_pack.proofs.Lemmas.{◌∙◌, sym, event_values, bits_reading, bits_seen, Explains_from, can_play, ready_for}
use Rattle.cmd_pack.proofs.BitsWalkLemmas.{pack_to_bits, script_to_bits}
use Rattle.cmd_pack.proofs.bits.prepare.prepare.Goals as goal

pub returns-in-Err-clause-err : goal.returns-in-Err-clause-err
returns-in-Err-clause-err g c = pack_to_bits (bits_seen c.args.words.now) (g.S.Shelf.seen c.args.shelf.now) (g.S.Shelf.seen c.read_pack.new.shelf) c.in-Err.outcome c.in-Err.ensures.err

pub returns-in-Err-read_events-clause-err : goal.returns-in-Err-read_events-clause-err
returns-in-Err-read_events-clause-err g c =
    let words = bits_seen c.args.words.now in
    let old = g.S.Shelf.seen c.args.shelf.now in
    let mid = g.S.Shelf.seen c.read_pack.new.shelf in
    let new = g.S.Shelf.seen c.read_events.new.shelf in
    let keeps = c.read_pack.ensures.keeps in
    Explains_from (bits_reading words) old mid new keeps c.in-Err-read_events.outcome
    (script_to_bits words mid new c.in-Err-read_events.outcome c.in-Ok.pack
    (λ files told. (c.in-Ok.ensures.pack files (sym keeps.files ∙ told), c.in-Ok.ensures.settled files (sym keeps.files ∙ told))) c.in-Err-read_events.ensures.err)

pub returns-in-Ok-make_ready-clause-ready : goal.returns-in-Ok-make_ready-clause-ready
returns-in-Ok-make_ready-clause-ready g c = can_play c.in-Ok.pack (event_values c.in-Ok-read_events.events.items) c.in-Ok-make_ready.ready c.in-Ok-make_ready.ensures c.in-Ok-read_events.ensures.fit

pub returns-in-Ok-make_ready-clause-prepared : goal.returns-in-Ok-make_ready-clause-prepared
returns-in-Ok-make_ready-clause-prepared g c files told =
    let there = c.read_pack.ensures.keeps.files ∙ told in
    ready_for files (bits_seen c.args.words.now) c.in-Ok.pack (event_values c.in-Ok-read_events.events.items) c.in-Ok-make_ready.ready c.in-Ok-make_ready.ensures (c.in-Ok.ensures.pack files told) (c.in-Ok.ensures.settled files told)
    (c.in-Ok-read_events.ensures.script files there) (c.in-Ok-read_events.ensures.settled files there)
