use Rattle.cmd_pack.proofs.Lemmas.{[], ◌∷◌, present_text, line_ends, pack_header, passed_cut}
use Rattle.cmd_pack.proofs.repack.job.write_all.Goals as goal

pub returns-in_err-write_pack-clause-ends : goal.returns-in_err-write_pack-clause-ends
returns-in_err-write_pack-clause-ends g c =
    passed_cut (present_text c.args.pack.now c.args.name.now) (pack_header c.args.pack.now) (g.S.Shelf.seen c.args.shelf.now) (g.S.Shelf.seen c.write_pack.new.shelf) (g.O.Sink.seen c.args.out.now)
    c.from_residual.result c.in_err-write_pack.field-0.0 c.from_residual.ensures.1 c.in_err-write_pack.ensures.written c.in_err-write_pack.ensures.cause.failed

pub returns-clause-ends : goal.returns-clause-ends
returns-clause-ends g c ports =
    line_ends (present_text c.args.pack.now c.args.name.now ∷ []) (pack_header c.args.pack.now) (g.S.Shelf.seen c.args.shelf.now) (g.S.Shelf.seen c.write_pack.new.shelf) (g.O.Sink.seen c.args.out.now) (g.O.Sink.seen c.put_bits_header.new.out) ports c.put_bits_header.result
    c.in_ok-write_pack.ensures.written (rw c.bit_count.ensures at c.put_bits_header.ensures)
