use Rattle.cmd_map.proofs.Common.{[], ◌∷◌, refl, tables_within_bits, template_header, specialised_text, cut_in_file, line_ends}
use Rattle.cmd_map.proofs.spec.job.write_out.Goals as goal

pub returns-in-Err-clause-ends : goal.returns-in-Err-clause-ends
returns-in-Err-clause-ends g c ports =
    let m = c.args.draft.now.mapped in
    cut_in_file [] (specialised_text m c.args.config.now c.args.name.now) [] (template_header m.tables.template) (g.S.Shelf.seen c.args.shelf.now) (g.S.Shelf.seen c.args.shelf.now) (g.S.Shelf.seen c.write_specialised.new.shelf) (g.O.Sink.seen c.args.out.now) ports refl
    c.in-Err.ensures.written c.in-Err.ensures.cause.failed

pub returns-in-Ok-clause-ends : goal.returns-in-Ok-clause-ends
returns-in-Ok-clause-ends g c ports =
    let m = c.args.draft.now.mapped in
    line_ends (specialised_text m c.args.config.now c.args.name.now ∷ []) (template_header m.tables.template) (g.S.Shelf.seen c.args.shelf.now) (g.S.Shelf.seen c.write_specialised.new.shelf) (g.O.Sink.seen c.args.out.now) (g.O.Sink.seen c.put_template_header.new.out) ports
    c.put_template_header.result c.in-Ok.ensures.written c.put_template_header.ensures

pub put_template_header-requires : goal.put_template_header-requires
put_template_header-requires g c = tables_within_bits c.args.draft.now.mapped.tables.template c.args.draft.now.mapped.tables.shape c.requires.made.playable
