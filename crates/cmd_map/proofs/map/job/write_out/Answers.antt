use Rattle.cmd_map.proofs.Common.{[], ◌∷◌, Option, refl, ap, ◌∙◌, Files, with_file, tables_within_bits, Rose_from, template_header, template_text, pack_text, cut_in_file, line_ends}
use Rattle.cmd_map.proofs.map.job.write_out.Goals as goal

pub returns-in-Err-clause-ends : goal.returns-in-Err-clause-ends
returns-in-Err-clause-ends g c ports =
    let m = c.args.draft.now.mapped in
    let template = template_text m c.args.template.now in
    let pack = pack_text m c.args.pack.now in
    let old = g.S.Shelf.seen c.args.shelf.now in
    cut_in_file [] template (pack ∷ []) (template_header m.tables.template) old old (g.S.Shelf.seen c.write_template.new.shelf) (g.O.Sink.seen c.args.out.now) ports refl c.in-Err.ensures.written c.in-Err.ensures.cause.failed

pub returns-in-Err-write_pack-clause-ends : goal.returns-in-Err-write_pack-clause-ends
returns-in-Err-write_pack-clause-ends g c ports =
    let m = c.args.draft.now.mapped in
    let template = template_text m c.args.template.now in
    let pack = pack_text m c.args.pack.now in
    let old = g.S.Shelf.seen c.args.shelf.now in
    let mid = g.S.Shelf.seen c.write_template.new.shelf in
    let new = g.S.Shelf.seen c.write_pack.new.shelf in
    let rose = Rose_from old.write_faults mid.write_faults new.write_faults c.in-Ok.ensures.cause.later c.in-Err-write_pack.ensures.cause.failed in
    cut_in_file (template ∷ []) pack [] (template_header m.tables.template) old mid new (g.O.Sink.seen c.args.out.now) ports c.in-Ok.ensures.written c.in-Err-write_pack.ensures.written rose

pub returns-in-Ok-write_pack-clause-ends : goal.returns-in-Ok-write_pack-clause-ends
returns-in-Ok-write_pack-clause-ends g c ports =
    let m = c.args.draft.now.mapped in
    let template = template_text m c.args.template.now in
    let pack = pack_text m c.args.pack.now in
    let old = g.S.Shelf.seen c.args.shelf.now in
    line_ends (template ∷ pack ∷ []) (template_header m.tables.template) old (g.S.Shelf.seen c.write_pack.new.shelf) (g.O.Sink.seen c.args.out.now) (g.O.Sink.seen c.put_template_header.new.out) ports
    c.put_template_header.result (c.in-Ok-write_pack.ensures.written ∙ ap (λ (fs : Option Files). with_file fs pack.name pack.bytes) c.in-Ok.ensures.written) c.put_template_header.ensures

pub put_template_header-requires : goal.put_template_header-requires
put_template_header-requires g c = tables_within_bits c.args.draft.now.mapped.tables.template c.args.draft.now.mapped.tables.shape c.requires.made.playable
