use Rattle.cmd_stations.proofs.Lemmas.{sym, subst, most_bytes, HasBytes, pack_unread, pack_explains}
use Rattle.cmd_base.specs.declared.outcome.File.TheVariants.{Pack}
use Rattle.cmd_stations.proofs.packs.read_pack.Goals as goal

pub returns-in-Err-clause-err : goal.returns-in-Err-clause-err
returns-in-Err-clause-err g c = pack_unread c.args.name.now (g.S.Shelf.seen c.args.shelf.now) (g.S.Shelf.seen c.read_file.new.shelf) c.in-Err.outcome c.in-Err.ensures.err

pub returns-clause-err : goal.returns-clause-err
returns-clause-err g c =
    pack_explains c.args.name.now (g.S.Shelf.seen c.args.shelf.now) (g.S.Shelf.seen c.read_file.new.shelf) c.deref.result.now c.in-Err-decode_pack.stop c.at.result c.at.ensures c.in-Ok.ensures.given
    (λ files told. subst (λ bytes. HasBytes (most_bytes Pack) files c.args.name.now bytes) (sym c.deref.ensures.value) (c.in-Ok.ensures.text files told)) c.in-Err-decode_pack.ensures.one c.in-Err-decode_pack.ensures.err
