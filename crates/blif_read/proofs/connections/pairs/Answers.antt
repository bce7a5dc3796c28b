use Rattle.blif_read.proofs.Common.{passed_on}
use Rattle.blif_read.proofs.TextLemmas.{word_refused, word_read}
use Rattle.blif_read.proofs.connections.pairs.Goals as goal

pub returns-in_err-add_pair : goal.returns-in_err-add_pair
returns-in_err-add_pair c =
    passed_on c.from_residual.result c.in_err-add_pair.field-0.0 _ _ c.from_residual.ensures.1
    (word_refused c.args.number c.args.words.now c.loop-word.word-index c.word-item.result c.bytes.result.now c.loop-word.formals c.in_err-add_pair.field-0.0 c.loop-word-test.true c.word-item.is c.bytes.ensures c.loop-word.invariant.0 c.in_err-add_pair.ensures)

pub loop-word-preserved : goal.loop-word-preserved
loop-word-preserved c =
    word_read c.args.number c.args.words.now c.loop-word.word-index c.word-item.result c.bytes.result.now c.loop-word.formals c.add_pair.new.formals c.loop-word.pairs.items c.add_pair.new.pairs.items
    c.loop-word-test.true c.word-item.is c.bytes.ensures c.in_ok-add_pair.ensures.0 c.in_ok-add_pair.ensures.1 c.in_ok-add_pair.ensures.2 c.loop-word.invariant.0 c.loop-word.invariant.1
