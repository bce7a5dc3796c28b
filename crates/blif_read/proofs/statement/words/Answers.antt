use Rattle.list_laws.proofs.Members.{In-get_or}
use Rattle.blif_read.proofs.statement.words.Goals as goal

pub bytes-requires : goal.bytes-requires
bytes-requires c = c.requires _ (In-get_or c.args.tokens.now c.loop-token.token-index _ c.loop-token-test.true)
