use Rattle.std.proofs.Common.{◌∙◌, ap, is_some}
use Rattle.tl_text.proofs.NameSetLemmas.{place_some}
use Rattle.tl_text.proofs.name_index.NameIndex.has.Goals as goal

pub returns : goal.returns
returns c = c.is_some.ensures ∙ ap is_some c.place.ensures ∙ place_some c.args.self.now c.args.name.now
