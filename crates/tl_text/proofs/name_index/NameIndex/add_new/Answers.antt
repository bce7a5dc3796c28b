use Rattle.tl_text.proofs.NameLemmas.{once_kept}
use Rattle.tl_text.proofs.name_index.NameIndex.add_new.Goals as goal

pub invariant_of-self-2 : goal.invariant_of-self-2
invariant_of-self-2 c = once_kept c.insert_full.result c.self.inside.names.keys c.insert_full.new.self.keys c.in_ok-copy.copy c.insert_full.ensures.keys c.insert_full.ensures.err c.self.invariant
