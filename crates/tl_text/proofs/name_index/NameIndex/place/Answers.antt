use Rattle.tl_text.proofs.Common.{◌∙◌, ap, ℕ, List, place_of}
use Rattle.tl_text.proofs.name_index.NameIndex.place.Goals as goal

pub returns : goal.returns
returns c = c.get_index_of.ensures.index ∙ ap (λ (l : List (List ℕ)). place_of l c.args.name.now) c.self.view_is
