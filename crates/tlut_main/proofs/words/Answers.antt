use Rattle.std.proofs.Common.{◌∙◌, sym, ap}
use Rattle.std.proofs.lemmas.Iterator.Adapters.{YieldsList-from_skip, YieldsList-from_vec}
use Rattle.std.proofs.lemmas.Iterator.Consumers.{YieldsList-end}
use Rattle.std.proofs.lemmas.List.{map-id}
use Rattle.std.specs.Iterator.Adapters.{skip_source, skip_count}
use Rattle.std.specs.Vec.Iter.{into_iter_items, into_iter_len}
use Rattle.tlut_main.proofs.words.Goals as goal

pub returns : goal.returns
returns c =
    let same = c.into_iter-word-iterator.ensures.into_iter_gives in
    let source = ap skip_source same ∙ c.skip-word-items.ensures.source in
    let given = YieldsList-from_vec {s = skip_source c.into_iter-word-iterator.result} _ (ap into_iter_items source) (ap into_iter_len source ∙ c.args.args.rest.ok.0) in
    let gives = YieldsList-from_skip {s = c.into_iter-word-iterator.result} 1 given (ap skip_count same ∙ c.skip-word-items.ensures.count) in
    let all = YieldsList-end gives c.loop-word.yielded c.loop-word.word-iterator c.loop-word.yielded_by c.next.result c.next.new.self c.in-None.is c.next.ensures.steps in
    c.loop-word.invariant ∙ sym (map-id c.loop-word.yielded) ∙ all.0
