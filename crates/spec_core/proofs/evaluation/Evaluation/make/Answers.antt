use Rattle.spec_core.proofs.Lemmas.{false, List, length, replicate, ap, ◌∙◌, node_count, Lit, Belong-idle}
use Rattle.spec_core.proofs.KeepLemmas.{start_params, IsIdle-start}
use Rattle.spec_core.proofs.evaluation.Evaluation.make.Goals as goal

pub returns-clause-params : goal.returns-clause-params
returns-clause-params c = rw c.unread.ensures (start_params c.args.pack c.in_ok-values.values.items c.in_ok-values.ensures)

pub returns-clause-idle : goal.returns-clause-idle
returns-clause-idle c =
    let count = c.len.ensures.count ∙ ap node_count c.graph.ensures.value in
    rw c.unread.ensures (IsIdle-start c.args.pack _ c.in_ok-values.ensures
    (c.in_ok-nodes.ensures ∙ ap (λ n. replicate n false) count)
    (c.in_ok-addresses.ensures ∙ ap (λ (ls : List Lit). replicate (length ls) false) c.bits.ensures.value))

pub invariant_of-result : goal.invariant_of-result
invariant_of-result c =
    let count = c.len.ensures.count ∙ ap node_count c.graph.ensures.value in
    rw c.unread.ensures (Belong-idle c.args.pack c.in_ok-readers.readers _ c.graph.ensures.pack (rw (← c.graph.ensures.value) c.len.ensures.normal) c.in_ok-readers.ensures
    (IsIdle-start c.args.pack _ c.in_ok-values.ensures
    (c.in_ok-nodes.ensures ∙ ap (λ n. replicate n false) count)
    (c.in_ok-addresses.ensures ∙ ap (λ (ls : List Lit). replicate (length ls) false) c.bits.ensures.value)))
