use Rattle.depth_label.proofs.Common.{ℕ, List, [], get_or, sym, ap, ◌≡◌, ◌∙◌, get_or_from_slice_get, row_at, height, LabelsValue, label_at, label_of}
use Rattle.depth_label.proofs.node_labels.Labels.height.Goals as goal

pub returns : goal.returns
returns c =
    let row : List (List ℕ) = row_at c.args.table.now c.args.n in
    let at : get_or row c.args.i [] ≡ c.leaves.result.now = get_or_from_slice_get row c.args.i c.leaves.result.now [] c.leaves.ensures in
    c.cut_height.ensures ∙ (ap (λ x. height (label_at c.self.inside.labels) x) (sym at) ∙ ap (λ (v : LabelsValue). height (label_of v) (get_or row c.args.i [])) c.self.view_is)
