use Rattle.depth_label.proofs.Common.{◌∙◌, ap, height, LabelsValue, label_at, label_of}
use Rattle.depth_label.proofs.node_labels.Labels.cut_height.Goals as goal

pub returns : goal.returns
returns c =
    c.cut_height.ensures ∙ (ap (λ x. height (label_at c.self.inside.labels) x) c.leaves.ensures ∙ ap (λ (v : LabelsValue). height (label_of v) c.args.cut.now) c.self.view_is)
