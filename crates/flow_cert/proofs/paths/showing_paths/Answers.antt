use Rattle.flow_cert.proofs.Common.{◌∙◌, ℕ, map, subst, arith, label_at, ArePathsTo, Vec, Global, length-map}
use Rattle.flow_cert.proofs.LabelLemmas.{known_least, shown}
use Rattle.flow_cert.proofs.paths.showing_paths.Goals as goal

pub paths_to-requires-clause-known : goal.paths_to-requires-clause-known
paths_to-requires-clause-known c = known_least c.args.graph.now c.args.k (label_at c.args.labels.now) c.requires.least c.len-count.ensures.normal c.args.n (omega (arith, c.requires.node.1))

pub returns-clause-paths : goal.returns-clause-paths
returns-clause-paths c =
    shown c.args.graph.now c.args.k c.args.n (label_at c.args.labels.now) c.in_ok-paths.paths.items (map (λ (p : Vec ℕ Global). p.items) c.in_ok-lists.lists.items) c.in_ok-paths.ensures
    (subst (λ h. ArePathsTo c.args.graph.now c.args.n h (label_at c.args.labels.now) (map (λ (p : Vec ℕ Global). p.items) c.in_ok-lists.lists.items)) c.label-height.ensures.value c.in_ok-lists.ensures.paths)
    (length-map c.in_ok-lists.lists.items (λ (p : Vec ℕ Global). p.items) ∙ c.in_ok-lists.ensures.count)
