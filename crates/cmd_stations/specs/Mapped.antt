-- What a command makes of its source circuit: its graph, the labels of the graph's nodes, or LUTs by a rule; and what it is refused for on the way.
use Rattle.std.specs.Prelude.{◌≡◌, ℕ, ◌≤◌, List, length, Some}
use Rattle.aig_build.specs.declared.TheConstants.{MOST_NODES}
use Rattle.cmd_stations.specs.declared.limits.TheConstants.{GRAPH_ROOM}
use Rattle.aig_build.specs.declared.build_err.BuildErr.TheVariants.{TooManyNodes}
use Rattle.cmd_stations.specs.Words.{IsGraphOf, HasTooManyNodes, Aig, node_count, RootsValue, roots_of, label_at, AreLeastHeights, Rule, TemplateValue, IsTemplate, IsTooMuch, RefusalValue}
use Rattle.aig_build.specs.Refusals.{refusal_of as build_refusal}
use Rattle.list_laws.specs.Members.{In}
use Rattle.cut_sets.specs.Cuts.{CanBeLeaf}
use Rattle.cut_enum.specs.Table.{AreRows}
use Rattle.cut_enum.specs.Limits.{IsLimit}
use Rattle.cut_enum.specs.Refusals.{refusal_of as cut_refusal}
use Rattle.cut_enum.specs.declared.table.CutErr.{CutErr}
use Rattle.depth_label.specs.Label.{LabelsValue, AreLabelled, label_of}
use Rattle.flow_label.specs.Lows.{AreLowsOf}
use Rattle.cover_pick.specs.Rounds.{Supply, Rows, Sets}
use Rattle.cover_pick.specs.declared.rule.Rule.TheVariants.{FewestLeaves, LeastCost}
use Rattle.cover_pick.specs.declared.lut.Lut.{Lut}
use Rattle.cover_pick.specs.Mapping.{IsMapping, IsLeast}
use Rattle.cover_pick.specs.Work.{IsLight}
use Rattle.cover_pick.specs.Refusals.{refusal_of as pick_refusal}
use Rattle.cover_pick.specs.declared.lut.PickErr.TheVariants.{Work}
use Rattle.run_text.specs.Lines.{header_line}
use Rattle.cmd_stations.specs.declared.source.Source.{Source}

-- how many AND nodes a graph may have, by the rule that chooses cuts of its nodes; each graph has room for as many as any
abbrev pub most_nodes : Rule → ℕ
most_nodes FewestLeaves = MOST_NODES
most_nodes LeastCost = GRAPH_ROOM

-- the minimal cuts of all nodes of a graph and their labels, within the limits
pub record IsLabelled (g : Aig) (k : ℕ) (rows : List (List (List ℕ))) (labels : LabelsValue) : Type 0 where
  pub rows_are : AreRows g k (node_count g) rows
  pub labels_are : AreLabelled g rows labels

-- What a rule chooses from: the fewest leaves from the minimal cuts of all nodes, within the limits, with their labels; the least cost from bounded sets over the least heights of the nodes' cuts and their low cuts.
pub data HasSupply (rule : Rule) (g : Aig) (k : ℕ) (label : ℕ → ℕ) (supply : Supply) : Type 0 where
  by_cuts : rule ≡ FewestLeaves → (rows : List (List (List ℕ))) (labels : LabelsValue) → IsLabelled g k rows labels → label ≡ label_of labels → supply ≡ Rows rows → HasSupply rule g k label supply
  by_flow : rule ≡ LeastCost → (lows : ℕ → List ℕ) → AreLeastHeights g k label → AreLowsOf g k label lows → supply ≡ Sets k lows → HasSupply rule g k label supply

-- the template of a graph whose cuts are chosen by a rule, within the limit on its work
pub record IsChosen (rule : Rule) (g : Aig) (k : ℕ) (roots : RootsValue) (t : TemplateValue) : Type 0 where
  pub label : ℕ → ℕ
  pub supply : Supply
  pub has : HasSupply rule g k label supply
  pub chosen : IsTemplate supply g label roots t
  pub light : IsLight supply g t.luts

-- at most k leaves, each a regular source or an AND node, and so none a parameter
pub record HasFewLeaves (g : Aig) (k : ℕ) (t : Lut) : Type 0 where
  pub few : length t.leaves ≤ k
  pub each : (m : ℕ) → In t.leaves m → CanBeLeaf g m

-- What is so of the chosen template: its LUTs map the graph with at most k inputs each, none of them a parameter, and their cuts are a cover of the least depth over all covers.
pub record IsLeastMapping (g : Aig) (k : ℕ) (roots : RootsValue) (t : TemplateValue) : Type 0 where
  pub mapping : IsMapping g k (roots_of roots) t.luts t.bits
  pub small : (u : Lut) → In t.luts u → HasFewLeaves g k u
  pub least : IsLeast g k (roots_of roots) t.luts t.depth

-- its header line: how many tables there are, how many bits they have, and how deep they stand
abbrev pub template_header : TemplateValue → List ℕ
template_header t = header_line (length t.luts) t.bits t.depth

-- the work of the chosen tables is too much
pub record IsOverworked (rule : Rule) (g : Aig) (k : ℕ) (roots : RootsValue) : Type 0 where
  pub label : ℕ → ℕ
  pub supply : Supply
  pub has : HasSupply rule g k label supply
  pub too_much : IsTooMuch supply g label (roots_of roots)

-- what a graph is refused for when it is mapped: too many cuts, where all of them are needed, else too much work
pub data IsUnchosen (rule : Rule) (g : Aig) (k : ℕ) (roots : RootsValue) (refusal : RefusalValue) : Type 0 where
  cuts : rule ≡ FewestLeaves → (e : CutErr) → IsLimit g k e → cut_refusal e ≡ Some refusal → IsUnchosen rule g k roots refusal
  work : IsOverworked rule g k roots → pick_refusal Work ≡ Some refusal → IsUnchosen rule g k roots refusal

-- the template of a source circuit by a rule: that chosen for its graph, which has no more AND nodes than it may
pub record IsMapped (rule : Rule) (source : Source) (k : ℕ) (t : TemplateValue) : Type 0 where
  pub graph : Aig
  pub roots : RootsValue
  pub is_graph : IsGraphOf source.netlist.library source.netlist.flat source.params.list GRAPH_ROOM graph roots
  pub nodes : length graph.pairs ≤ most_nodes rule
  pub chosen : IsChosen rule graph k roots t

-- what its graph is refused for, when there are no too many nodes
pub record IsUnmappedGraph (rule : Rule) (source : Source) (k : ℕ) (refusal : RefusalValue) : Type 0 where
  pub graph : Aig
  pub roots : RootsValue
  pub is_graph : IsGraphOf source.netlist.library source.netlist.flat source.params.list GRAPH_ROOM graph roots
  pub nodes : length graph.pairs ≤ most_nodes rule
  pub unchosen : IsUnchosen rule graph k roots refusal

-- what a source circuit is refused for when it is mapped: too many AND nodes, else what its graph is refused for
pub data IsUnmapped (rule : Rule) (source : Source) (k : ℕ) (refusal : RefusalValue) : Type 0 where
  too_many : HasTooManyNodes source.netlist.library source.netlist.flat source.params.list (most_nodes rule) → build_refusal TooManyNodes ≡ Some refusal → IsUnmapped rule source k refusal
  unchosen : IsUnmappedGraph rule source k refusal → IsUnmapped rule source k refusal

-- What a command makes of its source circuit: its graph, the labels of the graph's nodes, or LUTs; and what a source circuit is refused for on the way.
pub data Aim : Type 0 where
  ToGraph : Aim
  ToLabels : Aim
  ToTables : Aim

-- the graph of a source circuit, which has no more AND nodes than it may
pub record IsBuilt (rule : Rule) (source : Source) (graph : Aig) (roots : RootsValue) : Type 0 where
  pub is_graph : IsGraphOf source.netlist.library source.netlist.flat source.params.list GRAPH_ROOM graph roots
  pub nodes : length graph.pairs ≤ most_nodes rule

-- it has too many
pub record IsUnbuilt (rule : Rule) (source : Source) (refusal : RefusalValue) : Type 0 where
  pub too_many : HasTooManyNodes source.netlist.library source.netlist.flat source.params.list (most_nodes rule)
  pub tells : build_refusal TooManyNodes ≡ Some refusal

-- a node of its graph has too many cuts
pub record HasManyCuts (rule : Rule) (source : Source) (k : ℕ) (refusal : RefusalValue) : Type 0 where
  pub graph : Aig
  pub roots : RootsValue
  pub built : IsBuilt rule source graph roots
  pub e : CutErr
  pub limit : IsLimit graph k e
  pub tells : cut_refusal e ≡ Some refusal

-- its graph's nodes aren't labelled: it has too many nodes, else one has too many cuts, where labels are by all cuts
pub data IsUnlabelled (rule : Rule) (source : Source) (k : ℕ) (refusal : RefusalValue) : Type 0 where
  unbuilt : IsUnbuilt rule source refusal → IsUnlabelled rule source k refusal
  many_cuts : rule ≡ FewestLeaves → HasManyCuts rule source k refusal → IsUnlabelled rule source k refusal

-- the labels of a graph's nodes that a rule goes by: those of its minimal cuts, within the limits, or the least heights of its cuts
pub data AreLabelsBy (rule : Rule) (g : Aig) (k : ℕ) (labels : List ℕ) : Type 0 where
  by_cuts : rule ≡ FewestLeaves → (rows : List (List (List ℕ))) (v : LabelsValue) → IsLabelled g k rows v → labels ≡ v.labels → AreLabelsBy rule g k labels
  by_flow : rule ≡ LeastCost → AreLeastHeights g k (label_at labels) → AreLabelsBy rule g k labels

-- a graph has too many cuts for a rule that goes by all of them
pub record HasManyCutsBy (rule : Rule) (g : Aig) (k : ℕ) (refusal : RefusalValue) : Type 0 where
  pub all : rule ≡ FewestLeaves
  pub e : CutErr
  pub limit : IsLimit g k e
  pub tells : cut_refusal e ≡ Some refusal

-- a graph has one limit that it exceeds at most, and then no labels
pub record HasOneLimit (rule : Rule) (g : Aig) (k : ℕ) : Type 0 where
  pub once : (e f : CutErr) → rule ≡ FewestLeaves → IsLimit g k e → IsLimit g k f → e ≡ f
  pub excluded : (e : CutErr) (labels : List ℕ) → rule ≡ FewestLeaves → IsLimit g k e → AreLabelsBy rule g k labels → ⊥

-- what a source circuit is refused for on the way there
abbrev pub IsUnmade : Aim → Rule → Source → ℕ → RefusalValue → Type 0
IsUnmade ToGraph rule source k refusal = IsUnbuilt rule source refusal
IsUnmade ToLabels rule source k refusal = IsUnlabelled rule source k refusal
IsUnmade ToTables rule source k refusal = IsUnmapped rule source k refusal
