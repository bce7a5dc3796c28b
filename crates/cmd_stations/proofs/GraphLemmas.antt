-- A graph has one template, or is refused for one reason.
use Rattle.cmd_stations.proofs.Common.{◌≡◌, ℕ, ◌≤◌, ◌/◌, [], ◌∷◌, length, sym, ap, subst, inl, inr, arith, In, Regular, Aig, IsSource, RootsValue, roots_of, Lut, IsTableOf, source, free, node, IsMapping, IsLeast, TemplateValue, HasFewLeaves, IsLeastMapping, ◌<◌, List, Some, ◌∙◌, most_nodes, GRAPH_ROOM, Literals, IsGraphOf, HasTooManyNodes, HasOneGraph, fun_ext, same_Some, none-some, node_count, IsLimit, CutErr, LabelsValue, label_of, AreLabelled, HasOneLabelling, Rule, IsTemplate, IsTooMuch, PickErr, RefusalValue, Source, IsChosen, IsUnchosen, cuts, work, IsMapped, IsUnmappedGraph, IsUnmapped, too_many, unchosen, IsBuilt, IsUnlabelled, unbuilt, many_cuts, IsGraphSettled, IsMappingSettled, IsBuildingSettled, IsLabellingSettled, AreMade, AreTables, SourceTables, HasSupply, AreLabelsBy, HasOneLimit, Supply, Rows, Sets, FewestLeaves, LeastCost, AreLeastHeights, AreLowsOf, HasOneLow}
use Rattle.cut_sets.specs.Cuts.{CanBeLeaf}
use Rattle.cut_enum.specs.Table.{AreRows}
use Rattle.cut_enum.specs.Refusals.{refusal_of as cut_refusal}
use Rattle.cover_pick.specs.Work.{IsLight}
use Rattle.cover_pick.specs.Refusals.{refusal_of as pick_refusal}
use Rattle.cover_pick.specs.declared.lut.PickErr.TheVariants as pick_err
use Rattle.flow_label.specs.Value.{HasOneLabelling as HasOneFlow}
use Rattle.cmd_stations.specs.Mapped as mapped
use Rattle.cmd_stations.proofs.InputLemmas.{same_parts}

-- each table of a mapping has few leaves
few_leaves : (g : Aig) (k : ℕ) (t : Lut) → 2 ≤ k → IsTableOf g k t → HasFewLeaves g k t
few_leaves g k t big (source regular odd leaves) = record {
  few = let e : length t.leaves ≡ 1 = ap length leaves in omega arith;
  each = λ m i. one m (subst (λ c. In c m) leaves i);
}
  where
    one : (m : ℕ) → In ((t.lit.0 / 2) ∷ []) m → CanBeLeaf g m
    one m (inl e) = inl (subst (λ x. IsSource g Regular x) (sym e) regular)
    one m (inr i) = absurd i
few_leaves g k t big (free kind leaves) = record {
  few = let e : length t.leaves ≡ 0 = ap length leaves in omega arith;
  each = λ m i. absurd (subst (λ c. In c m) leaves i);
}
few_leaves g k t big (node is cut) = record { few = cut.few; each = λ m i. (cut.below m i).1 }

pub least_mapping : (g : Aig) (k : ℕ) (roots : RootsValue) (t : TemplateValue) → 2 ≤ k → IsMapping g k (roots_of roots) t.luts t.bits → IsLeast g k (roots_of roots) t.luts t.depth → IsLeastMapping g k roots t
least_mapping g k roots t big mapping least = record { mapping = mapping; small = λ u i. few_leaves g k u big (mapping.table u i); least = least }

-- the two rules differ
pub differ : LeastCost ≡ FewestLeaves → ⊥
differ e = cc

-- what the enumeration says of limits
module _ (g : Aig) (k : ℕ) (roots : RootsValue)
    (once : (e f : CutErr) → IsLimit g k e → IsLimit g k f → e ≡ f)
    (excluded : (e : CutErr) (rows : List (List (List ℕ))) → IsLimit g k e → AreRows g k (node_count g) rows → ⊥) where
  no_supply : (e : CutErr) (label : ℕ → ℕ) (supply : Supply) → IsLimit g k e → HasSupply FewestLeaves g k label supply → ⊥
  no_supply e label supply l (mapped.HasSupply.by_cuts rule rows labels labelled here is) = excluded e rows l labelled.rows_are
  no_supply e label supply l (mapped.HasSupply.by_flow rule lows heights are is) = differ (sym rule)

  limit_refused : (e : CutErr) (r s : RefusalValue) → IsLimit g k e → IsUnchosen FewestLeaves g k roots r → IsUnchosen FewestLeaves g k roots s → r ≡ s
  limit_refused e r s l (cuts all d m is) (cuts all2 d2 m2 is2) = same_Some r s (sym is ∙ (ap (λ x. cut_refusal x) (once d d2 m m2) ∙ is2))
  limit_refused e r s l (work o is) other = absurd (no_supply e o.label o.supply l o.has)
  limit_refused e r s l one (work o is) = absurd (no_supply e o.label o.supply l o.has)

  -- A graph with too many cuts is settled.
  pub limit_settled : (e : CutErr) → IsLimit g k e → IsGraphSettled FewestLeaves g k roots
  limit_settled e l = record {
    maps = λ t c. absurd (no_supply e c.label c.supply l c.has);
    one_template = λ t u c d. absurd (no_supply e c.label c.supply l c.has);
    not_both = λ t r c u. no_supply e c.label c.supply l c.has;
    one_refusal = λ r s u v. limit_refused e r s l u v;
  }

-- The table of all minimal cuts and its labels are the one supply of the fewest leaves.
module _ (g : Aig) (k : ℕ) (rows : List (List (List ℕ))) (are : AreRows g k (node_count g) rows)
    (one_table : (some other : List (List (List ℕ))) → AreRows g k (node_count g) some → AreRows g k (node_count g) other → some ≡ other)
    (labels : LabelsValue) (labelled : AreLabelled g rows labels) (one : HasOneLabelling g rows) where
  labels_here : (other : LabelsValue) → AreLabelled g rows other → label_of other ≡ label_of labels
  labels_here other w = fun_ext (λ n. one.once other labels w labelled n)

  pub one_of_cuts : (label : ℕ → ℕ) (supply : Supply) → HasSupply FewestLeaves g k label supply → (label ≡ label_of labels) × (supply ≡ Rows rows)
  one_of_cuts label supply (mapped.HasSupply.by_cuts rule some other l here is) =
      let same : some ≡ rows = one_table some rows l.rows_are are in
      (here ∙ labels_here other (subst (λ rs. AreLabelled g rs other) same l.labels_are), is ∙ ap Rows same)
  one_of_cuts label supply (mapped.HasSupply.by_flow rule lows heights lows_are is) = absurd (differ (sym rule))

-- The least heights and the low cuts are the one supply of the least cost.
module _ (g : Aig) (k : ℕ) (label : ℕ → ℕ) (lows : ℕ → List ℕ) (heights : AreLeastHeights g k label) (are : AreLowsOf g k label lows)
    (one : HasOneFlow g k) (one_low : HasOneLow g k) where
  pub one_of_flow : (other : ℕ → ℕ) (supply : Supply) → HasSupply LeastCost g k other supply → (other ≡ label) × (supply ≡ Sets k lows)
  one_of_flow other supply (mapped.HasSupply.by_cuts rule rows labels labelled here is) = absurd (differ rule)
  one_of_flow other supply (mapped.HasSupply.by_flow rule others heights2 are2 is) =
      (fun_ext (λ n. one.once other label heights2 heights n), is ∙ ap (λ ls. Sets k ls) (fun_ext (λ n. one_low.once other label others lows heights2 heights are2 are n)))

-- what a choice says of a graph's one supply
module _ (rule : Rule) (g : Aig) (k : ℕ) (roots : RootsValue) (label : ℕ → ℕ) (supply : Supply)
    (one : (other : ℕ → ℕ) (some : Supply) → HasSupply rule g k other some → (other ≡ label) × (some ≡ supply))
    (no_limit : rule ≡ FewestLeaves → (e : CutErr) → IsLimit g k e → ⊥)
    (same_template : (t u : TemplateValue) → IsTemplate supply g label roots t → IsTemplate supply g label roots u → t ≡ u)
    (apart : (t : TemplateValue) → IsTemplate supply g label roots t → IsLight supply g t.luts → IsTooMuch supply g label (roots_of roots) → ⊥)
    (big : 2 ≤ k) (mapping : (t : TemplateValue) → IsTemplate supply g label roots t → IsMapping g k (roots_of roots) t.luts t.bits)
    (least : (t : TemplateValue) → IsTemplate supply g label roots t → IsLeast g k (roots_of roots) t.luts t.depth) where
  at_supply : (P : Supply → (ℕ → ℕ) → Type 0) (other : ℕ → ℕ) (some : Supply) → HasSupply rule g k other some → P some other → P supply label
  at_supply P other some has is =
      let same : (other ≡ label) × (some ≡ supply) = one other some has in
      subst (λ l. P supply l) same.0 (subst (λ s. P s other) same.1 is)

  -- A graph that a cover is chosen for is settled.
  pub supply_settled : IsGraphSettled rule g k roots
  supply_settled = record {
    maps = λ t c. least_mapping g k roots t big (mapping t (chosen_here t c)) (least t (chosen_here t c));
    one_template = λ t u c d. same_template t u (chosen_here t c) (chosen_here u d);
    not_both = chosen_or;
    one_refusal = refused;
  }
    where
      chosen_here : (t : TemplateValue) → IsChosen rule g k roots t → IsTemplate supply g label roots t
      chosen_here t c = at_supply (λ s l. IsTemplate s g l roots t) c.label c.supply c.has c.chosen

      chosen_or : (t : TemplateValue) (r : RefusalValue) → IsChosen rule g k roots t → IsUnchosen rule g k roots r → ⊥
      chosen_or t r c (cuts all e l told) = no_limit all e l
      chosen_or t r c (work o told) = apart t (chosen_here t c) (at_supply (λ s _. IsLight s g t.luts) c.label c.supply c.has c.light) (at_supply (λ s l. IsTooMuch s g l (roots_of roots)) o.label o.supply o.has o.too_much)

      refused : (r s : RefusalValue) → IsUnchosen rule g k roots r → IsUnchosen rule g k roots s → r ≡ s
      refused r s (cuts all e l told) other = absurd (no_limit all e l)
      refused r s one_ (cuts all e l told) = absurd (no_limit all e l)
      refused r s (work o told) (work p told2) = same_Some r s (sym told ∙ told2)

-- a graph has one limit for the rule of the fewest leaves, and none for the other
pub cuts_limit : (g : Aig) (k : ℕ) → ((e f : CutErr) → IsLimit g k e → IsLimit g k f → e ≡ f)
    → ((e : CutErr) (rows : List (List (List ℕ))) → IsLimit g k e → AreRows g k (node_count g) rows → ⊥) → HasOneLimit FewestLeaves g k
cuts_limit g k once excluded = record { once = λ e f rule l m. once e f l m; excluded = λ e labels rule l has. unlabelled e labels l has }
  where
    unlabelled : (e : CutErr) (labels : List ℕ) → IsLimit g k e → AreLabelsBy FewestLeaves g k labels → ⊥
    unlabelled e labels l (mapped.AreLabelsBy.by_cuts rule rows v labelled is) = excluded e rows l labelled.rows_are
    unlabelled e labels l (mapped.AreLabelsBy.by_flow rule heights) = differ (sym rule)

pub flow_limit : (g : Aig) (k : ℕ) → HasOneLimit LeastCost g k
flow_limit g k = record { once = λ e f rule l m. absurd (differ rule); excluded = λ e labels rule l has. differ rule }

-- the choice's one refusal
pub work_is : (e : PickErr) (r : RefusalValue) → pick_refusal e ≡ Some r → pick_refusal pick_err.Work ≡ Some r
work_is pick_err.Work r is = is
work_is pick_err.Memory r is = absurd (none-some r is)

-- the graph of a source circuit is the only one
module _ (source : Source) (one : HasOneGraph source.netlist.library source.netlist.flat source.params.list) where
  abbrev pub IsGraph : Aig → RootsValue → Type 0
  IsGraph g roots = IsGraphOf source.netlist.library source.netlist.flat source.params.list GRAPH_ROOM g roots

  pub same_graph : (g h : Aig) (roots others : RootsValue) → IsGraph g roots → IsGraph h others → g ≡ h
  same_graph g h roots others a b =
      let made : a.made ≡ b.made = one.only a.made b.made a.are_made b.are_made in
      let kinds : g.kinds ≡ h.kinds = a.kinds ∙ sym b.kinds in
      let pairs : g.pairs ≡ h.pairs = a.pairs ∙ ap (λ (m : Literals). m.pairs) made ∙ sym b.pairs in
      let max : g.max ≡ h.max = a.max ∙ sym b.max in
      ap (λ ks. record { kinds = ks; pairs = g.pairs; max = g.max }) kinds ∙ ap (λ ps. record { kinds = h.kinds; pairs = ps; max = g.max }) pairs ∙ ap (λ n. record { kinds = h.kinds; pairs = h.pairs; max = n }) max

  pub same_roots : (g h : Aig) (roots others : RootsValue) → IsGraph g roots → IsGraph h others → roots ≡ others
  same_roots g h roots others a b =
      let made : a.made ≡ b.made = one.only a.made b.made a.are_made b.are_made in
      let parts = same_parts roots.outputs others.outputs roots.next others.next (a.outputs ∙ sym b.outputs) (a.literals ∙ ap (λ (m : Literals). m.lits) made ∙ sym b.literals) in
      ap (λ o. record { outputs = o; next = roots.next }) parts.0 ∙ ap (λ n. record { outputs = others.outputs; next = n }) parts.1

  -- it has too many nodes or it doesn't
  few_or_many : (most : ℕ) (g : Aig) (roots : RootsValue) → IsGraph g roots → length g.pairs ≤ most → HasTooManyNodes source.netlist.library source.netlist.flat source.params.list most → ⊥
  few_or_many most g roots a few over =
      let made : a.made ≡ over.made = one.only a.made over.made a.are_made over.are_made in
      let count : length g.pairs ≡ length over.made.pairs = ap length (a.pairs ∙ ap (λ (m : Literals). m.pairs) made) in
      let many : most < length over.made.pairs = over.many in
      omega arith

  -- So it is settled.
  pub building_settled : (rule : Rule) → IsBuildingSettled rule source
  building_settled rule = record { one_graph = one; not_both = λ g roots r built u. few_or_many (most_nodes rule) g roots built.is_graph built.nodes u.too_many }

  -- Its labels are settled where it has too many nodes,
  pub full_labelling : (rule : Rule) (k : ℕ) → HasTooManyNodes source.netlist.library source.netlist.flat source.params.list (most_nodes rule) → IsLabellingSettled rule source k
  full_labelling rule k over = record {
    building = building_settled rule;
    not_both = λ g roots labels r built labelled u. few_or_many (most_nodes rule) g roots built.is_graph built.nodes over;
    one_refusal = once;
  }
    where
      once : (r s : RefusalValue) → IsUnlabelled rule source k r → IsUnlabelled rule source k s → r ≡ s
      once r s (unbuilt u) (unbuilt v) = same_Some r s (sym u.tells ∙ v.tells)
      once r s (many_cuts all u) other = absurd (few_or_many (most_nodes rule) u.graph u.roots u.built.is_graph u.built.nodes over)
      once r s some (many_cuts all u) = absurd (few_or_many (most_nodes rule) u.graph u.roots u.built.is_graph u.built.nodes over)

  -- and where a graph of it stands, as its limit on cuts is.
  pub labelling_settled : (rule : Rule) (k : ℕ) (g : Aig) (roots : RootsValue) → IsGraph g roots → length g.pairs ≤ most_nodes rule → HasOneLimit rule g k → IsLabellingSettled rule source k
  labelling_settled rule k g roots is few limit = record {
    building = building_settled rule;
    not_both = labelled_or;
    one_refusal = once;
  }
    where
      limit_here : (h : Aig) (others : RootsValue) (e : CutErr) → IsGraph h others → IsLimit h k e → IsLimit g k e
      limit_here h others e a l = subst (λ x. IsLimit x k e) (same_graph h g others roots a is) l

      labelled_or : (h : Aig) (others : RootsValue) (labels : List ℕ) (r : RefusalValue) → IsBuilt rule source h others → AreLabelsBy rule h k labels → IsUnlabelled rule source k r → ⊥
      labelled_or h others labels r built labelled (unbuilt u) = few_or_many (most_nodes rule) g roots is few u.too_many
      labelled_or h others labels r built labelled (many_cuts all u) =
          limit.excluded u.e labels all (limit_here u.graph u.roots u.e u.built.is_graph u.limit) (subst (λ x. AreLabelsBy rule x k labels) (same_graph h g others roots built.is_graph is) labelled)

      once : (r s : RefusalValue) → IsUnlabelled rule source k r → IsUnlabelled rule source k s → r ≡ s
      once r s (unbuilt u) other = absurd (few_or_many (most_nodes rule) g roots is few u.too_many)
      once r s some (unbuilt u) = absurd (few_or_many (most_nodes rule) g roots is few u.too_many)
      once r s (many_cuts all u) (many_cuts all2 v) =
          same_Some r s (sym u.tells ∙ (ap (λ x. cut_refusal x) (limit.once u.e v.e all (limit_here u.graph u.roots u.e u.built.is_graph u.limit) (limit_here v.graph v.roots v.e v.built.is_graph v.limit)) ∙ v.tells))

  -- A source circuit with too many nodes is settled.
  pub full_settled : (rule : Rule) (k : ℕ) → HasTooManyNodes source.netlist.library source.netlist.flat source.params.list (most_nodes rule) → IsMappingSettled rule source k
  full_settled rule k over = record {
    maps = λ t m. absurd (few_or_many (most_nodes rule) m.graph m.roots m.is_graph m.nodes over);
    one_template = λ t u m n. absurd (few_or_many (most_nodes rule) m.graph m.roots m.is_graph m.nodes over);
    not_both = λ t r m u. few_or_many (most_nodes rule) m.graph m.roots m.is_graph m.nodes over;
    one_refusal = once;
  }
    where
      once : (r s : RefusalValue) → IsUnmapped rule source k r → IsUnmapped rule source k s → r ≡ s
      once r s (too_many h e) (too_many h2 e2) = same_Some r s (sym e ∙ e2)
      once r s (unchosen u) other = absurd (few_or_many (most_nodes rule) u.graph u.roots u.is_graph u.nodes over)
      once r s some (unchosen u) = absurd (few_or_many (most_nodes rule) u.graph u.roots u.is_graph u.nodes over)

  -- So is one whose graph is settled.
  pub mapping_settled : (rule : Rule) (k : ℕ) (g : Aig) (roots : RootsValue) → IsGraph g roots → length g.pairs ≤ most_nodes rule → IsGraphSettled rule g k roots → IsMappingSettled rule source k
  mapping_settled rule k g roots is few graph = record {
    maps = λ t m.
        subst (λ x. IsLeastMapping x k m.roots t) (same_graph g m.graph roots m.roots is m.is_graph)
        (subst (λ x. IsLeastMapping g k x t) (same_roots g m.graph roots m.roots is m.is_graph) (graph.maps t (chosen_here m.graph m.roots t m.is_graph m.chosen)));
    one_template = λ t u m n. graph.one_template t u (chosen_here m.graph m.roots t m.is_graph m.chosen) (chosen_here n.graph n.roots u n.is_graph n.chosen);
    not_both = mapped_or;
    one_refusal = once;
  }
    where
      chosen_here : (h : Aig) (others : RootsValue) (t : TemplateValue) → IsGraph h others → IsChosen rule h k others t → IsChosen rule g k roots t
      chosen_here h others t a c = subst (λ x. IsChosen rule g k x t) (same_roots h g others roots a is) (subst (λ x. IsChosen rule x k others t) (same_graph h g others roots a is) c)

      refused_here : (r : RefusalValue) → IsUnmappedGraph rule source k r → IsUnchosen rule g k roots r
      refused_here r u = subst (λ x. IsUnchosen rule g k x r) (same_roots u.graph g u.roots roots u.is_graph is) (subst (λ x. IsUnchosen rule x k u.roots r) (same_graph u.graph g u.roots roots u.is_graph is) u.unchosen)

      mapped_or : (t : TemplateValue) (r : RefusalValue) → IsMapped rule source k t → IsUnmapped rule source k r → ⊥
      mapped_or t r m (too_many over e) = few_or_many (most_nodes rule) g roots is few over
      mapped_or t r m (unchosen u) = graph.not_both t r (chosen_here m.graph m.roots t m.is_graph m.chosen) (refused_here r u)

      once : (r s : RefusalValue) → IsUnmapped rule source k r → IsUnmapped rule source k s → r ≡ s
      once r s (too_many over e) other = absurd (few_or_many (most_nodes rule) g roots is few over)
      once r s some (too_many over e) = absurd (few_or_many (most_nodes rule) g roots is few over)
      once r s (unchosen u) (unchosen v) = graph.one_refusal r s (refused_here r u) (refused_here s v)

-- tables by the template that was chosen
pub tables_as : (rule : Rule) (source : Source) (k : ℕ) (t : SourceTables) (template : TemplateValue) → t.template ≡ template → (m : IsMapped rule source k template) → IsLeastMapping m.graph k m.roots template → AreMade source t → AreTables rule source k t
tables_as rule given k t template same m least made =
    let both : (mapped : IsMapped rule given k t.template) × IsLeastMapping mapped.graph k mapped.roots t.template =
    subst (λ x. (mapped : IsMapped rule given k x) × IsLeastMapping mapped.graph k mapped.roots x) (sym same) (m, least) in
    record { mapped = both.0; least = both.1; made = made }
