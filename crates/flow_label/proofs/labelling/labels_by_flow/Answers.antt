use Rattle.flow_label.proofs.Common.{◌≡◌, ◌+◌, ◌<◌, ◌≤◌, ◌++◌, ◌∷◌, ◌∙◌, ℕ, List, [], arith, node_count, subst, sym, ap, label_at, AreLeastHeights, least_depths, AreLabelledTo, HasLowWith, AreLowsTo, AreLowsOf, low_at, HasRoom, HasTrunks, Aig, FlowValue, label_of, low_cut_of}
use Rattle.flow_label.specs.declared.scratch.Scratch.{Scratch}
use Rattle.flow_label.specs.declared.scratch.Trunks.{Trunks}
use Rattle.flow_label.proofs.PartLemmas.{known_to}
use Rattle.flow_label.proofs.FloorLemmas.{trunks_later}
use Rattle.flow_label.proofs.TrunkLemmas.{kept_trunks}
use Rattle.flow_label.proofs.LabelledLemmas.{labelled_source, labelled_node, labelled_heights, label_low, one_labelling}
use Rattle.flow_label.proofs.LowLemmas.{lows_source, lows_node, lows_are}
use Rattle.flow_label.proofs.LowOnceLemmas.{one_low}
use Rattle.flow_label.proofs.labelling.labels_by_flow.Goals as goal
use Rattle.flow_label.proofs.labelling.labels_by_flow.Goals.{then-n-sources+in_ok-push+in_ok-push-2, else-n-sources+in_ok-extend_wanted+in_ok-made+in_ok-push-3+in_ok-push-4}

pub returns-in_err-scratch-clause-once : goal.returns-in_err-scratch-clause-once
returns-in_err-scratch-clause-once c = one_labelling c.args.graph.now c.args.k

pub returns-in_err-push-clause-once : goal.returns-in_err-push-clause-once
returns-in_err-push-clause-once c = one_labelling c.args.graph.now c.args.k

pub returns-in_err-push-2-clause-once : goal.returns-in_err-push-2-clause-once
returns-in_err-push-2-clause-once c = one_labelling c.args.graph.now c.args.k

pub returns-in_err-made-clause-once : goal.returns-in_err-made-clause-once
returns-in_err-made-clause-once c = one_labelling c.args.graph.now c.args.k

pub returns-in_err-push-3-clause-once : goal.returns-in_err-push-3-clause-once
returns-in_err-push-3-clause-once c = one_labelling c.args.graph.now c.args.k

pub returns-in_err-push-4-clause-once : goal.returns-in_err-push-4-clause-once
returns-in_err-push-4-clause-once c = one_labelling c.args.graph.now c.args.k

pub returns-clause-once : goal.returns-clause-once
returns-clause-once c = one_labelling c.args.graph.now c.args.k

pub push-requires-else-n-sources : goal.push-requires-else-n-sources
push-requires-else-n-sources c =
    let low : c.in_ok-made.made.label ≤ c.loop-n.n =
    label_low c.args.graph.now c.args.k c.loop-n.n c.loop-n.labels c.loop-n.cuts.items c.in_ok-made.made.label c.in_ok-made.made.cut c.loop-n.invariant.labelled c.in_ok-made.ensures.labelled in
    omega (arith, c.len-count.ensures.count, c.len-count.ensures.small)

-- the trunks before the next node
next_trunks : (g : Aig) (n : ℕ) (t : Trunks) → HasTrunks g n t → HasTrunks g (n + 1) t
next_trunks g n t is = trunks_later g n (n + 1) t.floors.items t.until.items t.top (omega arith) is

pub extend_wanted-requires-clause-known : goal.extend_wanted-requires-clause-known
extend_wanted-requires-clause-known c =
    known_to c.args.graph.now c.args.k c.loop-n.n (record { labels = c.loop-n.labels; cuts = c.loop-n.cuts.items }) c.len-count.ensures.normal (omega (arith, c.len-count.ensures.count)) c.loop-n.invariant.labelled

pub extend_wanted-requires-clause-low : goal.extend_wanted-requires-clause-low
extend_wanted-requires-clause-low c = c.loop-n.invariant.labelled.low

pub returns-in_err-extend_wanted-clause-once : goal.returns-in_err-extend_wanted-clause-once
returns-in_err-extend_wanted-clause-once c = one_labelling c.args.graph.now c.args.k

pub returns-in_err-extend_wanted-clause-one_low : goal.returns-in_err-extend_wanted-clause-one_low
returns-in_err-extend_wanted-clause-one_low c = one_low c.args.graph.now c.args.k c.len-count.ensures.normal

-- the labels and the low cuts with those of the next node
with_next : (P : FlowValue → Type 0) (labels labels' : List ℕ) (cuts cuts' : List (List ℕ)) (x : ℕ) (c : List ℕ) → labels' ≡ labels ++ x ∷ [] → cuts' ≡ cuts ++ c ∷ [] → P (record { labels = labels ++ x ∷ []; cuts = cuts ++ c ∷ [] })
    → P (record { labels = labels'; cuts = cuts' })
with_next P labels labels' cuts cuts' x c p q w = rw (p, q) w

pub loop-n-preserved : goal.loop-n-preserved
loop-n-preserved c =
    elim c.if-n-sources.branch [
      | then-n-sources+in_ok-push+in_ok-push-2 w ↦ record {
        labelled = with_next (λ (v : FlowValue). AreLabelledTo c.args.graph.now c.args.k (c.loop-n.n + 1) v) c.loop-n.labels c.if-n-sources.labels c.loop-n.cuts.items c.if-n-sources.cuts.items 0 [] (w.labels-is ∙ w.in_ok-push.ensures.ok)
            (ap (λ v. v.items) w.cuts-is ∙ (w.in_ok-push-2.ensures.items ∙ ap (λ x. c.loop-n.cuts.items ++ x ∷ []) w.empty.ensures))
            (labelled_source c.args.graph.now c.args.k c.loop-n.n c.loop-n.labels c.loop-n.cuts.items (let l : c.loop-n.n ≤ c.sources.result = w.if-n-sources.true in omega (arith, c.sources.ensures.count)) c.loop-n.invariant.labelled);
        lows = with_next (λ (v : FlowValue). AreLowsTo c.args.graph.now c.args.k (c.loop-n.n + 1) v) c.loop-n.labels c.if-n-sources.labels c.loop-n.cuts.items c.if-n-sources.cuts.items 0 [] (w.labels-is ∙ w.in_ok-push.ensures.ok)
            (ap (λ v. v.items) w.cuts-is ∙ (w.in_ok-push-2.ensures.items ∙ ap (λ x. c.loop-n.cuts.items ++ x ∷ []) w.empty.ensures))
            (lows_source c.args.graph.now c.len-count.ensures.normal c.args.k c.loop-n.n c.loop-n.labels c.loop-n.cuts.items (let l : c.loop-n.n ≤ c.sources.result = w.if-n-sources.true in omega (arith, c.sources.ensures.count)) c.loop-n.invariant.labelled c.loop-n.invariant.lows);
        room = subst (λ (s : Scratch). HasRoom (node_count c.args.graph.now) s) (sym w.scratch-is) c.loop-n.invariant.room;
        trunks = subst (λ (s : Scratch). HasTrunks c.args.graph.now (c.loop-n.n + 1) s.trunks) (sym w.scratch-is) (next_trunks c.args.graph.now c.loop-n.n c.loop-n.scratch.trunks c.loop-n.invariant.trunks);
      }
      | else-n-sources+in_ok-extend_wanted+in_ok-made+in_ok-push-3+in_ok-push-4 w ↦ record {
        labelled = with_next (λ (v : FlowValue). AreLabelledTo c.args.graph.now c.args.k (c.loop-n.n + 1) v) c.loop-n.labels c.if-n-sources.labels c.loop-n.cuts.items c.if-n-sources.cuts.items w.in_ok-made.made.label w.in_ok-made.made.cut (w.labels-is ∙ w.in_ok-push-3.ensures.ok)
            (ap (λ v. v.items) w.cuts-is ∙ w.in_ok-push-4.ensures.items)
            (labelled_node c.args.graph.now c.args.k c.loop-n.n c.loop-n.labels c.loop-n.cuts.items w.in_ok-made.made.label w.in_ok-made.made.cut (let l : c.sources.result < c.loop-n.n = w.if-n-sources.false in omega (arith, c.sources.ensures.count)) c.loop-n.invariant.labelled w.in_ok-made.ensures.labelled);
        lows = with_next (λ (v : FlowValue). AreLowsTo c.args.graph.now c.args.k (c.loop-n.n + 1) v) c.loop-n.labels c.if-n-sources.labels c.loop-n.cuts.items c.if-n-sources.cuts.items w.in_ok-made.made.label w.in_ok-made.made.cut (w.labels-is ∙ w.in_ok-push-3.ensures.ok)
            (ap (λ v. v.items) w.cuts-is ∙ w.in_ok-push-4.ensures.items)
            (lows_node c.args.graph.now c.len-count.ensures.normal c.args.k c.loop-n.n c.loop-n.labels c.loop-n.cuts.items w.in_ok-made.made.label w.in_ok-made.made.cut c.loop-n.invariant.labelled c.loop-n.invariant.lows
            (subst (λ cuts. HasLowWith c.args.graph.now c.args.k (label_at c.loop-n.labels) (low_at cuts) c.loop-n.n w.in_ok-made.made.label w.in_ok-made.made.cut) w.deref.ensures.value w.in_ok-made.ensures.low));
        room = subst (λ (s : Scratch). HasRoom (node_count c.args.graph.now) s) (sym w.scratch-is) w.in_ok-made.ensures.room;
        trunks = subst (λ (s : Scratch). HasTrunks c.args.graph.now (c.loop-n.n + 1) s.trunks) (sym w.scratch-is)
            (next_trunks c.args.graph.now c.loop-n.n w.label_node.new.scratch.trunks (kept_trunks c.args.graph.now c.loop-n.n w.extend_wanted.new.scratch.trunks w.label_node.new.scratch.trunks w.in_ok-extend_wanted.ensures.trunks w.in_ok-made.ensures.trunks));
      }
    ]

pub returns-clause-heights : goal.returns-clause-heights
returns-clause-heights c =
    let v : FlowValue = record { labels = c.loop-n.labels; cuts = c.loop-n.cuts.items } in
    let n : c.loop-n.n ≡ node_count c.args.graph.now = omega (arith, c.len-count.ensures.count) in
    subst (λ (w : FlowValue). AreLeastHeights c.args.graph.now c.args.k (label_of w)) (sym c.make.ensures)
    (labelled_heights c.args.graph.now c.args.k v (subst (λ i. AreLabelledTo c.args.graph.now c.args.k i v) n c.loop-n.invariant.labelled))

pub returns-clause-depths : goal.returns-clause-depths
returns-clause-depths c = least_depths c.args.graph.now c.args.k (label_of c.make.result) (returns-clause-heights c)

pub returns-in_err-scratch-clause-one_low : goal.returns-in_err-scratch-clause-one_low
returns-in_err-scratch-clause-one_low c = one_low c.args.graph.now c.args.k c.len-count.ensures.normal

pub returns-in_err-push-clause-one_low : goal.returns-in_err-push-clause-one_low
returns-in_err-push-clause-one_low c = one_low c.args.graph.now c.args.k c.len-count.ensures.normal

pub returns-in_err-push-2-clause-one_low : goal.returns-in_err-push-2-clause-one_low
returns-in_err-push-2-clause-one_low c = one_low c.args.graph.now c.args.k c.len-count.ensures.normal

pub returns-in_err-made-clause-one_low : goal.returns-in_err-made-clause-one_low
returns-in_err-made-clause-one_low c = one_low c.args.graph.now c.args.k c.len-count.ensures.normal

pub returns-in_err-push-3-clause-one_low : goal.returns-in_err-push-3-clause-one_low
returns-in_err-push-3-clause-one_low c = one_low c.args.graph.now c.args.k c.len-count.ensures.normal

pub returns-in_err-push-4-clause-one_low : goal.returns-in_err-push-4-clause-one_low
returns-in_err-push-4-clause-one_low c = one_low c.args.graph.now c.args.k c.len-count.ensures.normal

pub returns-clause-one_low : goal.returns-clause-one_low
returns-clause-one_low c = one_low c.args.graph.now c.args.k c.len-count.ensures.normal

pub returns-clause-lows : goal.returns-clause-lows
returns-clause-lows c =
    let v : FlowValue = record { labels = c.loop-n.labels; cuts = c.loop-n.cuts.items } in
    let n : c.loop-n.n ≡ node_count c.args.graph.now = omega (arith, c.len-count.ensures.count) in
    subst (λ (w : FlowValue). AreLowsOf c.args.graph.now c.args.k (label_of w) (low_cut_of w)) (sym c.make.ensures)
    (lows_are c.args.graph.now c.args.k v (subst (λ i. AreLowsTo c.args.graph.now c.args.k i v) n c.loop-n.invariant.lows))
