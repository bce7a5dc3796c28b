-- Rows of all minimal cuts, and rows of bounded sets, serve a plan.
use Rattle.cover_pick.proofs.Common.{◌≡◌, ℕ, List, Aig, first_and, node_count, AreNormal, AreRows, row_at, AreLabels, IsCutTable, FewestLeaves, LeastCost, AreServing, AreLeastHeights, IsServed, IsServing, sym, [], Option, subst₂, label_at, cut_at, IsPlanned, Rows, HasPlan}
use Rattle.depth_label.proofs.DepthLemmas.{rows_least_heights}
use Rattle.cover_pick.proofs.RuleLemmas.{plan_is}

other_rule : LeastCost ≡ FewestLeaves → ⊥
other_rule e = cc

pub serving_of : (g : Aig) (k : ℕ) (label : ℕ → ℕ) (rows : List (List (List ℕ))) → AreLeastHeights g k label → AreServing g k label rows → IsServing LeastCost g label rows
serving_of g k label rows heights serving = record { k = k; served = record { heights = heights; serving = serving }; ordered = λ e. absurd (other_rule e) }

module _ (g : Aig) (normal : AreNormal (first_and g) g.pairs) (rows : List (List (List ℕ))) (label : ℕ → ℕ) (labels : AreLabels g (row_at rows) label) where
  pub rows_served : (k : ℕ) → AreRows g k (node_count g) rows → IsServed g k label rows
  rows_served k are = record {
    heights = rows_least_heights g normal k rows label are labels;
    serving = record {
      count = are.count;
      cuts = λ n c and i. ((are.each n and.1 and).only c i).cut;
      low = λ n and. let m = labels.met n and in (m.0, m.1, sym m.2);
    };
  }

  pub table_serving : IsCutTable g rows → IsServing FewestLeaves g label rows
  table_serving t = record { k = t.k; served = rows_served t.k t.are; ordered = λ e n and. (t.are.each n and.1 and).ordered }

-- the cuts that are found in a table are the plan from it
pub fewest_plan : (g : Aig) (rows seen : List (List (List ℕ))) (labels read roots : List ℕ) (cuts : List (Option (List ℕ))) → IsServing FewestLeaves g (label_at labels) rows → seen ≡ rows → read ≡ labels → IsPlanned FewestLeaves g seen (label_at read) roots [] (cut_at cuts) → HasPlan (Rows rows) g (label_at labels) roots cuts
fewest_plan g rows seen labels read roots cuts serving same_rows same_labels planned =
    let p : IsPlanned FewestLeaves g rows (label_at labels) roots [] (cut_at cuts) = subst₂ (λ (rs : List (List (List ℕ))) (ls : List ℕ). IsPlanned FewestLeaves g rs (label_at ls) roots [] (cut_at cuts)) same_rows same_labels planned in
    record { rule = FewestLeaves; rows = rows; serving = serving; flows = []; plan = p; chosen = plan_is FewestLeaves g rows (label_at labels) roots [] (cut_at cuts) p }

pub serving_seen : (g : Aig) (rows seen : List (List (List ℕ))) (labels read : List ℕ) → IsServing FewestLeaves g (label_at labels) rows → seen ≡ rows → read ≡ labels → IsServing FewestLeaves g (label_at read) seen
serving_seen g rows seen labels read serving same_rows same_labels = subst₂ (λ (rs : List (List (List ℕ))) (ls : List ℕ). IsServing FewestLeaves g (label_at ls) rs) (sym same_rows) (sym same_labels) serving
