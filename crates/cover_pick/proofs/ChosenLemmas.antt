-- What the marks find is the tables by their own words.
use Rattle.cover_pick.proofs.Common.{◌≡◌, ℕ, ◌-◌, ◌*◌, ◌/◌, ◌%◌, ◌<◌, ◌≤◌, cond, List, [], ◌∷◌, Option, Some, None, refl, sym, ap, ◌∙◌, subst, inl, inr, arith, slice_get, same_Some, cases_lt, cases_eq, eq-eqb, Aig, first_and, node_count, IsAnd, Regular, Parameter, Lit, RootsValue, roots_of, AreRoots, In, OrMemory, source_below, refusal_of, PickErr, Work, Memory, target, Supply, IsSupplied, HasPlan, cut_at, and_depths, depths_of, CanBeLeaf, once_by, IsPast, IsWithin, ArePicked, Result, Ok, Err, IfOk, IfErr, TablesWithin, AreChosen, IsTemplate, AreTimely, IsTooMuch, rules}
use Rattle.cover_pick.specs.Tables.{IsNeeded, root, leaf, IsLeaves, constant, parameter, source, node}
use Rattle.cover_pick.specs.Marks.{IsMarked, root as marked_root, leaf as marked_leaf, leaves_of, source_leaves, Made, IsMade, tables_of, AreMade}
use Rattle.cover_pick.proofs.TableLemmas.{tables_needed}
use Rattle.cover_pick.proofs.MappingLemmas.{leaves_zero, leaves_source, kind_there, regular_leaves}
use Rattle.cover_pick.proofs.TemplateLemmas.{leaves_and, cut_in, in_cut, to_tables, tables_within, tables_exact, cut_leaves}
use Rattle.cover_pick.proofs.RuleLemmas.{depth_from, node_of}
use Rattle.cover_pick.proofs.RoundsOnceLemmas.{plan_once}
use Rattle.cover_pick.proofs.FreeLemmas.{leaf_inside}
use Rattle.cover_pick.proofs.LightLemmas.{light_is}

pub marked_is : (roots : List ℕ) (cuts : List (Option (List ℕ))) (l : ℕ) → IsMarked roots cuts l → IsNeeded roots (cut_at cuts) l
marked_is roots cuts l (marked_root i) = root i
marked_is roots cuts l (marked_leaf c m i j e) = let r = in_cut cuts c i in leaf r.0 m c r.1 j e

pub needed_is : (roots : List ℕ) (cuts : List (Option (List ℕ))) (l : ℕ) → IsNeeded roots (cut_at cuts) l → IsMarked roots cuts l
needed_is roots cuts l (root i) = marked_root i
needed_is roots cuts l (leaf n m c at i e) = marked_leaf c m (cut_in cuts n c at) i e

leaves_are : (g : Aig) (cuts : List (Option (List ℕ))) (l : ℕ) (c : List ℕ) → l < 2 * node_count g → leaves_of g cuts l ≡ Some c → IsLeaves g (cut_at cuts) l c
leaves_are g cuts l c b e = search (rules, cases_eq, same_Some, leaves_zero, cases_lt, kind_there, regular_leaves, leaves_source, leaves_and)

source_there : (g : Aig) (cuts : List (Option (List ℕ))) (l : ℕ) → 1 ≤ l / 2 → l / 2 < first_and g → leaves_of g cuts l ≡ source_leaves (slice_get g.kinds (l / 2 - 1)) (l / 2) (l % 2)
source_there g cuts l a b = leaves_source g cuts l (λ z. omega arith) b

are_leaves : (g : Aig) (cuts : List (Option (List ℕ))) (l : ℕ) (c : List ℕ) → ((d : List ℕ) → cut_at cuts (l / 2) ≡ Some d → IsAnd g (l / 2)) → IsLeaves g (cut_at cuts) l c → leaves_of g cuts l ≡ Some c
are_leaves g cuts l c nodes (constant z e) = leaves_zero g cuts l z ∙ ap (λ x. Some x) (sym e)
are_leaves g cuts l c nodes (parameter s e) =
    source_there g cuts l s.above (source_below g Parameter (l / 2) s) ∙ (ap (λ o. source_leaves o (l / 2) (l % 2)) s.is ∙ ap (λ x. Some x) (sym e))
are_leaves g cuts l c nodes (source s o e) =
    source_there g cuts l s.above (source_below g Regular (l / 2) s)
    ∙ (ap (λ o. source_leaves o (l / 2) (l % 2)) s.is ∙ (ap (λ t. cond t (Some ((l / 2) ∷ [])) None) (eq-eqb (l % 2) 1 o) ∙ ap (λ x. Some x) (sym e)))
are_leaves g cuts l c nodes (node at) = leaves_and g cuts l (nodes c at) ∙ at

module _ (supply : Supply) (g : Aig) (label : ℕ → ℕ) (roots : List ℕ) (made : Made) (lits : AreRoots g roots) (a : IsMade supply g label roots made) where
  needed_lit : (l : ℕ) → IsNeeded roots (cut_at a.cuts) l → l < 2 * node_count g
  needed_lit l (root i) = lits l i
  needed_lit l (leaf n m c at i e) =
      let both = (a.plan.least a.serving.k a.serving.served).is.cuts n c at in
      omega (arith, both.0.1, (both.1.below m i).0)

  pub chosen_is : AreChosen supply g label roots made.luts made.bits
  chosen_is = record {
    reqs = and_depths g (depths_of a.rule g a.rows label roots a.flows);
    cover = cut_at a.cuts;
    plan = a.chosen;
    tables = record {
      needed = λ u i. marked_is roots a.cuts u.lit.0 (a.tables.only u i).0;
      leaves = λ u i. leaves_are g a.cuts u.lit.0 u.leaves (a.tables.below u i) (a.tables.only u i).1;
      all = λ l c needed leaves. a.tables.all l c (needed_lit l needed) (needed_is roots a.cuts l needed) (are_leaves g a.cuts l c (λ d at. ((a.plan.least a.serving.k a.serving.served).is.cuts (l / 2) d at).0) leaves);
      ascending = a.tables.ascending;
      bases = a.tables.bases;
      sum = a.tables.sum;
    };
  }

  -- Each is within its node's required depth.
  pub timely_is : IsSupplied supply g label → AreTimely supply g label roots made.luts
  timely_is t = record {
    each = λ reqs cover plan u r i e.
        let same : reqs (u.lit.0 / 2) ≡ and_depths g (depths_of a.rule g a.rows label roots a.flows) (u.lit.0 / 2) = grind (arith, plan_once) in
        let d = depth_from g (depths_of a.rule g a.rows label roots a.flows) (u.lit.0 / 2) r (sym same ∙ e) in
        let and : IsAnd g (u.lit.0 / 2) = node_of a.rule g a.rows label roots a.flows (cut_at a.cuts) a.plan (u.lit.0 / 2) r (sym same ∙ e) in
        to_tables g a.serving.k roots a.cuts made (a.plan.least a.serving.k a.serving.served).is a.tables (a.plan.timely (u.lit.0 / 2) r and d.1) u.lit.0 refl and (a.tables.only u i).0;
  }

-- the tables of a plan's cuts
abbrev made_of : (supply : Supply) (g : Aig) (label : ℕ → ℕ) (roots : List ℕ) (cuts : List (Option (List ℕ))) (made : Made) → HasPlan supply g label roots cuts → AreMade g cuts (IsMarked roots cuts) (2 * node_count g) made → IsMade supply g label roots made
made_of supply g label roots cuts made h are = record { rule = h.rule; rows = h.rows; serving = h.serving; flows = h.flows; cuts = cuts; plan = h.plan; chosen = h.chosen; tables = are }

pub plan_leaves : (supply : Supply) (g : Aig) (label : ℕ → ℕ) (roots : List ℕ) (cuts : List (Option (List ℕ))) → HasPlan supply g label roots cuts → (c : List ℕ) (m : ℕ) → In cuts (Some c) → In c m → CanBeLeaf g m
plan_leaves supply g label roots cuts h = cut_leaves h.rule g h.rows label roots h.flows cuts h.serving h.plan

-- the tables that are made of them
abbrev pub tables_made : (supply : Supply) (g : Aig) (label : ℕ → ℕ) (roots : List ℕ) (cuts : List (Option (List ℕ))) → HasPlan supply g label roots cuts → AreRoots g roots → IsMade supply g label roots (tables_of g roots cuts)
tables_made supply g label roots cuts h lits = made_of supply g label roots cuts (tables_of g roots cuts) h (tables_needed g roots cuts (λ c m i j. leaf_inside g m (plan_leaves supply g label roots cuts h c m i j)) lits)

-- where their work is too much
too_much : (supply : Supply) (g : Aig) (label : ℕ → ℕ) (roots : List ℕ) (cuts : List (Option (List ℕ))) → HasPlan supply g label roots cuts → AreRoots g roots → IsPast g (once_by supply g (tables_of g roots cuts).luts) (tables_of g roots cuts).luts → IsTooMuch supply g label roots
too_much supply g label roots cuts h lits past = record {
  luts = (tables_of g roots cuts).luts;
  bits = (tables_of g roots cuts).bits;
  chosen = chosen_is supply g label roots (tables_of g roots cuts) lits (tables_made supply g label roots cuts h lits);
  work = past.work;
  is = past.is;
  past = past.past;
}

too_much_told : (supply : Supply) (g : Aig) (label : ℕ → ℕ) (roots : List ℕ) (cuts : List (Option (List ℕ))) → HasPlan supply g label roots cuts → AreRoots g roots
    → (e : PickErr) → OrMemory refusal_of (λ _. IsPast g (once_by supply g (tables_of g roots cuts).luts) (tables_of g roots cuts).luts) e → OrMemory refusal_of (λ _. IsTooMuch supply g label roots) e
too_much_told supply g label roots cuts h lits Work l = too_much supply g label roots cuts h lits l
too_much_told supply g label roots cuts h lits Memory l = tt

-- what is returned or refused
pub are_picked : (supply : Supply) (g : Aig) (label : ℕ → ℕ) (roots : List ℕ) (cuts : List (Option (List ℕ))) → HasPlan supply g label roots cuts → AreRoots g roots → (r : Result Made PickErr)
    → IfOk r (λ made. made ≡ tables_of g roots cuts) → IfOk r (λ made. IsWithin g (once_by supply g made.luts) made.luts)
    → IfErr r (OrMemory refusal_of (λ _. IsPast g (once_by supply g (tables_of g roots cuts).luts) (tables_of g roots cuts).luts)) → ArePicked supply g label roots r
are_picked supply g label roots cuts h lits (Ok made) e light past = search (rules, tables_made, light_is)
are_picked supply g label roots cuts h lits (Err e) ok light past = record { ok = tt; light = tt; err = too_much_told supply g label roots cuts h lits e past }

pub template_is : (supply : Supply) (g : Aig) (label : ℕ → ℕ) (roots : RootsValue) (made : Made) (outputs next : List Lit) (depth : ℕ) → AreRoots g (roots_of roots) → IsMade supply g label (roots_of roots) made
    → outputs ≡ roots.outputs → next ≡ roots.next → depth ≡ target g label (roots_of roots)
    → IsTemplate supply g label roots (record { luts = made.luts; outputs = outputs; next = next; bits = made.bits; depth = depth })
template_is supply g label roots made outputs next depth lits a o n e = record {
  chosen = chosen_is supply g label (roots_of roots) made lits a;
  outputs = o;
  next = n;
  within = subst (λ d. TablesWithin g (roots_of roots) made.luts d) (sym e) (tables_within supply g label (roots_of roots) made a);
  exact = λ d w. let b : target g label (roots_of roots) ≤ d = tables_exact supply g label (roots_of roots) made a d w in omega arith;
}
