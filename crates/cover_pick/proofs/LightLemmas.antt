-- The LUTs of the needed literals, whose work is counted by either rule.
use Rattle.cover_pick.proofs.Common.{◌≡◌, ℕ, ◌*◌, ◌/◌, ◌%◌, ◌<◌, List, [], Option, Some, sym, ◌∙◌, ap, subst, inl, inr, ◌⊎◌, arith, cases_eq, cases_lt, same_Some, false≢true, Aig, first_and, node_count, IsSource, Regular, AreNormal, AreRoots, In, MOST_WORK, PickErr, Work, Memory, OrMemory, refusal_of, Lut, CanBeLeaf, IsMarked, tables_of, AreMade, Supply, IsLight, once_by, IsFree, AreFree, mark_of, once_in, IsWithin, IsPast, AreCountable, CountOnce, subst₂, Bool, true, rules, leaves_of, source_leaves}
use Rattle.cover_pick.proofs.BitsLemmas.{bits_worked}
use Rattle.cover_pick.proofs.TableLemmas.{tables_needed}
use Rattle.cover_pick.proofs.TemplateLemmas.{leaves_and, cut_in}
use Rattle.cover_pick.proofs.MappingLemmas.{leaves_zero, leaves_source, kind_there, regular_leaves}
use Rattle.cover_pick.proofs.FreeLemmas.{leaf_inside, free_once, free_marked}
use Rattle.cover_pick.proofs.OwnLemmas.{work_there, work_by}

-- the leaves of any LUT are regular sources and AND nodes, where those of the cuts are
lut_leaves : (g : Aig) (cuts : List (Option (List ℕ))) (l m : ℕ) (c : List ℕ) → l < 2 * node_count g → ((d : List ℕ) (k : ℕ) → In cuts (Some d) → In d k → CanBeLeaf g k) → leaves_of g cuts l ≡ Some c → In c m → CanBeLeaf g m
lut_leaves g cuts l m c b are e i = search (rules, cases_eq, same_Some, leaves_zero, cases_lt, kind_there, regular_leaves, leaves_source, cut_in, leaves_and)

module _ (g : Aig) (roots : List ℕ) (cuts : List (Option (List ℕ))) (are : (c : List ℕ) (m : ℕ) → In cuts (Some c) → In c m → CanBeLeaf g m) (lits : AreRoots g roots) where
  made_are : AreMade g cuts (IsMarked roots cuts) (2 * node_count g) (tables_of g roots cuts)
  made_are = tables_needed g roots cuts (λ c m i j. leaf_inside g m (are c m i j)) lits

  made_countable : AreCountable g (tables_of g roots cuts).luts
  made_countable = record { inside = made_are.below; ascending = made_are.ascending }

  made_leaves : (t : Lut) (m : ℕ) → In (tables_of g roots cuts).luts t → In t.leaves m → CanBeLeaf g m
  made_leaves t m i j = lut_leaves g cuts t.lit.0 m t.leaves (made_are.below t i) are (made_are.only t i).1 j

  pub countable : (ts : List Lut) → ts ≡ (tables_of g roots cuts).luts → AreCountable g ts
  countable ts e = subst (λ (us : List Lut). AreCountable g us) (sym e) made_countable

  pub leaves_can : (ts : List Lut) → ts ≡ (tables_of g roots cuts).luts → (t : Lut) (m : ℕ) → In ts t → In t.leaves m → CanBeLeaf g m
  leaves_can ts e = subst (λ (us : List Lut). (t : Lut) (m : ℕ) → In us t → In t.leaves m → CanBeLeaf g m) (sym e) made_leaves

  -- more bits than the limit are more work
  pub bits_past : (once : ℕ → Type 0) → ((n : ℕ) → once n ⊎ (once n → ⊥)) → AreNormal (first_and g) g.pairs → (e : PickErr) → OrMemory refusal_of (λ _. MOST_WORK < (tables_of g roots cuts).bits) e → OrMemory refusal_of (λ _. IsPast g once (tables_of g roots cuts).luts) e
  bits_past once decided normal Work l =
      let work = work_there g normal once decided (tables_of g roots cuts).luts made_are.below in
      record { work = work.0; is = work.1; past = omega (arith, l, made_are.sum, bits_worked g (tables_of g roots cuts).luts work.0 work.1) }
  bits_past once decided normal Memory l = tt

-- nodes that are the same are counted once
module _ (g : Aig) (ts : List Lut) (P Q : ℕ → Type 0) (to : (n : ℕ) → P n → Q n) (from : (n : ℕ) → Q n → P n) where
  pub within_by : IsWithin g P ts → IsWithin g Q ts
  within_by w = record { work = w.work; is = work_by g P Q to from ts w.work w.is; within = w.within }

  pub past_by : (e : PickErr) → OrMemory refusal_of (λ _. IsPast g P ts) e → OrMemory refusal_of (λ _. IsPast g Q ts) e
  past_by Work w = record { work = w.work; is = work_by g P Q to from ts w.work w.is; past = w.past }
  past_by Memory w = tt

-- without marks no node is counted once
pub within_none : (g : Aig) (ts us : List Lut) → us ≡ ts → IsWithin g (once_in []) us → IsWithin g (λ n. ⊥) ts
within_none g ts us e w = subst (λ (vs : List Lut). IsWithin g (λ n. ⊥) vs) e (within_by g us (once_in []) (λ n. ⊥) (λ n o. false≢true o) (λ n x. absurd x) w)

pub past_none : (g : Aig) (ts us : List Lut) → us ≡ ts → (e : PickErr) → OrMemory refusal_of (λ _. IsPast g (once_in []) us) e → OrMemory refusal_of (λ _. IsPast g (λ n. ⊥) ts) e
past_none g ts us q e w = subst (λ (vs : List Lut). OrMemory refusal_of (λ _. IsPast g (λ n. ⊥) vs) e) q (past_by g us (once_in []) (λ n. ⊥) (λ n o. false≢true o) (λ n x. absurd x) e w)

-- with the marks of the free nodes these are
module _ (g : Aig) (ts of us : List Lut) (free marks : List Bool) (of_is : of ≡ ts) (us_is : us ≡ ts) (marks_are : marks ≡ free) (only : AreFree g of free) (all : (n : ℕ) → n < node_count g → IsFree g of n → mark_of free n ≡ true) where
  all_marked : (n : ℕ) → n < node_count g → IsFree g ts n → mark_of free n ≡ true
  all_marked n l f = all n l (subst (λ (vs : List Lut). IsFree g vs n) (sym of_is) f)

  to_free : (n : ℕ) → once_in free n → IsFree g ts n
  to_free n o = subst (λ (vs : List Lut). IsFree g vs n) of_is (only.each n o)

  pub count_free : AreNormal (first_and g) g.pairs → ((t : Lut) (m : ℕ) → In of t → In t.leaves m → CanBeLeaf g m) → CountOnce g us marks
  count_free normal are = subst₂ (λ (vs : List Lut) (ms : List Bool). CountOnce g vs ms) (of_is ∙ sym us_is) (sym marks_are) (free_once g of free normal are only all)

  pub within_free : IsWithin g (once_in marks) us → IsWithin g (IsFree g ts) ts
  within_free w = within_by g ts (once_in free) (IsFree g ts) to_free (free_marked g ts free all_marked) (subst₂ (λ (ms : List Bool) (vs : List Lut). IsWithin g (once_in ms) vs) marks_are us_is w)

  pub past_free : (e : PickErr) → OrMemory refusal_of (λ _. IsPast g (once_in marks) us) e → OrMemory refusal_of (λ _. IsPast g (IsFree g ts) ts) e
  past_free e w = grind (arith, past_by, to_free, free_marked, subst₂)

pub light_is : (supply : Supply) (g : Aig) (ts : List Lut) → IsWithin g (once_by supply g ts) ts → IsLight supply g ts
light_is supply g ts w = record { work = w.work; is = w.is; light = w.within }
