-- What calls are given, and what they return: the LUTs of a plan or its template, within the limit on the work, or the refusal.
use Rattle.std.specs.Prelude.{◌≡◌, ℕ, ◌*◌, ◌≤◌, List, length, Option, Some, Result, IfOk, IfErr}
use Rattle.bounded_cuts.specs.Making.{AreLows}
use Rattle.cut_sets.specs.declared.limits.TheConstants.{MOST_CUTS, MOST_LEAVES}
use Rattle.tl_fault.specs.OrMemory.{OrMemory}
use Rattle.cover_pick.specs.Words.{Aig, AreLeastHeights, In, Lut, PickErr, label_at, node_count, AreRoots, RootsValue, roots_of, places, CanBeLeaf, AreLabelled, IsCutTable, LabelsValue}
use Rattle.cover_pick.specs.Counted.{IsPast}
use Rattle.cover_pick.specs.Marks.{IsMade, Made}
use Rattle.cover_pick.specs.Refusals.{refusal_of}
use Rattle.cover_pick.specs.Rounds.{Supply}
use Rattle.cover_pick.specs.Supplied.{IsSupplied}
use Rattle.cover_pick.specs.Template.{AreTimely, IsTemplate, IsTooMuch, TemplateValue}
use Rattle.cover_pick.specs.Work.{IsFree, IsLight}

-- what the fewest leaves are chosen from: all minimal cuts with their labels, for roots of the graph
pub record CanPickFewest (g : Aig) (rows : List (List (List ℕ))) (known : LabelsValue) (lits : List ℕ) : Type 0 where
  pub table : IsCutTable g rows
  pub labels : AreLabelled g rows known
  pub roots : AreRoots g lits

-- what bounded sets are made from: labels that are the least heights, cuts of these heights, and a table with room for all sets
pub record CanMakeSets (g : Aig) (k : ℕ) (known : List ℕ) (below : List (List ℕ)) : Type 0 where
  pub least : 2 ≤ k
  pub few : k ≤ MOST_LEAVES
  pub labels : AreLeastHeights g k (label_at known)
  pub lows : AreLows g k (label_at known) below
  pub room : places k * length g.pairs ≤ MOST_CUTS

-- what LUTs are made from: for each node a chosen cut or none, and roots of the graph
pub record CanMakeTables (g : Aig) (lits : List ℕ) (chosen : List (Option (List ℕ))) : Type 0 where
  pub cuts : length chosen ≡ node_count g
  pub roots : AreRoots g lits
  pub leaves : (c : List ℕ) (m : ℕ) → In chosen (Some c) → In c m → CanBeLeaf g m

-- the work of LUTs is past the limit, where the free nodes are counted once
abbrev pub IsPastSharing : Aig → List Lut → Type 0
IsPastSharing g luts = IsPast g (IsFree g luts) luts

-- a template, which is timely if there is one plan
pub record IsTemplateOf (supply : Supply) (g : Aig) (label : ℕ → ℕ) (roots : RootsValue) (t : TemplateValue) : Type 0 where
  pub template : IsTemplate supply g label roots t
  pub timely : IsSupplied supply g label → AreTimely supply g label (roots_of roots) t.luts

-- the LUTs of a plan are within the limit, or the call refuses since their work is past it
pub record ArePicked (supply : Supply) (g : Aig) (label : ℕ → ℕ) (roots : List ℕ) (r : Result Made PickErr) : Type 0 where
  pub ok : IfOk r (IsMade supply g label roots)
  pub light : IfOk r (λ made. IsLight supply g made.luts)
  pub err : IfErr r (OrMemory refusal_of (λ _. IsTooMuch supply g label roots))

-- so is the template, which is timely if there is one plan
pub record IsPicked (supply : Supply) (g : Aig) (label : ℕ → ℕ) (roots : RootsValue) (r : Result TemplateValue PickErr) : Type 0 where
  pub template : IfOk r (IsTemplate supply g label roots)
  pub timely : IfOk r (λ t. IsSupplied supply g label → AreTimely supply g label (roots_of roots) t.luts)
  pub light : IfOk r (λ t. IsLight supply g t.luts)
  pub work : IfErr r (OrMemory refusal_of (λ _. IsTooMuch supply g label (roots_of roots)))

-- by any supply a template is that of these LUTs, and what is returned tells what was picked
abbrev pub GivesTemplate : Aig → (ℕ → ℕ) → RootsValue → Made → TemplateValue → Type 0
GivesTemplate g label roots made t = (supply : Supply) → IsMade supply g label (roots_of roots) made → IsTemplateOf supply g label roots t

abbrev pub GivesPicked : Aig → (ℕ → ℕ) → RootsValue → Result Made PickErr → Result TemplateValue PickErr → Type 0
GivesPicked g label roots picked r = (supply : Supply) → ArePicked supply g label (roots_of roots) picked → IsPicked supply g label roots r
