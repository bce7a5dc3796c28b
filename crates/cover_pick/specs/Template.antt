-- The chosen template of a graph for some roots.
use Rattle.std.specs.Prelude.{◌≡◌, ℕ, suc, ◌*◌, ◌/◌, ◌%◌, ◌<◌, ◌≤◌, List, [], Option, Some}
use Rattle.cover_pick.specs.Words.{Aig, first_and, IsAnd, IsSource, Regular, Lit, RootsValue, roots_of, In, MOST_WORK, Lut}
use Rattle.cover_pick.specs.Rounds.{Supply, IsPlan}
use Rattle.cover_pick.specs.Tables.{HasTable, AreTables}
use Rattle.cover_pick.specs.Work.{IsWork, once_by}

-- what a template is seen as
pub record TemplateValue : Type 0 where
  pub luts : List Lut
  pub outputs : List Lit
  pub next : List Lit
  pub bits : ℕ
  pub depth : ℕ

-- The depth of a literal's table is at most d: 0 without leaves, else one more than its leaves' depths; a source as a leaf has 0, an AND leaf that of the table of its positive literal.
pub data TableDepth (g : Aig) (luts : List Lut) : ℕ → ℕ → Type 0 where
  free : {l d : ℕ} → HasTable luts l [] → TableDepth g luts l d
  over : {l d : ℕ} (c : List ℕ) → HasTable luts l c → ((m : ℕ) → In c m → first_and g ≤ m → TableDepth g luts (2 * m) d) → TableDepth g luts l (suc d)

-- the depths of the roots' tables are at most d: that of a complemented regular source is 1
pub record TablesWithin (g : Aig) (roots : List ℕ) (luts : List Lut) (d : ℕ) : Type 0 where
  pub complemented : (l : ℕ) → In roots l → IsSource g Regular (l / 2) → l % 2 ≡ 1 → 1 ≤ d
  pub nodes : (l : ℕ) → In roots l → IsAnd g (l / 2) → TableDepth g luts l d

-- the tables of the needed literals over the chosen cuts of the needed nodes, and their bits
pub record AreChosen (supply : Supply) (g : Aig) (label : ℕ → ℕ) (roots : List ℕ) (luts : List Lut) (bits : ℕ) : Type 0 where
  pub reqs : ℕ → Option ℕ
  pub cover : ℕ → Option (List ℕ)
  pub plan : IsPlan supply g label roots reqs cover
  pub tables : AreTables g roots cover luts bits

-- The chosen template: the tables of the needed literals over the chosen cuts, and the depth of the roots' tables. That this depth is the target is a law (`depth_is_target`).
pub record IsTemplate (supply : Supply) (g : Aig) (label : ℕ → ℕ) (roots : RootsValue) (t : TemplateValue) : Type 0 where
  pub chosen : AreChosen supply g label (roots_of roots) t.luts t.bits
  pub outputs : t.outputs ≡ roots.outputs
  pub next : t.next ≡ roots.next
  pub within : TablesWithin g (roots_of roots) t.luts t.depth
  pub exact : (d : ℕ) → TablesWithin g (roots_of roots) t.luts d → t.depth ≤ d

-- the depth of an AND node's table is at most the node's required depth
pub record AreTimely (supply : Supply) (g : Aig) (label : ℕ → ℕ) (roots : List ℕ) (luts : List Lut) : Type 0 where
  pub each : (reqs : ℕ → Option ℕ) (cover : ℕ → Option (List ℕ)) → IsPlan supply g label roots reqs cover → (t : Lut) (r : ℕ) → In luts t → reqs (t.lit.0 / 2) ≡ Some r → TableDepth g luts t.lit.0 r

-- the work of the chosen tables is too much
pub record IsTooMuch (supply : Supply) (g : Aig) (label : ℕ → ℕ) (roots : List ℕ) : Type 0 where
  pub luts : List Lut
  pub bits : ℕ
  pub chosen : AreChosen supply g label roots luts bits
  pub work : ℕ
  pub is : IsWork g (once_by supply g luts) luts work
  pub past : MOST_WORK < work
