-- Flat order, of whatever the instances have of their own: an instance whose hierarchy ends has one, and one only; all that the instances within it have stands there, and nothing else.
use Rattle.blif_flat.proofs.Common.{◌≡◌, ℕ, Bool, true, List, [], ◌∷◌, ◌++◌, Some, refl, sym, ap, ◌∙◌, inl, inr, append_assoc, slice_get, In, AreApart, Body, Cover, Latch, LatchValue, ModelValue, Path, model_at, is_cover, is_latch, FlatOrder, flat, FlatUnder, InstanceOrder, InstancesUnder, itself, model_places, places_at, CoverValue, SubcktValue, LibraryValue, AreFrom, from_first, from_rest, from_start, order_apart, placed_at, Instance, AreInstances, paths_of, subst, same_Some, arith}
use Rattle.netlist.specs.Places.{none, more}

-- the instances in flat order: each once, and the first is the main model's own
module _ (library : LibraryValue) where
  pub instances_apart : {path : Path} {m : ModelValue} {paths : List Path} → InstanceOrder library path m paths → AreApart paths
  instances_apart w = order_apart library itself (λ p. p) (λ path m x i. elim i [ inl e ↦ e | inr o ↦ absurd o ]) (λ path m. (λ (o : In [] path). o, tt)) w

  pub order_first : {path : Path} {m : ModelValue} {paths : List Path} → InstanceOrder library path m paths → slice_get paths 0 ≡ Some path
  order_first (flat inner under e) = ap (λ (l : List Path). slice_get l 0) e

  -- the places of the instances in turn are in flat order
  places_at-append : (kind : Body → Bool) (xs ys : List Path) → places_at library kind (xs ++ ys) ≡ places_at library kind xs ++ places_at library kind ys
  places_at-append kind [] ys = refl
  places_at-append kind (x ∷ xs) ys = grind (arith, model_places, model_at, append_assoc, places_at, places_at-append kind xs ys)

  mutual
    pub order_places : (kind : Body → Bool) {path : Path} {m : ModelValue} {paths : List Path} → InstanceOrder library path m paths → model_at library path ≡ Some m → FlatOrder library kind path m (places_at library kind paths)
    order_places kind {path} {m} {paths} (flat inner under z) at =
        flat (places_at library kind inner) (under_places kind under m at (from_start m)) (ap (places_at library kind) z ∙ ap (λ o. model_places kind path o ++ places_at library kind inner) at)

    under_places : (kind : Body → Bool) {path : Path} {k : ℕ} {subckts : List SubcktValue} {paths : List Path} → InstancesUnder library path k subckts paths → (m : ModelValue) → model_at library path ≡ Some m → AreFrom m k subckts
        → FlatUnder library kind path k subckts (places_at library kind paths)
    under_places kind (none a b) m at h = none a (ap (places_at library kind) b)
    under_places kind {path} {k} {subckts} {paths} (more s rest child these others e named order under z) m at h =
        more s rest child (places_at library kind these) (places_at library kind others) e named
        (order_places kind order (placed_at library path m k s child at (from_first m k subckts s rest h e) named))
        (under_places kind under m at (from_rest m k subckts s rest h e)) (ap (places_at library kind) z ∙ places_at-append kind these others)

-- the covers and latches of all instances are in flat order
pub rows_order : (library : LibraryValue) (instances : List Instance) (are : AreInstances library instances) (kind : Body → Bool) (main : ModelValue) → model_at library [] ≡ Some main
    → FlatOrder library kind [] main (places_at library kind (paths_of instances))
rows_order library instances are kind main at = subst (λ m. FlatOrder library kind [] m (places_at library kind (paths_of instances))) (same_Some are.main main (sym are.first ∙ at)) (order_places library kind are.order are.first)

-- what a body of a kind is
pub is_cover-some : (b : Body) → is_cover b ≡ true → (c : CoverValue) × (b ≡ Cover c)
is_cover-some (Cover c) t = (c, refl)
is_cover-some b t = absurd (cc)

pub is_latch-some : (b : Body) → is_latch b ≡ true → (l : LatchValue) × (b ≡ Latch l)
is_latch-some (Latch l) t = (l, refl)
is_latch-some b t = absurd (cc)
