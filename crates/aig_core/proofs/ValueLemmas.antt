-- The values of all nodes of a graph, computed in order.
use Rattle.aig_core.proofs.Common.{◌≡◌, ℕ, zero, suc, ◌+◌, ◌/◌, ◌<◌, Bool, false, ◌&&◌, List, [], ◌∷◌, ◌++◌, length, get_or, Some, refl, sym, ap, ◌∙◌, subst, arith, length-append, slice_get, none-some, same_Some, get_or_push, get_or-append, Pair, Aig, in_phase, value_of}

-- the values of some nodes and those of the AND nodes behind them, in order
abbrev pub values_from : List Bool → List Pair → List Bool
values_from values [] = values
values_from values (p ∷ ps) = values_from (values ++ (value_of values p.x.0 && value_of values p.y.0) ∷ []) ps

-- the values of all nodes of a graph in order
abbrev pub values_of : Aig → List Bool → List Bool
values_of g sources = values_from (false ∷ sources) g.pairs

-- the values so far stay
pub values_old : (vs : List Bool) (ps : List Pair) (i : ℕ) → i < length vs → get_or (values_from vs ps) i false ≡ get_or vs i false
values_old vs [] i l = refl
values_old vs (p ∷ ps) i l =
    let v : Bool = value_of vs p.x.0 && value_of vs p.y.0 in
    let m : i < length (vs ++ v ∷ []) = omega (arith, length-append vs (v ∷ [])) in
    values_old (vs ++ v ∷ []) ps i m ∙ get_or-append vs (v ∷ []) false i l

pub value_of_old : (vs : List Bool) (ps : List Pair) (lit : ℕ) → lit / 2 < length vs → value_of (values_from vs ps) lit ≡ value_of vs lit
value_of_old vs ps lit l = ap (in_phase lit) (values_old vs ps (lit / 2) l)

-- the value of a node is the product of its literals' values
pub values_node : (vs : List Bool) (ps : List Pair) (i : ℕ) (p : Pair) → slice_get ps i ≡ Some p → p.x.0 / 2 < length vs + i → p.y.0 / 2 < length vs + i
    → get_or (values_from vs ps) (length vs + i) false ≡ (value_of (values_from vs ps) p.x.0 && value_of (values_from vs ps) p.y.0)
values_node vs [] i p at x y = absurd (none-some p at)
values_node vs (q ∷ qs) zero p at x y =
    let e : q ≡ p = same_Some q p at in
    let v : Bool = value_of vs q.x.0 && value_of vs q.y.0 in
    let n : length (vs ++ v ∷ []) ≡ length vs + 1 = length-append vs (v ∷ []) in
    let qx : q.x.0 / 2 < length vs = subst (λ (r : Pair). r.x.0 / 2 < length vs) (sym e) (omega arith) in
    let qy : q.y.0 / 2 < length vs = subst (λ (r : Pair). r.y.0 / 2 < length vs) (sym e) (omega arith) in
    let here : get_or (values_from (vs ++ v ∷ []) qs) (length vs + 0) false ≡ v = values_old (vs ++ v ∷ []) qs (length vs + 0) (omega arith) ∙ get_or_push vs v false (length vs + 0) (omega arith) in
    let px : value_of (values_from (vs ++ v ∷ []) qs) q.x.0 ≡ value_of vs q.x.0 = value_of_old vs (q ∷ qs) q.x.0 qx in
    let py : value_of (values_from (vs ++ v ∷ []) qs) q.y.0 ≡ value_of vs q.y.0 = value_of_old vs (q ∷ qs) q.y.0 qy in
    here ∙ sym (ap (λ b. b && value_of (values_from (vs ++ v ∷ []) qs) q.y.0) px ∙ ap (λ b. value_of vs q.x.0 && b) py)
    ∙ ap (λ (r : Pair). value_of (values_from (vs ++ v ∷ []) qs) r.x.0 && value_of (values_from (vs ++ v ∷ []) qs) r.y.0) e
values_node vs (q ∷ qs) (suc i) p at x y =
    let v : Bool = value_of vs q.x.0 && value_of vs q.y.0 in
    let n : length (vs ++ v ∷ []) ≡ length vs + 1 = length-append vs (v ∷ []) in
    let s : length vs + suc i ≡ length (vs ++ v ∷ []) + i = omega arith in
    rw s (values_node (vs ++ v ∷ []) qs i p at (omega arith) (omega arith))

-- one value a pair
pub length-values_from : (vs : List Bool) (ps : List Pair) → length (values_from vs ps) ≡ length vs + length ps
length-values_from vs [] = omega arith
length-values_from vs (p ∷ ps) =
    let v : Bool = value_of vs p.x.0 && value_of vs p.y.0 in
    omega (arith, length-values_from (vs ++ v ∷ []) ps, length-append vs (v ∷ []))
