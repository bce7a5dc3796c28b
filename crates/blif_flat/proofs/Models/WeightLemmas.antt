-- A model has one weight, which exists where those of the placed models do, and sums of capped weights are as good as sums of weights.
use Rattle.blif_flat.proofs.Common.{same_or, In-push, take_get, take-append-le, ◌≡◌, ℕ, List, Some, sym, ap, ◌∙◌, arith, ◌+◌, ◌<◌, ◌≤◌, Bool, true, false, cond, ltb, [], ◌∷◌, ◌++◌, length, get_or, take, set, None, refl, subst, inl, inr, bytes_eq, Result, Ok, Err, MatchResult, same_Some, none-some, get_or_from_slice_get, slice_get-get_or, slice_get_within, get_or-set_same, get_or-set_other, In, get_pushed, slice_get, find_at, SubcktValue, ModelValue, Body, Subckt, Command, subckts_of, model_named, with_subckt, own_weight, Weighs, weighs, WeighAll, most_weight, place_of, OrMemory, FlatErr, TooLarge, refusal_of, model_names, HasWeight, capped, kept_at, body_kept, commands_kept, model_kept, IsBehind, AreChildrenFirst, IsKeptWeight, LibraryValue, position, position_or_len, find, same_first, same_rest, length-set, not_empty, rules}
use Rattle.std.proofs.Math.Seq.{take-append_seam}
use Rattle.tl_text.proofs.NameLemmas.{position-map}
use Rattle.netlist.specs.Weight.{none, more}
use Rattle.blif_flat.proofs.Hierarchy.InstanceLemmas.{subckt_more}

same_child : (library : LibraryValue) (s t : SubcktValue) (a b : ModelValue) → s ≡ t → model_named library.models s.model ≡ Some a → model_named library.models t.model ≡ Some b → a ≡ b
same_child library s t a b e p q = same_Some a b (sym p ∙ ap (λ (r : SubcktValue). model_named library.models r.model) e ∙ q)

mutual
  pub weighs_once : (library : LibraryValue) (m n : ModelValue) (v w : ℕ) → m ≡ n → Weighs library m v → Weighs library n w → v ≡ w
  weighs_once library m n v w e (weighs inner all is) (weighs others each too) =
      omega (arith, weigh_all_once library (subckts_of m.commands) (subckts_of n.commands) inner others (ap (λ (r : ModelValue). subckts_of r.commands) e) all each, ap own_weight e)

  weigh_all_once : (library : LibraryValue) (ss ts : List SubcktValue) (v w : ℕ) → ss ≡ ts → WeighAll library ss v → WeighAll library ts w → v ≡ w
  weigh_all_once library ss ts v w e (none a q) (none b r) = q ∙ sym r
  weigh_all_once library ss ts v w e (none a q) (more s rest child first others b n x y r) = absurd (not_empty s rest a (e ∙ b))
  weigh_all_once library ss ts v w e (more s rest child first others a n x y q) (none b r) = absurd (not_empty s rest (e ∙ b) a)
  weigh_all_once library ss ts v w e (more s rest child first others a n x y q) (more t end placed one last b o z u r) =
      omega (arith, weighs_once library child placed first one (same_child library s t child placed (same_first s t rest end a (e ∙ b)) n o) x z, weigh_all_once library rest end others last (same_rest s t rest end a (e ∙ b)) y u)

-- the number at which a name is found is that of the model of the name
place_is : {A : Type 0} (test : A → Bool) (xs : List A) (k : ℕ) (b : Bool) → cond b (Some (position_or_len test xs)) None ≡ Some k → position_or_len test xs ≡ k
place_is test xs k true h = same_Some (position_or_len test xs) k h
place_is test xs k false h = absurd (none-some k h)

named_at_first : (models : List ModelValue) (name : List ℕ) → model_named models name ≡ find (λ (m : ModelValue). bytes_eq name m.name) models
named_at_first [] name = refl
named_at_first (m ∷ ms) name = ap (λ o. cond (bytes_eq name m.name) (Some m) o) (named_at_first ms name)

pub named_at : (library : LibraryValue) (name : List ℕ) (k : ℕ) → place_of (model_names library.models) name ≡ Some k → model_named library.models name ≡ slice_get library.models k
named_at library name k h = grind (arith, bytes_eq, position-map, named_at_first, find_at, place_is, ltb)

-- a placed model whose weight is kept
record IsChildKept (library : LibraryValue) (weights : List ℕ) (s : SubcktValue) : Type 0 where
  child : ModelValue
  named : model_named library.models s.model ≡ Some child
  weight : ℕ
  weighs : Weighs library child weight
  kept : kept_at weights (place_of (model_names library.models) s.model) ≡ capped weight

-- subcircuits have a weight, which is some sum where both are capped
record IsSum (library : LibraryValue) (subckts : List SubcktValue) (sum : ℕ) : Type 0 where
  inner : ℕ
  all : WeighAll library subckts inner
  is : capped inner ≡ capped sum

body_sum : (library : LibraryValue) (weights : List ℕ) (body : Body) (ss : List SubcktValue) (sum : ℕ) → ((s : SubcktValue) → In (with_subckt body ss) s → IsChildKept library weights s)
    → IsSum library ss sum → IsSum library (with_subckt body ss) (body_kept (model_names library.models) weights body + sum)
body_sum library weights (Subckt s) ss sum h r =
    let k : IsChildKept library weights s = h s (inl refl) in
    record { inner = k.weight + r.inner; all = more s ss k.child k.weight r.inner refl k.named k.weighs r.all refl; is = omega arith }
body_sum library weights body ss sum h r = record { inner = r.inner; all = r.all; is = let e : capped r.inner ≡ capped sum = r.is in omega arith }

commands_sum : (library : LibraryValue) (weights : List ℕ) (cs : List Command) → ((s : SubcktValue) → In (subckts_of cs) s → IsChildKept library weights s) → IsSum library (subckts_of cs) (commands_kept (model_names library.models) weights cs)
commands_sum library weights [] h = record { inner = 0; all = none refl refl; is = refl }
commands_sum library weights (c ∷ cs) h = grind (arith, body_sum, subckts_of, commands_kept, model_names, subckt_more, commands_sum library weights cs (λ s i. h s (subckt_more c.body (subckts_of cs) s i)))

-- what is kept of a model whose placed models are kept is its weight
fresh_kept : (library : LibraryValue) (before weights news : List ℕ) (number : ℕ) (b : IsBehind library before number) → ((n : ℕ) → In before n → IsKeptWeight library weights n)
    → slice_get news number ≡ Some (model_kept (model_names library.models) weights b.model) → IsKeptWeight library news number
fresh_kept library before weights news number b h at =
    let m : ModelValue = b.model in
    let r : IsSum library (subckts_of m.commands) (commands_kept (model_names library.models) weights m.commands) = commands_sum library weights m.commands (λ s i.
    let a = b.children s i in
    let k : IsKeptWeight library weights a.number = h a.number a.among in
    record {
      child = k.model;
      named = named_at library s.model a.number a.place ∙ k.at;
      weight = k.weight;
      weighs = k.weighs;
      kept = ap (λ o. kept_at weights o) a.place ∙ get_or_from_slice_get weights a.number (capped k.weight) 0 k.kept;
    }) in
    let w : Weighs library m (own_weight m + r.inner) = weighs r.inner r.all refl in
    record { model = m; at = b.at; weight = own_weight m + r.inner; weighs = w; kept = at ∙ ap Some (omega arith); once = λ v x. weighs_once library m m v (own_weight m + r.inner) refl x w }

-- what is kept at other numbers stays
kept_stays : (library : LibraryValue) (weights : List ℕ) (number value n : ℕ) → (n ≡ number → ⊥) → IsKeptWeight library weights n → IsKeptWeight library (set weights number value) n
kept_stays library weights number value n other k =
    let inside : n < length weights = slice_get_within weights n (capped k.weight) k.kept in
    let e : get_or (set weights number value) n 0 ≡ get_or weights n 0 = get_or-set_other weights number n value 0 other in
    let at : slice_get (set weights number value) n ≡ Some (capped k.weight) = grind (arith, slice_get-get_or, length-set, get_or_from_slice_get, capped) in
    record { model = k.model; at = k.at; weight = k.weight; weighs = k.weighs; kept = at; once = k.once }

-- the next model in the order
pub kept_step : (library : LibraryValue) (order weights news : List ℕ) (i number : ℕ) → AreChildrenFirst library order → slice_get order i ≡ Some number → number < length weights
    → ((m : ModelValue) → slice_get library.models number ≡ Some m → news ≡ set weights number (model_kept (model_names library.models) weights m))
    → ((n : ℕ) → In (take i order) n → IsKeptWeight library weights n) → (n : ℕ) → In (take (i + 1) order) n → IsKeptWeight library news n
kept_step library order weights news i number first at inside is h n among =
    let b : IsBehind library (take i order) number = first.each i number at in
    let value : ℕ = model_kept (model_names library.models) weights b.model in
    let e : news ≡ set weights number value = is b.model b.at in
    let fresh : IsKeptWeight library (set weights number value) number =
    fresh_kept library (take i order) weights (set weights number value) number b h (slice_get-get_or (set weights number value) number 0 (omega (arith, length-set weights number value)) ∙ ap Some (get_or-set_same weights number value 0 inside)) in
    subst (λ l. IsKeptWeight library l n) (sym e) (elim (same_or n number) [
      | inl q ↦ subst (λ x. IsKeptWeight library (set weights number value) x) (sym q) fresh
      | inr o ↦ kept_stays library weights number value n o
          (elim (In-push (take i order) number n (subst (λ l. In l n) (take_get order i number at) among)) [ inl a ↦ h n a | inr a ↦ absurd (o a) ])
    ])

-- a number of the order is that of a model
pub order_inside : (library : LibraryValue) (order : List ℕ) (i : ℕ) → AreChildrenFirst library order → i < length order → get_or order i 0 < length library.models
order_inside library order i first h =
    let b : IsBehind library (take i order) (get_or order i 0) = first.each i (get_or order i 0) (slice_get-get_or order i 0 h) in
    slice_get_within library.models (get_or order i 0) b.model b.at

-- the step of a loop over the order
pub kept_next : (library : LibraryValue) (names : List (List ℕ)) (order weights news : List ℕ) (i : ℕ) → names ≡ model_names library.models → AreChildrenFirst library order → i < length order
    → length weights ≡ length library.models
    → ((m : ModelValue) → slice_get library.models (get_or order i 0) ≡ Some m → news ≡ set weights (get_or order i 0) (model_kept names weights m))
    → ((n : ℕ) → In (take i order) n → IsKeptWeight library weights n)
    → ((n : ℕ) → In (take (i + 1) order) n → IsKeptWeight library news n) × (length news ≡ length library.models)
kept_next library names order weights news i same first h len is kept =
    let number : ℕ = get_or order i 0 in
    let at : slice_get order i ≡ Some number = slice_get-get_or order i 0 h in
    let inside : number < length library.models = order_inside library order i first h in
    let b : IsBehind library (take i order) number = first.each i number at in (
      kept_step library order weights news i number first at (omega arith) (subst (λ ns. (m : ModelValue) → slice_get library.models number ≡ Some m → news ≡ set weights number (model_kept ns weights m)) same is) kept,
      ap length (is b.model b.at) ∙ length-set weights number (model_kept names weights b.model) ∙ len,
    )

-- one more model behind those that it places
pub children_first_push : (library : LibraryValue) (order : List ℕ) (number : ℕ) → AreChildrenFirst library order → IsBehind library order number → AreChildrenFirst library (order ++ number ∷ [])
children_first_push library order number first behind = search (rules, get_pushed, slice_get_within, take-append-le, take-append_seam)

-- what is told of the main model: is it heavier than 2^22?
kept_weighs : (library : LibraryValue) (weights : List ℕ) (m : ModelValue) (k : IsKeptWeight library weights 0) → slice_get library.models 0 ≡ Some m → Weighs library m k.weight
kept_weighs library weights m k at = subst (λ n. Weighs library n k.weight) (same_Some k.model m (sym k.at ∙ at)) k.weighs

pub weight_told : (library : LibraryValue) (weights : List ℕ) (kept : ℕ) (main : ModelValue) (result : Result (Unit {0}) FlatErr) → IsKeptWeight library weights 0 → slice_get library.models 0 ≡ Some main → slice_get weights 0 ≡ Some kept
    → MatchResult result (λ _. kept ≤ most_weight) (λ e. (e ≡ TooLarge) × (most_weight < kept))
    → MatchResult result (λ _. HasWeight library main (λ w. w ≤ most_weight)) (λ e. OrMemory refusal_of (λ r. (r ≡ TooLarge) × HasWeight library main (λ w. most_weight < w)) e)
weight_told library weights kept main (Ok u) k at here h = search (rules, weighs, kept_weighs, same_Some, capped)
weight_told library weights kept main (Err e) k at here h = grind arith
