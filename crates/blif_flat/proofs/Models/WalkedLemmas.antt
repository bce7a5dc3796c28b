-- The walk of the models has one result; one that refuses nothing has been through models without F1 to F4, and the hierarchy ends.
use Rattle.blif_flat.proofs.Common.{◌≡◌, ℕ, List, [], ◌∷◌, ◌++◌, Some, sym, ◌∙◌, subst, subst₂, Bool, true, false, cond, Option, refl, ap, inl, inr, ◌⊎◌, bytes_eq, slice_get, same_Some, none-some, option_and_then_some, both_ways, or_left, or_right, or_cases, false≢true, bytes_decides, In, In-left, In-right, In-append, In-get, ◌||◌, None, not, and_parts, false_from_ne_true, place_in, LibraryValue, SubcktValue, stop, placed-is, in_input, same_first, same_rest, arith, rules}
use Rattle.blif_flat.specs.{ModelValue, Body, Subckt, Command, model_named, Path, with_subckt, subckts_of, placed, model_at, has_name, Ends, ends, SubcktLine, subckt_lines, Walked, refused, walked, Walks, refuse, again, inside, onward, WalksMain, with_line, is_walked, Connection, is_input, inputs_of, ConnectionAt, IsDriven, FlatErr, line_fault}
use Rattle.blif_flat.proofs.Models.LineLemmas.{IsPlaced, free_line, Connected, no_unknown_formal, no_open_input, no_line_fault}

module _ (library : LibraryValue) where
  -- the walk of a placed model
  abbrev Below : List (List ℕ) → List ModelValue → Walked → ModelValue → Type 0
  Below chain before result child = Walks library (child.name ∷ chain) child (before ++ child ∷ []) (subckt_lines child.commands) result

  same_child : (l k : SubcktLine) (child other : ModelValue) → l ≡ k → model_named library.models l.subckt.model ≡ Some child → model_named library.models k.subckt.model ≡ Some other → other ≡ child
  same_child l k child other e f g = same_Some other child (sym g ∙ subst (λ (x : SubcktLine). model_named library.models x.subckt.model ≡ Some child) e f)

  pub walk_once : {chain : List (List ℕ)} {m : ModelValue} {before : List ModelValue} {lines : List SubcktLine} {r q : Walked} → Walks library chain m before lines r → Walks library chain m before lines q → r ≡ q
  walk_once (stop e p) (stop f o) = cc
  walk_once (stop e p) (refuse k more fault f g o) = cc
  walk_once (stop e p) (again k more f g y v) = cc
  walk_once (stop e p) (inside k more other fault f g y z v o) = cc
  walk_once (stop e p) (onward k more other after f g y z v u) = cc
  walk_once (refuse l rest fault e h p) (stop f o) = cc
  walk_once (refuse l rest fault e h p) (refuse k more second f g o) = let s = same_first l k rest more e f in cc
  walk_once (refuse l rest fault e h p) (again k more f g y v) = let s = same_first l k rest more e f in cc
  walk_once (refuse l rest fault e h p) (inside k more other second f g y z v o) = let s = same_first l k rest more e f in cc
  walk_once (refuse l rest fault e h p) (onward k more other after f g y z v u) = let s = same_first l k rest more e f in cc
  walk_once (again l rest e h x w) (stop f o) = cc
  walk_once (again l rest e h x w) (refuse k more second f g o) = let s = same_first l k rest more e f in cc
  walk_once {chain} {m} {before} {lines} {r} {q} (again l rest e h x w) (again k more f g y v) = walk_once w (subst (λ ls. Walks library chain m before ls q) (same_rest k l more rest f e) v)
  walk_once (again l rest e h x w) (inside k more other second f g y z v o) = let s = same_first l k rest more e f in cc
  walk_once (again l rest e h x w) (onward k more other after f g y z v u) = let s = same_first l k rest more e f in cc
  walk_once (inside l rest child fault e h x t w p) (stop f o) = cc
  walk_once (inside l rest child fault e h x t w p) (refuse k more second f g o) = let s = same_first l k rest more e f in cc
  walk_once (inside l rest child fault e h x t w p) (again k more f g y v) = let s = same_first l k rest more e f in cc
  walk_once {chain} {m} {before} (inside l rest child fault e h x t w p) (inside k more other second f g y z v o) =
      p ∙ walk_once w (subst (Below chain before (refused second)) (same_child l k child other (same_first l k rest more e f) t z) v) ∙ sym o
  walk_once {chain} {m} {before} (inside l rest child fault e h x t w p) (onward k more other after f g y z v u) =
      let n = walk_once w (subst (Below chain before (walked after)) (same_child l k child other (same_first l k rest more e f) t z) v) in cc
  walk_once (onward l rest child mid e h x t w d) (stop f o) = cc
  walk_once (onward l rest child mid e h x t w d) (refuse k more second f g o) = let s = same_first l k rest more e f in cc
  walk_once (onward l rest child mid e h x t w d) (again k more f g y v) = let s = same_first l k rest more e f in cc
  walk_once {chain} {m} {before} (onward l rest child mid e h x t w d) (inside k more other second f g y z v o) =
      let n = walk_once w (subst (Below chain before (refused second)) (same_child l k child other (same_first l k rest more e f) t z) v) in cc
  walk_once {chain} {m} {before} {lines} {r} {q} (onward l rest child mid e h x t w d) (onward k more other after f g y z v u) =
      let n : ◌≡◌ {A = Walked} (walked mid) (walked after) = walk_once w (subst (Below chain before (walked after)) (same_child l k child other (same_first l k rest more e f) t z) v) in
      let a : after ≡ mid = cc in
      walk_once d (subst₂ (λ (ms : List ModelValue) (ls : List SubcktLine). Walks library chain m ms ls q) a (same_rest k l more rest f e) u)

  pub walk_main_once : (main : ModelValue) (r q : Walked) → WalksMain library main r → WalksMain library main q → r ≡ q
  walk_main_once main r q w v = walk_once w.walks v.walks

-- the line of a subcircuit
pub record LineOf (lines : List SubcktLine) (s : SubcktValue) : Type 0 where
  pub line : SubcktLine
  pub member : In lines line
  pub is : line.subckt ≡ s

line_with : (n : ℕ) (b : Body) (subckts : List SubcktValue) (lines : List SubcktLine) (s : SubcktValue) → (In subckts s → LineOf lines s) → In (with_subckt b subckts) s → LineOf (with_line n b lines) s
line_with n (Subckt t) subckts lines s h (inl e) = record { line = record { line = n; subckt = t }; member = inl refl; is = sym e }
line_with n (Subckt t) subckts lines s h (inr i) = let r = h i in record { line = r.line; member = inr r.member; is = r.is }
line_with n b subckts lines s h i = h i

pub line_of : (commands : List Command) (s : SubcktValue) → In (subckts_of commands) s → LineOf (subckt_lines commands) s
line_of [] s i = absurd i
line_of (c ∷ cs) s i = line_with c.line c.body (subckts_of cs) (subckt_lines cs) s (line_of cs s) i

-- a model that is found has the name, and is one of the models
named_cond : (b : Bool) (m child : ModelValue) (o : Option ModelValue) (P : Type 0) → cond b (Some m) o ≡ Some child → (b ≡ true → m ≡ child → P) → (o ≡ Some child → P) → P
named_cond true m child o P e f g = f refl (same_Some m child e)
named_cond false m child o P e f g = g e

pub named_is : (models : List ModelValue) (name : List ℕ) (child : ModelValue) → model_named models name ≡ Some child → name ≡ child.name
named_is [] name child e = absurd (none-some child e)
named_is (m ∷ models) name child e = named_cond (bytes_eq name m.name) m child (model_named models name) (name ≡ child.name) e
    (λ t q. (bytes_decides name m.name).0 t ∙ ap (λ (y : ModelValue). y.name) q) (λ r. named_is models name child r)

pub named_in : (models : List ModelValue) (name : List ℕ) (child : ModelValue) → model_named models name ≡ Some child → In models child
named_in [] name child e = absurd (none-some child e)
named_in (m ∷ models) name child e = named_cond (bytes_eq name m.name) m child (model_named models name) (In (m ∷ models) child) e (λ t q. inl (sym q)) (λ r. inr (named_in models name child r))

pub main_named : (models : List ModelValue) (main : ModelValue) → slice_get models 0 ≡ Some main → model_named models main.name ≡ Some main
main_named [] main e = absurd (none-some main e)
main_named (m ∷ models) main e = grind (arith, same_Some, bytes_eq, bytes_decides)

record WalkedAs (models : List ModelValue) (name : List ℕ) : Type 0 where
  model : ModelValue
  member : In models model
  named : name ≡ model.name

walked_as : (models : List ModelValue) (name : List ℕ) → is_walked models name ≡ true → WalkedAs models name
walked_as [] name t = absurd (false≢true t)
walked_as (m ∷ models) name t = elim (or_cases (bytes_eq name m.name) (is_walked models name) t) [
  | inl e ↦ record { model = m; member = inl refl; named = (bytes_decides name m.name).0 e }
  | inr h ↦ (let r = walked_as models name h in record { model = r.model; member = inr r.member; named = r.named })
]

-- a model without F1 to F4, as are those below it; and something else holds of all of them
pub data Fine (library : LibraryValue) (P : ModelValue → Type 0) : ModelValue → Type 0 where
  fine : {m : ModelValue} → P m → ((l : SubcktLine) → In (subckt_lines m.commands) l → IsPlaced library l) → ((k : ℕ) (child : ModelValue) → placed library k m ≡ Some child → Fine library P child) → Fine library P m

-- what the walk has begun stays
pub walk_keeps : {library : LibraryValue} {chain : List (List ℕ)} {m : ModelValue} {before : List ModelValue} {lines : List SubcktLine} {result : Walked} → Walks library chain m before lines result
    → (ms : List ModelValue) → result ≡ walked ms → (x : ModelValue) → In before x → In ms x
walk_keeps {library} {chain} {m} {before} (stop e p) ms q x i = let same : before ≡ ms = cc in subst (λ ys. In ys x) same i
walk_keeps (refuse l rest fault e h p) ms q x i = absurd (cc)
walk_keeps (again l rest e h t w) ms q x i = walk_keeps w ms q x i
walk_keeps (inside l rest child fault e h t n w p) ms q x i = absurd (cc)
walk_keeps {library} {chain} {m} {before} (onward l rest child after e h t n w v) ms q x i = walk_keeps v ms q x (walk_keeps w after refl x (In-left before (child ∷ []) x i))

module _ (library : LibraryValue) (P : ModelValue → Type 0) where
  record IsGood (l : SubcktLine) : Type 0 where
    placed : IsPlaced library l
    fine : Fine library P placed.child

  -- each walked model is on the chain or fine
  abbrev Sane : List (List ℕ) → List ModelValue → Type 0
  Sane chain ms = (m : ModelValue) → In ms m → (model_named library.models m.name ≡ Some m) × ((has_name chain m.name ≡ true) ⊎ Fine library P m)

  fine_from : (m : ModelValue) → P m → ((l : SubcktLine) → In (subckt_lines m.commands) l → IsGood l) → Fine library P m
  fine_from m p h = fine p (λ l i. (h l i).placed) (λ k child e. option_and_then_some (λ (s : SubcktValue). model_named library.models s.model) (slice_get (subckts_of m.commands) k) child e (λ s a n.
      (let r = line_of m.commands s (In-get (subckts_of m.commands) k s a) in
      let g = h r.line r.member in
      subst (Fine library P) (same_Some g.placed.child child (sym g.placed.named ∙ ap (λ (t : SubcktValue). model_named library.models t.model) r.is ∙ n)) g.fine)))

  record After (chain : List (List ℕ)) (lines : List SubcktLine) (ms : List ModelValue) : Type 0 where
    sane : Sane chain ms
    good : (l : SubcktLine) → In lines l → IsGood l

  after_line : (chain : List (List ℕ)) (lines : List SubcktLine) (l : SubcktLine) (rest : List SubcktLine) (ms : List ModelValue) → lines ≡ l ∷ rest → IsGood l → After chain rest ms → After chain lines ms
  after_line chain lines l rest ms e g a = record { sane = a.sane; good = λ k i. elim (subst (λ ls. In ls k) e i) [ inl q ↦ subst IsGood (sym q) g | inr j ↦ a.good k j ] }

  begun : (chain : List (List ℕ)) (before : List ModelValue) (child : ModelValue) → model_named library.models child.name ≡ Some child → Sane chain before → Sane (child.name ∷ chain) (before ++ child ∷ [])
  begun chain before child n sane m i = elim (In-append before (child ∷ []) m i) [
    | inl j ↦ ((sane m j).0, elim (sane m j).1 [ inl y ↦ inl (or_right (bytes_eq m.name child.name) (has_name chain m.name) y) | inr y ↦ inr y ])
    | inr j ↦ (elim j [
      | inl q ↦ (
        ap (λ (y : ModelValue). model_named library.models y.name) q ∙ n ∙ ap Some (sym q),
        inl (or_left (bytes_eq m.name child.name) (has_name chain m.name) ((bytes_decides m.name child.name).1 (ap (λ (y : ModelValue). y.name) q))),
      )
      | inr o ↦ absurd o
    ])
  ]

  ended : (chain : List (List ℕ)) (ms : List ModelValue) (child : ModelValue) → model_named library.models child.name ≡ Some child → Fine library P child → Sane (child.name ∷ chain) ms → Sane chain ms
  ended chain ms child n f sane m i = grind (arith, or_cases, bytes_eq, has_name, same_Some, model_named, bytes_decides)

  walk_fine : {chain : List (List ℕ)} {m : ModelValue} {before : List ModelValue} {lines : List SubcktLine} {result : Walked} → Walks library chain m before lines result
      → (ms : List ModelValue) → result ≡ walked ms → ((x : ModelValue) → In ms x → P x) → Sane chain before → After chain lines ms
  walk_fine {chain} {m} {before} (stop e p) ms q all sane = grind arith
  walk_fine (refuse l rest fault e h p) ms q all sane = absurd (cc)
  walk_fine (inside l rest child fault e h t n w p) ms q all sane = absurd (cc)
  walk_fine {chain} {m} {before} {lines} (again l rest e h t w) ms q all sane =
      let f = free_line library chain m l h in
      let a = walked_as before l.subckt.model t in
      let z = sane a.model a.member in
      let same : a.model ≡ f.placed.child = same_Some a.model f.placed.child (sym z.0 ∙ ap (model_named library.models) (sym a.named) ∙ f.placed.named) in
      let good : Fine library P f.placed.child = grind (arith, both_ways, has_name) in
      after_line chain lines l rest ms e (record { placed = f.placed; fine = good }) (walk_fine w ms q all sane)
  walk_fine {chain} {m} {before} {lines} (onward l rest child after e h t n w v) ms q all sane =
      let f = free_line library chain m l h in
      let own : model_named library.models child.name ≡ Some child = ap (model_named library.models) (sym (named_is library.models l.subckt.model child n)) ∙ n in
      let kept : (x : ModelValue) → In after x → P x = λ x i. all x (walk_keeps v ms q x i) in
      let deep = walk_fine w after refl kept (begun chain before child own sane) in
      let good : Fine library P child = fine_from child (kept child (walk_keeps w after refl child (In-right before (child ∷ []) child (inl refl)))) deep.good in
      after_line chain lines l rest ms e (record { placed = f.placed; fine = subst (Fine library P) (same_Some child f.placed.child (sym n ∙ f.placed.named)) good })
      (walk_fine v ms q all (ended chain after child own good deep.sane))

  pub main_fine : (main : ModelValue) (ms : List ModelValue) → model_at library [] ≡ Some main → WalksMain library main (walked ms) → ((x : ModelValue) → In ms x → P x) → Fine library P main
  main_fine main ms at w all =
      fine_from main (all main (walk_keeps w.walks ms refl main (inl refl))) (walk_fine w.walks ms refl all (begun [] [] main (main_named library.models main at) (λ m i. absurd i))).good

  -- F2 absent
  pub fine_ends : {m : ModelValue} → Fine library P m → Ends library m
  fine_ends (fine p h f) = ends (λ k child e. fine_ends (f k child e))

  pub fine_holds : {m : ModelValue} → Fine library P m → P m
  fine_holds (fine p h f) = p

  pub fine_placed : {m : ModelValue} → Fine library P m → (l : SubcktLine) → In (subckt_lines m.commands) l → IsPlaced library l
  fine_placed (fine p h f) = h

  fine_below : {m : ModelValue} → Fine library P m → (k : ℕ) (child : ModelValue) → placed library k m ≡ Some child → Fine library P child
  fine_below (fine p h f) = f

  -- the models of all instances are fine
  pub fine_at : (main : ModelValue) → model_at library [] ≡ Some main → Fine library P main → (path : Path) (m : ModelValue) → model_at library path ≡ Some m → Fine library P m
  fine_at main at f [] m e = subst (Fine library P) (same_Some main m (sym at ∙ e)) f
  fine_at main at f (k ∷ outer) m e = option_and_then_some (placed library k) (model_at library outer) m e (λ u a b. fine_below (fine_at main at f outer u a) k m b)

-- Where none of F1 to F6 stands, the walk from the main model refuses nothing, and the walked models have no refusal of drivers.

-- the subcircuit of a line
line_subckt : (n : ℕ) (b : Body) (subckts : List SubcktValue) (lines : List SubcktLine) (l : SubcktLine) → (In lines l → In subckts l.subckt) → In (with_line n b lines) l → In (with_subckt b subckts) l.subckt
line_subckt n (Subckt s) subckts lines l h (inl e) = inl (ap (λ (x : SubcktLine). x.subckt) e)
line_subckt n (Subckt s) subckts lines l h (inr i) = inr (h i)
line_subckt n b subckts lines l h i = h i

subckt_of : (commands : List Command) (l : SubcktLine) → In (subckt_lines commands) l → In (subckts_of commands) l.subckt
subckt_of [] l i = i
subckt_of (c ∷ cs) l i = line_subckt c.line c.body (subckts_of cs) (subckt_lines cs) l (subckt_of cs l) i

-- a model places another one, over one step or several
data Reaches (library : LibraryValue) : ModelValue → ModelValue → Type 0 where
  one : {m n : ModelValue} (k : ℕ) → placed library k m ≡ Some n → Reaches library m n
  first : {m n : ModelValue} (k : ℕ) (child : ModelValue) → placed library k m ≡ Some child → Reaches library child n → Reaches library m n

further : {library : LibraryValue} {m n : ModelValue} (k : ℕ) (child : ModelValue) → Reaches library m n → placed library k n ≡ Some child → Reaches library m child
further k child (one j e) f = first j _ e (one k f)
further k child (first j c e r) f = first j c e (further k child r f)

-- no model reaches itself, where the hierarchy ends
no_loop : {library : LibraryValue} {m : ModelValue} → Ends library m → Reaches library m m → ⊥
no_loop {library} {m} (ends t) (one k e) = no_loop (t k m e) (one k e)
no_loop {library} {m} (ends t) (first k child e r) = no_loop (t k child e) (further k child r e)

module _ (library : LibraryValue) where
  -- the models of the chain reach a model, or are it
  record IsAbove (m : ModelValue) (name : List ℕ) : Type 0 where
    above : ModelValue
    is : above.name ≡ name
    named : model_named library.models above.name ≡ Some above
    reaches : (above ≡ m) ⊎ Reaches library above m

  abbrev AreAbove : List (List ℕ) → ModelValue → Type 0
  AreAbove chain m = (name : List ℕ) → has_name chain name ≡ true → IsAbove m name

  above_child : (chain : List (List ℕ)) (m child : ModelValue) (k : ℕ) → AreAbove chain m → placed library k m ≡ Some child → model_named library.models child.name ≡ Some child → AreAbove (child.name ∷ chain) child
  above_child chain m child k h e n name t = elim (or_cases (bytes_eq name child.name) (has_name chain name) t) [
    | inl y ↦ record { above = child; is = sym ((bytes_decides name child.name).0 y); named = n; reaches = inl refl }
    | inr y ↦ (let a = h name y in record {
      above = a.above;
      is = a.is;
      named = a.named;
      reaches = inr (elim a.reaches [ inl q ↦ one k (subst (λ x. placed library k x ≡ Some child) (sym q) e) | inr r ↦ further k child r e ]);
    })
  ]

  main_above : (main : ModelValue) → model_at library [] ≡ Some main → AreAbove (main.name ∷ []) main
  main_above main at name t = search (rules, or_cases, bytes_eq, has_name, bytes_decides, main_named, false≢true)

  -- what a line of an instance places
  record IsChild (path : Path) (m : ModelValue) (l : SubcktLine) : Type 0 where
    ordinal : ℕ
    child : ModelValue
    is : slice_get (subckts_of m.commands) ordinal ≡ Some l.subckt
    named : model_named library.models l.subckt.model ≡ Some child
    placed_as : placed library ordinal m ≡ Some child
    at : model_at library (ordinal ∷ path) ≡ Some child

  module _ (driven : IsDriven library) where
    child_of : (path : Path) (m : ModelValue) (l : SubcktLine) → model_at library path ≡ Some m → In (subckt_lines m.commands) l → IsChild path m l
    child_of path m l e i =
        let k = place_in (subckts_of m.commands) l.subckt (subckt_of m.commands l i) in
        let c = driven.known path m k.0 l.subckt e k.1 in
        let p : placed library k.0 m ≡ Some c.0 = placed-is library m k.0 l.subckt k.1 ∙ c.1 in
        record { ordinal = k.0; child = c.0; is = k.1; named = c.1; placed_as = p; at = rw e p }

    -- no line of an instance has F1 to F4
    no_formal : (path : Path) (m : ModelValue) (l : SubcktLine) → model_at library path ≡ Some m → (c : IsChild path m l) → (pair : Connection) → In l.subckt.pairs pair → (is_input c.child pair.formal || has_name (c.child).outputs pair.formal) ≡ true
    no_formal path m l e c pair i =
        let a : ConnectionAt library path c.ordinal pair = record { model = m; subckt = l.subckt; child = c.child; at = e; is = c.is; member = i; places = c.named } in
        elim (driven.formals path c.ordinal pair a) [
          | inl t ↦ or_left (is_input c.child pair.formal) (has_name (c.child).outputs pair.formal) t
          | inr t ↦ or_right (is_input c.child pair.formal) (has_name (c.child).outputs pair.formal) (and_parts (not (is_input c.child pair.formal)) (has_name (c.child).outputs pair.formal) t).1
        ]

    no_open : (path : Path) (m : ModelValue) (l : SubcktLine) → model_at library path ≡ Some m → (c : IsChild path m l) → (name : List ℕ) → In (inputs_of c.child) name → Connected l.subckt.pairs name
    no_open path m l e c name i =
        let r = driven.connected path c.ordinal c.child name c.at (in_input c.child name i) in
        let a = r.1 in
        let f : slice_get (subckts_of m.commands) c.ordinal ≡ Some a.subckt = subst (λ x. slice_get (subckts_of x.commands) c.ordinal ≡ Some a.subckt) (same_Some a.model m (sym a.at ∙ e)) a.is in
        record { pair = r.0; member = subst (λ s. In s.pairs r.0) (same_Some a.subckt l.subckt (sym f ∙ c.is)) a.member; formal = sym r.2 }

    no_cycle : (path : Path) (chain : List (List ℕ)) (m : ModelValue) (l : SubcktLine) → model_at library path ≡ Some m → AreAbove chain m → (c : IsChild path m l) → has_name chain l.subckt.model ≡ true → ⊥
    no_cycle path chain m l e h c t =
        let a = h l.subckt.model t in
        let same : a.above ≡ c.child = same_Some a.above c.child (sym a.named ∙ ap (model_named library.models) a.is ∙ c.named) in
        let back : placed library c.ordinal m ≡ Some a.above = c.placed_as ∙ ap Some (sym same) in
        let from : (a.above ≡ m) ⊎ Reaches library a.above m = a.reaches in
        no_loop (subst (Ends library) (sym same) (driven.finite (c.ordinal ∷ path) c.child c.at)) (elim from [
          | inl q ↦ one c.ordinal (subst (λ x. placed library c.ordinal x ≡ Some a.above) (sym q) back)
          | inr r ↦ further c.ordinal a.above r back
        ])

    free : (path : Path) (chain : List (List ℕ)) (m : ModelValue) (l : SubcktLine) → model_at library path ≡ Some m → AreAbove chain m → IsChild path m l → line_fault library chain m l ≡ None
    free path chain m l e h c = no_line_fault library chain m l (record {
      placed = record {
        child = c.child;
        named = c.named;
        formals = no_unknown_formal c.child l.subckt.pairs (no_formal path m l e c);
        inputs = no_open_input l.subckt.pairs (inputs_of c.child) (no_open path m l e c);
      };
      off = false_from_ne_true (has_name chain l.subckt.model) (no_cycle path chain m l e h c);
    })

    rest_in : (m : ModelValue) (lines : List SubcktLine) (l : SubcktLine) (rest : List SubcktLine) → lines ≡ l ∷ rest → ((k : SubcktLine) → In lines k → In (subckt_lines m.commands) k) → (k : SubcktLine) → In rest k → In (subckt_lines m.commands) k
    rest_in m lines l rest e h k i = h k (subst (λ ls. In ls k) (sym e) (inr i))

    head_in : (m : ModelValue) (lines : List SubcktLine) (l : SubcktLine) (rest : List SubcktLine) → lines ≡ l ∷ rest → ((k : SubcktLine) → In lines k → In (subckt_lines m.commands) k) → In (subckt_lines m.commands) l
    head_in m lines l rest e h = h l (subst (λ ls. In ls l) (sym e) (inl refl))

    no_refusal : {chain : List (List ℕ)} {m : ModelValue} {before : List ModelValue} {lines : List SubcktLine} {result : Walked} → Walks library chain m before lines result → (fault : FlatErr) → result ≡ refused fault
        → (path : Path) → model_at library path ≡ Some m → AreAbove chain m → ((k : SubcktLine) → In lines k → In (subckt_lines m.commands) k) → ⊥
    no_refusal (stop e p) fault q path at h all = cc
    no_refusal {chain} {m} {before} {lines} (refuse l rest f e g p) fault q path at h all =
        none-some f (sym (free path chain m l at h (child_of path m l at (head_in m lines l rest e all))) ∙ g)
    no_refusal {chain} {m} {before} {lines} (again l rest e g t w) fault q path at h all = no_refusal w fault q path at h (rest_in m lines l rest e all)
    no_refusal {chain} {m} {before} {lines} (inside l rest child f e g t n w p) fault q path at h all =
        let c = child_of path m l at (head_in m lines l rest e all) in
        let same : c.child ≡ child = same_Some c.child child (sym c.named ∙ n) in
        no_refusal w f refl (c.ordinal ∷ path) (c.at ∙ ap Some same) (above_child chain m child c.ordinal h (c.placed_as ∙ ap Some same)
        (ap (model_named library.models) (sym (named_is library.models l.subckt.model child n)) ∙ n)) (λ k i. i)
    no_refusal {chain} {m} {before} {lines} (onward l rest child after e g t n w v) fault q path at h all = no_refusal v fault q path at h (rest_in m lines l rest e all)

    pub driven_walks : (main : ModelValue) (fault : FlatErr) → model_at library [] ≡ Some main → WalksMain library main (refused fault) → ⊥
    driven_walks main fault at w = no_refusal w.walks fault refl [] at (main_above main at) (λ k i. i)

    -- each walked model is that of an instance
    abbrev pub IsPlacedModel : ModelValue → Type 0
    IsPlacedModel m = (path : Path) × (model_at library path ≡ Some m)

    pub walked_at : {chain : List (List ℕ)} {m : ModelValue} {before : List ModelValue} {lines : List SubcktLine} {result : Walked} → Walks library chain m before lines result → (ms : List ModelValue) → result ≡ walked ms
        → (path : Path) → model_at library path ≡ Some m → ((k : SubcktLine) → In lines k → In (subckt_lines m.commands) k) → ((x : ModelValue) → In before x → IsPlacedModel x) → (x : ModelValue) → In ms x → IsPlacedModel x
    walked_at {chain} {m} {before} (stop e p) ms q path at all h x i = let same : ms ≡ before = cc in h x (subst (λ ys. In ys x) same i)
    walked_at (refuse l rest f e g p) ms q path at all h x i = absurd (cc)
    walked_at {chain} {m} {before} {lines} (again l rest e g t w) ms q path at all h x i = walked_at w ms q path at (rest_in m lines l rest e all) h x i
    walked_at (inside l rest child f e g t n w p) ms q path at all h x i = absurd (cc)
    walked_at {chain} {m} {before} {lines} (onward l rest child after e g t n w v) ms q path at all h x i =
        let c = child_of path m l at (head_in m lines l rest e all) in
        let here : model_at library (c.ordinal ∷ path) ≡ Some child = c.at ∙ ap Some (same_Some c.child child (sym c.named ∙ n)) in
        walked_at v ms q path at (rest_in m lines l rest e all) (walked_at w after refl (c.ordinal ∷ path) here (λ k j. j) (λ y j. elim (In-append before (child ∷ []) y j) [
          | inl z ↦ h y z
          | inr z ↦ (elim z [ inl s ↦ (c.ordinal ∷ path, here ∙ ap Some (sym s)) | inr o ↦ absurd o ])
        ])) x i
