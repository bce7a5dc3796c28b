-- The ways up from the starts are paths, and share no low node.
use Rattle.flow_label.proofs.Common.{◌≡◌, ℕ, ◌+◌, ◌<◌, ◌≤◌, cond, ltb, List, [], ◌∷◌, ◌++◌, length, get_or, Some, refl, sym, ap, ◌∙◌, subst, inl, inr, eqb, arith, length-append, eqb-true, eqb-false, ltb-true, ltb-false, cases_lt, IsAnd, IsSource, Regular, In, choose, In-get_or, In-push, place_in, get_pushed, slice_get, slice_get_within, IsLive, source_below, IsFanIn, IsPath, FlowNet, IsLow, IsInner, IsUpper, IsNet, IsRoot, AreReaders, first_and, IsChoice, HasChosen, IsLinked, AreStarts, next_of, IsOnWay, low, upper, PathPasses, start, onward, IsWayTo, AreWays, AreWaysTo, ◌≢◌}
use Rattle.flow_label.proofs.OnceLemmas.{once_places}
use Rattle.flow_label.proofs.GraphLemmas.{fan_in_below, live_pos, source_not_and, path_push, path_last}

-- down to the sources, paths start at regular sources
pub root_source : (net : FlowNet) → net.floor ≡ length net.graph.kinds → (s : ℕ) → IsRoot net s → IsSource net.graph Regular s
root_source net full s r = elim r.live [ inl source ↦ source | inr and ↦ (let a : first_and net.graph ≤ s = and.0.0 in let b : s ≤ net.floor = r.below in absurd (omega arith)) ]

-- one step up
record IsStep (net : FlowNet) (owner : ℕ → ℕ) (m x : ℕ) : Type 0 where
  reads : IsFanIn net.graph m x
  on : IsOnWay net owner x
  by_owner : (x ≡ net.node → ⊥) → IsLow net x → IsLow net m × (owner m ≡ x) × IsInner net x

module _ (net : FlowNet) (is : IsNet net) (readers : AreReaders net) (owner chosen : ℕ → ℕ) (count : ℕ) (k : IsLinked net 0 owner chosen count) where
  live_zero : (u : ℕ) → IsLive net.graph net.label u → u ≡ 0 → ⊥
  live_zero u l e = let p : 0 < u = live_pos net.graph net.label u l in absurd (omega arith)

  -- an upper node below the node is not low
  not_low : (v : ℕ) → IsUpper net v → (v ≡ net.node → ⊥) → IsLow net v → ⊥
  not_low v (inl e) ne l = absurd (ne e)
  not_low v (inr u) ne l = let d : net.height ≤ net.label v + 1 = u.1 in absurd (omega arith)

  -- to the reader of a node that was met
  step_reader : (m : ℕ) → 0 < net.reader m → IsStep net owner m (net.reader m)
  step_reader m met = let r = readers.met m met in record { reads = r.reads; on = upper r.upper; by_owner = λ ne l. absurd (not_low (net.reader m) r.upper ne l) }

  -- to the owner
  step_owner : (m : ℕ) → IsLow net m → (owner m ≡ m → ⊥) → HasChosen net chosen (owner m) m → IsStep net owner m (owner m)
  step_owner m l other h =
      let a : ℕ = owner m in
      let fan : IsFanIn net.graph m (owner m) = elim (subst (λ u. IsChoice net (owner m) u) h.is (k.choice (owner m) h.inner)) [ inl e ↦ absurd (other (sym e)) | inr f ↦ f.0 ] in
      let again : owner (owner m) ≡ owner m → ⊥ = (λ e. own_again m h other e) in
      record { reads = fan; on = low (inr (h.inner.and, h.inner.live)) h.inner.low (k.full (owner m) h.inner) again; by_owner = λ ne q. (l, refl, h.inner) }
    where
      own_again : (m : ℕ) → HasChosen net chosen (owner m) m → (owner m ≡ m → ⊥) → owner (owner m) ≡ owner m → ⊥
      own_again m h other e =
          let p : 0 < owner (owner m) = k.full (owner m) h.inner in
          elim (k.owned (owner m) (λ z. let q : 1 + length net.graph.kinds ≤ owner m = h.inner.and.0 in absurd (omega arith)) p) [
            | inl n ↦ (let b : owner m < net.node = h.inner.below in let f : owner (owner m) ≡ net.node = n.0 in absurd (omega arith))
            | inr c ↦ other (sym (sym h.is ∙ (ap chosen (sym e) ∙ c.is)))
          ]

  step_low : (m : ℕ) → IsLive net.graph net.label m → IsLow net m → 0 < owner m → (owner m ≡ m → ⊥) → IsStep net owner m (cond (eqb (owner m) net.node) (net.reader m) (owner m))
  step_low m live l pos other =
      choose (λ x. IsStep net owner m x) (eqb (owner m) net.node) (net.reader m) (owner m)
      (λ e. elim (k.owned m (live_zero m live) pos) [
        | inl h ↦ step_reader m h.1.met
        | inr h ↦ (let q : owner m ≡ net.node = eqb-true (owner m) net.node e in let b : owner m < net.node = h.inner.below in absurd (omega arith))
      ])
      (λ e. elim (k.owned m (live_zero m live) pos) [ inl h ↦ absurd (eqb-false (owner m) net.node e h.0) | inr h ↦ step_owner m l other h ])

  -- below the node there is always a next one
  next_step : (m : ℕ) → IsOnWay net owner m → (m ≡ net.node → ⊥) → IsStep net owner m (next_of net owner m)
  next_step m (low live l pos other) ne =
      choose (λ x. IsStep net owner m x) (ltb (net.label m + 1) net.height) (cond (eqb (owner m) net.node) (net.reader m) (owner m)) (net.reader m)
      (λ e. step_low m live l pos other) (λ e. let f : net.height ≤ net.label m + 1 = ltb-false (net.label m + 1) net.height e in absurd (omega arith))
  next_step m (upper u) ne =
      choose (λ x. IsStep net owner m x) (ltb (net.label m + 1) net.height) (cond (eqb (owner m) net.node) (net.reader m) (owner m)) (net.reader m)
      (λ e. absurd (not_low m u ne (ltb-true (net.label m + 1) net.height e)))
      (λ e. elim u [ inl q ↦ absurd (ne q) | inr d ↦ step_reader m d.0 ])

  -- a way with the next node
  pub way_push : (s m : ℕ) (path : List ℕ) → IsWayTo net owner s m path → (m ≡ net.node → ⊥) → IsWayTo net owner s (next_of net owner m) (path ++ next_of net owner m ∷ [])
  way_push s m path w ne =
      let st : IsStep net owner m (next_of net owner m) = next_step m w.on ne in
      record {
        is = path_push net.graph m (next_of net owner m) path w.is st.reads;
        on = st.on;
        low = λ x i other l. elim (In-push path (next_of net owner m) x i) [
          | inl j ↦ w.low x j other l
          | inr e ↦ (let b = st.by_owner (λ q. other (e ∙ q)) (subst (λ y. IsLow net y) e l) in
              onward m (w.low m (path_last net.graph m path w.is) ne b.0) (b.1 ∙ sym e) (subst (λ y. IsInner net y) (sym e) b.2))
        ];
      }

  -- the way goes up
  pub next_above : (m : ℕ) → IsOnWay net owner m → (m ≡ net.node → ⊥) → IsFanIn net.graph m (next_of net owner m)
  next_above m on ne = (next_step m on ne).reads

  -- the way begins at a start
  pub way_start : (s : ℕ) → IsSource net.graph Regular s → 0 < owner s → IsWayTo net owner s s (s ∷ [])
  way_start s source pos = record {
    is = (source, refl);
    on = low (inl source) (source_low s source) pos (λ e. source_own s source pos e);
    low = λ x i other l. elim i [ inl e ↦ start e | inr b ↦ absurd b ];
  }
    where
      source_low : (s : ℕ) → IsSource net.graph Regular s → IsLow net s
      source_low s source = let z : net.label s ≡ 0 = is.known.sources s (source_below net.graph Regular s source) in let h : 2 ≤ net.height = is.high in omega arith

      source_own : (s : ℕ) → IsSource net.graph Regular s → 0 < owner s → owner s ≡ s → ⊥
      source_own s source pos e = elim (k.owned s (live_zero s (inl source)) pos) [
        | inl h ↦ source_not_and net.graph s source (subst (λ y. IsAnd net.graph y) (sym (sym e ∙ h.0)) is.and)
        | inr h ↦ source_not_and net.graph s source (subst (λ y. IsAnd net.graph y) e h.inner.and)
      ]

  -- what an inner node owns it has chosen
  chosen_owned : (v x : ℕ) → owner v ≡ x → IsInner net x → chosen x ≡ v
  chosen_owned v x e i =
      let p : 1 + length net.graph.kinds ≤ x = i.and.0 in
      elim (k.owned v (λ z. let q : owner v ≡ owner 0 = ap owner z in let n : owner 0 ≡ 0 = k.none in absurd (omega arith)) (omega arith)) [
        | inl h ↦ (let b : x < net.node = i.below in let f : owner v ≡ net.node = h.0 in absurd (omega arith))
        | inr h ↦ subst (λ y. chosen y ≡ v) e h.is
      ]

  inner_start : (s x : ℕ) → IsSource net.graph Regular s → IsInner net x → x ≡ s → ⊥
  inner_start s x source i e = source_not_and net.graph s source (subst (λ y. IsAnd net.graph y) e i.and)

  -- no two paths pass one low node
  same_start : (s t : ℕ) → IsSource net.graph Regular s → IsSource net.graph Regular t → {x : ℕ} → PathPasses net owner s x → (y : ℕ) → x ≡ y → PathPasses net owner t y → s ≡ t
  same_start s t a b (start e) y q (start f) = sym e ∙ (q ∙ f)
  same_start s t a b (start e) y q (onward v p o i) = absurd (inner_start s y a i (sym q ∙ e))
  same_start s t a b {x} (onward v p o i) y q (start f) = absurd (inner_start t x b i (q ∙ f))
  same_start s t a b {x} (onward v p o i) y q (onward w r m j) =
      same_start s t a b p w (sym (chosen_owned v x o i) ∙ (ap chosen q ∙ chosen_owned w y m j)) r

  -- a node of two paths that is not low
  ways_apart : (s t : ℕ) (p q : List ℕ) → IsSource net.graph Regular s → IsSource net.graph Regular t → (s ≡ t → ⊥) → IsWayTo net owner s net.node p → IsWayTo net owner t net.node q → (m : ℕ) → In p m → In q m → (m ≡ net.node → ⊥) → net.height ≤ net.label m + 1
  ways_apart s t p q a b ne v w m i j other = elim (cases_lt (net.label m + 1) net.height) [
    | inl l ↦ absurd (ne (same_start s t a b (v.low m i other l) m refl (w.low m j other l)))
    | inr d ↦ d
  ]

  -- a node on the way is not above the node
  pub on_below : (m : ℕ) → IsOnWay net owner m → m ≤ net.node
  on_below m (low live l pos other) = elim (k.owned m (live_zero m live) pos) [
    | inl h ↦ (let b : m < net.node = (readers.met m h.1.met).below in omega arith)
    | inr h ↦ (let b : owner m < net.node = h.inner.below in elim (subst (λ u. IsChoice net (owner m) u) h.is (k.choice (owner m) h.inner)) [
      | inl e ↦ omega arith
      | inr f ↦ (let a : m < owner m = fan_in_below net.graph m (owner m) is.normal f.0 in omega arith)
    ])
  ]
  on_below m (upper (inl e)) = omega arith
  on_below m (upper (inr u)) = let b : m < net.node = (readers.met m u.0).below in omega arith

-- The paths of a linking share no low node.
pub ways_share : (net : FlowNet) → IsNet net → AreReaders net → net.floor ≡ length net.graph.kinds → (owner chosen : ℕ → ℕ) (count : ℕ) → IsLinked net 0 owner chosen count → (starts : List ℕ) (paths : List (List ℕ)) → AreStarts net owner starts → AreWays net owner starts paths
    → (i j m : ℕ) (p q : List ℕ) → i < j → slice_get paths i ≡ Some p → slice_get paths j ≡ Some q → In p m → In q m → m ≢ net.node → net.height ≤ net.label m + 1
ways_share net is readers full owner chosen count k starts paths s w i j m p q l e f a b other =
    let n : length paths ≡ length starts = w.count in
    let inside : j < length paths = slice_get_within paths j q f in
    ways_apart net is readers owner chosen count k (get_or starts i 0) (get_or starts j 0) p q
    (root_source net full (get_or starts i 0) (s.root (get_or starts i 0) (In-get_or starts i 0 (omega arith)))) (root_source net full (get_or starts j 0) (s.root (get_or starts j 0) (In-get_or starts j 0 (omega arith))))
    (once_places starts i j s.once l (omega arith)) (w.each i p e) (w.each j q f) m a b other

pub ways_paths : (net : FlowNet) (owner : ℕ → ℕ) (starts : List ℕ) (paths : List (List ℕ)) → AreWays net owner starts paths → (p : List ℕ) → In paths p → IsPath net.graph net.node p
ways_paths net owner starts paths w p i = let r = place_in paths p i in (w.each r.0 p r.1).is

-- one more path
pub ways_push : (net : FlowNet) (owner : ℕ → ℕ) (starts : List ℕ) (limit : ℕ) (paths : List (List ℕ)) (path : List ℕ) → AreWaysTo net owner starts limit paths → IsWayTo net owner (get_or starts limit 0) net.node path → AreWaysTo net owner starts (limit + 1) (paths ++ path ∷ [])
ways_push net owner starts limit paths path k w =
    let c : length paths ≡ limit = k.count in
    record {
      count = (let a : length (paths ++ path ∷ []) ≡ length paths + 1 = length-append paths (path ∷ []) in omega arith);
      each = λ i p e. elim (get_pushed paths path i p e) [
        | inl h ↦ k.each i p h
        | inr h ↦ subst (λ x. IsWayTo net owner (get_or starts i 0) net.node x) h.1 (subst (λ x. IsWayTo net owner (get_or starts x 0) net.node path) (let f : i ≡ length paths = h.0 in let g : limit ≡ i = omega arith in g) w)
      ];
    }
