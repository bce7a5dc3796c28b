-- A search reaches exactly the own nodes of its top, each once, and meets the nodes that are counted once at which it stops.
use Rattle.cover_pick.proofs.Common.{◌≡◌, ℕ, ◌+◌, ◌/◌, ◌<◌, ◌≤◌, Bool, true, false, cond, eqb, List, [], ◌∷◌, ◌++◌, length, Some, refl, sym, ap, ◌∙◌, subst, inl, inr, ◌⊎◌, arith, get_or-set_same, get_or-set_other, slice_set, length-append, length-set, get_or-append, same_Some, cases_lt, cases_eq, false≢true, eqb-true, eqb-false, IsNode, Aig, first_and, node_count, IsAnd, pair_of, IsNormal, AreNormal, Pair, In, In-get_or, In-left, In-push, In-pushed, choose, is_stop, IsInner, Path, here, left, right, SearchValue, stamp_at, reach, mark_of, once_in, AreClosed, IsBelowMet, MeetsCone, HasOwn, rules, In-place}
use Rattle.std.specs.List.{IsDistinct}
use Rattle.std.proofs.lemmas.Map.Steps.{length-le_from_distinct_below}
use Rattle.cover_pick.proofs.WorkLemmas.{stop_inner, stopped, past_sources}
use Rattle.cover_pick.proofs.DistinctLemmas.{any_In, distinct_push, distinct_descending, length_same}
use Rattle.cover_pick.proofs.MarkLemmas.{mark_here, mark_stays, mark_from}
use Rattle.cover_pick.proofs.OwnLemmas.{own_there, path_on, no_leaves_path, marked_or_not}

-- a node ends the way down, is reached, or is met
abbrev pub Taken : Aig → List ℕ → SearchValue → ℕ → Type 0
Taken g c s n = (is_stop g c n ≡ true) ⊎ (In s.reached n ⊎ (mark_of s.met n ≡ true))

-- what a search keeps, of which the first i nodes that were reached have their fan-ins taken
pub record IsReached (g : Aig) (once : List Bool) (c : List ℕ) (top stamp : ℕ) (s : SearchValue) (i : ℕ) : Type 0 where
  pub size : length s.stamps ≡ node_count g
  pub most : (m : ℕ) → stamp_at s.stamps m ≤ stamp
  pub stamped : (m : ℕ) → In s.reached m → stamp_at s.stamps m ≡ stamp
  pub known : (m : ℕ) → stamp_at s.stamps m ≡ stamp → In s.reached m
  pub apart : IsDistinct eqb s.reached
  pub inside : (m : ℕ) → In s.reached m → (is_stop g c m ≡ false) × (m < node_count g)
  pub own : (m : ℕ) → In s.reached m → mark_of once m ≡ false
  pub path : (m : ℕ) → In s.reached m → Path g c m top
  pub within : i ≤ length s.reached
  pub closed : (j : ℕ) (p : Pair) → j < i → pair_of g (stamp_at s.reached j) ≡ Some p → Taken g c s (p.x.0 / 2) × Taken g c s (p.y.0 / 2)
  pub met_size : length s.met ≡ node_count g

-- which nodes a search meets: all that were met before, and nodes of the cone that are counted once
pub record Meets (g : Aig) (once : List Bool) (c : List ℕ) (top : ℕ) (old new : List Bool) : Type 0 where
  pub only : (m : ℕ) → mark_of new m ≡ true → (mark_of old m ≡ true) ⊎ (once_in once m × Path g c m top)
  pub kept : (m : ℕ) → mark_of old m ≡ true → mark_of new m ≡ true

pub Meets-refl : (g : Aig) (once : List Bool) (c : List ℕ) (top : ℕ) (met : List Bool) → Meets g once c top met met
Meets-refl g once c top met = record { only = λ m h. inl h; kept = λ m h. h }

pub Meets-trans : (g : Aig) (once : List Bool) (c : List ℕ) (top : ℕ) (old mid new : List Bool) → Meets g once c top old mid → Meets g once c top mid new → Meets g once c top old new
Meets-trans g once c top old mid new a b = search rules

pub reached_none : (g : Aig) (once : List Bool) (c : List ℕ) (top stamp : ℕ) (stamps : List ℕ) (met : List Bool) → length stamps ≡ node_count g → ((m : ℕ) → stamp_at stamps m < stamp) → length met ≡ node_count g
    → IsReached g once c top stamp (record { stamps = stamps; reached = []; met = met }) 0
unfolding IsDistinct
reached_none g once c top stamp stamps met e fresh f = search rules

-- what a step keeps: the facts of the search, what was reached and met, and that the node is taken
pub record Keeps (g : Aig) (once : List Bool) (c : List ℕ) (top stamp : ℕ) (old new : SearchValue) (i n : ℕ) : Type 0 where
  pub is : IsReached g once c top stamp new i
  pub old' : (m : ℕ) → In old.reached m → In new.reached m
  pub meets : Meets g once c top old.met new.met
  pub longer : length old.reached ≤ length new.reached
  pub places : (j : ℕ) → j < length old.reached → stamp_at new.reached j ≡ stamp_at old.reached j
  pub taken : Taken g c new n

taken_more : (g : Aig) (c : List ℕ) (s r : SearchValue) (n : ℕ) → ((m : ℕ) → In s.reached m → In r.reached m) → ((m : ℕ) → mark_of s.met m ≡ true → mark_of r.met m ≡ true) → Taken g c s n → Taken g c r n
taken_more g c s r n more met (inl t) = inl t
taken_more g c s r n more met (inr (inl i)) = inr (inl (more n i))
taken_more g c s r n more met (inr (inr h)) = inr (inr (met n h))

module _ (g : Aig) (once : List Bool) (c : List ℕ) (top stamp : ℕ) where
  new_reached : (s : SearchValue) (i n : ℕ) → IsReached g once c top stamp s i → n < node_count g → is_stop g c n ≡ false → mark_of once n ≡ false → (stamp_at s.stamps n ≡ stamp → ⊥) → Path g c n top
      → Keeps g once c top stamp s (record { stamps = slice_set s.stamps n stamp; reached = s.reached ++ n ∷ []; met = s.met }) i n
  new_reached s i n w l free off fresh p =
      let same : stamp_at (slice_set s.stamps n stamp) n ≡ stamp = get_or-set_same s.stamps n stamp 0 (omega arith) in
      let place : (j : ℕ) → j < length s.reached → stamp_at (s.reached ++ n ∷ []) j ≡ stamp_at s.reached j = (λ j b. get_or-append s.reached (n ∷ []) 0 j b) in
      let longer : length (s.reached ++ n ∷ []) ≡ length s.reached + 1 = length-append s.reached (n ∷ []) in
      let new : SearchValue = record { stamps = slice_set s.stamps n stamp; reached = s.reached ++ n ∷ []; met = s.met } in
      let more : (k : ℕ) → Taken g c s k → Taken g c new k = (λ k t. taken_more g c s new k (λ m j. In-left s.reached (n ∷ []) m j) (λ m h. h) t) in
      record {
        is = record {
          size = length-set s.stamps n stamp ∙ w.size;
          most = λ m. elim (cases_eq m n) [
            | inl e ↦ (let a : stamp_at (slice_set s.stamps n stamp) m ≡ stamp = subst (λ k. stamp_at (slice_set s.stamps n stamp) k ≡ stamp) (sym e) same in omega arith)
            | inr d ↦ (let a : stamp_at (slice_set s.stamps n stamp) m ≡ stamp_at s.stamps m = get_or-set_other s.stamps n m stamp 0 d in let b : stamp_at s.stamps m ≤ stamp = w.most m in omega arith)
          ];
          stamped = λ m j. elim (cases_eq m n) [
            | inl e ↦ subst (λ k. stamp_at (slice_set s.stamps n stamp) k ≡ stamp) (sym e) same
            | inr d ↦ elim (In-push s.reached n m j) [ inl k ↦ get_or-set_other s.stamps n m stamp 0 d ∙ w.stamped m k | inr e ↦ absurd (d e) ]
          ];
          known = λ m e. elim (cases_eq m n) [
            | inl q ↦ subst (λ k. In (s.reached ++ n ∷ []) k) (sym q) (In-pushed s.reached n)
            | inr d ↦ In-left s.reached (n ∷ []) m (w.known m (sym (get_or-set_other s.stamps n m stamp 0 d) ∙ e))
          ];
          apart = distinct_push s.reached n w.apart (λ j. fresh (w.stamped n j));
          inside = λ m j. elim (In-push s.reached n m j) [ inl k ↦ w.inside m k | inr e ↦ subst (λ k. (is_stop g c k ≡ false) × (k < node_count g)) (sym e) (free, l) ];
          own = λ m j. elim (In-push s.reached n m j) [ inl k ↦ w.own m k | inr e ↦ subst (λ k. mark_of once k ≡ false) (sym e) off ];
          path = λ m j. elim (In-push s.reached n m j) [ inl k ↦ w.path m k | inr e ↦ subst (λ k. Path g c k top) (sym e) p ];
          within = omega arith;
          closed = λ j q b e.
              let both = w.closed j q b (subst (λ k. pair_of g k ≡ Some q) (place j (omega arith)) e) in
              (more (q.x.0 / 2) both.0, more (q.y.0 / 2) both.1);
          met_size = w.met_size;
        };
        old' = λ m k. In-left s.reached (n ∷ []) m k;
        meets = Meets-refl g once c top s.met;
        longer = omega arith;
        places = place;
        taken = inr (inl (In-pushed s.reached n));
      }

  new_met : (s : SearchValue) (i n : ℕ) → IsReached g once c top stamp s i → n < node_count g → mark_of once n ≡ true → Path g c n top
      → Keeps g once c top stamp s (record { stamps = s.stamps; reached = s.reached; met = slice_set s.met n true }) i n
  new_met s i n w l on p =
      let new : SearchValue = record { stamps = s.stamps; reached = s.reached; met = slice_set s.met n true } in
      let stay : (m : ℕ) → mark_of s.met m ≡ true → mark_of new.met m ≡ true = (λ m h. mark_stays s.met n m h) in
      let more : (k : ℕ) → Taken g c s k → Taken g c new k = (λ k t. taken_more g c s new k (λ m j. j) stay t) in
      record {
        is = record {
          size = w.size;
          most = w.most;
          stamped = w.stamped;
          known = w.known;
          apart = w.apart;
          inside = w.inside;
          own = w.own;
          path = w.path;
          within = w.within;
          closed = λ j q b e. let both = w.closed j q b e in (more (q.x.0 / 2) both.0, more (q.y.0 / 2) both.1);
          met_size = length-set s.met n true ∙ w.met_size;
        };
        old' = λ m k. k;
        meets = record { only = λ m h. elim (mark_from s.met n m h) [ inl e ↦ inr (subst (λ k. once_in once k × Path g c k top) (sym e) (on, p)) | inr o ↦ inl o ]; kept = stay };
        longer = omega arith;
        places = λ j b. refl;
        taken = inr (inr (mark_here s.met n true (omega (arith, l, w.met_size))));
      }

  same_reached : (s : SearchValue) (i n : ℕ) → IsReached g once c top stamp s i → Taken g c s n → Keeps g once c top stamp s s i n
  same_reached s i n w t = record { is = w; old' = λ m k. k; meets = Meets-refl g once c top s.met; longer = omega arith; places = λ j b. refl; taken = t }

  pub reach_keeps : (s : SearchValue) (i n : ℕ) → IsReached g once c top stamp s i → n < node_count g → (is_stop g c n ≡ false → Path g c n top) → Keeps g once c top stamp s (reach g once c stamp s n) i n
  reach_keeps s i n w l p =
      let new : SearchValue = record { stamps = slice_set s.stamps n stamp; reached = s.reached ++ n ∷ []; met = s.met } in
      let meet : SearchValue = record { stamps = s.stamps; reached = s.reached; met = slice_set s.met n true } in
      choose (λ r. Keeps g once c top stamp s r i n) (is_stop g c n) s (cond (mark_of once n) meet (cond (eqb (stamp_at s.stamps n) stamp) s new))
      (λ t. same_reached s i n w (inl t))
      (λ t. choose (λ r. Keeps g once c top stamp s r i n) (mark_of once n) meet (cond (eqb (stamp_at s.stamps n) stamp) s new)
      (λ on. new_met s i n w l on (p t))
      (λ off. choose (λ r. Keeps g once c top stamp s r i n) (eqb (stamp_at s.stamps n) stamp) s new
      (λ e. same_reached s i n w (inr (inl (w.known n (eqb-true (stamp_at s.stamps n) stamp e)))))
      (λ e. new_reached s i n w l t off (eqb-false (stamp_at s.stamps n) stamp e) (p t))))

  pub fan_ins_keep : (s : SearchValue) (i : ℕ) (p : Pair) → IsReached g once c top stamp s i → i < length s.reached → pair_of g (stamp_at s.reached i) ≡ Some p → IsNormal (stamp_at s.reached i) p → Taken g c s top
      → IsReached g once c top stamp (reach g once c stamp (reach g once c stamp s (p.x.0 / 2)) (p.y.0 / 2)) (i + 1) × Taken g c (reach g once c stamp (reach g once c stamp s (p.x.0 / 2)) (p.y.0 / 2)) top × Meets g once c top s.met (reach g once c stamp (reach g once c stamp s (p.x.0 / 2)) (p.y.0 / 2)).met
  fan_ins_keep s i p w l at normal start =
      let m : ℕ = stamp_at s.reached i in
      let here_in : In s.reached m = In-get_or s.reached i 0 l in
      let own : IsInner g c m = stop_inner g c m (w.inside m here_in).1 (w.inside m here_in).0 in
      let node : IsNode g p m = record { above = own.and.0; is = at } in
      let a = reach_keeps s i (p.x.0 / 2) w (omega arith) (λ t. path_on g c (left p own node (here (stop_inner g c (p.x.0 / 2) (omega arith) t) refl)) (w.path m here_in)) in
      let mid : SearchValue = reach g once c stamp s (p.x.0 / 2) in
      let b = reach_keeps mid i (p.y.0 / 2) a.is (omega arith) (λ t. path_on g c (right p own node (here (stop_inner g c (p.y.0 / 2) (omega arith) t) refl)) (w.path m here_in)) in
      let new : SearchValue = reach g once c stamp mid (p.y.0 / 2) in
      let place : (j : ℕ) → j < length s.reached → stamp_at new.reached j ≡ stamp_at s.reached j = (λ j q. b.places j (omega arith) ∙ a.places j q) in
      let x_taken : Taken g c new (p.x.0 / 2) = taken_more g c mid new (p.x.0 / 2) b.old' b.meets.kept a.taken in (
        record {
          size = b.is.size;
          most = b.is.most;
          stamped = b.is.stamped;
          known = b.is.known;
          apart = b.is.apart;
          inside = b.is.inside;
          own = b.is.own;
          path = b.is.path;
          within = omega arith;
          closed = λ j q h e. elim (cases_lt j i) [
            | inl o ↦ b.is.closed j q o e
            | inr o ↦ (
                let k : j ≡ i = omega arith in
                let same : p ≡ q = same_Some p q (sym at ∙ subst (λ z. pair_of g z ≡ Some q) (ap (λ z. stamp_at new.reached z) k ∙ place i l) e) in
                subst (λ (r : Pair). Taken g c new (r.x.0 / 2) × Taken g c new (r.y.0 / 2)) same (x_taken, b.taken))
          ];
          met_size = b.is.met_size;
        },
        taken_more g c s new top (λ k j. b.old' k (a.old' k j)) (λ k h. b.meets.kept k (a.meets.kept k h)) start,
        Meets-trans g once c top s.met mid.met new.met a.meets b.meets,
      )

  -- where all that were reached are closed, each node of the cone is reached, or is at or below one that is met
  all_taken : (s : SearchValue) → IsReached g once c top stamp s (length s.reached) → (m : ℕ) → {n : ℕ} → Path g c m n → Taken g c s n → In s.reached m ⊎ IsBelowMet g s.met m
  all_taken s w m {n} path (inl h) = absurd (stopped g c m n path h)
  all_taken s w m {n} path (inr (inr h)) = inr (record { top = n; is_met = h; path = no_leaves_path g c path })
  all_taken s w m {n} (here t e) (inr (inl i)) = inl (subst (λ k. In s.reached k) e i)
  all_taken s w m {n} (left p t e q) (inr (inl i)) =
      let r = In-place s.reached n i in
      all_taken s w m q (w.closed r.0 p r.1 (subst (λ k. pair_of g k ≡ Some p) (sym r.2) e.is)).0
  all_taken s w m {n} (right p t e q) (inr (inl i)) =
      let r = In-place s.reached n i in
      all_taken s w m q (w.closed r.0 p r.1 (subst (λ k. pair_of g k ≡ Some p) (sym r.2) e.is)).1

  pub reached_few : (s : SearchValue) (i : ℕ) → IsReached g once c top stamp s i → length s.reached ≤ node_count g
  reached_few s i w = length-le_from_distinct_below s.reached (node_count g) w.apart (λ m t. (w.inside m (any_In s.reached m t)).1)

-- what is at or below a marked node is marked
pub once_below : (g : Aig) (once : List Bool) → AreClosed g once → (m : ℕ) → {n : ℕ} → Path g [] m n → once_in once n → once_in once m
once_below g once closed m (here t e) o = subst (λ k. once_in once k) e o
once_below g once closed m {n} (left p t is w) o = once_below g once closed m w (closed.each n p o is).0
once_below g once closed m {n} (right p t is w) o = once_below g once closed m w (closed.each n p o is).1

-- what the loop of a search keeps, where these nodes were met when it began
pub record Found (g : Aig) (once : List Bool) (c : List ℕ) (top stamp : ℕ) (before : List Bool) (s : SearchValue) (i : ℕ) : Type 0 where
  pub is : IsReached g once c top stamp s i
  pub start : Taken g c s top
  pub few : length s.reached ≤ node_count g
  pub meets : Meets g once c top before s.met

pub search_start : (g : Aig) (once : List Bool) (c : List ℕ) (top stamp : ℕ) (stamps : List ℕ) (met : List Bool) (new : SearchValue) → length stamps ≡ node_count g → ((m : ℕ) → stamp_at stamps m < stamp) → length met ≡ node_count g → top < node_count g
    → new ≡ reach g once c stamp (record { stamps = stamps; reached = []; met = met }) top → Found g once c top stamp new.met new 0 × Meets g once c top met new.met
search_start g once c top stamp stamps met new e fresh f l q =
    let old : SearchValue = record { stamps = stamps; reached = []; met = met } in
    let k = reach_keeps g once c top stamp old 0 top (reached_none g once c top stamp stamps met e fresh f) l (λ t. here (stop_inner g c top l t) refl) in
    subst (λ (s : SearchValue). Found g once c top stamp s.met s 0 × Meets g once c top met s.met) (sym q)
    (record { is = k.is; start = k.taken; few = reached_few g once c top stamp (reach g once c stamp old top) 0 k.is; meets = Meets-refl g once c top (reach g once c stamp old top).met }, k.meets)

pub search_step : (g : Aig) (once : List Bool) (c : List ℕ) (top stamp : ℕ) (before : List Bool) (s new : SearchValue) (i n : ℕ) (p : Pair) → Found g once c top stamp before s i → i < length s.reached → n ≡ stamp_at s.reached i → pair_of g n ≡ Some p → IsNormal n p
    → new ≡ reach g once c stamp (reach g once c stamp s (p.x.0 / 2)) (p.y.0 / 2) → Found g once c top stamp before new (i + 1)
search_step g once c top stamp before s new i n p f l e at normal q =
    let r = fan_ins_keep g once c top stamp s i p f.is l (subst (λ k. pair_of g k ≡ Some p) e at) (subst (λ k. IsNormal k p) e normal) f.start in
    let next : SearchValue = reach g once c stamp (reach g once c stamp s (p.x.0 / 2)) (p.y.0 / 2) in
    subst (λ s. Found g once c top stamp before s (i + 1)) (sym q) (record { is = r.0; start = r.1; few = reached_few g once c top stamp next (i + 1) r.0; meets = Meets-trans g once c top before s.met next.met f.meets r.2 })

pub found_and : (g : Aig) (once : List Bool) (c : List ℕ) (top stamp : ℕ) (before : List Bool) (s : SearchValue) (i n : ℕ) → Found g once c top stamp before s i → i < length s.reached → n ≡ stamp_at s.reached i → IsAnd g n
found_and g once c top stamp before s i n f l e =
    let both = f.is.inside (stamp_at s.reached i) (In-get_or s.reached i 0 l) in
    subst (λ k. IsAnd g k) (sym e) (past_sources g c (stamp_at s.reached i) both.0, both.1)

-- The search ends with the own nodes, and with all nodes met that are counted once.
module _ (g : Aig) (once : List Bool) (c : List ℕ) (top stamp : ℕ) (before first : List Bool) (s : SearchValue) (i : ℕ) (closed : AreClosed g once) (marked : (m : ℕ) → once_in before m → once_in once m)
    (start : Meets g once c top before first) (f : Found g once c top stamp first s i) (end : length s.reached ≤ i) where
  done : IsReached g once c top stamp s (length s.reached)
  done = subst (λ k. IsReached g once c top stamp s k) (let e : i ≡ length s.reached = omega (arith, end, f.is.within) in e) f.is

  meets : Meets g once c top before s.met
  meets = Meets-trans g once c top before first s.met start f.meets

  met_once : (m : ℕ) → IsBelowMet g s.met m → once_in once m
  met_once m b = once_below g once closed m b.path (elim (meets.only b.top b.is_met) [ inl o ↦ marked b.top o | inr r ↦ r.0 ])

  own_taken : (m : ℕ) → Path g c m top → (once_in once m → ⊥) → In s.reached m
  own_taken m p bar = elim (all_taken g once c top stamp s done m p f.start) [ inl j ↦ j | inr b ↦ absurd (bar (met_once m b)) ]

  once_taken : (m : ℕ) → Path g c m top → once_in once m → IsBelowMet g s.met m
  once_taken m p o = elim (all_taken g once c top stamp s done m p f.start) [ inl j ↦ absurd (false≢true (sym (f.is.own m j) ∙ o)) | inr b ↦ b ]

  pub reached_own : AreNormal (first_and g) g.pairs → top < node_count g → (size : ℕ) → size ≡ length s.reached → HasOwn g once c top size
  reached_own normal inside size e =
      let own = own_there g normal (once_in once) (marked_or_not once) c top inside in
      record {
        nodes = own.0;
        are = own.1;
        is = grind (arith, length_same, distinct_descending, false≢true, own_taken);
      }

  pub reached_meets : MeetsCone g once c top before s.met
  reached_meets = record { size = f.is.met_size; only = meets.only; kept = meets.kept; all = once_taken }
