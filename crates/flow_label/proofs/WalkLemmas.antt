-- The walk down through deep nodes, reading by reading.
use Rattle.flow_label.proofs.Common.{◌≡◌, ℕ, ◌+◌, ◌/◌, ◌<◌, ◌≤◌, List, [], ◌∷◌, ◌++◌, length, get_or, set, get_or-set_other, get_or-set_same, length-set, length-append, refl, sym, ap, ◌∙◌, subst, inl, inr, ◌⊎◌, arith, cases_eq, cases_lt, get_or-append, Aig, first_and, node_count, IsAnd, IsNode, AreNormal, Pair, In, In-get_or, In-left, In-right, In-push, IsLive, AreKnownTo, label_at, source_below, Regular, IsFanIn, first, second, pushed_apart, In-place, FlowNet, net_at, IsUpper, IsEnd, IsMet, AreReaders}
use Rattle.flow_label.specs.Walks.{HasRead, free, again, low, deep, IsWalked}
use Rattle.flow_label.proofs.OnceLemmas.{once_few}
use Rattle.flow_label.proofs.GraphLemmas.{fan_in_below, fan_in_cases, live_inside}

module _ (g : Aig) (ls : List ℕ) (n h : ℕ) (normal : AreNormal (first_and g) g.pairs) (node : IsAnd g n) (high : 2 ≤ h) (known : AreKnownTo g n (label_at ls)) where
  -- a deep node is an AND node
  deep_and : (m : ℕ) → IsLive g (label_at ls) m → h ≤ label_at ls m + 1 → IsAnd g m
  deep_and m (inl s) d = let z : label_at ls m ≡ 0 = known.sources m (source_below g Regular m s) in absurd (omega arith)
  deep_and m (inr a) d = a.0

  -- One reading: m, a fan-in of v, is met.
  module _ (m v : ℕ) (readers uppers ends : List ℕ) (done : ℕ) (size : length readers ≡ node_count g) (w : IsWalked (net_at g ls n h readers) uppers ends done) (upper : In uppers v) (reads : IsFanIn g m v)
      (live : IsLive g (label_at ls) m) (fresh : get_or readers m 0 ≡ 0) where
    v_pos : 0 < v
    v_pos = let a : first_and g ≤ v = (w.uppers_are.only v upper).1.0 in omega arith

    m_below : m < n
    m_below = let a : m < v = fan_in_below g m v normal reads in let b : v ≤ n = (w.uppers_are.only v upper).2 in omega arith

    there : get_or (set readers m v) m 0 ≡ v
    there = get_or-set_same readers m v 0 (let l : m < node_count g = live_inside g (label_at ls) m live in omega arith)

    -- what was met is met still, with its reader
    kept : (x : ℕ) → 0 < get_or readers x 0 → get_or (set readers m v) x 0 ≡ get_or readers x 0
    kept x l = get_or-set_other readers m x v 0 (λ e. let f : get_or readers x 0 ≡ get_or readers m 0 = ap (λ y. get_or readers y 0) e in absurd (omega arith))

    kept_pos : (x : ℕ) → 0 < get_or readers x 0 → 0 < get_or (set readers m v) x 0
    kept_pos x l = let e : get_or (set readers m v) x 0 ≡ get_or readers x 0 = kept x l in omega arith

    met_pos : 0 < get_or (set readers m v) m 0
    met_pos = let e : get_or (set readers m v) m 0 ≡ v = there in let p : 0 < v = v_pos in omega arith

    upper_still : (x : ℕ) → IsUpper (net_at g ls n h readers) x → IsUpper (net_at g ls n h (set readers m v)) x
    upper_still x (inl e) = inl e
    upper_still x (inr u) = inr (kept_pos x u.0, u.1)

    upper_cases : (x : ℕ) → IsUpper (net_at g ls n h (set readers m v)) x → IsUpper (net_at g ls n h readers) x ⊎ (x ≡ m)
    upper_cases x (inl e) = inl (inl e)
    upper_cases x (inr u) = elim (cases_eq x m) [ inl e ↦ inr e | inr ne ↦ inl (inr ((let e : get_or (set readers m v) x 0 ≡ get_or readers x 0 = get_or-set_other readers m x v 0 ne in let p : 0 < get_or (set readers m v) x 0 = u.0 in omega arith), u.1)) ]

    end_still : (x : ℕ) → IsEnd (net_at g ls n h readers) x → IsEnd (net_at g ls n h (set readers m v)) x
    end_still x e = record { met = kept_pos x e.met; low = e.low }

    end_cases : (x : ℕ) → IsEnd (net_at g ls n h (set readers m v)) x → IsEnd (net_at g ls n h readers) x ⊎ (x ≡ m)
    end_cases x e = elim (cases_eq x m) [ inl q ↦ inr q | inr ne ↦ inl (record { met = (let f : get_or (set readers m v) x 0 ≡ get_or readers x 0 = get_or-set_other readers m x v 0 ne in let p : 0 < get_or (set readers m v) x 0 = e.met in omega arith); low = e.low }) ]

    met_old : (x : ℕ) → 0 < get_or readers x 0 → IsMet (net_at g ls n h (set readers m v)) x
    met_old x l =
        let r = w.met x l in
        let e : get_or (set readers m v) x 0 ≡ get_or readers x 0 = kept x l in
        record {
          live = r.live;
          reads = subst (λ i. IsFanIn g x i) (sym e) r.reads;
          upper = subst (λ i. IsUpper (net_at g ls n h (set readers m v)) i) (sym e) (upper_still (get_or readers x 0) r.upper);
          below = r.below;
        }

    met_all : (x : ℕ) → 0 < get_or (set readers m v) x 0 → IsMet (net_at g ls n h (set readers m v)) x
    met_all x l = elim (cases_eq x m) [
      | inl e ↦ subst (λ y. IsMet (net_at g ls n h (set readers m v)) y) (sym e) (record {
        live = live;
        reads = subst (λ i. IsFanIn g m i) (sym there) reads;
        upper = subst (λ i. IsUpper (net_at g ls n h (set readers m v)) i) (sym there) (upper_still v (w.uppers_are.only v upper).0);
        below = m_below;
      })
      | inr ne ↦ met_old x (let e : get_or (set readers m v) x 0 ≡ get_or readers x 0 = get_or-set_other readers m x v 0 ne in omega arith)
    ]

    -- m was in neither list
    not_upper : In uppers m → ⊥
    not_upper i = elim (w.uppers_are.only m i).0 [ inl e ↦ (let l : m < n = m_below in absurd (omega arith)) | inr u ↦ (let p : 0 < get_or readers m 0 = u.0 in absurd (omega arith)) ]

    not_end : In ends m → ⊥
    not_end i = let p : 0 < get_or readers m 0 = (w.ends_are.only m i).met in absurd (omega arith)

    read_low : label_at ls m + 1 < h → IsWalked (net_at g ls n h (set readers m v)) uppers (ends ++ m ∷ []) done
    read_low l = record {
      met = met_all;
      uppers_are = record {
        once = w.uppers_are.once;
        only = λ x i. let r = w.uppers_are.only x i in (upper_still x r.0, r.1, r.2);
        all = λ x u. elim (upper_cases x u) [
          | inl o ↦ w.uppers_are.all x o
          | inr e ↦ elim u [
            | inl q ↦ (let b : m < n = m_below in absurd (omega arith))
            | inr d ↦ (let t : h ≤ label_at ls x + 1 = d.1 in let q : label_at ls x ≡ label_at ls m = ap (label_at ls) e in absurd (omega arith))
          ]
        ];
      };
      ends_are = record {
        once = pushed_apart ends m w.ends_are.once not_end;
        only = λ x i. elim (In-push ends m x i) [ inl j ↦ end_still x (w.ends_are.only x j) | inr e ↦ subst (λ y. IsEnd (net_at g ls n h (set readers m v)) y) (sym e) (record { met = met_pos; low = l }) ];
        all = λ x e. elim (end_cases x e) [ inl o ↦ In-left ends (m ∷ []) x (w.ends_are.all x o) | inr q ↦ In-right ends (m ∷ []) x (inl q) ];
      };
      within = w.within;
      read = λ j x l f c. kept_pos x (w.read j x l f c);
    }

    read_deep : h ≤ label_at ls m + 1 → IsWalked (net_at g ls n h (set readers m v)) (uppers ++ m ∷ []) ends done
    read_deep d =
        let len : length (uppers ++ m ∷ []) ≡ length uppers + 1 = length-append uppers (m ∷ []) in
        let in_done : done ≤ length uppers = w.within in
        record {
          met = met_all;
          uppers_are = record {
            once = pushed_apart uppers m w.uppers_are.once not_upper;
            only = λ x i. elim (In-push uppers m x i) [
              | inl j ↦ (let r = w.uppers_are.only x j in (upper_still x r.0, r.1, r.2))
              | inr e ↦ subst (λ y. IsUpper (net_at g ls n h (set readers m v)) y × IsAnd g y × (y ≤ n)) (sym e) (inr (met_pos, d), deep_and m live d, (let b : m < n = m_below in omega arith))
            ];
            all = λ x u. elim (upper_cases x u) [ inl o ↦ In-left uppers (m ∷ []) x (w.uppers_are.all x o) | inr e ↦ In-right uppers (m ∷ []) x (inl e) ];
          };
          ends_are = record {
            once = w.ends_are.once;
            only = λ x i. end_still x (w.ends_are.only x i);
            all = λ x e. elim (end_cases x e) [
              | inl o ↦ w.ends_are.all x o
              | inr q ↦ (let l : label_at ls x + 1 < h = e.low in let r : label_at ls x ≡ label_at ls m = ap (label_at ls) q in absurd (omega arith))
            ];
          };
          within = omega arith;
          read = λ j x l f c. kept_pos x (w.read j x l (subst (λ y. IsFanIn g x y) (get_or-append uppers (m ∷ []) 0 j (omega arith)) f) c);
        }

  -- what a reading keeps and gives
  record IsRead (m : ℕ) (readers uppers readers' uppers' ends' : List ℕ) (done : ℕ) : Type 0 where
    walked : IsWalked (net_at g ls n h readers') uppers' ends' done
    size : length readers' ≡ node_count g
    met : IsLive g (label_at ls) m → 0 < get_or readers' m 0
    kept : (x : ℕ) → 0 < get_or readers x 0 → 0 < get_or readers' x 0
    uppers_kept : (x : ℕ) → In uppers x → In uppers' x
    longer : length uppers ≤ length uppers'
    same : (j : ℕ) → j < length uppers → get_or uppers' j 0 ≡ get_or uppers j 0

  read_one : (m v : ℕ) (readers uppers ends readers' uppers' ends' : List ℕ) (done : ℕ) → length readers ≡ node_count g → IsWalked (net_at g ls n h readers) uppers ends done → In uppers v → IsFanIn g m v
      → HasRead g (label_at ls) h m v readers uppers ends readers' uppers' ends' → IsRead m readers uppers readers' uppers' ends' done
  read_one m v readers uppers ends readers' uppers' ends' done size w upper reads (free never r u e) = rw (r, u, e) (record { walked = w; size = size; met = λ live. absurd (never live); kept = λ x l. l; uppers_kept = λ x i. i; longer = omega arith; same = λ j l. refl })
  read_one m v readers uppers ends readers' uppers' ends' done size w upper reads (again was r u e) = rw (r, u, e) (record { walked = w; size = size; met = λ live. was; kept = λ x l. l; uppers_kept = λ x i. i; longer = omega arith; same = λ j l. refl })
  read_one m v readers uppers ends readers' uppers' ends' done size w upper reads (low live fresh l r u e) = rw (r, u, e) (record {
    walked = read_low m v readers uppers ends done size w upper reads live fresh l;
    size = length-set readers m v ∙ size;
    met = λ _. met_pos m v readers uppers ends done size w upper reads live fresh;
    kept = λ x p. kept_pos m v readers uppers ends done size w upper reads live fresh x p;
    uppers_kept = λ x i. i;
    longer = omega arith;
    same = λ j b. refl;
  })
  read_one m v readers uppers ends readers' uppers' ends' done size w upper reads (deep live fresh d r u e) = rw (r, u, e) (record {
    walked = read_deep m v readers uppers ends done size w upper reads live fresh d;
    size = length-set readers m v ∙ size;
    met = λ _. met_pos m v readers uppers ends done size w upper reads live fresh;
    kept = λ x p. kept_pos m v readers uppers ends done size w upper reads live fresh x p;
    uppers_kept = λ x i. In-left uppers (m ∷ []) x i;
    longer = (let a : length (uppers ++ m ∷ []) ≡ length uppers + 1 = length-append uppers (m ∷ []) in omega arith);
    same = λ j b. get_or-append uppers (m ∷ []) 0 j b;
  })

  -- the upper node at a place has read both of its fan-ins
  pub read_both : (p : Pair) (place : ℕ) (readers uppers ends readers1 uppers1 ends1 readers2 uppers2 ends2 : List ℕ) → length readers ≡ node_count g → IsWalked (net_at g ls n h readers) uppers ends place → place < length uppers
      → IsNode g p (get_or uppers place 0)
      → HasRead g (label_at ls) h (p.x.0 / 2) (get_or uppers place 0) readers uppers ends readers1 uppers1 ends1
      → HasRead g (label_at ls) h (p.y.0 / 2) (get_or uppers place 0) readers1 uppers1 ends1 readers2 uppers2 ends2
      → IsWalked (net_at g ls n h readers2) uppers2 ends2 (place + 1)
  read_both p place readers uppers ends readers1 uppers1 ends1 readers2 uppers2 ends2 size w inside is one two =
      let a = read_one (p.x.0 / 2) (get_or uppers place 0) readers uppers ends readers1 uppers1 ends1 place size w (In-get_or uppers place 0 inside) (first p is refl) one in
      let b = read_one (p.y.0 / 2) (get_or uppers place 0) readers1 uppers1 ends1 readers2 uppers2 ends2 place a.size a.walked (a.uppers_kept (get_or uppers place 0) (In-get_or uppers place 0 inside)) (second p is refl) two in
      record {
        met = b.walked.met;
        uppers_are = b.walked.uppers_are;
        ends_are = b.walked.ends_are;
        within = omega arith;
        read = λ j x l f c. elim (cases_lt j place) [
          | inl o ↦ b.walked.read j x o f c
          | inr o ↦ (let q : j ≡ place = omega arith in
              elim (fan_in_cases g x (get_or uppers place 0) p is (subst (λ y. IsFanIn g x y) (ap (λ i. get_or uppers2 i 0) q ∙ (b.same place (omega arith) ∙ a.same place inside)) f)) [
                | inl e ↦ b.kept x (subst (λ y. 0 < get_or readers1 y 0) (sym e) (a.met (subst (λ y. IsLive g (label_at ls) y) e c)))
                | inr e ↦ subst (λ y. 0 < get_or readers2 y 0) (sym e) (b.met (subst (λ y. IsLive g (label_at ls) y) e c))
              ])
        ];
      }

  pub read_size : (m v : ℕ) (readers uppers ends readers' uppers' ends' : List ℕ) → HasRead g (label_at ls) h m v readers uppers ends readers' uppers' ends' → length readers' ≡ length readers
  read_size m v readers uppers ends readers' uppers' ends' (free never r u e) = ap length r
  read_size m v readers uppers ends readers' uppers' ends' (again was r u e) = ap length r
  read_size m v readers uppers ends readers' uppers' ends' (low live fresh l r u e) = ap length r ∙ length-set readers m v
  read_size m v readers uppers ends readers' uppers' ends' (deep live fresh l r u e) = ap length r ∙ length-set readers m v

-- all upper nodes have read
pub walk_all : (net : FlowNet) (uppers ends : List ℕ) (done : ℕ) → IsWalked net uppers ends done → length uppers ≤ done → AreReaders net
walk_all net uppers ends done w all = record {
  met = w.met;
  all = λ m v u f live. let r = In-place uppers v (w.uppers_are.all v u) in let l : r.0 < length uppers = r.1 in w.read r.0 m (omega arith) (subst (λ x. IsFanIn net.graph m x) (sym r.2) f) live;
}

-- there are no more upper nodes than nodes
pub uppers_short : (net : FlowNet) (uppers ends : List ℕ) (done : ℕ) → IsWalked net uppers ends done → length uppers ≤ net.node + 1
uppers_short net uppers ends done w = once_few uppers (net.node + 1) w.uppers_are.once (λ x i. let l : x ≤ net.node = (w.uppers_are.only x i).2 in omega arith)
