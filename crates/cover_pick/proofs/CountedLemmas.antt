-- The work of LUTs as it is counted is their work: that of each by itself, and the nodes that are counted once.
use Rattle.cover_pick.proofs.Common.{◌≡◌, ℕ, ◌+◌, ◌*◌, ◌/◌, ◌^◌, ◌<◌, ◌≤◌, Bool, false, List, [], ◌∷◌, length, refl, sym, ap, ◌∙◌, subst, inl, inr, arith, replicate, length-replicate, false≢true, get_or-replicate, get_or_past, cases_lt, Aig, first_and, node_count, AreNormal, In, Lut, MOST_WORK, MOST_LEAVES, Path, here, left, right, IsTableWork, IsOwnWork, AreShared, IsWork, mark_of, once_in, IsBelowMet, MeetsCone, HasBelowMet, IsPast, AreCountable, CountOnce, AreMet, IsOwnWorkTo, AscendByLit, SearchValue, stamp_at, rules}
use Rattle.cover_pick.proofs.OwnLemmas.{path_on, marked_or_not, works_there, shared_there}

-- bits of a LUT and nodes of a cone are few
pub work_small : (bits size count : ℕ) → bits ≤ 2 ^ MOST_LEAVES → size ≤ count → count ≤ 2 ^ 30 → bits * (1 + size) ≤ 2 ^ 37
work_small bits size count b s l = grind arith

clear : (n m : ℕ) → mark_of (replicate n false) m ≡ false
clear n m = search (rules, cases_lt, get_or-replicate, get_or_past, length-replicate)

-- no marks are of nodes that can be counted once
pub none_once : (g : Aig) (ts : List Lut) → CountOnce g ts []
none_once g ts = record { closed = record { each = λ n p e is. absurd (false≢true e) }; barred = record { each = λ n e t j i. false≢true e } }

pub met_start : (g : Aig) (once : List Bool) (ts : List Lut) → AreMet g once ts ts (replicate (node_count g) false)
met_start g once ts = record { size = length-replicate (node_count g) false; only = λ m e. absurd (false≢true (sym (clear (node_count g) m) ∙ e)); all = λ t i. inl i }

met_step : (g : Aig) (once : List Bool) (ts later : List Lut) (t : Lut) (old new : List Bool) → In ts t → MeetsCone g once t.leaves (t.lit.0 / 2) old new → AreMet g once ts (t ∷ later) old → AreMet g once ts later new
met_step g once ts later t old new among m a = search rules

own_start : (g : Aig) (once : ℕ → Type 0) (ts : List Lut) → IsOwnWorkTo g once ts ts 0
own_start g once ts = record { more = λ rest is. let e : rest ≡ 0 + rest = omega arith in subst (λ w. IsOwnWork g once ts w) e is }

own_step : (g : Aig) (once : ℕ → Type 0) (ts later : List Lut) (t : Lut) (work first : ℕ) → IsTableWork g once t first → IsOwnWorkTo g once ts (t ∷ later) work → IsOwnWorkTo g once ts later (work + first)
own_step g once ts later t work first is a = record {
  more = λ rest r. let e : work + (first + rest) ≡ work + first + rest = omega arith in subst (λ w. IsOwnWork g once ts w) e (a.more (first + rest) (first, rest, is, r, refl));
}

pub own_end : (g : Aig) (once : ℕ → Type 0) (ts : List Lut) (work : ℕ) → IsOwnWorkTo g once ts [] work → IsOwnWork g once ts work
own_end g once ts work a = let e : work + 0 ≡ work = omega arith in subst (λ w. IsOwnWork g once ts w) e (a.more 0 refl)

-- where the work so far is past the limit, all is
own_past : (g : Aig) (once : List Bool) (ts later : List Lut) (work : ℕ) → AreNormal (first_and g) g.pairs → AreCountable g ts → ((t : Lut) → In later t → In ts t) → IsOwnWorkTo g (once_in once) ts later work → MOST_WORK < work → IsPast g (once_in once) ts
own_past g once ts later work normal are among a l =
    let rest = works_there g normal (once_in once) (marked_or_not once) later (λ t i. are.inside t (among t i)) in
    let shared = shared_there g normal (once_in once) (marked_or_not once) ts are.inside in
    record { work = work + rest.0 + length shared.0; is = record { own = work + rest.0; is_own = a.more rest.0 rest.1; shared = shared.0; are_shared = shared.1; work_is = refl }; past = omega arith }

-- what is kept while the work of each LUT is added
pub record AreOwnCounted (g : Aig) (once : List Bool) (ts later : List Lut) (work : ℕ) (s : SearchValue) : Type 0 where
  pub own : IsOwnWorkTo g (once_in once) ts later work
  pub within : work ≤ MOST_WORK
  pub met : AreMet g once ts later s.met
  pub len : length s.stamps ≡ node_count g
  pub stamps : (t : Lut) → In later t → (n : ℕ) → stamp_at s.stamps n ≤ t.lit.0
  pub ascending : AscendByLit later
  pub among : (t : Lut) → In later t → In ts t

pub counted_start : (g : Aig) (once : List Bool) (ts : List Lut) (s : SearchValue) → AreCountable g ts → AreMet g once ts ts s.met → length s.stamps ≡ node_count g → ((n : ℕ) → stamp_at s.stamps n ≡ 0) → AreOwnCounted g once ts ts 0 s
counted_start g once ts s are met e z = record { own = own_start g (once_in once) ts; within = omega arith; met = met; len = e; stamps = λ t i n. omega (arith, z n); ascending = are.ascending; among = λ t i. i }

pub counted_step : (g : Aig) (once : List Bool) (ts later rest : List Lut) (t : Lut) (work first : ℕ) (s new : SearchValue) → later ≡ t ∷ rest → IsTableWork g (once_in once) t first → work + first ≤ MOST_WORK → length new.stamps ≡ node_count g → ((n : ℕ) → stamp_at new.stamps n ≤ t.lit.0 + 1)
    → MeetsCone g once t.leaves (t.lit.0 / 2) s.met new.met → AreOwnCounted g once ts later work s → AreOwnCounted g once ts rest (work + first) new
counted_step g once ts later rest t work first s new e is l len stamps m a0 =
    let a : AreOwnCounted g once ts (t ∷ rest) work s = subst (λ (us : List Lut). AreOwnCounted g once ts us work s) e a0 in
    record {
      own = own_step g (once_in once) ts rest t work first is a.own;
      within = l;
      met = met_step g once ts rest t s.met new.met (a.among t (inl refl)) m a.met;
      len = len;
      stamps = λ u i n. omega (arith, stamps n, a.ascending.0 u i);
      ascending = a.ascending.1;
      among = λ u i. a.among u (inr i);
    }

pub counted_past : (g : Aig) (once : List Bool) (ts later rest : List Lut) (t : Lut) (work first : ℕ) (s : SearchValue) → later ≡ t ∷ rest → AreNormal (first_and g) g.pairs → AreCountable g ts → IsTableWork g (once_in once) t first → MOST_WORK < work + first → AreOwnCounted g once ts later work s → IsPast g (once_in once) ts
counted_past g once ts later rest t work first s e normal are is l a0 =
    let a : AreOwnCounted g once ts (t ∷ rest) work s = subst (λ (us : List Lut). AreOwnCounted g once ts us work s) e a0 in
    own_past g once ts rest (work + first) normal are (λ u i. a.among u (inr i)) (own_step g (once_in once) ts rest t work first is a.own) l

-- a way down from a marked node passes marked nodes alone, so no leaf
marked_way : (g : Aig) (once : List Bool) (ts : List Lut) (t : Lut) → CountOnce g ts once → In ts t → (m : ℕ) → {n : ℕ} → Path g [] m n → once_in once n → once_in once m × Path g t.leaves m n
marked_way g once ts t can among m {n} (here i e) o = (subst (λ k. once_in once k) e o, here (record { and = i.and; apart = can.barred.each n o t among }) e)
marked_way g once ts t can among m {n} (left p i is w) o =
    let r = marked_way g once ts t can among m w (can.closed.each n p o is).0 in
    (r.0, left p (record { and = i.and; apart = can.barred.each n o t among }) is r.1)
marked_way g once ts t can among m {n} (right p i is w) o =
    let r = marked_way g once ts t can among m w (can.closed.each n p o is).1 in
    (r.0, right p (record { and = i.and; apart = can.barred.each n o t among }) is r.1)

-- The nodes at or below those that were met are the shared ones.
pub shared_met : (g : Aig) (once : List Bool) (ts : List Lut) (met : List Bool) (count : ℕ) → CountOnce g ts once → AreMet g once ts [] met → (b : HasBelowMet g met count) → AreShared g (once_in once) ts b.nodes
shared_met g once ts met count can are b = record {
  descending = b.are.descending;
  only = λ m i.
      let u = b.are.only m i in
      let r = are.only u.top u.is_met in
      let w = marked_way g once ts r.1 can r.2 m u.path r.0 in
      (w.0, r.1, r.2, path_on g r.1.leaves w.1 r.3);
  all = λ m t i p o. elim (are.all t i) [ inl j ↦ absurd j | inr f ↦ b.are.all m (f m p o) ];
}

pub work_met : (g : Aig) (once : List Bool) (ts : List Lut) (met : List Bool) (own count : ℕ) → CountOnce g ts once → AreMet g once ts [] met → IsOwnWork g (once_in once) ts own → HasBelowMet g met count → IsWork g (once_in once) ts (own + count)
work_met g once ts met own count can are is b = record { own = own; is_own = is; shared = b.nodes; are_shared = shared_met g once ts met count can are b; work_is = ap (λ n. own + n) b.is }
