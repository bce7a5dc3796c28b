-- What is at or below a floor, and what is linked there.
use Rattle.flow_label.proofs.Common.{◌≡◌, ℕ, ◌+◌, ◌<◌, ◌≤◌, ◌⊎◌, true, false, List, length, get_or, refl, inl, inr, arith, cases_eq, cases_lt, first_and, node_count, IsAnd, IsSource, Regular, Aig, AreNormal, In, AreApart, apart_short, regular_blocked, Blocks, IsLive, AreKnownTo, SiteValue, net_of, net_on, net_at, is_linked, is_inner, IsInner, IsEnd, IsNet, IsOpen, IsRoot, IsMet, AreReaders, AreEnds, IsTight, owner_in, AreIndependent, AreTrunks, IsGround, label_at}

-- down to the sources all live nodes are open
full_linked : (g : Aig) (floor : ℕ) (until : List ℕ) (m : ℕ) → floor ≡ length g.kinds → is_linked g floor until m ≡ true
full_linked g floor until m e = grind arith

pub full_open : (site : SiteValue) (m : ℕ) → site.floor ≡ length site.graph.kinds → IsLive site.graph (label_at site.labels) m → IsOpen (net_of site) m
full_open site m e live = record { live = live; reached = inr (full_linked site.graph site.floor site.until m e) }

pub full_tight : (site : SiteValue) (owners queue : List ℕ) → IsNet (net_of site) → site.floor ≡ length site.graph.kinds → IsTight (net_of site) (owner_in site owners) queue
full_tight site owners queue is e = record {
  ends = λ u end. full_open site u e (is.met u end.met).0;
  passed = λ u m i inner f live. full_open site m e live;
}

-- an open node is linked or above the floor, and a linked one of a floor above the sources is so by its number
pub linked_until : (g : Aig) (floor : ℕ) (until : List ℕ) (m : ℕ) → is_linked g floor until m ≡ true → (floor ≤ get_or until m 0) ⊎ (floor ≡ length g.kinds)
linked_until g floor until m e = elim (cases_eq floor (length g.kinds)) [ inl q ↦ inr q | inr ne ↦ elim (cases_lt (get_or until m 0) floor) [ inr l ↦ inl l | inl l ↦ absurd (not_linked g floor until m ne l e) ] ]
  where
    not_linked : (g : Aig) (floor : ℕ) (until : List ℕ) (m : ℕ) → (floor ≡ length g.kinds → ⊥) → get_or until m 0 < floor → is_linked g floor until m ≡ true → ⊥
    not_linked g floor until m ne l e = grind arith

-- the regular sources are independent
pub rooted : (g : Aig) (n floor : ℕ) (labels until : List ℕ) (h : ℕ) (readers : List ℕ) → IsGround g n floor until → AreIndependent g (IsRoot (net_on g labels n h readers floor until))
rooted g n floor labels until h readers ground = record {
  few = λ ms d once roots blocked. elim ground.linked [
    | inr linked ↦ elim (cases_eq floor (length g.kinds)) [
      | inl e ↦ sources_few g labels n h readers floor until e ms d once roots blocked
      | inr ne ↦ linked.few ms d once (λ m i. ((roots m i).below, elim (linked_until g floor until m (roots m i).linked) [ inl l ↦ l | inr e ↦ absurd (ne e) ])) blocked
    ]
    | inl e ↦ sources_few g labels n h readers floor until e ms d once roots blocked
  ];
}
  where
    sources_few : (g : Aig) (labels : List ℕ) (n h : ℕ) (readers : List ℕ) (floor : ℕ) (until : List ℕ) → floor ≡ length g.kinds → (ms d : List ℕ) → AreApart ms → ((m : ℕ) → In ms m → IsRoot (net_on g labels n h readers floor until) m) → ((m : ℕ) → In ms m → Blocks g d m) → length ms ≤ length d
    sources_few g labels n h readers floor until e ms d once roots blocked = apart_short ms d once (λ m i. regular_blocked g d (source g labels n h readers floor until e m (roots m i)) (blocked m i))
      where
        source : (g : Aig) (labels : List ℕ) (n h : ℕ) (readers : List ℕ) (floor : ℕ) (until : List ℕ) → floor ≡ length g.kinds → (m : ℕ) → IsRoot (net_on g labels n h readers floor until) m → IsSource g Regular m
        source g labels n h readers floor until e m r = elim r.live [ inl s ↦ s | inr and ↦ (let a : first_and g ≤ m = and.0.0 in let b : m ≤ floor = r.below in absurd (omega arith)) ]

-- the readers and the ends don't depend on the floor
module _ (g : Aig) (labels : List ℕ) (n h : ℕ) (readers : List ℕ) (floor : ℕ) (until : List ℕ) where
  met_on : (m : ℕ) → IsMet (net_at g labels n h readers) m → IsMet (net_on g labels n h readers floor until) m
  met_on m is = record { live = is.live; reads = is.reads; upper = is.upper; below = is.below }

  pub readers_on : AreReaders (net_at g labels n h readers) → AreReaders (net_on g labels n h readers floor until)
  readers_on are = record { met = λ m p. met_on m (are.met m p); all = λ m v u f l. are.all m v u f l }

  pub ends_on : (ends : List ℕ) → AreEnds (net_at g labels n h readers) ends → AreEnds (net_on g labels n h readers floor until) ends
  ends_on ends are = record {
    once = are.once;
    only = λ u i. (let e : IsEnd (net_at g labels n h readers) u = are.only u i in record { met = e.met; low = e.low });
    all = λ u e. are.all u (record { met = e.met; low = e.low });
  }

  -- the net above a ground
  pub net_is : IsAnd g n → 2 ≤ h → AreNormal (first_and g) g.pairs → AreKnownTo g n (label_at labels) → AreReaders (net_at g labels n h readers) → IsGround g n floor until → IsNet (net_on g labels n h readers floor until)
  net_is and high normal known are ground = record {
    and = and;
    high = high;
    normal = normal;
    known = known;
    met = λ m p. (let r : IsMet (net_at g labels n h readers) m = are.met m p in (r.live, r.below));
    sources = ground.sources;
    under = ground.under;
    rooted = rooted g n floor labels until h readers ground;
  }

-- down to the sources there is a ground below each AND node
pub full_ground : (g : Aig) (n : ℕ) (until : List ℕ) → IsAnd g n → IsGround g n (length g.kinds) until
full_ground g n until and = record { sources = omega arith; under = (let a : 1 + length g.kinds ≤ n = and.0 in omega arith); linked = inl refl }

-- a floor of the trunks is a ground
pub floor_ground : (g : Aig) (n : ℕ) (floors until : List ℕ) (top b : ℕ) → AreTrunks g n floors until top → In floors b → IsGround g n b until
floor_ground g n floors until top b t i = let r = t.inside b i in record { sources = omega (arith, r.0); under = r.2; linked = inr (t.linked b i) }

-- and so is the top
pub top_ground : (g : Aig) (n m : ℕ) (floors until : List ℕ) (top : ℕ) → AreTrunks g n floors until top → top < m → IsGround g m top until
top_ground g n m floors until top t below = record {
  sources = t.sources;
  under = below;
  linked = elim t.last [ inl e ↦ inl e | inr i ↦ inr (t.linked top i) ];
}

-- the floors are below later nodes too
pub trunks_later : (g : Aig) (n m : ℕ) (floors until : List ℕ) (top : ℕ) → n ≤ m → AreTrunks g n floors until top → AreTrunks g m floors until top
trunks_later g n m floors until top le t = record {
  size = t.size;
  sources = t.sources;
  last = t.last;
  inside = λ b i. (let r = t.inside b i in (r.0, r.1, omega (arith, r.2)));
  linked = t.linked;
  most = t.most;
}

-- is a node an inner one
pub inner_true : (site : SiteValue) (m : ℕ) → IsNet (net_of site) → is_inner site m ≡ true → IsInner (net_of site) m
inner_true site m is e = let a : length site.graph.kinds ≤ site.floor = is.sources in let b : site.node < node_count site.graph = is.and.1 in grind arith

pub inner_false : (site : SiteValue) (m : ℕ) → is_inner site m ≡ false → IsInner (net_of site) m → ⊥
inner_false site m e i = let a : site.floor < m = i.above in let b : m < site.node = i.below in let c : label_at site.labels m + 1 < site.height = i.low in let d : 1 ≤ label_at site.labels m = i.live in grind arith
