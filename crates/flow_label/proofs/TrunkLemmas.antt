-- Linking nodes at one floor after another.
use Rattle.flow_label.proofs.Common.{◌≡◌, ℕ, ◌+◌, ◌<◌, ◌≤◌, ◌⊎◌, List, [], ◌∷◌, ◌++◌, length, get_or, set, refl, sym, ap, ◌∙◌, subst, inl, inr, arith, cases_eq, cases_lt, get_or-set_other, get_or-set_same, first_and, node_count, IsAnd, Aig, AreNormal, In, In-push, In-left, In-right, pushed_apart, IsLive, AreKnownTo, SiteValue, net_of, net_on, IsNet, IsOpen, AreEnds, AreLinks, owner_in, IsLinkedAt, AreTrunks, IsGround, AreNext, IsStretched, AreProposed, label_at, zeros, HasTrunks, KeepsTrunks}
use Rattle.flow_label.specs.declared.scratch.Trunks.{Trunks}
use Rattle.flow_label.proofs.GraphLemmas.{live_inside}
use Rattle.flow_label.proofs.StampLemmas.{zero_at}
use Rattle.flow_label.proofs.NearestLemmas.{ends_few}
use Rattle.flow_label.proofs.FloorLemmas.{rooted, linked_until}

-- one more node at which a path is to end
pub proposed_more : (g : Aig) (label : ℕ → ℕ) (n : ℕ) (marks nodes : List ℕ) (m : ℕ) → AreProposed g label n marks nodes → m < n → IsLive g label m → get_or marks m 0 ≡ 0 → m < length marks → AreProposed g label n (set marks m 1) (nodes ++ m ∷ [])
proposed_more g label n marks nodes m k below live none room =
    let there : get_or (set marks m 1) m 0 ≡ 1 = get_or-set_same marks m 1 0 room in
    record {
      once = pushed_apart nodes m k.once (λ i. let p : 0 < get_or marks m 0 = k.marked m i in absurd (omega arith));
      each = λ x i. elim (In-push nodes m x i) [ inl j ↦ k.each x j | inr e ↦ subst (λ y. IsLive g label y × (y < n)) (sym e) (live, below) ];
      marked = λ x i. elim (cases_eq x m) [
        | inl e ↦ (let a : get_or (set marks m 1) x 0 ≡ 1 = ap (λ y. get_or (set marks m 1) y 0) e ∙ there in omega arith)
        | inr ne ↦ elim (In-push nodes m x i) [
          | inl j ↦ (let a : get_or (set marks m 1) x 0 ≡ get_or marks x 0 = get_or-set_other marks m x 1 0 ne in let b : 0 < get_or marks x 0 = k.marked x j in omega arith)
          | inr e ↦ absurd (ne e)
        ]
      ];
      only = λ x p. elim (cases_eq x m) [
        | inl e ↦ In-right nodes (m ∷ []) x (inl e)
        | inr ne ↦ In-left nodes (m ∷ []) x (k.only x (let a : get_or (set marks m 1) x 0 ≡ get_or marks x 0 = get_or-set_other marks m x 1 0 ne in omega arith))
      ];
    }

pub proposed_none : (g : Aig) (label : ℕ → ℕ) (n count : ℕ) → AreProposed g label n (zeros count) []
proposed_none g label n count = record {
  once = tt;
  each = λ m i. absurd i;
  marked = λ m i. absurd i;
  only = λ m p. (let z : get_or (zeros count) m 0 ≡ 0 = zero_at count m in absurd (omega arith));
}

-- the net in which paths are sought to what is proposed, and its ends
module _ (g : Aig) (labels : List ℕ) (n h : ℕ) (marks nodes : List ℕ) (floor : ℕ) (until : List ℕ) (k : AreProposed g (label_at labels) n marks nodes) (inside : n < node_count g) (tall : node_count g < h) (low : (m : ℕ) → label_at labels m ≤ m) where
  pub proposed_net : IsAnd g n → AreNormal (first_and g) g.pairs → AreKnownTo g n (label_at labels) → IsGround g n floor until → IsNet (net_on g labels n h marks floor until)
  proposed_net and normal known ground = record {
    and = and;
    high = (let a : 1 + length g.kinds ≤ n = and.0 in omega arith);
    normal = normal;
    known = known;
    met = λ m p. k.each m (k.only m p);
    sources = ground.sources;
    under = ground.under;
    rooted = rooted g n floor labels until h marks ground;
  }

  pub proposed_ends : AreEnds (net_on g labels n h marks floor until) nodes
  proposed_ends = record {
    once = k.once;
    only = λ u i. record { met = k.marked u i; low = (let a : u < n = (k.each u i).1 in let b : label_at labels u ≤ u = low u in omega arith) };
    all = λ u e. k.only u e.met;
  }

-- the ends of the paths can be linked next
pub next_are : (site : SiteValue) (owners starts nodes : List ℕ) → IsNet (net_of site) → AreLinks site owners starts → ((m : ℕ) → In nodes m → IsOpen (net_of site) m × (owner_in site owners m ≡ site.node)) → AreNext site.graph site.floor site.until nodes
next_are site owners starts nodes is links each = record {
  inside = λ m i. live_inside site.graph (label_at site.labels) m (each m i).0.live;
  reached = λ m i. elim (each m i).0.reached [ inl l ↦ inl l | inr e ↦ inr (linked_until site.graph site.floor site.until m e) ];
  independent = record {
    few = λ ms d once in_nodes blocked.
        ends_few (net_of site) is (owner_in site owners) links.chosen (length starts) links.routed.linked starts links.routed.begin refl d (let a : 1 + length site.graph.kinds ≤ site.node = is.and.0 in omega arith) ms once (λ m i. (each m (in_nodes m i)).1) blocked;
  };
}

-- one more node stays linked
pub stretched_each : (old now nodes : List ℕ) (floor x : ℕ) → x < length now → In nodes x → (m : ℕ) → (get_or now m 0 ≡ get_or old m 0) ⊎ (In nodes m × (get_or now m 0 ≡ floor)) → (get_or (set now x floor) m 0 ≡ get_or old m 0) ⊎ (In nodes m × (get_or (set now x floor) m 0 ≡ floor))
stretched_each old now nodes floor x inside at m was = elim (cases_eq m x) [
  | inl e ↦ inr (subst (λ y. In nodes y) (sym e) at, ap (λ y. get_or (set now x floor) y 0) e ∙ get_or-set_same now x floor 0 inside)
  | inr ne ↦ (let same : get_or (set now x floor) m 0 ≡ get_or now m 0 = get_or-set_other now x m floor 0 ne in elim was [ inl e ↦ inl (same ∙ e) | inr r ↦ inr (r.0, same ∙ r.1) ])
]

pub stretched_done : (now nodes : List ℕ) (floor i : ℕ) → get_or nodes i 0 < length now → ((j : ℕ) → j < i → get_or now (get_or nodes j 0) 0 ≡ floor) → (j : ℕ) → j < i + 1 → get_or (set now (get_or nodes i 0) floor) (get_or nodes j 0) 0 ≡ floor
stretched_done now nodes floor i inside was j l = elim (cases_eq (get_or nodes j 0) (get_or nodes i 0)) [
  | inl e ↦ ap (λ y. get_or (set now (get_or nodes i 0) floor) y 0) e ∙ get_or-set_same now (get_or nodes i 0) floor 0 inside
  | inr ne ↦ elim (cases_lt j i) [
    | inl b ↦ get_or-set_other now (get_or nodes i 0) (get_or nodes j 0) floor 0 ne ∙ was j b
    | inr b ↦ absurd (ne (ap (λ y. get_or nodes y 0) (let q : j ≡ i = omega arith in q)))
  ]
]

-- the trunks with one more floor
pub raised : (g : Aig) (n : ℕ) (floors until until' nodes : List ℕ) (top floor : ℕ) → AreTrunks g n floors until top → top < floor → floor < n → AreNext g top until nodes → IsStretched until until' nodes floor → AreTrunks g n (floors ++ floor ∷ []) until' floor
raised g n floors until until' nodes top floor t above below next new = record {
  size = new.size ∙ t.size;
  sources = (let a : length g.kinds ≤ top = t.sources in omega arith);
  last = inr (In-right floors (floor ∷ []) floor (inl refl));
  inside = λ b i. elim (In-push floors floor b i) [
    | inl j ↦ (let r = t.inside b j in (r.0, omega (arith, r.1), r.2))
    | inr e ↦ (let a : length g.kinds ≤ top = t.sources in (omega arith, omega arith, omega arith))
  ];
  linked = λ b i. elim (In-push floors floor b i) [
    | inl j ↦ record { few = λ ms d once linked blocked. (t.linked b j).few ms d once (λ m x. was_linked b m (t.inside b j).0 (t.inside b j).1 (linked m x)) blocked }
    | inr e ↦ record { few = λ ms d once linked blocked. next.independent.few ms d once (λ m x. is_linked_next b m e (linked m x)) blocked }
  ];
  most = λ m. elim (new.each m) [ inl e ↦ (let a : get_or until m 0 ≤ top = t.most m in omega arith) | inr r ↦ (let q : get_or until' m 0 ≡ floor = r.1 in omega arith) ];
}
  where
    was_linked : (b m : ℕ) → length g.kinds < b → b ≤ top → IsLinkedAt until' b m → IsLinkedAt until b m
    was_linked b m low high l = (
      l.0,
      elim (new.each m) [
        | inl e ↦ omega (arith, l.1)
        | inr r ↦ elim (next.reached m r.0) [
          | inl over ↦ absurd (omega (arith, l.0))
          | inr q ↦ elim q [ inl k ↦ omega arith | inr e ↦ absurd (omega arith) ]
        ]
      ],
    )

    is_linked_next : (b m : ℕ) → b ≡ floor → IsLinkedAt until' b m → In nodes m
    is_linked_next b m e l = elim (new.each m) [
      | inl q ↦ (let a : get_or until m 0 ≤ top = t.most m in absurd (omega (arith, l.1)))
      | inr r ↦ r.0
    ]

-- trunks that stay as they are
pub kept_trunks : (g : Aig) (n : ℕ) (old new : Trunks) → HasTrunks g n old → KeepsTrunks old new → HasTrunks g n new
kept_trunks g n old new t k = rw (k.floors, k.until, k.top) t

-- what is known to a node is known to those below it
pub known_below : (g : Aig) (m n : ℕ) (label : ℕ → ℕ) → m ≤ n → AreKnownTo g n label → AreKnownTo g m label
known_below g m n label le known = record {
  sources = known.sources;
  rising = λ x v l f. known.rising x v (omega arith) f;
  free = λ x l and. known.free x (omega arith) and;
}
