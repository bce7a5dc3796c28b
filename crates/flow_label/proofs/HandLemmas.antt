-- The node of an open place is handed on: its owner and the fan-ins of the owner are met.
use Rattle.flow_label.proofs.Common.{◌≡◌, ℕ, ◌+◌, ◌<◌, ◌≤◌, ◌^◌, Bool, true, false, List, [], ◌∷◌, length, get_or, get_or_read, get_or-set_same, set, refl, sym, ap, ◌∙◌, subst, inl, inr, ◌⊎◌, arith, node_count, In, IsOpen, IsFanIn, FlowNet, SiteValue, net_of, IsNet, IsInner, IsChoice, IsHandedOn, AreLinks, owner_in, AreMet, IsFound, IsSearching, Extends, HasMet}
use Rattle.flow_label.proofs.SearchLemmas.{IsAfter, IsLast, goes_on, comes_last, comes_choice, choice_node, marked, closed, met_short, met_size, met_extends, met_lengths, owned_inner, extends_twice}

module _ (net : FlowNet) (owner : ℕ → ℕ) (is : IsNet net) (place a : ℕ) (inner : IsInner net a) where
  -- the search while the node of the place, which a owns, is handed on
  pub record IsAt (stack seen queue backs passed : List ℕ) : Type 0 where
    pub searching : IsSearching net owner seen queue backs passed (place ∷ stack)
    pub owns : owner (get_or queue place 0) ≡ a

  -- one more choice was met
  pub record HasGone (m : ℕ) (queue stack' seen' queue' backs' passed : List ℕ) : Type 0 where
    pub at : IsAt stack' seen' queue' backs' passed
    pub there : IsOpen net m → In queue' m
    pub extends : Extends queue queue'

  pub at_first : (stack seen queue backs passed : List ℕ) → IsSearching net owner seen queue backs passed (place ∷ stack) → owner (get_or queue place 0) ≡ a → IsAt stack seen queue backs (set passed a 1)
  at_first stack seen queue backs passed k e = record { searching = marked net owner place a stack seen queue backs passed k e inner; owns = e }

  module _ (m : ℕ) (choice : IsOpen net m → IsChoice net a m) (stack seen queue backs passed : List ℕ) (k : IsAt stack seen queue backs passed)
      (b : Bool) (seen' queue' backs' stack' : List ℕ) (step : HasMet net owner m (place + 1) seen queue backs stack seen' queue' backs' stack' b) where
    inside : place < length queue
    inside = k.searching.inside place (inl refl)

    pub gone : b ≡ false → HasGone m queue stack' seen' queue' backs' passed
    gone f =
        let r : IsAfter net owner m queue seen' queue' backs' passed (place ∷ stack') =
        goes_on net owner (place ∷ []) stack seen queue backs passed m (place + 1) k.searching (λ l. choice_node net owner is a inner m (choice l) l) (λ l. comes_choice net owner queue place a m inside k.owns inner (choice l)) b seen' queue' backs' stack' step f in
        record { at = record { searching = r.searching; owns = ap owner (r.extends.same place inside) ∙ k.owns }; there = r.there; extends = r.extends }

    pub went : (passed' : List ℕ) → passed' ≡ passed → b ≡ false → HasGone m queue stack' seen' queue' backs' passed'
    went passed' e f = subst (λ x. HasGone m queue stack' seen' queue' backs' x) (sym e) (gone f)

    pub last : b ≡ true → IsLast net owner queue queue' backs'
    last f = comes_last net owner (place ∷ []) stack seen queue backs passed m (place + 1) k.searching (λ l. choice_node net owner is a inner m (choice l) l) (λ l. comes_choice net owner queue place a m inside k.owns inner (choice l)) b seen' queue' backs' stack' step f

  pub own_choice : IsOpen net a → IsChoice net a a
  own_choice l = inl refl

  pub fan_in_choice : (m : ℕ) → IsFanIn net.graph m a → IsOpen net m → IsChoice net a m
  fan_in_choice m f l = inr (f, l)

  -- all choices were met
  pub handed_on : (far near : ℕ) → ((m : ℕ) → IsFanIn net.graph m a → (m ≡ far) ⊎ (m ≡ near)) → (stack3 seen3 queue1 queue2 queue3 backs3 passed : List ℕ) → IsAt stack3 seen3 queue3 backs3 passed → 0 < get_or passed a 0
      → (IsOpen net a → In queue1 a) → (IsOpen net far → In queue2 far) → (IsOpen net near → In queue3 near) → Extends queue1 queue2 → Extends queue2 queue3 → IsSearching net owner seen3 queue3 backs3 passed stack3
  handed_on far near all stack3 seen3 queue1 queue2 queue3 backs3 passed k mark own x y e f =
      let met : (m : ℕ) → IsChoice net a m → In queue3 m = (λ m c. elim c [
        | inl q ↦ subst (λ z. In queue3 z) (sym q) (f.kept a (e.kept a (own (record { live = inr (inner.and, inner.live); reached = inl inner.above }))))
        | inr q ↦ elim (all m q.0) [
          | inl r ↦ subst (λ z. In queue3 z) (sym r) (f.kept far (x (subst (λ z. IsOpen net z) r q.1)))
          | inr r ↦ subst (λ z. In queue3 z) (sym r) (y (subst (λ z. IsOpen net z) r q.1))
        ]
      ]) in
      let done : IsHandedOn net owner queue3 (get_or queue3 place 0) = inr (subst (λ z. IsInner net z) (sym k.owns) inner, (λ m c. met m (subst (λ z. IsChoice net z m) k.owns c))) in
      closed net owner place stack3 seen3 queue3 backs3 passed k.searching done (inr (subst (λ z. 0 < get_or passed z 0) (sym k.owns) mark))

-- the search of a site
module _ (site : SiteValue) (owners starts : List ℕ) (links : AreLinks site owners starts) where
  -- the owner of a place, if it isn't the node
  pub owner_at : (seen queue backs passed stack : List ℕ) (place u a : ℕ) → IsSearching (net_of site) (owner_in site owners) seen queue backs passed (place ∷ stack) → u ≡ get_or queue place u → a ≡ owner_in site owners u
      → owner_in site owners (get_or queue place 0) ≡ a
  owner_at seen queue backs passed stack place u a k read is = ap (owner_in site owners) (sym (get_or_read queue place u (k.inside place (inl refl)) read 0)) ∙ sym is

  pub owner_inner : (seen queue backs passed stack : List ℕ) (place u a : ℕ) → IsSearching (net_of site) (owner_in site owners) seen queue backs passed (place ∷ stack) → u ≡ get_or queue place u → a ≡ owner_in site owners u
      → (a ≡ site.node → ⊥) → IsInner (net_of site) a
  owner_inner seen queue backs passed stack place u a k read is ne =
      let e : owner_in site owners (get_or queue place 0) ≡ a = owner_at seen queue backs passed stack place u a k read is in
      subst (λ x. IsInner (net_of site) x) e (owned_inner (net_of site) (owner_in site owners) links.chosen (length starts) links.routed.linked seen queue backs passed (place ∷ stack) place k (k.inside place (inl refl)) (λ q. ne (sym e ∙ q)))

  -- where the owner is the node, nothing is to be met
  pub handed_by_node : (seen queue backs passed stack : List ℕ) (place u a : ℕ) → IsSearching (net_of site) (owner_in site owners) seen queue backs passed (place ∷ stack) → u ≡ get_or queue place u → a ≡ owner_in site owners u
      → a ≡ site.node → IsSearching (net_of site) (owner_in site owners) seen queue backs passed stack
  handed_by_node seen queue backs passed stack place u a k read is e =
      let q : owner_in site owners (get_or queue place 0) ≡ site.node = owner_at seen queue backs passed stack place u a k read is ∙ e in
      closed (net_of site) (owner_in site owners) place stack seen queue backs passed k (inl q) (inl q)

  pub found_last : (queue queue' backs' : List ℕ) → IsLast (net_of site) (owner_in site owners) queue queue' backs' → IsFound site owners queue' backs'
  found_last queue queue' backs' l = record { met = l.met; some = l.some; free = l.free }

  pub queue_small : (queue backs : List ℕ) → AreMet (net_of site) (owner_in site owners) queue backs → IsNet (net_of site) → node_count site.graph ≤ 2 ^ 30 → length queue < 2 ^ 30
  queue_small queue backs met is small = omega (arith, met_short (net_of site) (owner_in site owners) queue backs met, is.and.1)

  -- One place is handed on: a, the owner of the node there, is another one than the node.
  module _ (is : IsNet (net_of site)) (small : node_count site.graph ≤ 2 ^ 30) (seen queue backs passed stack : List ℕ) (place u a : ℕ) (k : IsSearching (net_of site) (owner_in site owners) seen queue backs passed (place ∷ stack))
      (read : u ≡ get_or queue place u) (own : a ≡ owner_in site owners u) (ne : a ≡ site.node → ⊥) where
    pub inner_owner : IsInner (net_of site) a
    inner_owner = owner_inner seen queue backs passed stack place u a k read own ne

    begun : IsAt (net_of site) (owner_in site owners) is place a inner_owner stack seen queue backs (set passed a 1)
    begun = at_first (net_of site) (owner_in site owners) is place a inner_owner stack seen queue backs passed k (owner_at seen queue backs passed stack place u a k read own)

    -- it is met itself
    module _ (e1 : Bool) (s1 q1 b1 t1 p1 : List ℕ) (h1 : HasMet (net_of site) (owner_in site owners) a (place + 1) seen queue backs stack s1 q1 b1 t1 e1) (w1 : p1 ≡ set passed a 1) where
      pub found1 : e1 ≡ true → IsFound site owners q1 b1
      found1 f = found_last queue q1 b1 (last (net_of site) (owner_in site owners) is place a inner_owner a (λ l. inl refl) stack seen queue backs (set passed a 1) begun e1 s1 q1 b1 t1 h1 f)

      pub extends1 : Extends queue q1
      extends1 = met_extends (net_of site) (owner_in site owners) a (place + 1) e1 seen queue backs stack s1 q1 b1 t1 h1

      pub size1 : length s1 ≡ length seen
      size1 = met_size (net_of site) (owner_in site owners) a (place + 1) e1 seen queue backs stack s1 q1 b1 t1 h1

      -- then one fan-in
      module _ (f1 : e1 ≡ false) (far : ℕ) (far_in : IsFanIn site.graph far a) where
        gone1 : HasGone (net_of site) (owner_in site owners) is place a inner_owner a queue t1 s1 q1 b1 p1
        gone1 = went (net_of site) (owner_in site owners) is place a inner_owner a (λ l. inl refl) stack seen queue backs (set passed a 1) begun e1 s1 q1 b1 t1 h1 p1 w1 f1

        pub small1 : length q1 < 2 ^ 30
        small1 = queue_small q1 b1 gone1.at.searching.met is small

        module _ (e2 : Bool) (s2 q2 b2 t2 p2 : List ℕ) (h2 : HasMet (net_of site) (owner_in site owners) far (place + 1) s1 q1 b1 t1 s2 q2 b2 t2 e2) (w2 : p2 ≡ p1) where
          pub found2 : e2 ≡ true → IsFound site owners q2 b2
          found2 f = found_last q1 q2 b2 (last (net_of site) (owner_in site owners) is place a inner_owner far (λ l. inr (far_in, l)) t1 s1 q1 b1 p1 gone1.at e2 s2 q2 b2 t2 h2 f)

          pub extends2 : Extends queue q2
          extends2 = extends_twice queue q1 q2 extends1 (met_extends (net_of site) (owner_in site owners) far (place + 1) e2 s1 q1 b1 t1 s2 q2 b2 t2 h2)

          pub size2 : length s2 ≡ length seen
          size2 = met_size (net_of site) (owner_in site owners) far (place + 1) e2 s1 q1 b1 t1 s2 q2 b2 t2 h2 ∙ size1

          -- then the other one
          module _ (f2 : e2 ≡ false) (near : ℕ) (near_in : IsFanIn site.graph near a) where
            gone2 : HasGone (net_of site) (owner_in site owners) is place a inner_owner far q1 t2 s2 q2 b2 p2
            gone2 = went (net_of site) (owner_in site owners) is place a inner_owner far (λ l. inr (far_in, l)) t1 s1 q1 b1 p1 gone1.at e2 s2 q2 b2 t2 h2 p2 w2 f2

            pub small2 : length q2 < 2 ^ 30
            small2 = queue_small q2 b2 gone2.at.searching.met is small

            module _ (all : (m : ℕ) → IsFanIn site.graph m a → (m ≡ far) ⊎ (m ≡ near)) (e3 : Bool) (s3 q3 b3 t3 p3 : List ℕ) (h3 : HasMet (net_of site) (owner_in site owners) near (place + 1) s2 q2 b2 t2 s3 q3 b3 t3 e3) (w3 : p3 ≡ p2) where
              pub found3 : e3 ≡ true → IsFound site owners q3 b3
              found3 f = found_last q2 q3 b3 (last (net_of site) (owner_in site owners) is place a inner_owner near (λ l. inr (near_in, l)) t2 s2 q2 b2 p2 gone2.at e3 s3 q3 b3 t3 h3 f)

              pub extends3 : Extends queue q3
              extends3 = extends_twice queue q2 q3 extends2 (met_extends (net_of site) (owner_in site owners) near (place + 1) e3 s2 q2 b2 t2 s3 q3 b3 t3 h3)

              pub size3 : length s3 ≡ length seen
              size3 = met_size (net_of site) (owner_in site owners) near (place + 1) e3 s2 q2 b2 t2 s3 q3 b3 t3 h3 ∙ size2

              mark : 0 < get_or p3 a 0
              mark =
                  let p : p3 ≡ set passed a 1 = w3 ∙ (w2 ∙ w1) in
                  let l : a < node_count site.graph = inner_owner.and.1 in
                  let n : length passed ≡ node_count site.graph = k.passed_are.size in
                  let e : get_or p3 a 0 ≡ 1 = ap (λ x. get_or x a 0) p ∙ get_or-set_same passed a 1 0 (omega arith) in
                  omega arith

              pub searching3 : e3 ≡ false → IsSearching (net_of site) (owner_in site owners) s3 q3 b3 p3 t3
              searching3 f3 =
                  let g : HasGone (net_of site) (owner_in site owners) is place a inner_owner near q2 t3 s3 q3 b3 p3 = went (net_of site) (owner_in site owners) is place a inner_owner near (λ l. inr (near_in, l)) t2 s2 q2 b2 p2 gone2.at e3 s3 q3 b3 t3 h3 p3 w3 f3 in
                  handed_on (net_of site) (owner_in site owners) is place a inner_owner far near all t3 s3 q1 q2 q3 b3 p3 g.at mark gone1.there gone2.there g.there gone2.extends g.extends

              pub lengths3 : e3 ≡ false → length t3 + length queue ≡ length stack + length q3
              lengths3 f3 =
                  let x : length t1 + length queue ≡ length stack + length q1 = met_lengths (net_of site) (owner_in site owners) a (place + 1) e1 seen queue backs stack s1 q1 b1 t1 h1 f1 in
                  let y : length t2 + length q1 ≡ length t1 + length q2 = met_lengths (net_of site) (owner_in site owners) far (place + 1) e2 s1 q1 b1 t1 s2 q2 b2 t2 h2 f2 in
                  let z : length t3 + length q2 ≡ length t2 + length q3 = met_lengths (net_of site) (owner_in site owners) near (place + 1) e3 s2 q2 b2 t2 s3 q3 b3 t3 h3 f3 in
                  omega arith
