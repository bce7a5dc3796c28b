-- The nodes that a postorder does are those that its starts reach.
use Rattle.depth_first.proofs.Common.{List, [], ◌∷◌, sym, subst, refl, inl, inr, ◌⊎◌, In, Posts, skips, posts, PostsAll, none, more, IsAfter, Reaches, here, through, IsReached, AddsReached}

module _ {N : Type 0} (next : N → List N) where
  -- what was done stays
  mutual
    node_keeps : {done result : List N} {n : N} → Posts next done n result → (m : N) → In done m → In result m
    node_keeps (skips j q) m i = subst (λ l. In l m) (sym q) i
    node_keeps (posts below new d q) m i = subst (λ l. In l m) (sym q) (inr (nodes_keep d m i))

    nodes_keep : {done ns result : List N} → PostsAll next done ns result → (m : N) → In done m → In result m
    nodes_keep (none a q) m i = subst (λ l. In l m) (sym q) i
    nodes_keep (more n rest below a p ps) m i = nodes_keep ps m (node_keeps p m i)

  -- each node visited is done
  node_done : {done result : List N} {n : N} → Posts next done n result → In result n
  node_done {n = n} (skips j q) = subst (λ l. In l n) (sym q) j
  node_done {n = n} (posts below new d q) = subst (λ l. In l n) (sym q) (inl refl)

  pub nodes_done : {done ns result : List N} → PostsAll next done ns result → (m : N) → In ns m → In result m
  nodes_done (none a q) m i = absurd (subst (λ l. In l m) a i)
  nodes_done (more n rest below a p ps) m i = elim (subst (λ l. In l m) a i) [
    | inl e ↦ nodes_keep ps m (subst (In below) (sym e) (node_done p))
    | inr j ↦ nodes_done ps m j
  ]

  reached_more : (n : N) (rest : List N) (m : N) → IsReached next rest m → IsReached next (n ∷ rest) m
  reached_more n rest m l = record { start = l.start; member = inr l.member; reaches = l.reaches }

  -- each node done was done before, or one of those visited reaches it
  mutual
    node_from : {done result : List N} {n : N} → Posts next done n result → (m : N) → In result m → In done m ⊎ Reaches next n m
    node_from (skips j q) m i = inl (subst (λ l. In l m) q i)
    node_from {n = n} (posts below new d q) m i = elim (subst (λ l. In l m) q i) [
      | inl e ↦ inr (here e)
      | inr j ↦ (elim (nodes_from d m j) [ inl old ↦ inl old | inr l ↦ inr (through l.start l.member l.reaches) ])
    ]

    pub nodes_from : {done ns result : List N} → PostsAll next done ns result → (m : N) → In result m → In done m ⊎ IsReached next ns m
    nodes_from (none a q) m i = inl (subst (λ l. In l m) q i)
    nodes_from {done} {ns} (more n rest below a p ps) m i = elim (nodes_from ps m i) as (λ _. In done m ⊎ IsReached next ns m) [
      | inl j ↦ (elim (node_from p m j) [
        | inl old ↦ inl old
        | inr l ↦ inr (subst (λ y. IsReached next y m) (sym a) (record { start = n; member = inl refl; reaches = l }))
      ])
      | inr l ↦ inr (subst (λ y. IsReached next y m) (sym a) (reached_more n rest m l))
    ]

  -- in an order what a node reaches stands with it
  pub step_stands : (order : List N) (n m : N) → IsAfter next order → In order n → In (next n) m → In order m
  step_stands [] n m after i j = absurd i
  step_stands (k ∷ ks) n m after (inl e) j = inr (after.0 m (subst (λ x. In (next x) m) e j))
  step_stands (k ∷ ks) n m after (inr i) j = inr (step_stands ks n m (after.1).1 i j)

  pub reached_stands : {n m : N} → Reaches next n m → (order : List N) → IsAfter next order → In order n → In order m
  reached_stands (here e) order after i = subst (In order) (sym e) i
  reached_stands {n} {m} (through k j r) order after i = reached_stands r order after (step_stands order n k after i j)

  pub adds_all : {before starts after : List N} → PostsAll next before starts after → IsAfter next after → AddsReached next before starts after
  adds_all {before} {starts} {after} p order = record {
    keeps = nodes_keep p;
    all = λ m r. reached_stands r.reaches after order (nodes_done p r.start r.member);
    only = nodes_from p;
  }

  pub adds_one : {before after : List N} {start : N} → Posts next before start after → IsAfter next after → AddsReached next before (start ∷ []) after
  adds_one {before} {after} {start} p order = adds_all (more start [] after refl p (none refl refl)) order
