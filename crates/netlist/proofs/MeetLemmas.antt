-- Depth-first walks: several starts in turn, and walks along edges that lead to nodes alone.
use Rattle.netlist.proofs.Common.{◌≡◌, ℕ, List, [], ◌∷◌, ◌++◌, Option, Some, None, refl, sym, ap, ◌∙◌, subst, none-some, In, inl, inr, ◌⊎◌, map, zero, suc, ◌+◌, ◌≤◌, length, arith, same_Some, In-map, AreApart, apart_short, leads, Repeat, Meets, met, goes, MeetsAll, IsAfter, rules}
use Rattle.depth_first.specs.DepthFirst.{Way, Ending, repeats, halts, Meets as MeetsBy, MeetsAll as MeetAllBy, met as met_by, goes as goes_by, none as none_by, first as first_by, later as later_by, stop as stop_by}
use Rattle.depth_first.specs.Walk.{leads_to}
use Rattle.netlist.specs.DepthFirst.{none, first, later}
use Rattle.netlist.proofs.PostLemmas.{Reaches, at_once, one_more}

module _ {N : Type 0} (next : N → List N) where
  -- several nodes and then others
  pub meets_append : {path xs : List N} {r : Option (Repeat N)} → MeetsAll next path xs r → r ≡ None → (ys : List N) (s : Option (Repeat N)) → MeetsAll next path ys s → MeetsAll next path (xs ++ ys) s
  meets_append {path} {xs} (none q t) e ys s h = subst (λ x. MeetsAll next path (x ++ ys) s) (sym q) h
  meets_append {path} {xs} (first n rest c q w t) e ys s h = absurd (none-some c (sym e ∙ t))
  meets_append {path} {xs} (later n rest q w ws) e ys s h = subst (λ x. MeetsAll next path (x ++ ys) s) (sym q) (later n (rest ++ ys) refl w (meets_append ws e ys s h))

  pub found_append : {path xs : List N} {r : Option (Repeat N)} → MeetsAll next path xs r → (c : Repeat N) → r ≡ Some c → (ys : List N) → MeetsAll next path (xs ++ ys) (Some c)
  found_append {path} {xs} (none q t) c e ys = absurd (none-some c (sym t ∙ e))
  found_append {path} {xs} (first n rest d q w t) c e ys = subst (λ x. MeetsAll next path (x ++ ys) (Some c)) (sym q) (first n (rest ++ ys) d refl w (sym e ∙ t))
  found_append {path} {xs} (later n rest q w ws) c e ys = subst (λ x. MeetsAll next path (x ++ ys) (Some c)) (sym q) (later n (rest ++ ys) refl w (found_append ws c e ys))

-- a walk along edges that lead to nodes alone comes to a node that is met again, or to no end
module _ {S : Type 0} (ways : ℕ → List (Way ℕ S)) (next : ℕ → List ℕ) (same : (n : ℕ) → ways n ≡ leads_to (next n)) where
  abbrev Met : List ℕ → ℕ → Option (Ending ℕ S) → Type 0
  Met path n None = Meets next path n None
  Met path n (Some (repeats m p)) = Meets next path n (Some (record { node = m; path = p }))
  Met path n (Some (halts s p)) = ⊥

  abbrev pub MetAll : List ℕ → List ℕ → Option (Ending ℕ S) → Type 0
  MetAll path ns None = MeetsAll next path ns None
  MetAll path ns (Some (repeats m p)) = MeetsAll next path ns (Some (record { node = m; path = p }))
  MetAll path ns (Some (halts s p)) = ⊥

  goes_met : (path : List ℕ) (n : ℕ) (r : Option (Ending ℕ S)) → (In path n → ⊥) → MetAll (n ∷ path) (next n) r → Met path n r
  goes_met path n (Some (halts s p)) off h = h
  goes_met path n r off h = goes off h

  first_met : (path ns : List ℕ) (n : ℕ) (rest : List ℕ) (end : Ending ℕ S) → ns ≡ n ∷ rest → Met path n (Some end) → MetAll path ns (Some end)
  first_met path ns n rest (repeats m p) e h = first n rest (record { node = m; path = p }) e h refl
  first_met path ns n rest (halts s p) e h = h

  later_met : (path ns : List ℕ) (n : ℕ) (rest : List ℕ) (r : Option (Ending ℕ S)) → ns ≡ n ∷ rest → Met path n None → MetAll path rest r → MetAll path ns r
  later_met path ns n rest (Some (halts s p)) e h hs = hs
  later_met path ns n rest r e h hs = later n rest e h hs

  mutual
    node_met : {path : List ℕ} {n : ℕ} {r : Option (Ending ℕ S)} → MeetsBy ways path n r → Met path n r
    node_met {path} {n} (met_by i q) = subst (Met path n) (sym q) (met i refl)
    node_met {path} {n} {r} (goes_by off w) = goes_met path n r off (nodes_met w (next n) (same n))

    pub nodes_met : {path : List ℕ} {ws : List (Way ℕ S)} {r : Option (Ending ℕ S)} → MeetAllBy ways path ws r → (ns : List ℕ) → ws ≡ leads_to ns → MetAll path ns r
    nodes_met {path} (none_by e q) [] z = subst (MetAll path []) (sym q) (none refl refl)
    nodes_met (none_by e q) (m ∷ ms) z = absurd (cc)
    nodes_met (stop_by s rest e q) [] z = absurd (cc)
    nodes_met (stop_by s rest e q) (m ∷ ms) z = absurd (cc)
    nodes_met (first_by n rest end e w q) [] z = absurd (cc)
    nodes_met {path} (first_by n rest end e w q) (m ∷ ms) z =
        let same : m ≡ n = cc in subst (MetAll path (m ∷ ms)) (sym q) (first_met path (m ∷ ms) n ms end (ap (λ k. k ∷ ms) same) (node_met w))
    nodes_met (later_by n rest e w ws) [] z = absurd (cc)
    nodes_met {path} {r = r} (later_by n rest e w ws) (m ∷ ms) z =
        let same : m ≡ n = cc in
        let behind : rest ≡ leads_to ms = cc in
        later_met path (m ∷ ms) n ms r (ap (λ k. k ∷ ms) same) (node_met w) (nodes_met ws ms behind)

-- Walks and what they meet again: one of nodes is one of the nodes that they stand for, and where none leads to itself, they meet none and give an order.
-- nodes are told apart, and P holds of what a node goes to where it holds of the node
module _ {N : Type 0} (next : N → List N) (has : (ns : List N) (n : N) → In ns n ⊎ (In ns n → ⊥)) (P : N → Type 0) (closed : (n m : N) → P n → In (next n) m → P m) where
  -- nodes that are done: an order, with none of the current path in it
  record IsDone (path order : List N) : Type 0 where
    after : IsAfter next order
    apart : (m : N) → In path m → In order m → ⊥
    only : (m : N) → In order m → P m

  -- the nodes that are done behind a walk: those before, and those walked
  record Order (path before ns : List N) : Type 0 where
    order : List N
    done : IsDone path order
    all : (m : N) → In ns m → In order m
    keeps : (m : N) → In before m → In order m

  old_node : (path before : List N) (n : N) → IsDone path before → In before n → Order path before (n ∷ [])
  old_node path before n d i = record { order = before; done = d; all = λ m j. elim j [ inl e ↦ subst (In before) (sym e) i | inr k ↦ absurd k ]; keeps = λ m j. j }

  -- before a new node is walked it's put on the path
  onto_path : (path before : List N) (n : N) → IsDone path before → (In before n → ⊥) → IsDone (n ∷ path) before
  onto_path path before n d new = record { after = d.after; apart = λ m i j. elim i [ inl e ↦ new (subst (In before) e j) | inr k ↦ d.apart m k j ]; only = d.only }

  new_done : (path : List N) (n : N) (order : List N) → P n → (In path n → ⊥) → IsDone (n ∷ path) order → ((m : N) → In (next n) m → In order m) → IsDone path (n ∷ order)
  new_done path n order p off d h = search rules

  new_node : (path before : List N) (n : N) → P n → (In path n → ⊥) → Order (n ∷ path) before (next n) → Order path before (n ∷ [])
  new_node path before n p off r = search (rules, new_done)

  then_nodes : (path before : List N) (n : N) (rest : List N) (r : Order path before (n ∷ [])) → Order path r.order rest → Order path before (n ∷ rest)
  then_nodes path before n rest r s = search rules

  mutual
    node_order : {path : List N} {n : N} {result : Option (Repeat N)} → Meets next path n result → result ≡ None → (before : List N) → IsDone path before → P n → Order path before (n ∷ [])
    node_order {path} {n} (met i q) e before d p = absurd (none-some (record { node = n; path = path }) (sym e ∙ q))
    node_order {path} {n} (goes off w) e before d p = elim (has before n) as (λ _. Order path before (n ∷ [])) [
      | inl old ↦ old_node path before n d old
      | inr new ↦ new_node path before n p off (nodes_order w e before (onto_path path before n d new) (λ m i. closed n m p i))
    ]

    nodes_order : {path ns : List N} {result : Option (Repeat N)} → MeetsAll next path ns result → result ≡ None → (before : List N) → IsDone path before → ((m : N) → In ns m → P m) → Order path before ns
    nodes_order {path} (none a q) e before d p = subst (Order path before) (sym a) (record { order = before; done = d; all = λ m i. absurd i; keeps = λ m i. i })
    nodes_order (first n rest repeat a w q) e before d p = absurd (none-some repeat (sym e ∙ q))
    nodes_order {path} (later n rest a w ws) e before d p =
        let r = node_order w refl before d (p n (subst (λ l. In l n) (sym a) (inl refl))) in
        subst (Order path before) (sym a) (then_nodes path before n rest r (nodes_order ws e r.order r.done (λ m i. p m (subst (λ l. In l m) (sym a) (inr i)))))

  -- an order of all nodes of a list
  pub record OrderOf (ns : List N) : Type 0 where
    pub order : List N
    pub after : IsAfter next order
    pub all : (m : N) → In ns m → In order m
    pub only : (m : N) → In order m → P m

  pub meets_none : (ns : List N) → MeetsAll next [] ns None → ((m : N) → In ns m → P m) → OrderOf ns
  meets_none ns w p =
      let r = nodes_order w refl [] (record { after = tt; apart = λ m i j. i; only = λ m i. absurd i }) p in
      record { order = r.order; after = r.done.after; all = r.all; only = r.done.only }

abbrev pub repeat_mapped : {N M : Type 0} → (N → M) → Repeat N → Repeat M
repeat_mapped f c = record { node = f c.node; path = map f c.path }

abbrev pub result_mapped : {N M : Type 0} → (N → M) → Option (Repeat N) → Option (Repeat M)
result_mapped f None = None
result_mapped f (Some c) = Some (repeat_mapped f c)

module _ {N : Type 0} (next : N → List N) (P : N → Type 0) (closed : (n m : N) → P n → In (next n) m → P m) where
  onto : (path : List N) (n : N) → P n → ((m : N) → In path m → P m) → (m : N) → In (n ∷ path) m → P m
  onto path n p h m i = elim i as (λ _. P m) [ inl e ↦ subst P (sym e) p | inr j ↦ h m j ]

  -- P holds of the nodes of a loop
  pub record IsInside (c : Repeat N) : Type 0 where
    pub node : P c.node
    pub path : (m : N) → In c.path m → P m

  mutual
    node_inside : {path : List N} {n : N} {result : Option (Repeat N)} → Meets next path n result → (c : Repeat N) → result ≡ Some c → P n → ((m : N) → In path m → P m) → IsInside c
    node_inside {path} {n} (met i q) c e p h = subst IsInside (same_Some (record { node = n; path = path }) c (sym q ∙ e)) (record { node = p; path = h })
    node_inside {path} {n} (goes off w) c e p h = nodes_inside w c e (λ m i. closed n m p i) (onto path n p h)

    pub nodes_inside : {path ns : List N} {result : Option (Repeat N)} → MeetsAll next path ns result → (c : Repeat N) → result ≡ Some c → ((m : N) → In ns m → P m) → ((m : N) → In path m → P m) → IsInside c
    nodes_inside (none a q) c e p h = absurd (none-some c (sym q ∙ e))
    nodes_inside (first n rest own a w q) c e p h = node_inside w c (sym q ∙ e) (p n (subst (λ l. In l n) (sym a) (inl refl))) h
    nodes_inside (later n rest a w ws) c e p h = nodes_inside ws c e (λ m i. p m (subst (λ l. In l m) (sym a) (inr i))) h

  module _ {M : Type 0} (reads : M → List M) (f : N → M) (one : (n m : N) → P n → P m → f n ≡ f m → n ≡ m) (same : (n : N) → P n → reads (f n) ≡ map f (next n)) where
    in_mapped : (path : List N) (n : N) → P n → ((m : N) → In path m → P m) → In (map f path) (f n) → In path n
    in_mapped [] n p h i = absurd i
    in_mapped (m ∷ path) n p h (inl e) = inl (one n m p (h m (inl refl)) e)
    in_mapped (m ∷ path) n p h (inr i) = inr (in_mapped path n p (λ k j. h k (inr j)) i)

    mutual
      node_mapped : {path : List N} {n : N} {result : Option (Repeat N)} → Meets next path n result → P n → ((m : N) → In path m → P m) → Meets reads (map f path) (f n) (result_mapped f result)
      node_mapped {path} {n} (met i q) p h = met (In-map f path n i) (ap (result_mapped f) q)
      node_mapped {path} {n} {result} (goes off w) p h = goes (λ i. off (in_mapped path n p h i))
          (subst (λ l. MeetsAll reads (f n ∷ map f path) l (result_mapped f result)) (sym (same n p)) (nodes_mapped w (λ m i. closed n m p i) (onto path n p h)))

      pub nodes_mapped : {path ns : List N} {result : Option (Repeat N)} → MeetsAll next path ns result → ((m : N) → In ns m → P m) → ((m : N) → In path m → P m) → MeetsAll reads (map f path) (map f ns) (result_mapped f result)
      nodes_mapped (none a q) p h = none (ap (map f) a) (ap (result_mapped f) q)
      nodes_mapped (first n rest c a w q) p h = first (f n) (map f rest) (repeat_mapped f c) (ap (map f) a) (node_mapped w (p n (subst (λ l. In l n) (sym a) (inl refl))) h) (ap (result_mapped f) q)
      nodes_mapped (later n rest a w ws) p h = later (f n) (map f rest) (ap (map f) a) (node_mapped w (p n (subst (λ l. In l n) (sym a) (inl refl))) h)
          (nodes_mapped ws (λ m i. p m (subst (λ l. In l m) (sym a) (inr i))) h)

module _ {N : Type 0} (next : N → List N) (all : List N) (closed : (n m : N) → In all n → In (next n) m → In all m) (acyclic : (n : N) → In all n → Reaches next n n → ⊥) where
  walks_clean : (path ns : List N) → ((n : N) → In ns n → Meets next path n None) → MeetsAll next path ns None
  walks_clean path [] h = none refl refl
  walks_clean path (n ∷ ns) h = later n ns refl (h n (inl refl)) (walks_clean path ns (λ m i. h m (inr i)))

  -- a path to a node: different nodes, each of which leads to it
  record IsPathTo (path : List N) (n : N) : Type 0 where
    apart : AreApart path
    inside : (m : N) → In path m → In all m
    leads : (m : N) → In path m → Reaches next m n

  off_path : (path : List N) (n : N) → In all n → IsPathTo path n → In path n → ⊥
  off_path path n here p i = acyclic n here (p.leads n i)

  longer : (path : List N) (n : N) → In all n → IsPathTo path n → suc (length path) ≤ length all
  longer path n here p = apart_short (n ∷ path) all (off_path path n here p, p.apart) (λ m i. elim i [ inl e ↦ subst (In all) (sym e) here | inr j ↦ p.inside m j ])

  onward : (path : List N) (n m : N) → In all n → IsPathTo path n → In (next n) m → IsPathTo (n ∷ path) m
  onward path n m here p j = search (rules, off_path, leads, at_once, one_more)

  -- paths are no longer than the set, so the walk ends
  walk_clean : (left : ℕ) (path : List N) (n : N) → In all n → IsPathTo path n → length all ≤ length path + left → Meets next path n None
  walk_clean zero path n here p h = absurd (let l : suc (length path) ≤ length all = longer path n here p in omega arith)
  walk_clean (suc left) path n here p h =
      goes (off_path path n here p)
      (walks_clean (n ∷ path) (next n) (λ m j. walk_clean left (n ∷ path) m (closed n m here j) (onward path n m here p j) (let l : length all ≤ suc (length path) + left = omega arith in l)))

  pub meets_clean : (ns : List N) → ((n : N) → In ns n → In all n) → MeetsAll next [] ns None
  meets_clean ns h = walks_clean [] ns (λ n i. walk_clean (length all) [] n (h n i) (record { apart = tt; inside = λ m j. absurd j; leads = λ m j. absurd j }) (omega arith))
