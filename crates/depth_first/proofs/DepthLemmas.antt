-- A walk without memory comes to no end from a node that is done.
use Rattle.depth_first.proofs.Common.{List, [], ◌∷◌, None, refl, ap, ◌∙◌, subst, inl, inr, In, Way, leads, stops, nodes_of, Meets, goes, MeetsAll, later, IsAfter, LeadsInto, IsSettled}

module _ {N S : Type 0} (ways : N → List (Way N S)) where
  -- a way along which a walk comes to no end
  abbrev Passes : List N → Way N S → Type 0
  Passes path (leads n) = Meets ways path n None
  Passes path (stops s) = ⊥

  all_none : (path : List N) (ws : List (Way N S)) → ((w : Way N S) → In ws w → Passes path w) → MeetsAll ways path ws None
  all_none path [] h = MeetsAll.none refl refl
  all_none path (leads n ∷ ws) h = later n ws refl (h (leads n) (inl refl)) (all_none path ws (λ w i. h w (inr i)))
  all_none path (stops s ∷ ws) h = absurd (h (stops s) (inl refl))

  pass_each : (path ns : List N) → ((n : N) → In ns n → Meets ways path n None) → (w : Way N S) → LeadsInto ns w → Passes path w
  pass_each path ns h (leads n) i = h n i
  pass_each path ns h (stops s) b = b

  pub done_meets : (done path : List N) (n : N) → IsSettled ways done → ((m : N) → In path m → In done m → ⊥) → In done n → Meets ways path n None
  done_meets [] path n settled apart i = elim i [ ]
  done_meets (m ∷ ms) path n settled apart (inr i) = done_meets ms path n (settled.1).1 (λ k a b. apart k a (inr b)) i
  done_meets (m ∷ ms) path n settled apart (inl e) = goes (λ a. apart n a (inl e))
      (all_none (n ∷ path) (ways n) (λ w j. pass_each (n ∷ path) ms
      (λ c i. done_meets ms (n ∷ path) c (settled.1).1 (λ k a b. elim a [ inl q ↦ (settled.1).0 (subst (λ x. In ms x) (q ∙ e) b) | inr a' ↦ apart k a' (inr b) ]) i)
      w (settled.0 w (subst (λ x. In (ways x) w) e j))))

  -- the successors of a node are the nodes of its ways
  abbrev way_to : N → Way N S
  way_to n = leads n

  pub node_way : (ws : List (Way N S)) (m : N) → In (nodes_of ws) m → In ws (leads m)
  node_way [] m i = i
  node_way (leads n ∷ ws) m (inl e) = inl (ap way_to e)
  node_way (leads n ∷ ws) m (inr i) = inr (node_way ws m i)
  node_way (stops s ∷ ws) m i = inr (node_way ws m i)

  pub settled_after : (ns : List N) → IsSettled ways ns → IsAfter (λ n. nodes_of (ways n)) ns
  settled_after [] settled = tt
  settled_after (n ∷ ns) settled = (λ m i. settled.0 (leads m) (node_way (ways n) m i), ((settled.1).0, settled_after ns (settled.1).1))

-- where more nodes are done
pub leads_more : {N S : Type 0} (ns ms : List N) → ((n : N) → In ns n → In ms n) → (w : Way N S) → LeadsInto ns w → LeadsInto ms w
leads_more ns ms h (leads n) i = h n i
leads_more ns ms h (stops s) b = b
