-- One step of a walk: the next edge of the path's last node is followed, or the node is left.
use Rattle.depth_first.proofs.Common.{◌≡◌, ℕ, zero, suc, ◌<◌, List, [], ◌∷◌, length, Option, Some, None, refl, sym, subst, subst₂, inl, inr, slice_get, none-some, same_Some, In, set_length, Edge, Node, End, Frame, OnPath, Done, nodes_of, ways_of, successors, AreNodes, FramesValue, path_of, first_of, others_of, advanced, finished, AreKept, IsEdgeWithin, Followed, passes, stops_at, enters, hits, skips_over, IsGoing, Stepped}
use Rattle.depth_first.proofs.MarkLemmas.{marks_entered, marks_finished}
use Rattle.depth_first.proofs.StepLemmas.{with_top, top_is, left_stop, meets_stop, enters_stop, meets_hit, enters_hit, one_more, end_step, pass_step, done_step, new_step}

-- an edge to a node leads to a successor
more_in : {S : Type 0} (e : Edge S) (es : List (Edge S)) (m : ℕ) → In (nodes_of (ways_of es)) m → In (nodes_of (ways_of (e ∷ es))) m
more_in (Node k) es m i = inr i
more_in o es m i = i

edge_in : {S : Type 0} (es : List (Edge S)) (i m : ℕ) → slice_get es i ≡ Some (Node m) → In (nodes_of (ways_of es)) m
edge_in [] i m e = absurd (none-some (Node m) e)
edge_in (x ∷ es) zero m e = subst (λ y. In (nodes_of (ways_of (y ∷ es))) m) (sym (same_Some x (Node m) e)) (inl refl)
edge_in (x ∷ es) (suc i) m e = more_in x es m (edge_in es i m e)

module _ {S : Type 0} (edges : ℕ → List (Edge S)) (IsNode : ℕ → Type 0) (w : FramesValue) (f : Frame) (nodes : AreNodes IsNode (successors edges) (length w.marks)) (going : IsGoing edges IsNode w) (top : first_of w.stack ≡ Some f) where
  going_top : IsGoing edges IsNode (with_top w f)
  going_top = subst (IsGoing edges IsNode) (sym (top_is w f top)) going

  -- the node of the first frame is a node
  pub top_node : IsNode f.node
  top_node = going_top.nodes f.node (inl refl)

  pub top_below : f.node < length w.marks
  top_below = nodes.below f.node top_node

  pub successor_node : (m : ℕ) → slice_get (edges f.node) f.place ≡ Some (Node m) → IsNode m
  successor_node m e = nodes.closed f.node m top_node (edge_in (edges f.node) f.place m e)

  -- the next edge leads nowhere, or to a node that is numbered
  pub edge_within : (edge : Edge S) → slice_get (edges f.node) f.place ≡ Some edge → IsEdgeWithin edge (length w.marks)
  edge_within (Node m) e = nodes.below m (successor_node m e)
  edge_within edge e = tt

  pub left_step : slice_get (edges f.node) f.place ≡ None → Stepped edges IsNode w (finished w f.node) None
  left_step e = subst (λ x. Stepped edges IsNode x (finished w f.node) None) (top_is w f top) (end_step edges IsNode w f going_top e)

  pub left_kept : AreKept w (finished w f.node)
  left_kept = record { long = set_length w.marks f.node Done; fit = marks_finished w.marks w.begun w.order (path_of (others_of w.stack)) f.node going_top.marks }

  -- an edge that is followed
  module _ (edge : Edge S) (at : slice_get (edges f.node) f.place ≡ Some edge) where
    followed_top : (v : FramesValue) (found : Option (End S)) → Followed (advanced w f) edge v found → Stepped edges IsNode (with_top w f) v found
    followed_top v found (passes is q r) = subst₂ (Stepped edges IsNode (with_top w f)) (sym q) (sym r) (pass_step edges IsNode w f going_top edge at is)
    followed_top v found (stops_at s is q r) = subst₂ (Stepped edges IsNode (with_top w f)) (sym q) (sym r)
        (let e = left_stop edges f s (subst (λ x. slice_get (edges f.node) f.place ≡ Some x) is at) in
        record { meets = meets_stop edges f (others_of w.stack) s e; enters = enters_stop edges f (others_of w.stack) w.begun s e })
    followed_top v found (enters m is z q r) = subst₂ (Stepped edges IsNode (with_top w f)) (sym q) (sym r)
        (new_step edges IsNode w f going_top edge at m is (successor_node m (subst (λ x. slice_get (edges f.node) f.place ≡ Some x) is at)) z)
    followed_top v found (hits m is z q r) = subst₂ (Stepped edges IsNode (with_top w f)) (sym q) (sym r)
        (let e = one_more edges IsNode w f going_top edge at m is in
        record { meets = meets_hit edges f (others_of w.stack) m e (going_top.marks.on m z); enters = enters_hit edges f (others_of w.stack) m e w.begun (going_top.marks.on m z) })
    followed_top v found (skips_over m is z q r) = subst₂ (Stepped edges IsNode (with_top w f)) (sym q) (sym r)
        (done_step edges IsNode w f going_top edge at m is (going_top.marks.off m z))

    pub followed_step : (v : FramesValue) (found : Option (End S)) → Followed (advanced w f) edge v found → Stepped edges IsNode w v found
    followed_step v found h = subst (λ x. Stepped edges IsNode x v found) (top_is w f top) (followed_top v found h)

  pub advanced_kept : AreKept w (advanced w f)
  advanced_kept = record { long = refl; fit = going_top.marks }

  pub followed_kept : (edge : Edge S) (v : FramesValue) (found : Option (End S)) → Followed (advanced w f) edge v found → AreKept w v
  followed_kept edge v found (passes is q r) = subst (AreKept w) (sym q) advanced_kept
  followed_kept edge v found (stops_at s is q r) = subst (AreKept w) (sym q) advanced_kept
  followed_kept edge v found (hits m is z q r) = subst (AreKept w) (sym q) advanced_kept
  followed_kept edge v found (skips_over m is z q r) = subst (AreKept w) (sym q) advanced_kept
  followed_kept edge v found (enters m is z q r) = subst (AreKept w) (sym q)
      (record { long = set_length w.marks m OnPath; fit = marks_entered w.marks w.begun w.order (f.node ∷ path_of (others_of w.stack)) m going_top.marks z })
