-- The walk to the end of its stack, and the visit of a start.
use Rattle.depth_first.proofs.Common.{◌≡◌, ℕ, ◌<◌, true, false, List, [], ◌∷◌, length, Option, Some, None, refl, sym, ap, ◌∙◌, subst, inl, inr, slice_get, is_some, true≢false, false≢true, none-some, In, set_length, Edge, End, Frame, New, OnPath, Done, IsSettled, ways_from, successors, Visited, ending_of, FramesValue, path_of, first_of, entered, AreMarks, AreKept, walk_work, MeetsLeft, PostsLeft, EntersLeft, ArePassed, IsGoing, IsLater, Stepped, Ran, CanVisit, AreNodes, seen, arith}
use Rattle.depth_first.specs.DepthFirst.{leads, Ending, Meets, goes, MeetsAll, Posts, skips, posts, WalkOutcome, ends_at, goes_through, Enters, ended, again, inside, onward}
use Rattle.depth_first.proofs.DepthLemmas.{done_meets, settled_after}
use Rattle.depth_first.proofs.PostLemmas.{adds_one}
use Rattle.depth_first.proofs.MarkLemmas.{marks_entered}

no_frames : (fs : List Frame) → first_of fs ≡ None → fs ≡ []
no_frames [] e = refl
no_frames (f ∷ fs) e = absurd (none-some f (sym e))

pub no_path : (fs : List Frame) → path_of fs ≡ [] → fs ≡ []
no_path [] e = refl
no_path (f ∷ fs) e = absurd (let z : f.node ∷ path_of fs ≡ [] = e in cc)

pub kept_same : (w : FramesValue) → AreMarks w.marks w.begun w.order (path_of w.stack) → AreKept w w
kept_same w fit = record { long = refl; fit = fit }

pub kept_more : (w v u : FramesValue) → length v.marks ≡ length w.marks → AreKept v u → AreKept w u
kept_more w v u q k = record { long = k.long ∙ q; fit = k.fit }

module _ {S : Type 0} (edges : ℕ → List (Edge S)) (IsNode : ℕ → Type 0) where
  -- after a walk that came to no end another one can begin
  pub can_go_on : (w v : FramesValue) → CanVisit edges IsNode w → AreKept w v → IsSettled (ways_from edges) v.order → path_of v.stack ≡ [] → CanVisit edges IsNode v
  can_go_on w v ready kept settled path =
      record { nodes = subst (AreNodes IsNode (successors edges)) (sym kept.long) ready.nodes; marks = kept.fit; settled = settled; empty = no_path v.stack path }

  pub later_none : (w : FramesValue) → IsGoing edges IsNode w → IsLater edges IsNode w w
  later_none w going = record { long = refl; going = going; meets = λ r h. h; posts = λ r h. h; enters = λ r h. h }

  pub later_step : (w v u : FramesValue) (found : Option (End S)) → is_some found ≡ false → IsLater edges IsNode w v → Stepped edges IsNode v u found
      → IsLater edges IsNode w u × (walk_work edges u < walk_work edges v)
  later_step w v u (Some c) t l s = absurd (true≢false t)
  later_step w v u None t l s = grind arith

  pub later_found : (w v u : FramesValue) (found : Option (End S)) → is_some found ≡ true → IsLater edges IsNode w v → Stepped edges IsNode v u found → Ran edges IsNode w u found
  later_found w v u None t l s = absurd (false≢true t)
  later_found w v u (Some c) t l s = record { meets = l.meets (Some (ending_of (path_of u.stack) c)) s.meets; enters = l.enters (ends_at (ending_of (path_of u.stack) c)) s.enters }

  pub later_end : (w v : FramesValue) → IsLater edges IsNode w v → first_of v.stack ≡ None → Ran edges IsNode w v None
  later_end w v l e = record { later = l; empty = no_frames v.stack e }

  -- a visit: of a node that is done, or of a new one
  module _ (w : FramesValue) (start : ℕ) (marks : AreMarks w.marks w.begun w.order (path_of w.stack)) (settled : IsSettled (ways_from edges) w.order) (empty : w.stack ≡ []) where
    off_path : (m : ℕ) → In (path_of w.stack) m → ⊥
    off_path m i = subst (λ s. In (path_of s) m) empty i

    visited_order : In w.order start → Visited edges (seen w) (seen w) start None
    visited_order i = record {
      path = ap path_of empty;
      settled = settled;
      after = settled_after (ways_from edges) w.order settled;
      meets = done_meets (ways_from edges) w.order [] start settled (λ k a b. a) i;
      posts = skips i refl;
      enters = again start [] refl (λ k. k) (marks.walked start (inr i)) (ended refl refl);
      reached = adds_one (successors edges) (skips i refl) (settled_after (ways_from edges) w.order settled);
    }

    pub visited_done : slice_get w.marks start ≡ Some Done → Visited edges (seen w) (seen w) start None
    visited_done e = visited_order (marks.off start e)

    pub visited_path : slice_get w.marks start ≡ Some OnPath → Visited edges (seen w) (seen w) start None
    visited_path e = absurd (off_path start (marks.on start e))

    module _ (new : slice_get w.marks start ≡ Some New) where
      pub start_kept : AreKept w (entered w start)
      start_kept = record { long = set_length w.marks start OnPath; fit = marks_entered w.marks w.begun w.order (path_of w.stack) start marks new }

      pub start_going : IsNode start → IsGoing edges IsNode (entered w start)
      start_going node = record {
        marks = start_kept.fit;
        settled = settled;
        nodes = λ n i. elim i [ inl q ↦ subst IsNode (sym q) node | inr j ↦ absurd (off_path n j) ];
        passed = (λ way i. inr i, subst (λ s. ArePassed edges w.order (start ∷ w.order) s) (sym empty) tt);
      }

      start_meets : (r : Option (Ending ℕ S)) → MeetsLeft edges (entered w start).stack r → Meets (ways_from edges) [] start r
      start_meets r h = elim (subst (λ s. MeetsLeft edges (record { node = start; place = 0 } ∷ s) r) empty h) [
        | inl p ↦ goes (λ i. i) (subst (λ x. MeetsAll (ways_from edges) (start ∷ []) (ways_from edges start) x) (sym (p.1).1) (p.1).0)
        | inr p ↦ goes (λ i. i) (subst (λ x. MeetsAll (ways_from edges) (start ∷ []) (ways_from edges start) x) (sym p.1) p.0)
      ]

      start_posts : (r : List ℕ) → PostsLeft edges w.order (entered w start).stack r → Posts (successors edges) w.order start r
      start_posts r h = let p = subst (λ s. PostsLeft edges w.order (record { node = start; place = 0 } ∷ s) r) empty h in posts p.0 (marks.fresh start new).1 (p.1).0 (p.1).1

      start_new : In w.begun start → ⊥
      start_new i = elim (marks.entered start i) [ inl j ↦ off_path start j | inr j ↦ (marks.fresh start new).1 j ]

      start_enters : (r : WalkOutcome ℕ S) → EntersLeft edges (start ∷ w.begun) (entered w start).stack r → Enters (ways_from edges) [] w.begun (leads start ∷ []) r
      start_enters r h = elim (subst (λ s. EntersLeft edges (start ∷ w.begun) (record { node = start; place = 0 } ∷ s) r) empty h) [
        | inl p ↦ inside start [] p.0 refl (λ i. i) start_new (p.1).0 (p.1).1
        | inr p ↦ onward start [] p.0 refl (λ i. i) start_new (p.1).0 (ended refl (p.1).1)
      ]

      pub visited_ran : (v : FramesValue) (found : Option (End S)) → Ran edges IsNode (entered w start) v found → Visited edges (seen w) (seen v) start found
      visited_ran v None ran =
          let order : Posts (successors edges) w.order start v.order = start_posts v.order (ran.later.posts v.order (subst (λ s. PostsLeft edges v.order s v.order) (sym ran.empty) refl)) in
          let after = settled_after (ways_from edges) v.order ran.later.going.settled in record {
            path = ap path_of ran.empty;
            settled = ran.later.going.settled;
            after = after;
            meets = start_meets None (ran.later.meets None (subst (λ s. MeetsLeft edges s None) (sym ran.empty) refl));
            posts = order;
            enters = start_enters (goes_through v.begun) (ran.later.enters (goes_through v.begun) (subst (λ s. EntersLeft edges v.begun s (goes_through v.begun)) (sym ran.empty) refl));
            reached = adds_one (successors edges) order after;
          }
      visited_ran v (Some c) ran = record {
        meets = start_meets (Some (ending_of (path_of v.stack) c)) ran.meets;
        enters = start_enters (ends_at (ending_of (path_of v.stack) c)) ran.enters;
      }
