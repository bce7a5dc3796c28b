-- Steps of a walk with marks and a stack.
use Rattle.depth_first.proofs.Common.{◌≡◌, ℕ, ◌+◌, ◌<◌, List, [], ◌∷◌, length, Option, Some, None, refl, sym, ap, subst, inl, inr, arith, slice_get, slice_set, none-some, same_Some, In, drop_get, drop_past, past_end, set_length, Edge, Node, Stop, Pass, Frame, New, OnPath, Done, LeadsInto, ways_of, ways_from, successors, FramesValue, path_of, first_of, others_of, entered, onward, advanced, finished, left_of, frames_work, new_work, walk_work, MeetsLeft, PostsLeft, EntersLeft, ArePassed, IsGoing, IsLater, Stepped}
use Rattle.depth_first.specs.DepthFirst.{Way, leads, stops, Ending, repeats, halts, nodes_of, Meets, met, goes, MeetsAll, stop, first, later, skips, posts, PostsAll, more, WalkOutcome, ends_at, goes_through, Enters, ended, stopped_at, back, again, inside, onward as onward_to}
use Rattle.depth_first.proofs.DepthLemmas.{done_meets, leads_more}
use Rattle.depth_first.proofs.MarkLemmas.{marks_entered, marks_finished}
use Rattle.depth_first.proofs.WorkLemmas.{enter_less, finish_less}

-- the state with its first frame apart
abbrev pub with_top : FramesValue → Frame → FramesValue
with_top w f = record { marks = w.marks; begun = w.begun; order = w.order; stack = f ∷ others_of w.stack }

top_first : (fs : List Frame) (f : Frame) → first_of fs ≡ Some f → f ∷ others_of fs ≡ fs
top_first [] f e = absurd (none-some f e)
top_first (g ∷ fs) f e = ap (λ h. h ∷ fs) (sym (same_Some g f e))

abbrev with_stack : FramesValue → List Frame → FramesValue
with_stack w s = record { marks = w.marks; begun = w.begun; order = w.order; stack = s }

pub top_is : (w : FramesValue) (f : Frame) → first_of w.stack ≡ Some f → with_top w f ≡ w
top_is w f e = ap (with_stack w) (top_first w.stack f e)

module _ {S : Type 0} (edges : ℕ → List (Edge S)) where
  abbrev ways : ℕ → List (Way ℕ S)
  ways n = ways_from edges n

  pub passed_more : (order wider above upper : List ℕ) (fs : List Frame) → ((k : ℕ) → In order k → In wider k) → ((k : ℕ) → In above k → In upper k)
      → ArePassed edges order above fs → ArePassed edges wider upper fs
  passed_more order wider above upper [] h g p = tt
  passed_more order wider above upper (f ∷ fs) h g p = grind (arith, leads_more, passed_more order wider (f.node ∷ order) (f.node ∷ wider) fs h (λ k i. elim i [ inl q ↦ inl q | inr j ↦ inr (h k j) ]) p.1)

  abbrev begin : ℕ → Frame
  begin n = record { node = n; place = 0 }

  -- what is left to follow: a node, a stop, nothing to see, and the end
  module _ (f : Frame) where
    left_edge : (e : Edge S) → slice_get (edges f.node) f.place ≡ Some e → left_of edges f ≡ e ∷ left_of edges (onward f)
    left_edge e at = drop_get (edges f.node) f.place e at

    pub left_node : (m : ℕ) → slice_get (edges f.node) f.place ≡ Some (Node m) → ways_of (left_of edges f) ≡ leads m ∷ ways_of (left_of edges (onward f))
    left_node m at = ap ways_of (left_edge (Node m) at)

    pub left_stop : (s : S) → slice_get (edges f.node) f.place ≡ Some (Stop s) → ways_of (left_of edges f) ≡ stops s ∷ ways_of (left_of edges (onward f))
    left_stop s at = ap ways_of (left_edge (Stop s) at)

    pub left_pass : slice_get (edges f.node) f.place ≡ Some Pass → ways_of (left_of edges f) ≡ ways_of (left_of edges (onward f))
    left_pass at = ap ways_of (left_edge Pass at)

    pub left_end : slice_get (edges f.node) f.place ≡ None → ways_of (left_of edges f) ≡ []
    left_end at = ap ways_of (drop_past (edges f.node) f.place (past_end (edges f.node) f.place at))

    pub left_less : (e : Edge S) → slice_get (edges f.node) f.place ≡ Some e → length (left_of edges f) ≡ 1 + length (left_of edges (onward f))
    left_less e at = let a : length (left_of edges f) ≡ length (e ∷ left_of edges (onward f)) = ap length (left_edge e at) in omega arith

  -- what is left to meet and to do, step by step
  module _ (f : Frame) (fs : List Frame) where
    abbrev path : List ℕ
    path = f.node ∷ path_of fs

    abbrev rest : List (Way ℕ S)
    rest = ways_of (left_of edges (onward f))

    meets_same : ways_of (left_of edges f) ≡ rest → (r : Option (Ending ℕ S)) → MeetsLeft edges (onward f ∷ fs) r → MeetsLeft edges (f ∷ fs) r
    meets_same e r h = elim h [
      | inl p ↦ inl (p.0, (subst (λ y. MeetsAll ways path y (Some p.0)) (sym e) (p.1).0, (p.1).1))
      | inr p ↦ inr (subst (λ y. MeetsAll ways path y None) (sym e) p.0, p.1)
    ]

    posts_same : (done : List ℕ) → ways_of (left_of edges f) ≡ rest → (r : List ℕ) → PostsLeft edges done (onward f ∷ fs) r → PostsLeft edges done (f ∷ fs) r
    posts_same done e r p = (p.0, (subst (λ y. PostsAll (successors edges) done (nodes_of y) p.0) (sym e) (p.1).0, (p.1).1))

    enters_same : (before : List ℕ) → ways_of (left_of edges f) ≡ rest → (r : WalkOutcome ℕ S) → EntersLeft edges before (onward f ∷ fs) r → EntersLeft edges before (f ∷ fs) r
    enters_same before e r h = elim h [
      | inl p ↦ inl (p.0, (subst (λ y. Enters ways path before y (ends_at p.0)) (sym e) (p.1).0, (p.1).1))
      | inr p ↦ inr (p.0, (subst (λ y. Enters ways path before y (goes_through p.0)) (sym e) (p.1).0, (p.1).1))
    ]

    enters_end : (before : List ℕ) → ways_of (left_of edges f) ≡ [] → (r : WalkOutcome ℕ S) → EntersLeft edges before fs r → EntersLeft edges before (f ∷ fs) r
    enters_end before e r h = inr (before, (ended e refl, h))

    meets_end : ways_of (left_of edges f) ≡ [] → (r : Option (Ending ℕ S)) → MeetsLeft edges fs r → MeetsLeft edges (f ∷ fs) r
    meets_end e r h = inr (MeetsAll.none e refl, h)

    posts_end : (done : List ℕ) → ways_of (left_of edges f) ≡ [] → (r : List ℕ) → PostsLeft edges (f.node ∷ done) fs r → PostsLeft edges done (f ∷ fs) r
    posts_end done e r p = (done, (PostsAll.none (ap nodes_of e) refl, p))

    pub enters_stop : (before : List ℕ) (s : S) → ways_of (left_of edges f) ≡ stops s ∷ rest → EntersLeft edges before (f ∷ fs) (ends_at (halts s path))
    enters_stop before s e = inl (halts s path, (stopped_at s rest e refl, refl))

    pub meets_stop : (s : S) → ways_of (left_of edges f) ≡ stops s ∷ rest → MeetsLeft edges (f ∷ fs) (Some (halts s path))
    meets_stop s e = inl (halts s path, (stop s rest e refl, refl))

    module _ (m : ℕ) (e : ways_of (left_of edges f) ≡ leads m ∷ rest) where
      nodes_more : nodes_of (ways_of (left_of edges f)) ≡ m ∷ nodes_of rest
      nodes_more = ap nodes_of e

      meets_none : Meets ways path m None → (r : Option (Ending ℕ S)) → MeetsLeft edges (onward f ∷ fs) r → MeetsLeft edges (f ∷ fs) r
      meets_none d r h = elim h [
        | inl p ↦ inl (p.0, (later m rest e d (p.1).0, (p.1).1))
        | inr p ↦ inr (later m rest e d p.0, p.1)
      ]

      posts_skip : (done : List ℕ) → In done m → (r : List ℕ) → PostsLeft edges done (onward f ∷ fs) r → PostsLeft edges done (f ∷ fs) r
      posts_skip done i r p = (p.0, (more m (nodes_of rest) done nodes_more (skips i refl) (p.1).0, (p.1).1))

      enters_again : (before : List ℕ) → (In path m → ⊥) → In before m → (r : WalkOutcome ℕ S) → EntersLeft edges before (onward f ∷ fs) r → EntersLeft edges before (f ∷ fs) r
      enters_again before off i r h = elim h [
        | inl p ↦ inl (p.0, (again m rest e off i (p.1).0, (p.1).1))
        | inr p ↦ inr (p.0, (again m rest e off i (p.1).0, (p.1).1))
      ]

      enters_new : (before : List ℕ) → (In path m → ⊥) → (In before m → ⊥) → (r : WalkOutcome ℕ S) → EntersLeft edges (m ∷ before) (begin m ∷ onward f ∷ fs) r → EntersLeft edges before (f ∷ fs) r
      enters_new before off new r h = elim h [
        | inl p ↦ inl (p.0, (inside m rest p.0 e off new (p.1).0 refl, (p.1).1))
        | inr p ↦ (elim (p.1).1 [
          | inl q ↦ inl (q.0, (onward_to m rest p.0 e off new (p.1).0 (q.1).0, (q.1).1))
          | inr q ↦ inr (q.0, (onward_to m rest p.0 e off new (p.1).0 (q.1).0, (q.1).1))
        ])
      ]

      pub enters_hit : (before : List ℕ) → In path m → EntersLeft edges before (f ∷ fs) (ends_at (repeats m path))
      enters_hit before i = inl (repeats m path, (back m rest e i refl, refl))

      meets_enter : (In path m → ⊥) → (r : Option (Ending ℕ S)) → MeetsLeft edges (begin m ∷ onward f ∷ fs) r → MeetsLeft edges (f ∷ fs) r
      meets_enter off r h = elim h [
        | inl p ↦ inl (p.0, (first m rest p.0 e (goes off (p.1).0) refl, (p.1).1))
        | inr p ↦ meets_none (goes off p.0) r p.1
      ]

      posts_enter : (done : List ℕ) → (In done m → ⊥) → (r : List ℕ) → PostsLeft edges done (begin m ∷ onward f ∷ fs) r → PostsLeft edges done (f ∷ fs) r
      posts_enter done off r p = (((p.1).1).0, (more m (nodes_of rest) (m ∷ p.0) nodes_more (posts p.0 off (p.1).0 refl) (((p.1).1).1).0, (((p.1).1).1).1))

      pub meets_hit : In path m → MeetsLeft edges (f ∷ fs) (Some (repeats m path))
      meets_hit i = inl (repeats m path, (first m rest (repeats m path) e (met i refl) refl, refl))

  -- the steps from a walk whose first frame is f
  module _ (IsNode : ℕ → Type 0) (w : FramesValue) (f : Frame) (going : IsGoing edges IsNode (with_top w f)) where
    abbrev fs : List Frame
    fs = others_of w.stack

    -- the frame's node is left
    end_later : slice_get (edges f.node) f.place ≡ None → IsLater edges IsNode (with_top w f) (finished w f.node)
    end_later at = let e = left_end f at in record {
      long = set_length w.marks f.node Done;
      going = record {
        marks = marks_finished w.marks w.begun w.order (path_of fs) f.node going.marks;
        settled = (
          λ way i. elim (going.passed.0 way i) [ inl a ↦ a | inr b ↦ absurd (subst (λ y. In y way) e b) ],
          (going.marks.apart f.node (inl refl), going.settled),
        );
        nodes = λ n i. going.nodes n (inr i);
        passed = passed_more w.order (f.node ∷ w.order) (f.node ∷ w.order) (f.node ∷ w.order) fs (λ k i. inr i) (λ k i. i) going.passed.1;
      };
      meets = meets_end f fs e;
      posts = posts_end f fs w.order e;
      enters = enters_end f fs w.begun e;
    }

    pub end_step : slice_get (edges f.node) f.place ≡ None → Stepped edges IsNode (with_top w f) (finished w f.node) None
    end_step at = record {
      later = end_later at;
      fewer = (let b : new_work edges (slice_set w.marks f.node Done) + frames_work edges fs < new_work edges w.marks + (1 + length (left_of edges f) + frames_work edges fs) = omega (arith, finish_less edges w.marks f.node) in b);
    }

    module _ (edge : Edge S) (at : slice_get (edges f.node) f.place ≡ Some edge) where
      fewer_next : walk_work edges (advanced w f) < walk_work edges (with_top w f)
      fewer_next =
          let b : new_work edges w.marks + (1 + length (left_of edges (onward f)) + frames_work edges fs) < new_work edges w.marks + (1 + length (left_of edges f) + frames_work edges fs) = omega (arith, left_less f edge at) in b

      -- an edge without anything to see is passed
      pub pass_step : edge ≡ Pass → Stepped edges IsNode (with_top w f) (advanced w f) None
      pass_step is = let e = left_pass f (subst (λ x. slice_get (edges f.node) f.place ≡ Some x) is at) in record {
        later = record {
          long = refl;
          going = record {
            marks = going.marks;
            settled = going.settled;
            nodes = going.nodes;
            passed = (λ way i. elim (going.passed.0 way i) [ inl a ↦ inl a | inr b ↦ inr (subst (λ y. In y way) e b) ], going.passed.1);
          };
          meets = meets_same f fs e;
          posts = posts_same f fs w.order e;
          enters = enters_same f fs w.begun e;
        };
        fewer = fewer_next;
      }

      module _ (m : ℕ) (is : edge ≡ Node m) where
        pub one_more : ways_of (left_of edges f) ≡ leads m ∷ ways_of (left_of edges (onward f))
        one_more = left_node f m (subst (λ x. slice_get (edges f.node) f.place ≡ Some x) is at)

        pub done_step : In w.order m → Stepped edges IsNode (with_top w f) (advanced w f) None
        done_step i = record {
          later = record {
            long = refl;
            going = record {
              marks = going.marks;
              settled = going.settled;
              nodes = going.nodes;
              passed = (
                λ way j. elim (going.passed.0 way j) [
                  | inl a ↦ inl a
                  | inr b ↦ (elim (subst (λ y. In y way) one_more b) [ inl q ↦ inl (subst (LeadsInto w.order) (sym q) i) | inr j' ↦ inr j' ])
                ],
                going.passed.1,
              );
            };
            meets = meets_none f fs m one_more (done_meets ways w.order (f.node ∷ path_of fs) m going.settled going.marks.apart i);
            posts = posts_skip f fs m one_more w.order i;
            enters = enters_again f fs m one_more w.begun (λ j. going.marks.apart m j i) (going.marks.walked m (inr i));
          };
          fewer = fewer_next;
        }

        new_later : IsNode m → slice_get w.marks m ≡ Some New → IsLater edges IsNode (with_top w f) (entered (advanced w f) m)
        new_later node z = record {
          long = set_length w.marks m OnPath;
          going = record {
            marks = marks_entered w.marks w.begun w.order (f.node ∷ path_of fs) m going.marks z;
            settled = going.settled;
            nodes = λ n i. elim i [ inl q ↦ subst IsNode (sym q) node | inr j ↦ going.nodes n j ];
            passed = (
              λ way j. inr j,
              (
                λ way j. elim (going.passed.0 way j) [
                  | inl a ↦ inl (leads_more w.order (m ∷ w.order) (λ k i. inr i) way a)
                  | inr b ↦ (elim (subst (λ y. In y way) one_more b) [ inl q ↦ inl (subst (LeadsInto (m ∷ w.order)) (sym q) (inl refl)) | inr j' ↦ inr j' ])
                ],
                going.passed.1,
              ),
            );
          };
          meets = meets_enter f fs m one_more (going.marks.fresh m z).0;
          posts = posts_enter f fs m one_more w.order (going.marks.fresh m z).1;
          enters = enters_new f fs m one_more w.begun (going.marks.fresh m z).0 (λ i. elim (going.marks.entered m i) [ inl j ↦ (going.marks.fresh m z).0 j | inr j ↦ (going.marks.fresh m z).1 j ]);
        }

        pub new_step : IsNode m → slice_get w.marks m ≡ Some New → Stepped edges IsNode (with_top w f) (entered (advanced w f) m) None
        new_step node z = record {
          later = new_later node z;
          fewer = (let d : new_work edges (slice_set w.marks m OnPath) + (1 + length (edges m) + (1 + length (left_of edges (onward f)) + frames_work edges fs))
              < new_work edges w.marks + (1 + length (left_of edges f) + frames_work edges fs) = omega (arith, left_less f edge at, enter_less edges w.marks m z) in d);
        }
