-- Covers made in the order of a depth-first walk, each once, give the nodes and the literals of the signals that are made again at every use.
use Rattle.aig_build.proofs.Common.{◌≡◌, ℕ, ◌+◌, ◌<◌, List, [], ◌∷◌, ◌++◌, length, Option, Some, None, refl, sym, ap, ◌∙◌, subst, inl, inr, reverse, slice_get, unwrap_or, IsSome, In, In-left, In-right, at_within, set_here, set_other, set_length, same_or, CoverValue, LibraryValue, FlatNet, Input, Latch, Cover, FlatCoverValue, FlatValue, cover_behind, cover_numbers, inputs_at, reads_at, IsThere, IsWithinBounds, Param, Lit, Pair, Answer, Extends, Extends-refl, Extends-trans, cover_made, IsCoverMade, NetLitsValue, no_lit, net_lit, net_lits, with_cover, Built, behind_made, gate_made, with_gate, walked, Posts, skips, posts, PostsAll, none, more}
use mathlib.Core.List.{reverse_aux, reverse-reverse}
use Rattle.depth_first.proofs.PostLemmas.{nodes_done}
use Rattle.aig_build.specs.NetlistGraph.{source_kinds, IsSourceLiteral, Makes, a_source, a_cover, MakesAll}
use Rattle.aig_build.specs.NetlistGraph as graph
use Rattle.aig_build.proofs.CoverLemmas.{cover_made-grows, cover_made-again}
use Rattle.aig_build.proofs.OnlyLemmas.{cover_is}

behind-grows : (first : ℕ) (ps : List Pair) (o : Option CoverValue) (lits : List Lit) → Extends ps (behind_made first ps o lits).pairs
behind-grows first ps None lits = Extends-refl ps
behind-grows first ps (Some cover) lits = cover_made-grows first ps cover lits

pub gate-grows : (library : LibraryValue) (first : ℕ) (b : Built) (o : Option FlatCoverValue) → Extends b.pairs (gate_made library first b o).pairs
gate-grows library first b None = Extends-refl b.pairs
gate-grows library first b (Some c) = behind-grows first b.pairs (cover_behind library c) (net_lits b.nets c.inputs)

pub walked-grows : (library : LibraryValue) (flat : FlatValue) (first : ℕ) (b : Built) (ks : List ℕ) → Extends b.pairs (walked library flat first b ks).pairs
walked-grows library flat first b [] = Extends-refl b.pairs
walked-grows library flat first b (k ∷ ks) =
    let made : Answer = gate_made library first b (slice_get flat.covers k) in
    Extends-trans b.pairs made.pairs (walked library flat first b (k ∷ ks)).pairs (gate-grows library first b (slice_get flat.covers k)) (walked-grows library flat first (with_gate b k made) ks)

walked-append : (library : LibraryValue) (flat : FlatValue) (first : ℕ) (b : Built) (ks js : List ℕ) → walked library flat first b (ks ++ js) ≡ walked library flat first (walked library flat first b ks) js
walked-append library flat first b [] js = refl
walked-append library flat first b (k ∷ ks) js = walked-append library flat first (with_gate b k (gate_made library first b (slice_get flat.covers k))) ks js

reverse_aux-append : (ks js done : List ℕ) → reverse_aux (ks ++ js) done ≡ reverse_aux js (reverse_aux ks done)
reverse_aux-append [] js done = refl
reverse_aux-append (k ∷ ks) js done = reverse_aux-append ks js (k ∷ done)

-- the sources' literals are theirs
pub record AreSourced (flat : FlatValue) (params : List Param) (nets : NetLitsValue) : Type 0 where
  pub inputs : (i : ℕ) → i < length flat.inputs → IsSourceLiteral flat params (Input i) (net_lit nets (Input i)).0
  pub latches : (j : ℕ) → IsSourceLiteral flat params (Latch j) (net_lit nets (Latch j)).0

module _ (library : LibraryValue) (flat : FlatValue) (params : List Param) where
  abbrev pub first_node : ℕ
  first_node = 1 + length (source_kinds flat params)

  -- a literal is the one of a net's signal over these nodes, and over all that extend them
  pub record HasSignal (ps : List Pair) (net : FlatNet) (lit : ℕ) : Type 0 where
    pub makes : (qs : List Pair) → Extends ps qs → Makes library flat params qs net (record { pairs = qs; lit = lit })

  HasSignal-more : (ps qs : List Pair) (net : FlatNet) (lit : ℕ) → Extends ps qs → HasSignal ps net lit → HasSignal qs net lit
  HasSignal-more ps qs net lit e h = record { makes = λ rs f. h.makes rs (Extends-trans ps qs rs e f) }

  -- and so are those of the covers that are done
  pub record AreKnown (b : Built) (done : List ℕ) : Type 0 where
    pub count : length (b.nets).covers ≡ length flat.covers
    pub sourced : AreSourced flat params b.nets
    pub each : (k : ℕ) → In done k → HasSignal b.pairs (Cover k) (net_lit b.nets (Cover k)).0

  -- what drives each net of a list is there
  abbrev pub AreThere : List FlatNet → Type 0
  AreThere nets = (net : FlatNet) → In nets net → IsThere flat net

  -- the nets of a list are made as these literals, and that leaves these nodes
  abbrev MadeNets : List Pair → Built → List FlatNet → Type 0
  MadeNets ps b nets = MakesAll library flat params ps nets (record { pairs = b.pairs; lits = net_lits b.nets nets })

  -- a net in front that adds nothing
  add_net : (ps : List Pair) (b : Built) (net : FlatNet) (nets : List FlatNet) → Makes library flat params ps net (record { pairs = ps; lit = (net_lit b.nets net).0 }) → MadeNets ps b nets → MadeNets ps b (net ∷ nets)
  add_net ps b net nets this others = graph.more net nets (record { pairs = ps; lit = (net_lit b.nets net).0 }) (record { pairs = b.pairs; lits = net_lits b.nets nets }) refl this others refl

  source_made : (ps : List Pair) (b : Built) (net : FlatNet) → AreSourced flat params b.nets → IsThere flat net → cover_numbers (net ∷ []) ≡ [] → Makes library flat params ps net (record { pairs = ps; lit = (net_lit b.nets net).0 })
  source_made ps b (Input i) s l e = a_source (net_lit b.nets (Input i)).0 (s.inputs i l) refl
  source_made ps b (Latch j) s l e = a_source (net_lit b.nets (Latch j)).0 (s.latches j) refl
  source_made ps b (Cover k) s l e = absurd (cc)

  -- nets without a cover
  none_made : (b : Built) → AreSourced flat params b.nets → (nets : List FlatNet) → AreThere nets → cover_numbers nets ≡ [] → MadeNets b.pairs b nets
  none_made b s [] there e = graph.none refl refl
  none_made b s (Cover k ∷ nets) there e = absurd (cc)
  none_made b s (net ∷ nets) there e = add_net b.pairs b net nets (source_made b.pairs b net s (there net (inl refl)) refl) (none_made b s nets (λ n m. there n (inr m)) e)

  -- nets whose first cover is n
  more_made : (ps qs : List Pair) (b : Built) (n : ℕ) (rest : List ℕ) → AreSourced flat params b.nets → Makes library flat params ps (Cover n) (record { pairs = qs; lit = (net_lit b.nets (Cover n)).0 })
      → ((nets : List FlatNet) → AreThere nets → cover_numbers nets ≡ rest → MadeNets qs b nets) → (nets : List FlatNet) → AreThere nets → cover_numbers nets ≡ n ∷ rest → MadeNets ps b nets
  more_made ps qs b n rest s this others [] there e = absurd (cc)
  more_made ps qs b n rest s this others (Cover k ∷ nets) there e =
      let same : k ≡ n = cc in
      let tail : cover_numbers nets ≡ rest = cc in
      graph.more (Cover k) nets (record { pairs = qs; lit = (net_lit b.nets (Cover k)).0 }) (record { pairs = b.pairs; lits = net_lits b.nets nets }) refl
      (subst (λ m. Makes library flat params ps (Cover m) (record { pairs = qs; lit = (net_lit b.nets (Cover m)).0 })) (sym same) this)
      (others nets (λ net m. there net (inr m)) tail) refl
  more_made ps qs b n rest s this others (net ∷ nets) there e =
      add_net ps b net nets (source_made ps b net s (there net (inl refl)) refl) (more_made ps qs b n rest s this others nets (λ m i. there m (inr i)) e)

  -- nets whose covers are done add nothing, over any nodes that extend these
  done_made : (b : Built) (done : List ℕ) → AreKnown b done → (nets : List FlatNet) → AreThere nets → ((k : ℕ) → In (cover_numbers nets) k → In done k) → (qs : List Pair) → Extends b.pairs qs
      → MadeNets qs (record { pairs = qs; nets = b.nets }) nets
  done_made b done known [] there among qs e = graph.none refl refl
  done_made b done known (Cover k ∷ nets) there among qs e =
      add_net qs (record { pairs = qs; nets = b.nets }) (Cover k) nets ((known.each k (among k (inl refl))).makes qs e) (done_made b done known nets (λ net m. there net (inr m)) (λ j i. among j (inr i)) qs e)
  done_made b done known (net ∷ nets) there among qs e =
      let c : Built = record { pairs = qs; nets = b.nets } in
      add_net qs c net nets (source_made qs c net known.sourced (there net (inl refl)) refl) (done_made b done known nets (λ m i. there m (inr i)) among qs e)

  module _ (bounds : IsWithinBounds library flat) where
    abbrev Walked : Built → List ℕ → Built
    Walked b ks = walked library flat first_node b ks

    -- what a visit leaves: the covers done are known, and those that were done before keep their literals
    record IsVisited (b after : Built) (done result : List ℕ) : Type 0 where
      known : AreKnown after result
      keeps : (k : ℕ) → In done k → net_lit after.nets (Cover k) ≡ net_lit b.nets (Cover k)

    -- the visit of a cover makes new ones in order, and so its signal
    record Visit (done : List ℕ) (n : ℕ) (result : List ℕ) : Type 0 where
      new : List ℕ
      is : result ≡ reverse_aux new done
      visited : (b : Built) → AreKnown b done → ((k : ℕ) → In new k → k < length flat.covers) → IsVisited b (Walked b new) done result
      made : (b : Built) → AreKnown b done → ((k : ℕ) → In new k → k < length flat.covers)
          → Makes library flat params b.pairs (Cover n) (record { pairs = (Walked b new).pairs; lit = (net_lit (Walked b new).nets (Cover n)).0 })

    -- and the visit of several, the signals of all nets whose covers they are
    record Visits (done ns result : List ℕ) : Type 0 where
      new : List ℕ
      is : result ≡ reverse_aux new done
      visited : (b : Built) → AreKnown b done → ((k : ℕ) → In new k → k < length flat.covers) → IsVisited b (Walked b new) done result
      made : (b : Built) → AreKnown b done → ((k : ℕ) → In new k → k < length flat.covers) → (nets : List FlatNet) → AreThere nets → cover_numbers nets ≡ ns → MadeNets b.pairs (Walked b new) nets

    -- a literal that was set, and the others
    lit_set : (nets : NetLitsValue) (k : ℕ) (lit : Lit) → k < length nets.covers → net_lit (with_cover nets k lit) (Cover k) ≡ lit
    lit_set nets k lit l = ap (λ o. unwrap_or o no_lit) (set_here nets.covers k lit l)

    lit_kept : (nets : NetLitsValue) (k j : ℕ) (lit : Lit) → (j ≡ k → ⊥) → net_lit (with_cover nets k lit) (Cover j) ≡ net_lit nets (Cover j)
    lit_kept nets k j lit o = ap (λ p. unwrap_or p no_lit) (set_other nets.covers k j lit o)

    -- a flat cover and the cover behind it
    pub record IsBehind (k : ℕ) : Type 0 where
      pub c : FlatCoverValue
      pub cover : CoverValue
      pub at : slice_get flat.covers k ≡ Some c
      pub behind : cover_behind library c ≡ Some cover

    some_of : (o : Option CoverValue) → IsSome o → (x : CoverValue) × (o ≡ Some x)
    some_of None h = absurd (cc)
    some_of (Some x) h = (x, refl)

    pub behind_at : (k : ℕ) → k < length flat.covers → IsBehind k
    behind_at k l =
        let c = at_within flat.covers k l in
        let o = some_of (cover_behind library c.0) (bounds.behind k c.0 c.1) in
        record { c = c.0; cover = o.0; at = c.1; behind = o.1 }

    pub gate_is : (b : Built) (k : ℕ) (i : IsBehind k) → gate_made library first_node b (slice_get flat.covers k) ≡ cover_made first_node b.pairs i.cover (net_lits b.nets (i.c).inputs)
    gate_is b k i = ap (gate_made library first_node b) i.at ∙ ap (λ o. behind_made first_node b.pairs o (net_lits b.nets (i.c).inputs)) i.behind

    reads_are : (k : ℕ) (i : IsBehind k) → reads_at flat k ≡ cover_numbers (i.c).inputs
    reads_are k i = ap (λ o. cover_numbers (inputs_at o)) i.at

    -- the signal of a cover over inputs that are done
    gate_signal : (b : Built) (below : List ℕ) (k : ℕ) → AreKnown b below → (i : IsBehind k) → ((m : ℕ) → In (reads_at flat k) m → In below m)
        → HasSignal (gate_made library first_node b (slice_get flat.covers k)).pairs (Cover k) (gate_made library first_node b (slice_get flat.covers k)).lit
    gate_signal b below k known i among =
        let lits : List Lit = net_lits b.nets (i.c).inputs in
        let made : Answer = cover_made first_node b.pairs i.cover lits in
        let signal : HasSignal made.pairs (Cover k) made.lit = record {
          makes = λ qs e. a_cover k i.c i.cover (record { pairs = qs; lits = lits }) refl i.at i.behind
              (done_made b below known (i.c).inputs (λ net m. bounds.cover_nets k i.c net i.at m) (λ m j. among m (subst (λ l. In l m) (sym (reads_are k i)) j)) qs
              (Extends-trans b.pairs made.pairs qs (cover_made-grows first_node b.pairs i.cover lits) e))
              (subst (IsCoverMade first_node qs i.cover lits) (cover_made-again first_node b.pairs qs i.cover lits e) (cover_is first_node qs i.cover lits));
        } in
        subst (λ (a : Answer). HasSignal a.pairs (Cover k) a.lit) (sym (gate_is b k i)) signal

    gate_known : (b : Built) (below : List ℕ) (k : ℕ) → k < length flat.covers → AreKnown b below → ((m : ℕ) → In (reads_at flat k) m → In below m)
        → AreKnown (with_gate b k (gate_made library first_node b (slice_get flat.covers k))) (k ∷ below)
    gate_known b below k l known among =
        let made : Answer = gate_made library first_node b (slice_get flat.covers k) in
        let n : length (b.nets).covers ≡ length flat.covers = known.count in
        let here : k < length (b.nets).covers = subst (λ m. k < m) (sym n) l in
        let lit : Lit = record { 0 = made.lit } in
        let own : HasSignal made.pairs (Cover k) (net_lit (with_cover b.nets k lit) (Cover k)).0 =
        subst (λ (x : Lit). HasSignal made.pairs (Cover k) x.0) (sym (lit_set b.nets k lit here)) (gate_signal b below k known (behind_at k l) among) in
        record {
          count = set_length (b.nets).covers k lit ∙ n;
          sourced = record { inputs = (known.sourced).inputs; latches = (known.sourced).latches };
          each = λ j i. elim (same_or j k) as (λ _. HasSignal made.pairs (Cover j) (net_lit (with_cover b.nets k lit) (Cover j)).0) [
            | inl e ↦ subst (λ m. HasSignal made.pairs (Cover m) (net_lit (with_cover b.nets k lit) (Cover m)).0) (sym e) own
            | inr o ↦ (elim i as (λ _. HasSignal made.pairs (Cover j) (net_lit (with_cover b.nets k lit) (Cover j)).0) [
              | inl e ↦ absurd (o e)
              | inr m ↦ subst (λ (x : Lit). HasSignal made.pairs (Cover j) x.0) (sym (lit_kept b.nets k j lit o))
                  (HasSignal-more b.pairs made.pairs (Cover j) (net_lit b.nets (Cover j)).0 (gate-grows library first_node b (slice_get flat.covers k)) (known.each j m))
            ])
          ];
        }

    -- the visit of a new cover, behind those that it reads
    visit_new : (done below result : List ℕ) (n : ℕ) → (In done n → ⊥) → Visits done (reads_at flat n) below → PostsAll (reads_at flat) done (reads_at flat n) below → result ≡ n ∷ below → Visit done n result
    visit_new done below result n fresh v d q =
        let one : List ℕ = n ∷ [] in
        record {
          new = v.new ++ one;
          is = q ∙ ap (λ l. n ∷ l) v.is ∙ sym (reverse_aux-append v.new one done);
          visited = λ b known there.
              let m = v.visited b known (λ k i. there k (In-left v.new one k i)) in
              let b1 : Built = Walked b v.new in
              let within : n < length flat.covers = there n (In-right v.new one n (inl refl)) in
              let after : Built = with_gate b1 n (gate_made library first_node b1 (slice_get flat.covers n)) in
              subst (λ x. IsVisited b x done result) (sym (walked-append library flat first_node b v.new one)) (record {
                known = subst (AreKnown after) (sym q) (gate_known b1 below n within m.known (nodes_done (reads_at flat) d));
                keeps = λ k i. lit_kept b1.nets n k (record { 0 = (gate_made library first_node b1 (slice_get flat.covers n)).lit }) (λ e. fresh (subst (In done) e i)) ∙ m.keeps k i;
              });
          made = λ b known there.
              let inside : (k : ℕ) → In v.new k → k < length flat.covers = λ k i. there k (In-left v.new one k i) in
              let m = v.visited b known inside in
              let b1 : Built = Walked b v.new in
              let within : n < length flat.covers = there n (In-right v.new one n (inl refl)) in
              let here : n < length (b1.nets).covers = subst (λ l. n < l) (sym (m.known).count) within in
              let i : IsBehind n = behind_at n within in
              let made : Answer = gate_made library first_node b1 (slice_get flat.covers n) in
              let last : Makes library flat params b.pairs (Cover n) (record { pairs = made.pairs; lit = (net_lit (with_cover b1.nets n (record { 0 = made.lit })) (Cover n)).0 }) =
              a_cover n i.c i.cover (record { pairs = b1.pairs; lits = net_lits b1.nets (i.c).inputs }) refl i.at i.behind
              (v.made b known inside (i.c).inputs (λ net j. bounds.cover_nets n i.c net i.at j) (sym (reads_are n i)))
              (subst (IsCoverMade first_node b1.pairs i.cover (net_lits b1.nets (i.c).inputs))
              (sym (ap (λ (x : Lit). record { pairs = made.pairs; lit = x.0 }) (lit_set b1.nets n (record { 0 = made.lit }) here) ∙ gate_is b1 n i))
              (cover_is first_node b1.pairs i.cover (net_lits b1.nets (i.c).inputs))) in
              subst (λ (x : Built). Makes library flat params b.pairs (Cover n) (record { pairs = x.pairs; lit = (net_lit x.nets (Cover n)).0 })) (sym (walked-append library flat first_node b v.new one)) last;
        }

    -- the visit of a cover, and then of others
    visit_more : (done below result : List ℕ) (n : ℕ) (rest ns : List ℕ) → ns ≡ n ∷ rest → In below n → Visit done n below → Visits below rest result → Visits done ns result
    visit_more done below result n rest ns a i v w =
        record {
          new = v.new ++ w.new;
          is = w.is ∙ ap (reverse_aux w.new) v.is ∙ sym (reverse_aux-append v.new w.new done);
          visited = λ b known there.
              let m = v.visited b known (λ k j. there k (In-left v.new w.new k j)) in
              let b1 : Built = Walked b v.new in
              let o = w.visited b1 m.known (λ k j. there k (In-right v.new w.new k j)) in
              subst (λ x. IsVisited b x done result) (sym (walked-append library flat first_node b v.new w.new)) (record {
                known = o.known;
                keeps = λ k j. o.keeps k (stays k j v.is) ∙ m.keeps k j;
              });
          made = λ b known there nets are e.
              let front : (k : ℕ) → In v.new k → k < length flat.covers = λ k j. there k (In-left v.new w.new k j) in
              let back : (k : ℕ) → In w.new k → k < length flat.covers = λ k j. there k (In-right v.new w.new k j) in
              let m = v.visited b known front in
              let b1 : Built = Walked b v.new in
              let b2 : Built = Walked b1 w.new in
              let o = w.visited b1 m.known back in
              let this : Makes library flat params b.pairs (Cover n) (record { pairs = b1.pairs; lit = (net_lit b2.nets (Cover n)).0 }) =
              subst (λ (x : Lit). Makes library flat params b.pairs (Cover n) (record { pairs = b1.pairs; lit = x.0 })) (sym (o.keeps n i)) (v.made b known front) in
              subst (λ (x : Built). MadeNets b.pairs x nets) (sym (walked-append library flat first_node b v.new w.new))
              (more_made b.pairs b1.pairs b2 n rest ((o.known).sourced) this (λ others oa oe. w.made b1 m.known back others oa oe) nets are (e ∙ a));
        }
      where
        stays_aux : (k : ℕ) (new old : List ℕ) → In old k → In (reverse_aux new old) k
        stays_aux k [] old j = j
        stays_aux k (x ∷ new) old j = stays_aux k new (x ∷ old) (inr j)

        stays : (k : ℕ) → In done k → below ≡ reverse_aux v.new done → In below k
        stays k j e = subst (λ l. In l k) (sym e) (stays_aux k v.new done j)

    mutual
      node_visit : {done result : List ℕ} {n : ℕ} → Posts (reads_at flat) done n result → Visit done n result
      node_visit {done} {result} {n} (skips j q) = record {
        new = [];
        is = q;
        visited = λ b known there. record { known = subst (AreKnown b) (sym q) known; keeps = λ k i. refl };
        made = λ b known there. (known.each n j).makes b.pairs (Extends-refl b.pairs);
      }
      node_visit {done} {result} {n} (posts below fresh d q) = visit_new done below result n fresh (nodes_visit d) d q

      nodes_visit : {done ns result : List ℕ} → PostsAll (reads_at flat) done ns result → Visits done ns result
      nodes_visit {done} {ns} {result} (none a q) = record {
        new = [];
        is = q;
        visited = λ b known there. record { known = subst (AreKnown b) (sym q) known; keeps = λ k i. refl };
        made = λ b known there nets are e. none_made b known.sourced nets are (e ∙ a);
      }
      nodes_visit {done} {ns} {result} (more n rest below a p ps) =
          visit_more done below result n rest ns a (nodes_done (reads_at flat) (more n [] below refl p (none refl refl)) n (inl refl)) (node_visit p) (nodes_visit ps)

    -- the covers of a whole order, from no node on, give the nodes and the literals of the nets from which it is walked
    pub order_made : (order : List ℕ) (b : Built) → AreKnown b [] → ((k : ℕ) → In order k → k < length flat.covers) → (nets : List FlatNet) → AreThere nets → PostsAll (reads_at flat) [] (cover_numbers nets) (reverse order)
        → MadeNets b.pairs (Walked b order) nets
    order_made order b known there nets are posts_all =
        let v = nodes_visit posts_all in
        let same : order ≡ v.new = sym (reverse-reverse order) ∙ ap reverse v.is ∙ reverse-reverse v.new in
        subst (λ l. MadeNets b.pairs (Walked b l) nets) (sym same) (v.made b known (λ k i. there k (subst (λ l. In l k) (sym same) i)) nets are refl)
