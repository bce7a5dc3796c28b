-- Going over the postorder of a LUT's cone once, with one literal a node, makes what the recursion from the LUT's node makes.
use Rattle.bit_fun.proofs.Common.{◌≡◌, ℕ, zero, suc, ◌-◌, ◌/◌, ◌<◌, ◌≤◌, true, min, max, List, ◌∷◌, length, slice_set, get_or-set_same, get_or-set_other, Option, refl, sym, ap, ◌∙◌, subst, inl, inr, arith, length-set, true≢false, slice_get_within, In, In-get, place_in, in_or, same_or, Parameter, Lit, Pair, Aig, first_and, node_count, IsNode, IsNormal, AreNormal, IsSource, Answer, product_of, node_normal, Extends, Extends-refl, Extends-trans, and_grows, Bool, false, ◌||◌, mark_of, ends_at, is_stop, IsInner, inner_stop, node_inside, Blocks, member, blocks_constant, blocks_parameter, fan_ins, Posts, skips, posts, IsParam, cone_next, Visits, passed, walked, PassValue, lit_of, fan_in, with_made, made_node, pass_over, HaveSourceLits, HaveLeafLits}
use Rattle.bit_fun.specs.PackOf.{phase_literal, MakesNode, leaf, constant, parameter, node}
use Rattle.bit_fun.proofs.BitLemmas.{AreLeaves}
use Rattle.bit_fun.proofs.ConeWalkLemmas.{VisitsBoth, visits_both, ends_inner, or_fails_right}
use Rattle.bit_fun.proofs.MadeLemmas.{makes_once, node_grows, node_again}

-- over nodes that extend those so far, a node is made at once, and its literal is the one that stands for it
pub record IsKnown (g : Aig) (first : ℕ) (leaves : List ℕ) (v : ℕ) (s : PassValue) (m : ℕ) : Type 0 where
  pub again : (qs : List Pair) → Extends s.pairs qs → MakesNode g first leaves v qs m (record { pairs = qs; lit = lit_of s.lits m })

-- what stands after the nodes of an order
pub record IsPassed (g : Aig) (first : ℕ) (leaves : List ℕ) (v : ℕ) (kept : List Bool) (s : PassValue) (order : List ℕ) : Type 0 where
  pub sources : HaveSourceLits g s.lits
  pub leaves_have : HaveLeafLits leaves v s.lits
  pub kept_known : (m : ℕ) → mark_of kept m ≡ true → IsKnown g first leaves v s m
  pub known : (m : ℕ) → In order m → IsKnown g first leaves v s m

-- a visit of a node makes what the recursion from it makes
pub record IsVisited (g : Aig) (first : ℕ) (leaves : List ℕ) (v : ℕ) (kept : List Bool) (s : PassValue) (before : List ℕ) (n : ℕ) (r : PassValue) (after : List ℕ) : Type 0 where
  pub makes : MakesNode g first leaves v s.pairs n (record { pairs = r.pairs; lit = lit_of r.lits n })
  pub keeps : (m : ℕ) → In before m → In after m
  pub passed_on : IsPassed g first leaves v kept r after
  pub known : IsKnown g first leaves v r n

-- a node that is passed over: a leaf, the constant or a parameter
leaf_known : (g : Aig) (first : ℕ) (leaves : List ℕ) (v : ℕ) (s : PassValue) (n : ℕ) → HaveLeafLits leaves v s.lits → In leaves n → IsKnown g first leaves v s n
leaf_known g first leaves v s n have i = let p = place_in leaves n i in record { again = λ qs e. leaf p.0 p.1 (ap (λ l. record { pairs = qs; lit = l }) (have.each p.0 n p.1)) }

constant_known : (g : Aig) (first : ℕ) (leaves : List ℕ) (v : ℕ) (s : PassValue) (n : ℕ) → HaveSourceLits g s.lits → n ≡ 0 → IsKnown g first leaves v s n
constant_known g first leaves v s n have z = record { again = λ qs e. constant z (ap (λ l. record { pairs = qs; lit = l }) (ap (lit_of s.lits) z ∙ have.constant)) }

parameter_known : (g : Aig) (first : ℕ) (leaves : List ℕ) (v : ℕ) (s : PassValue) (n : ℕ) → HaveSourceLits g s.lits → IsSource g Parameter n → IsKnown g first leaves v s n
parameter_known g first leaves v s n have is =
    let at : IsParam g _ n = record { source = is; place = refl } in
    record { again = λ qs e. parameter _ at (ap (λ l. record { pairs = qs; lit = l }) (have.parameter _ n at)) }

-- an AND node that is passed over is a leaf
stop_leaf : (g : Aig) (leaves : List ℕ) (n : ℕ) (p : Pair) → IsNode g p n → is_stop g leaves n ≡ true → In leaves n
stop_leaf g leaves n p is stop = elim (in_or leaves n) [
  | inl i ↦ i
  | inr out ↦ absurd (true≢false (sym stop ∙ inner_stop g leaves n (record { and = (is.above, node_inside g p n is); apart = out })))
]

stop_known : (g : Aig) (first : ℕ) (leaves : List ℕ) (v : ℕ) (s : PassValue) (n : ℕ) → HaveSourceLits g s.lits → HaveLeafLits leaves v s.lits → is_stop g leaves n ≡ true → Blocks g leaves n → IsKnown g first leaves v s n
stop_known g first leaves v s n sources have stop (member i) = leaf_known g first leaves v s n have i
stop_known g first leaves v s n sources have stop (blocks_constant z) = constant_known g first leaves v s n sources z
stop_known g first leaves v s n sources have stop (blocks_parameter is) = parameter_known g first leaves v s n sources is
stop_known g first leaves v s n sources have stop (fan_ins p is bx by) = leaf_known g first leaves v s n have (stop_leaf g leaves n p is stop)

-- so is one at which the walk ends: its literal is kept, or it is one of those
end_known : (g : Aig) (first : ℕ) (leaves : List ℕ) (v : ℕ) (kept : List Bool) (s : PassValue) (n : ℕ) {order : List ℕ} → IsPassed g first leaves v kept s order → ends_at g leaves kept n ≡ true → Blocks g leaves n → IsKnown g first leaves v s n
end_known g first leaves v kept s n have ends blocks = by (is_stop g leaves n) refl
  where
    by : (stops : Bool) → is_stop g leaves n ≡ stops → IsKnown g first leaves v s n
    by true e = stop_known g first leaves v s n have.sources have.leaves_have e blocks
    by false e = have.kept_known n (ap (λ b. b || mark_of kept n) (sym e) ∙ ends)

-- what a node's literal leaves
pub lit_other : (lits : List Lit) (n m : ℕ) (l : Lit) → (m ≡ n → ⊥) → lit_of (slice_set lits n l) m ≡ lit_of lits m
lit_other lits n m l off = ap (λ (x : Lit). x.0) (get_or-set_other lits n m l (record { 0 = 0 }) off)

pub lit_here : (lits : List Lit) (n : ℕ) (l : Lit) → n < length lits → lit_of (slice_set lits n l) n ≡ l.0
lit_here lits n l w = ap (λ (x : Lit). x.0) (get_or-set_same lits n l (record { 0 = 0 }) w)

-- writing the literal of an AND node that is no leaf leaves those of the sources and the leaves
pub sources_kept : (g : Aig) (leaves : List ℕ) (lits : List Lit) (n : ℕ) (l : Lit) → IsInner g leaves n → HaveSourceLits g lits → HaveSourceLits g (slice_set lits n l)
sources_kept g leaves lits n l inner have = record {
  long = length-set lits n l ∙ have.long;
  constant = lit_other lits n 0 l (λ e. let a : first_and g ≤ n = inner.and.0 in omega arith) ∙ have.constant;
  parameter = λ j m is.
      lit_other lits n m l (λ e. omega (arith, slice_get_within g.kinds (m - 1) Parameter (is.source).is, (is.source).above, inner.and.0)) ∙ have.parameter j m is;
}

pub leaves_kept : (g : Aig) (leaves : List ℕ) (v : ℕ) (lits : List Lit) (n : ℕ) (l : Lit) → IsInner g leaves n → HaveLeafLits leaves v lits → HaveLeafLits leaves v (slice_set lits n l)
leaves_kept g leaves v lits n l inner have = record { each = λ j m at. lit_other lits n m l (λ e. inner.apart (subst (In leaves) e (In-get leaves j m at))) ∙ have.each j m at }

-- a node that was made stays known while others are made
known_on : (g : Aig) (first : ℕ) (leaves : List ℕ) (v : ℕ) (s : PassValue) (n m : ℕ) (a : Answer) → Extends s.pairs a.pairs → (m ≡ n → ⊥) → IsKnown g first leaves v s m → IsKnown g first leaves v (with_made s.lits n a) m
known_on g first leaves v s n m a grows off known = record {
  again = λ qs e. subst (λ l. MakesNode g first leaves v qs m (record { pairs = qs; lit = l })) (sym (lit_other s.lits n m (record { 0 = a.lit }) off)) (known.again qs (Extends-trans s.pairs a.pairs qs grows e));
}

-- one more AND node, once its fan-ins stand
module _ (g : Aig) (first : ℕ) (leaves : List ℕ) (v : ℕ) (kept : List Bool) (are : AreLeaves g leaves) where
  -- what stands for a node is what was made for it
  same_literal : (s : PassValue) (m : ℕ) (from : List Pair) (made : Answer) → MakesNode g first leaves v from m made → Extends made.pairs s.pairs → IsKnown g first leaves v s m → made.lit ≡ lit_of s.lits m
  same_literal s m from made makes grows known =
      ap (λ (a : Answer). a.lit) (makes_once g first leaves v s.pairs m (record { pairs = s.pairs; lit = made.lit }) (record { pairs = s.pairs; lit = lit_of s.lits m }) are
      (node_again g first leaves v from m made makes s.pairs grows) (known.again s.pairs (Extends-refl s.pairs)))

  grown : (s : PassValue) (p : Pair) → Extends s.pairs (product_of first s.pairs (fan_in s.lits p.x.0) (fan_in s.lits p.y.0)).pairs
  grown s p = and_grows first s.pairs (min (fan_in s.lits p.x.0) (fan_in s.lits p.y.0)) (max (fan_in s.lits p.x.0) (fan_in s.lits p.y.0))

  one_more : (s t u : PassValue) (before mid below : List ℕ) (n : ℕ) (p : Pair) → IsNode g p n → IsInner g leaves n → mark_of kept n ≡ false → IsVisited g first leaves v kept s before (p.x.0 / 2) t mid → IsVisited g first leaves v kept t mid (p.y.0 / 2) u below
      → IsKnown g first leaves v u (p.x.0 / 2)
      → IsVisited g first leaves v kept s before n (with_made u.lits n (product_of first u.pairs (fan_in u.lits p.x.0) (fan_in u.lits p.y.0))) (n ∷ below)
  one_more s t u before mid below n p is inner not_kept vx vy kx =
      let a : Answer = product_of first u.pairs (fan_in u.lits p.x.0) (fan_in u.lits p.y.0) in
      let r : PassValue = with_made u.lits n a in
      let between : Extends t.pairs u.pairs = node_grows g first leaves v t.pairs (p.y.0 / 2) _ vy.makes in
      let ex : lit_of t.lits (p.x.0 / 2) ≡ lit_of u.lits (p.x.0 / 2) = same_literal u (p.x.0 / 2) s.pairs _ vx.makes between kx in
      let within : n < length u.lits = let l : length u.lits ≡ node_count g = ((vy.passed_on).sources).long in let w : n < node_count g = inner.and.1 in omega arith in
      let here : lit_of r.lits n ≡ a.lit = lit_here u.lits n (record { 0 = a.lit }) within in
      let made : MakesNode g first leaves v s.pairs n (record { pairs = r.pairs; lit = lit_of r.lits n }) =
      node p (record { pairs = t.pairs; lit = lit_of t.lits (p.x.0 / 2) }) (record { pairs = u.pairs; lit = lit_of u.lits (p.y.0 / 2) }) inner.apart is vx.makes vy.makes
      (ap (λ l. record { pairs = a.pairs; lit = l }) here ∙ ap (λ l. product_of first u.pairs (phase_literal p.x.0 l) (fan_in u.lits p.y.0)) (sym ex)) in
      let known : IsKnown g first leaves v r n = record { again = λ qs e. node_again g first leaves v s.pairs n _ made qs e } in
      record {
        makes = made;
        keeps = λ m i. inr (vy.keeps m (vx.keeps m i));
        passed_on = record {
          sources = sources_kept g leaves u.lits n (record { 0 = a.lit }) inner (vy.passed_on).sources;
          leaves_have = leaves_kept g leaves v u.lits n (record { 0 = a.lit }) inner (vy.passed_on).leaves_have;
          kept_known = λ m k. known_on g first leaves v u n m a (grown u p) (λ e. true≢false (sym k ∙ ap (mark_of kept) e ∙ not_kept)) ((vy.passed_on).kept_known m k);
          known = λ m i. elim (same_or m n) [
            | inl e ↦ subst (IsKnown g first leaves v r) (sym e) known
            | inr off ↦ elim i [ inl e ↦ absurd (off e) | inr j ↦ known_on g first leaves v u n m a (grown u p) off ((vy.passed_on).known m j) ]
          ];
        };
        known = known;
      }

  -- a walk from a node leaves it in its order
  post_here : (next : ℕ → List ℕ) (before after : List ℕ) (n : ℕ) → Posts next before n after → In after n
  post_here next before after n (skips i q) = subst (λ xs. In xs n) (sym q) i
  post_here next before after n (posts below off all q) = subst (λ xs. In xs n) (sym q) (inl refl)

  -- a node that is visited is known from then on
  known_later : (s t u : PassValue) (before mid below : List ℕ) (next : ℕ → List ℕ) (m k : ℕ) → Visits next g leaves kept before m mid → Blocks g leaves m → IsVisited g first leaves v kept s before m t mid
      → IsVisited g first leaves v kept t mid k u below → IsKnown g first leaves v u m
  known_later s t u before mid below next m k (passed stop e) blocks vx vy = end_known g first leaves v kept u m (vy.passed_on) stop blocks
  known_later s t u before mid below next m k (walked stop p) blocks vx vy = (vy.passed_on).known m (vy.keeps m (post_here next before mid m p))

  module _ (S : Type 0) (start : PassValue) (normal : AreNormal (first_and g) g.pairs) where
    -- the next node of an order
    over_next : (n : ℕ) (p : Pair) (below : List ℕ) → IsNode g p n
        → pass_over g first start (n ∷ below) ≡ with_made (pass_over g first start below).lits n (product_of first (pass_over g first start below).pairs (fan_in (pass_over g first start below).lits p.x.0) (fan_in (pass_over g first start below).lits p.y.0))
    over_next n p below is = ap (λ (o : Option Pair). made_node first (pass_over g first start below) n o) is.is

    pub visit_makes : (bound n : ℕ) → n < bound → n < node_count g → Blocks g leaves n → (before after : List ℕ) → Visits (cone_next S g leaves kept) g leaves kept before n after → IsPassed g first leaves v kept (pass_over g first start before) before
        → IsVisited g first leaves v kept (pass_over g first start before) before n (pass_over g first start after) after
    visit_makes zero n l inside blocks before after visit have = absurd (omega arith)
    visit_makes (suc bound) n l inside blocks before after (passed stop e) have =
        let known : IsKnown g first leaves v (pass_over g first start before) n = end_known g first leaves v kept (pass_over g first start before) n have stop blocks in
        subst (λ xs. IsVisited g first leaves v kept (pass_over g first start before) before n (pass_over g first start xs) xs) (sym e)
        (record { makes = known.again (pass_over g first start before).pairs (Extends-refl (pass_over g first start before).pairs); keeps = λ m i. i; passed_on = have; known = known })
    visit_makes (suc bound) n l inside blocks before after (walked stop (skips i e)) have =
        let known : IsKnown g first leaves v (pass_over g first start before) n = have.known n i in
        subst (λ xs. IsVisited g first leaves v kept (pass_over g first start before) before n (pass_over g first start xs) xs) (sym e)
        (record { makes = known.again (pass_over g first start before).pairs (Extends-refl (pass_over g first start before).pairs); keeps = λ m i. i; passed_on = have; known = known })
    visit_makes (suc bound) n l inside (member i) before after (walked stop (posts below off all e)) have = absurd ((ends_inner g leaves kept n inside stop).apart i)
    visit_makes (suc bound) n l inside (blocks_constant z) before after (walked stop (posts below off all e)) have = absurd (let a : first_and g ≤ n = (ends_inner g leaves kept n inside stop).and.0 in omega arith)
    visit_makes (suc bound) n l inside (blocks_parameter s) before after (walked stop (posts below off all e)) have =
        absurd (let a : first_and g ≤ n = (ends_inner g leaves kept n inside stop).and.0 in
        let above : 1 ≤ n = s.above in
        let w : n - 1 < length g.kinds = slice_get_within g.kinds (n - 1) Parameter s.is in omega arith)
    visit_makes (suc bound) n l inside (fan_ins p is bx by) before after (walked stop (posts below off all e)) have =
        let inner : IsInner g leaves n = ends_inner g leaves kept n inside stop in
        let norm : IsNormal n p = node_normal g n p normal is in
        let ordered : p.x.0 / 2 < p.y.0 / 2 = norm.ordered in
        let under : p.y.0 / 2 < n = norm.below in
        let both : VisitsBoth (cone_next S g leaves kept) g leaves kept before p below = visits_both S (cone_next S g leaves kept) g leaves kept before n p below is all in
        let vx : IsVisited g first leaves v kept (pass_over g first start before) before (p.x.0 / 2) (pass_over g first start both.mid) both.mid =
        visit_makes bound (p.x.0 / 2) (omega arith) (omega arith) bx before both.mid both.lower have in
        let vy : IsVisited g first leaves v kept (pass_over g first start both.mid) both.mid (p.y.0 / 2) (pass_over g first start below) below =
        visit_makes bound (p.y.0 / 2) (omega arith) (omega arith) by both.mid below both.upper vx.passed_on in
        let kx : IsKnown g first leaves v (pass_over g first start below) (p.x.0 / 2) =
        known_later (pass_over g first start before) (pass_over g first start both.mid) (pass_over g first start below) before both.mid below (cone_next S g leaves kept) (p.x.0 / 2) (p.y.0 / 2) both.lower bx vx vy in
        subst (λ xs. IsVisited g first leaves v kept (pass_over g first start before) before n (pass_over g first start xs) xs) (sym e)
        (subst (λ (r : PassValue). IsVisited g first leaves v kept (pass_over g first start before) before n r (n ∷ below)) (sym (over_next n p below is))
        (one_more (pass_over g first start before) (pass_over g first start both.mid) (pass_over g first start below) before both.mid below n p is inner (or_fails_right (is_stop g leaves n) (mark_of kept n) stop) vx vy kx))
