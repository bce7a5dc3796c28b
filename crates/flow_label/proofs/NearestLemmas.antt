-- What a blocked search has met and not passed is the least low cut nearest to the node.
--
-- Let d be any low cut. Of the inner nodes, those that d blocks and does not have choose only nodes that d blocks. So what d does not block of
-- the other inner nodes and of the starts is owned by these others, each by a different one. Therefore d has no fewer leaves than there are
-- paths. If it has as few, the others own nothing that d blocks, and so d blocks all that the search has met.
use Rattle.flow_label.proofs.Common.{◌≡◌, ℕ, zero, suc, ◌+◌, ◌-◌, ◌<◌, ◌≤◌, Bool, true, false, List, [], ◌∷◌, ◌++◌, length, get_or, map, refl, sym, subst, inl, inr, ◌⊎◌, arith, length-append, cases_lt, cases_eq, eqb, first_and, In, Blocks, AreApart, joined_apart, apart_short, In-append, In-place, In-get_or, from_map, ascending_of, unmarked, IsLowCut, FlowNet, IsInner, IsUpper, IsEnd, IsNet, IsTight, AreReaders, IsFanIn, IsChoice, Aig, AreNormal, member, constant, parameter, fan_ins, first, second, ap, ◌∙◌, ◌/◌, eqb-true, eqb-false, IsHigh, height, height_member, HasChosen, IsLinked, AreStarts, AreMet, SiteValue, net_of, owner_in, AreLinks, IsBlocked, label_at, rules, not, not-true, length-map, length-filter_both, filter, filtered_apart, In-filter, in_filter, in_or, decide_blocks, In-union, IsNearest}
use Rattle.std.specs.Prelude.{leb}
use Rattle.flow_label.proofs.OnceLemmas.{numbers, in_numbers, numbers_apart}
use Rattle.flow_label.proofs.GraphLemmas.{fan_in_below, blocked_below, live_pos}
use Rattle.flow_label.proofs.LinkLemmas.{inner_pos}
use Rattle.flow_label.proofs.BarrierLemmas.{mapped_apart, blocked_few, blocked_cut}

leb_is : (m n : ℕ) → m ≤ n → leb m n ≡ true
leb_is m n l = grind arith

leb_not : (m n : ℕ) → n < m → leb m n ≡ false
leb_not m n l = grind arith

-- a decision as a test
abbrev yes : {P : Type 0} → P ⊎ (P → ⊥) → Bool
yes (inl p) = true
yes (inr n) = false

yes_true : {P : Type 0} (d : P ⊎ (P → ⊥)) → yes d ≡ true → P
yes_true (inl p) e = p
yes_true (inr n) e = let no : ⊥ = cc in absurd no

yes_false : {P : Type 0} (d : P ⊎ (P → ⊥)) → yes d ≡ false → P → ⊥
yes_false (inl p) e = let no : ⊥ = cc in absurd no
yes_false (inr n) e = n

yes_is : {P : Type 0} (d : P ⊎ (P → ⊥)) → P → yes d ≡ true
yes_is (inl p) q = refl
yes_is (inr n) q = absurd (n q)

decide_inner : (net : FlowNet) (a : ℕ) → IsInner net a ⊎ (IsInner net a → ⊥)
decide_inner net a = search (rules, cases_lt)

-- what blocks a node does so with its leaves up to a place above it
blocks_below : (g : Aig) (d : List ℕ) (floor : ℕ) → AreNormal (first_and g) g.pairs → {m : ℕ} → Blocks g d m → m ≤ floor → Blocks g (filter (λ x. leb x floor) d) m
blocks_below g d floor normal {m} (member i) l = member (in_filter (λ x. leb x floor) d m i (leb_is m floor l))
blocks_below g d floor normal (constant e) l = constant e
blocks_below g d floor normal (parameter s) l = parameter s
blocks_below g d floor normal {m} (fan_ins p node a b) l =
    fan_ins p node (blocks_below g d floor normal a (omega (arith, fan_in_below g (p.x.0 / 2) m normal (first p node refl)))) (blocks_below g d floor normal b (omega (arith, fan_in_below g (p.y.0 / 2) m normal (second p node refl))))

module _ (net : FlowNet) (is : IsNet net) (owner chosen : ℕ → ℕ) (count : ℕ) (k : IsLinked net 0 owner chosen count) (starts : List ℕ) (begin : AreStarts net owner starts) (size : length starts ≡ count) (d : List ℕ) where
  -- does d block it
  abbrev held : ℕ → Bool
  held m = yes (decide_blocks net.graph is.normal d m)

  abbrev free : ℕ → Bool
  free m = not (held m)

  held_blocks : (m : ℕ) → held m ≡ true → Blocks net.graph d m
  held_blocks m e = yes_true (decide_blocks net.graph is.normal d m) e

  free_blocks : (m : ℕ) → free m ≡ true → Blocks net.graph d m → ⊥
  free_blocks m e = yes_false (decide_blocks net.graph is.normal d m) (not-true (held m) e)

  -- what an inner node may choose that d blocks and does not have
  choice_blocked : (a u : ℕ) → (In d a → ⊥) → Blocks net.graph d a → IsChoice net a u → Blocks net.graph d u
  choice_blocked a u out b (inl e) = subst (λ x. Blocks net.graph d x) (sym e) b
  choice_blocked a u out b (inr c) = elim (blocked_below net.graph d c.0 b) [ inl i ↦ absurd (out i) | inr x ↦ x ]

  -- the other inner nodes
  abbrev IsRest : ℕ → Type 0
  IsRest a = IsInner net a × (In d a ⊎ (Blocks net.graph d a → ⊥))

  decide_rest : (a : ℕ) → IsRest a ⊎ (IsRest a → ⊥)
  decide_rest a = elim (decide_inner net a) [
    | inr n ↦ inr (λ r. n r.0)
    | inl i ↦ elim (in_or d a) [
      | inl j ↦ inl (i, inl j)
      | inr out ↦ elim (decide_blocks net.graph is.normal d a) [
        | inr n ↦ inl (i, inr n)
        | inl b ↦ inr (λ r. elim r.1 [ inl j ↦ out j | inr n ↦ n b ])
      ]
    ]
  ]

  -- an inner node that is none of them
  not_rest : (a : ℕ) → IsInner net a → (IsRest a → ⊥) → (In d a → ⊥) × Blocks net.graph d a
  not_rest a i n = ((λ j. n (i, inl j)), elim (decide_blocks net.graph is.normal d a) [ inl b ↦ b | inr c ↦ absurd (n (i, inr c)) ])

  abbrev rest : List ℕ
  rest = filter (λ a. yes (decide_rest a)) (numbers net.node)

  rest_is : (a : ℕ) → In rest a → IsRest a
  rest_is a i = yes_true (decide_rest a) (In-filter (λ x. yes (decide_rest x)) (numbers net.node) a i).1

  in_rest : (a : ℕ) → IsRest a → In rest a
  in_rest a r = in_filter (λ x. yes (decide_rest x)) (numbers net.node) a (in_numbers net.node a r.0.below) (yes_is (decide_rest a) r)

  rest_apart : AreApart rest
  rest_apart = filtered_apart (λ x. yes (decide_rest x)) (numbers net.node) (numbers_apart net.node)

  apart_from_starts : (m : ℕ) → In rest m → In starts m → ⊥
  apart_from_starts m i j = let a : net.floor < m = (rest_is m i).0.above in let b : m ≤ net.floor = (begin.root m j).below in absurd (omega arith)

  both_apart : (test : ℕ → Bool) → AreApart (filter test rest ++ filter test starts)
  both_apart test = joined_apart (filter test rest) (filter test starts) (filtered_apart test rest rest_apart) (filtered_apart test starts begin.once) (λ m i j. apart_from_starts m (In-filter test rest m i).0 (In-filter test starts m j).0)

  abbrev up_to : ℕ → Bool
  up_to m = leb m net.floor

  abbrev beyond : ℕ → Bool
  beyond m = not (up_to m)

  -- those of them that d blocks are in d
  rest_in : (m : ℕ) → In (filter held rest) m → In (filter beyond d) m
  rest_in m i =
      let f = In-filter held rest m i in
      let r = rest_is m f.0 in
      in_filter beyond d m (elim r.1 [ inl x ↦ x | inr n ↦ absurd (n (held_blocks m f.1)) ]) (ap not (leb_not m net.floor r.0.above))

  -- and the starts that d blocks, it blocks at or below the floor
  starts_few : length (filter held starts) ≤ length (filter up_to d)
  starts_few = is.rooted.few (filter held starts) (filter up_to d) (filtered_apart held starts begin.once) (λ m i. begin.root m (In-filter held starts m i).0)
      (λ m i. let f = In-filter held starts m i in blocks_below net.graph d net.floor is.normal (held_blocks m f.1) (begin.root m f.0).below)

  -- so both are no more than its leaves
  covered_few : length (filter held rest) + length (filter held starts) ≤ length d
  covered_few =
      omega (arith, apart_short (filter held rest) (filter beyond d) (filtered_apart held rest rest_apart) rest_in, starts_few, length-filter_both up_to beyond (λ u. refl) d)

  -- and those that it does not block
  abbrev loose : List ℕ
  loose = filter free rest ++ filter free starts

  loose_is : (m : ℕ) → In loose m → (Blocks net.graph d m → ⊥) × (0 < m) × (0 < owner m)
  loose_is m i = elim (In-append (filter free rest) (filter free starts) m i) [
    | inl j ↦ (let f = In-filter free rest m j in let r = rest_is m f.0 in (free_blocks m f.1, inner_pos net m r.0, k.full m r.0))
    | inr j ↦ (let f = In-filter free starts m j in (free_blocks m f.1, live_pos net.graph net.label m (begin.root m f.0).live, begin.owned m f.0))
  ]

  -- nodes whose owners are among the others are no more than these
  owned_few : (us : List ℕ) → AreApart us → ((u : ℕ) → In us u → HasChosen net chosen (owner u) u × IsRest (owner u)) → length us ≤ length rest
  owned_few us apart each =
      let l : length (map owner us) ≤ length rest = apart_short (map owner us) rest (mapped_apart owner chosen us apart (λ u i. (each u i).0.is)) (λ a i. let r = from_map owner us a i in subst (λ x. In rest x) (sym r.2) (in_rest (owner r.0) (each r.0 r.1).1)) in
      omega (arith, length-map us owner)

  -- d has as many leaves as there are paths, and more where it has fewer of the others than own something
  enough : (more : ℕ) → length loose + more ≤ length rest → count + more ≤ length d
  enough more l =
      let a : length (filter held rest) + length (filter free rest) ≡ length rest = length-filter_both held free (λ u. refl) rest in
      let b : length (filter held starts) + length (filter free starts) ≡ length starts = length-filter_both held free (λ u. refl) starts in
      omega (arith, covered_few, length-append (filter free rest) (filter free starts), size)

  -- where the paths end that d blocks, it has as many leaves
  module _ (node : 0 < net.node) (ends : List ℕ) (once : AreApart ends) (owned : (m : ℕ) → In ends m → owner m ≡ net.node) (blocked : (m : ℕ) → In ends m → Blocks net.graph d m) where
    abbrev own : ℕ → Bool
    own u = eqb (owner u) net.node

    abbrev other : ℕ → Bool
    other u = not (own u)

    in_ends : (m : ℕ) → owner m ≡ net.node → In k.ends m
    in_ends m e = k.all_ends m (λ z. let q : owner m ≡ 0 = ap owner z ∙ k.none in absurd (omega arith)) e

    other_owned : (m : ℕ) → In (filter other loose) m → HasChosen net chosen (owner m) m × IsRest (owner m)
    other_owned m i =
        let f = In-filter other loose m i in
        let l = loose_is m f.0 in
        elim (k.owned m (λ e. let z : m ≡ 0 = e in absurd (omega arith)) l.2) [
          | inl e ↦ absurd (eqb-false (owner m) net.node (not-true (own m) f.1) e.0)
          | inr h ↦ (
            h,
            elim (decide_rest (owner m)) [
              | inl r ↦ r
              | inr n ↦ (let o = not_rest (owner m) h.inner n in absurd (l.0 (choice_blocked (owner m) m o.0 o.1 (subst (λ u. IsChoice net (owner m) u) h.is (k.choice (owner m) h.inner)))))
            ],
          )
        ]

    abbrev both : List ℕ
    both = ends ++ filter own loose

    both_in : (m : ℕ) → In both m → In k.ends m
    both_in m i = elim (In-append ends (filter own loose) m i) [
      | inl j ↦ in_ends m (owned m j)
      | inr j ↦ in_ends m (eqb-true (owner m) net.node (In-filter own loose m j).1)
    ]

    pub ends_few : length ends ≤ length d
    ends_few =
        let a : length (filter own loose) + length (filter other loose) ≡ length loose = length-filter_both own other (λ u. refl) loose in
        let b : length (filter other loose) ≤ length rest = owned_few (filter other loose) (filtered_apart other loose (both_apart free)) other_owned in
        let c : length both ≤ length k.ends = apart_short both k.ends (joined_apart ends (filter own loose) once (filtered_apart own loose (both_apart free)) (λ m i j. (loose_is m (In-filter own loose m j).0).0 (blocked m i))) both_in in
        let x : length (filter held rest) + length (filter free rest) ≡ length rest = length-filter_both held free (λ u. refl) rest in
        let y : length (filter held starts) + length (filter free starts) ≡ length starts = length-filter_both held free (λ u. refl) starts in
        omega (arith, covered_few, length-append ends (filter own loose), length-append (filter free rest) (filter free starts), size, k.count_ends)

  module _ (readers : AreReaders net) (most : ℕ) (is_low : IsLowCut net.graph most net.node net.height net.label d) where
    -- d has no upper node, so it blocks what these read
    upper_out : (v : ℕ) → IsUpper net v → In d v → ⊥
    upper_out v (inl e) i = let b : v < net.node = (is_low.cut.below v i).0 in absurd (omega arith)
    upper_out v (inr u) i = let l : net.label v + 1 < net.height = is_low.low v i in let h : net.height ≤ net.label v + 1 = u.1 in absurd (omega arith)

    read_blocked : (m v : ℕ) → IsFanIn net.graph m v → IsUpper net v → Blocks net.graph d v → Blocks net.graph d m
    read_blocked m v f u b = elim (blocked_below net.graph d f b) [ inl i ↦ absurd (upper_out v u i) | inr c ↦ c ]

    upper_blocked : (b v : ℕ) → net.node ≤ v + b → IsUpper net v → Blocks net.graph d v
    upper_blocked b v l (inl e) = subst (λ x. Blocks net.graph d x) (sym e) is_low.cut.blocks
    upper_blocked zero v l (inr u) = let b : v < net.node = (readers.met v u.0).below in absurd (omega arith)
    upper_blocked (suc b) v l (inr u) =
        let m = readers.met v u.0 in
        read_blocked v (net.reader v) m.reads m.upper (upper_blocked b (net.reader v) (omega (arith, fan_in_below net.graph v (net.reader v) is.normal m.reads)) m.upper)

    end_blocked : (u : ℕ) → IsEnd net u → Blocks net.graph d u
    end_blocked u e = let m = readers.met u e.met in read_blocked u (net.reader u) m.reads m.upper (upper_blocked net.node (net.reader u) (omega arith) m.upper)

    -- each of these is owned by an inner node that is one of the others
    loose_owned : (m : ℕ) → In loose m → HasChosen net chosen (owner m) m × IsRest (owner m)
    loose_owned m i =
        let l = loose_is m i in
        elim (k.owned m (λ e. let z : m ≡ 0 = e in absurd (omega arith)) l.2) [
          | inl e ↦ absurd (l.0 (end_blocked m e.1))
          | inr h ↦ (
            h,
            elim (decide_rest (owner m)) [
              | inl r ↦ r
              | inr n ↦ (let o = not_rest (owner m) h.inner n in absurd (l.0 (choice_blocked (owner m) m o.0 o.1 (subst (λ u. IsChoice net (owner m) u) h.is (k.choice (owner m) h.inner)))))
            ],
          )
        ]

    -- no low cut has fewer leaves than there are paths
    pub paths_few : count ≤ length d
    paths_few =
        let l : length loose ≤ length rest = owned_few loose (both_apart free) loose_owned in
        let e : count + 0 ≤ length d = enough 0 (omega arith) in omega arith

    -- where it has as few, no blocked node is owned by one of the others
    one_more : (u : ℕ) → length d ≤ count → Blocks net.graph d u → HasChosen net chosen (owner u) u → IsRest (owner u) → ⊥
    one_more u short b h r =
        let l : length (u ∷ loose) ≤ length rest = owned_few (u ∷ loose) ((λ i. (loose_is u i).0 b), both_apart free)
        (λ v i. elim i [ inl e ↦ subst (λ x. HasChosen net chosen (owner x) x × IsRest (owner x)) (sym e) (h, r) | inr j ↦ loose_owned v j ]) in
        let e : count + 1 ≤ length d = enough 1 (omega arith) in absurd (omega arith)

    -- so it blocks all that the search has met
    module _ (queue backs : List ℕ) (met : AreMet net owner queue backs) (short : length d ≤ count) where
      -- the choices of the inner owner of a blocked node are blocked
      next_blocked : (u x : ℕ) → 0 < u → Blocks net.graph d u → IsInner net (owner u) → IsChoice net (owner u) x → Blocks net.graph d x
      next_blocked u x pos b i c = elim (k.owned u (λ e. let z : u ≡ 0 = e in absurd (omega arith)) (inner_pos net (owner u) i)) [
        | inl e ↦ (let l : owner u < net.node = i.below in let q : owner u ≡ net.node = e.0 in absurd (omega arith))
        | inr h ↦ elim (decide_rest (owner u)) [
          | inl r ↦ absurd (one_more u short b h r)
          | inr n ↦ (let o = not_rest (owner u) i n in choice_blocked (owner u) x o.0 o.1 c)
        ]
      ]

      place_blocked : (b j : ℕ) → j < b → j < length queue → Blocks net.graph d (get_or queue j 0)
      place_blocked zero j l inside = absurd (omega arith)
      place_blocked (suc b) j l inside =
          let w = met.whence j inside in
          elim (cases_eq (get_or backs j 0) 0) [
            | inl e ↦ end_blocked (get_or queue j 0) (w.end e)
            | inr ne ↦ (
                let some : 0 < get_or backs j 0 = omega arith in
                let earlier : get_or backs j 0 ≤ j = w.earlier in
                let at : In queue (get_or queue (get_or backs j 0 - 1) 0) = In-get_or queue (get_or backs j 0 - 1) 0 (omega arith) in
                next_blocked (get_or queue (get_or backs j 0 - 1) 0) (get_or queue j 0) (live_pos net.graph net.label (get_or queue (get_or backs j 0 - 1) 0) (met.nodes (get_or queue (get_or backs j 0 - 1) 0) at).1.live)
                (place_blocked b (get_or backs j 0 - 1) (omega arith) (omega arith)) (w.inner some) (w.choice some))
          ]

      pub queue_blocked : (m : ℕ) → In queue m → Blocks net.graph d m
      queue_blocked m i = let p = In-place queue m i in subst (λ x. Blocks net.graph d x) p.2 (place_blocked (suc p.0) p.0 (omega arith) p.1)

-- what a blocked search of a site has found
pub blocked_nearest : (site : SiteValue) (owners starts queue backs marks : List ℕ) (k : ℕ) → IsNet (net_of site) → AreReaders (net_of site) → AreLinks site owners starts → IsBlocked site owners queue backs marks → IsTight (net_of site) (owner_in site owners) queue → length starts ≤ k
    → IsNearest site.graph k site.node site.height (label_at site.labels) (ascending_of (unmarked marks queue))
blocked_nearest site owners starts queue backs marks k is readers links b tight few =
    let short : length (ascending_of (unmarked marks queue)) ≤ length starts = blocked_few site owners starts queue backs marks is readers links b tight in
    record {
      cut = blocked_cut site owners starts queue backs marks k is readers links b tight few;
      least = λ d low. (
          let l : length starts ≤ length d = paths_few (net_of site) is (owner_in site owners) links.chosen (length starts) links.routed.linked starts links.routed.begin refl d readers k low in omega arith);
      nearest = λ d m low fewer i. queue_blocked (net_of site) is (owner_in site owners) links.chosen (length starts) links.routed.linked starts links.routed.begin refl d readers k low queue backs b.met (omega arith) m (in_queue m i);
    }
  where
    in_queue : (m : ℕ) → In (ascending_of (unmarked marks queue)) m → In queue m
    in_queue m i = elim (In-union (unmarked marks queue) [] m i) [ inl j ↦ (In-filter (λ u. eqb (get_or marks u 0) 0) queue m j).0 | inr e ↦ absurd e ]

-- So no cut of at most k leaves is lower than where k + 1 paths come to a node.
pub links_high : (site : SiteValue) (owners starts : List ℕ) (k : ℕ) → IsNet (net_of site) → AreReaders (net_of site) → AreLinks site owners starts → length starts ≡ k + 1 → IsHigh site.graph k site.node site.height (label_at site.labels)
links_high site owners starts k is readers links e = record {
  high = λ d cut. elim (cases_lt (height (label_at site.labels) d) site.height) [
    | inr l ↦ l
    | inl l ↦ (
        let few : length starts ≤ length d = paths_few (net_of site) is (owner_in site owners) links.chosen (length starts) links.routed.linked starts links.routed.begin refl d readers k
        (record { cut = cut; low = λ m i. let b : label_at site.labels m + 1 ≤ height (label_at site.labels) d = height_member (label_at site.labels) d m i in omega arith }) in
        let most : length d ≤ k = cut.few in
        absurd (omega arith))
  ];
}
