-- A sweep: below the least mark all nodes have their new values, whether they were marked or not. A change as a whole: the addresses marked after the sweep are those where the configurations differ.
use Rattle.spec_core.proofs.Common.{◌≡◌, ℕ, zero, suc, ◌+◌, ◌-◌, ◌/◌, ◌<◌, ◌≤◌, Bool, true, false, ◌&&◌, ◌||◌, List, length, take, slice_set, Some, sym, ap, ◌∙◌, subst, inl, inr, arith, cond, filter, cases_Bool, cases_lt, false≢true, or_left, or_right, ext_get_or, get_or_past, get_or-set_same, get_or-set_other, take_all, length-filter_more, get_or_from_slice_get, same_Some, slice_get_within, Pair, first_and, node_count, IsNode, IsNormal, xor, in_phase, node_value, value_of, FitsGraph, node_normal, node_at, PackValue, is_marked, IsLeast, IsEmpty, ReadersValue, reads_above, is_changed, is_touched, Progress, EvaluationValue, Belong, product_of, stored, IsMoved, IsSweeping, IsSwept, ◌%◌, eqb, [], ◌∷◌, get_or, map, drop, refl, slice_get, range_with_len, length-map, length-replicate, length-take, length-drop, get_or-take, get_or-drop, filter_agree, none-some, Assign, AreAssigned, assigned, written, at_within, Lit, AreNormal, HasOneFit, one_fit, IsPack, IsConf, kinds_count, has_one_conf, AreReaders, config_bit, differs_at, write_of, differences, IsSet, bits_under, with_assigned, DeviceValue, IsSent, params_in, IsIdle, IsChange}
use Rattle.spec_core.proofs.MarkLemmas.{xor-false, xor-same, unmarked}
use Rattle.spec_core.proofs.StoreLemmas.{stored_values, Belong-without, AreMarked-stored, AreMarked-taken, written_differences}
use Rattle.aig_core.specs.Roots.{lits_of}
use Rattle.spec_core.proofs.AssignLemmas.{length-assigned, none_marked, sweep_begins}

-- the product of two literals is the same where their nodes have the same values
products_agree : (vs ws : List Bool) (p : Pair) → node_value vs (p.x.0 / 2) ≡ node_value ws (p.x.0 / 2) → node_value vs (p.y.0 / 2) ≡ node_value ws (p.y.0 / 2) → product_of vs p ≡ product_of ws p
products_agree vs ws p x y =
    ap (λ v. in_phase p.x.0 v && value_of vs p.y.0) x ∙ ap (λ v. value_of ws p.x.0 && in_phase p.y.0 v) y

-- a filter of a longer front is at least as long
filter_grows : {A : Type 0} (test : A → Bool) (xs : List A) (d : A) (i k : ℕ) → length (filter test (take i xs)) ≤ length (filter test (take (i + k) xs))
filter_grows test xs d i zero = let e : i + 0 ≡ i = omega arith in rw e (omega arith)
filter_grows test xs d i (suc k) =
    let e : i + suc k ≡ i + k + 1 = omega arith in
    let before : length (filter test (take i xs)) ≤ length (filter test (take (i + k) xs)) = filter_grows test xs d i k in
    elim (cases_lt (i + k) (length xs)) [
      | inl l ↦ rw e (omega (arith, length-filter_more test xs (i + k) d l))
      | inr past ↦ (let same : take (i + k + 1) xs ≡ take (i + k) xs = take_all (i + k + 1) xs (omega arith) ∙ sym (take_all (i + k) xs past) in rw (e, same) before)
    ]

-- In the middle of a sweep between values that fit.
module _ (pack : PackValue) (readers : ReadersValue) (old new p q : List Bool) (now : Progress) (start end : ℕ)
    (b : Belong pack readers now) (fo : FitsGraph pack.graph p old) (fn : FitsGraph pack.graph q new) (s : IsSweeping pack old new now start end) where
  -- a node without a mark reads no node that has changed
  unmarked_same : (k : ℕ) (pair : Pair) → s.point ≤ k → IsNode pack.graph pair k → is_marked now.nodes k ≡ false → (is_changed old now.values (pair.x.0 / 2) ≡ false) × (is_changed old now.values (pair.y.0 / 2) ≡ false)
  unmarked_same k pair l node clear = (
    elim (cases_Bool (is_changed old now.values (pair.x.0 / 2))) [
      | inl t ↦ absurd (false≢true (sym clear ∙ s.marks.all_stale k l (record { pair = pair; is = node; touched = or_left (is_changed old now.values (pair.x.0 / 2)) (is_changed old now.values (pair.y.0 / 2)) t })))
      | inr f ↦ f
    ],
    elim (cases_Bool (is_changed old now.values (pair.y.0 / 2))) [
      | inl t ↦ absurd (false≢true (sym clear ∙ s.marks.all_stale k l (record { pair = pair; is = node; touched = or_right (is_changed old now.values (pair.x.0 / 2)) (is_changed old now.values (pair.y.0 / 2)) t })))
      | inr f ↦ f
    ],
  )

  -- nodes below all marks have their new values
  pub settled : (bound : ℕ) → ((m : ℕ) → m < bound → is_marked now.nodes m ≡ false) → (reach k : ℕ) → k < reach → k < bound → node_value now.values k ≡ node_value new k
  settled bound clear zero k l i = absurd (omega arith)
  settled bound clear (suc reach) k l i = elim (cases_lt k s.point) [
    | inl low ↦ s.below k low
    | inr high ↦ elim (cases_lt k (node_count pack.graph)) [
      | inl inside ↦
          let f : first_and pack.graph ≤ s.point = s.from in
          let node = node_at pack.graph k (omega arith) inside in
          let normal : IsNormal k node.0 = node_normal pack.graph k node.0 b.normal node.1 in
          let o : node.0.x.0 / 2 < node.0.y.0 / 2 = normal.ordered in
          let u : node.0.y.0 / 2 < k = normal.below in
          let c = unmarked_same k node.0 high node.1 (clear k i) in
          let x : node_value now.values (node.0.x.0 / 2) ≡ node_value new (node.0.x.0 / 2) = settled bound clear reach (node.0.x.0 / 2) (omega arith) (omega arith) in
          let y : node_value now.values (node.0.y.0 / 2) ≡ node_value new (node.0.y.0 / 2) = settled bound clear reach (node.0.y.0 / 2) (omega arith) (omega arith) in
          s.above k high ∙ fo.node k node.0 node.1
          ∙ products_agree old new node.0
          (xor-false (node_value old (node.0.x.0 / 2)) (node_value now.values (node.0.x.0 / 2)) c.0 ∙ x)
          (xor-false (node_value old (node.0.y.0 / 2)) (node_value now.values (node.0.y.0 / 2)) c.1 ∙ y)
          ∙ sym (fn.node k node.0 node.1)
      | inr past ↦
          let l : length now.values ≡ node_count pack.graph = b.values in
          let r : length new ≡ node_count pack.graph = fn.count in
          get_or_past now.values k false (omega arith) ∙ sym (get_or_past new k false (omega arith))
    ]
  ]

  -- the least marked node is taken and gets the product of its fan-ins
  module _ (n : ℕ) (pair : Pair) (least : IsLeast now.nodes n) (node : IsNode pack.graph pair n) where
    taken : Progress
    taken = record { values = now.values; nodes = slice_set now.nodes n false; addresses = now.addresses }

    normal : IsNormal n pair
    normal = node_normal pack.graph n pair b.normal node

    low : (k : ℕ) → k < n → node_value now.values k ≡ node_value new k
    low k l = settled n least.least (suc k) k (omega arith) l

    x_below : pair.x.0 / 2 < n
    x_below = let o : pair.x.0 / 2 < pair.y.0 / 2 = normal.ordered in let u : pair.y.0 / 2 < n = normal.below in omega arith

    y_below : pair.y.0 / 2 < n
    y_below = normal.below

    point_low : s.point ≤ n
    point_low = s.marks.from n least.marked

    within : n < node_count pack.graph
    within = let l : length now.nodes ≡ node_count pack.graph = b.nodes in let w : n < length now.nodes = least.within in omega arith

    -- it is touched by the whole change
    touched_whole : is_touched old new pair ≡ true
    touched_whole =
        let stale = s.marks.stale n least.marked in
        let same : stale.pair ≡ pair = same_Some stale.pair pair (sym stale.is.is ∙ node.is) in
        let here : is_touched old now.values pair ≡ true = subst (λ (r : Pair). is_touched old now.values r ≡ true) same stale.touched in
        ap (λ v. xor (node_value old (pair.x.0 / 2)) v || is_changed old new (pair.y.0 / 2)) (sym (low (pair.x.0 / 2) x_below))
        ∙ ap (λ v. is_changed old now.values (pair.x.0 / 2) || xor (node_value old (pair.y.0 / 2)) v) (sym (low (pair.y.0 / 2) y_below))
        ∙ here

    few_more : end + 1 ≤ start + length (filter (is_touched old new) (take (n + 1 - first_and pack.graph) pack.graph.pairs))
    few_more =
        let f : first_and pack.graph ≤ s.point = s.from in
        let l : s.point ≤ n = point_low in
        let i : n - first_and pack.graph < length pack.graph.pairs = slice_get_within pack.graph.pairs (n - first_and pack.graph) pair node.is in
        let e : n - first_and pack.graph ≡ s.point - first_and pack.graph + (n - s.point) = omega arith in
        let t : n + 1 - first_and pack.graph ≡ n - first_and pack.graph + 1 = omega arith in
        let so_far : end ≤ start + length (filter (is_touched old new) (take (s.point - first_and pack.graph) pack.graph.pairs)) = s.few in
        let grown : length (filter (is_touched old new) (take (s.point - first_and pack.graph) pack.graph.pairs)) ≤ length (filter (is_touched old new) (take (n - first_and pack.graph) pack.graph.pairs))
        = rw e (filter_grows (is_touched old new) pack.graph.pairs pair (s.point - first_and pack.graph) (n - s.point)) in
        let more : length (filter (is_touched old new) (take (n - first_and pack.graph + 1) pack.graph.pairs)) ≡ length (filter (is_touched old new) (take (n - first_and pack.graph) pack.graph.pairs)) + 1
        = length-filter_more (is_touched old new) pack.graph.pairs (n - first_and pack.graph) pair i
        ∙ ap (λ c. length (filter (is_touched old new) (take (n - first_and pack.graph) pack.graph.pairs)) + cond c 1 0)
        (ap (is_touched old new) (get_or_from_slice_get pack.graph.pairs (n - first_and pack.graph) pair pair node.is) ∙ touched_whole) in
        rw t (omega arith)

    pub IsSweeping-more : IsSweeping pack old new (stored readers (record { values = now.values; nodes = slice_set now.nodes n false; addresses = now.addresses }) n (product_of now.values pair)) start (end + 1)
    IsSweeping-more = record {
      point = n + 1;
      from = let f : first_and pack.graph ≤ s.point = s.from in let l : s.point ≤ n = point_low in omega arith;
      below = λ k l. ap (λ vs. node_value vs k) (stored_values readers _ n (product_of now.values pair)) ∙ elim (cases_lt k n) [
        | inl h ↦ get_or-set_other now.values n k (product_of now.values pair) false (λ e. omega arith) ∙ low k h
        | inr h ↦ (let e : n ≡ k = omega arith in subst (λ j. node_value (slice_set now.values n (product_of now.values pair)) j ≡ node_value new j) e
            (get_or-set_same now.values n (product_of now.values pair) false (let w : n < node_count pack.graph = within in let c : length now.values ≡ node_count pack.graph = b.values in omega arith)
            ∙ products_agree now.values new pair (low (pair.x.0 / 2) x_below) (low (pair.y.0 / 2) y_below) ∙ sym (fn.node n pair node)))
      ];
      above = λ k l.
          let h : s.point ≤ n = point_low in
          ap (λ vs. node_value vs k) (stored_values readers _ n (product_of now.values pair)) ∙ get_or-set_other now.values n k (product_of now.values pair) false (λ e. omega arith) ∙ s.above k (omega arith);
      marks = AreMarked-stored pack readers old _ n (product_of now.values pair) (n + 1)
          (Belong-without pack readers now (Some n) b)
          within
          (xor-same (node_value old n) (node_value now.values n) (sym (s.above n point_low)))
          (λ m r. let l : n < m = reads_above pack.graph n m b.normal r in omega arith)
          (AreMarked-taken pack old now s.point n least s.marks);
      few = few_more;
    }

  -- without a mark the sweep is done
  pub swept : IsEmpty now.nodes → IsSwept pack old new now start end
  swept empty = record {
    values = same;
    nodes = unmarked now.nodes (node_count pack.graph) b.nodes empty;
    moved = λ a h. subst (λ vs. IsMoved pack.bits old vs a) same (s.marks.moved a h);
    all_moved = λ a m. s.marks.all_moved a (subst (λ vs. IsMoved pack.bits old vs a) (sym same) m);
    few =
        let i : ℕ = s.point - first_and pack.graph in
        let so_far : end ≤ start + length (filter (is_touched old new) (take i pack.graph.pairs)) = s.few in
        let d : Pair = record { x = record { 0 = 0 }; y = record { 0 = 0 } } in
        let grown : length (filter (is_touched old new) (take i pack.graph.pairs)) ≤ length (filter (is_touched old new) (take (i + length pack.graph.pairs) pack.graph.pairs))
        = filter_grows (is_touched old new) pack.graph.pairs d i (length pack.graph.pairs) in
        let all : take (i + length pack.graph.pairs) pack.graph.pairs ≡ pack.graph.pairs = take_all (i + length pack.graph.pairs) pack.graph.pairs (omega arith) in
        let whole : length (filter (is_touched old new) (take i pack.graph.pairs)) ≤ length (filter (is_touched old new) pack.graph.pairs) = rw all at grown in
        omega arith;
  }
    where
      same : now.values ≡ new
      same = ext_get_or false now.values new (b.values ∙ sym fn.count) (λ i l. settled (suc i) (λ m _. empty.none m) (suc i) i (omega arith) (omega arith))

-- a node is taken and visited
pub visited : (e after done : EvaluationValue) (n : ℕ) (pair : Pair) → IsNode e.pack.graph pair n
    → after ≡ record { pack = e.pack; reads = e.reads; readers = e.readers; now = record { values = e.now.values; nodes = slice_set e.now.nodes n false; addresses = e.now.addresses } }
    → ((p : Pair) → IsNode after.pack.graph p n → done ≡ record { pack = after.pack; reads = after.reads + 1; readers = after.readers; now = stored after.readers after.now n (product_of after.now.values p) })
    → done ≡ record { pack = e.pack; reads = e.reads + 1; readers = e.readers; now = stored e.readers (record { values = e.now.values; nodes = slice_set e.now.nodes n false; addresses = e.now.addresses }) n (product_of e.now.values pair) }
visited e after done n pair node one two =
    let same : after.pack ≡ e.pack = ap (λ (x : EvaluationValue). x.pack) one in
    two pair (subst (λ (k : PackValue). IsNode k.graph pair n) (sym same) node)
    ∙ ap (λ (x : EvaluationValue). record { pack = x.pack; reads = x.reads + 1; readers = x.readers; now = stored x.readers x.now n (product_of x.now.values pair) }) one

-- two bits of one literal differ where its node's values do
in_phase-xor : (a b c : Bool) → xor (xor a c) (xor b c) ≡ xor a b
in_phase-xor true true true = refl
in_phase-xor true true false = refl
in_phase-xor true false true = refl
in_phase-xor true false false = refl
in_phase-xor false true true = refl
in_phase-xor false true false = refl
in_phase-xor false false true = refl
in_phase-xor false false false = refl

-- the bit of a literal
pub bit_of : (f : ℕ → Bool) (bits : List Lit) (a : ℕ) (l : Lit) → slice_get bits a ≡ Some l → config_bit (map f (lits_of bits)) a ≡ f l.0
bit_of f [] a l e = absurd (none-some l e)
bit_of f (b ∷ bs) zero l e = ap (λ (x : Lit). f x.0) (same_Some b l e)
bit_of f (b ∷ bs) (suc a) l e = bit_of f bs a l e

pub length-bits_under : (pack : PackValue) (values : List Bool) → length (bits_under pack values) ≡ length pack.bits
length-bits_under pack values = length-map (lits_of pack.bits) (value_of values) ∙ length-map pack.bits (λ (l : Lit). l.0)

differs_is : (pack : PackValue) (old new : List Bool) (a : ℕ) (l : Lit) → slice_get pack.bits a ≡ Some l → differs_at (bits_under pack old) (bits_under pack new) a ≡ is_changed old new (l.0 / 2)
differs_is pack old new a l e =
    ap (λ b. xor b (config_bit (bits_under pack new) a)) (bit_of (value_of old) pack.bits a l e)
    ∙ ap (xor (value_of old l.0)) (bit_of (value_of new) pack.bits a l e)
    ∙ in_phase-xor (node_value old (l.0 / 2)) (node_value new (l.0 / 2)) (eqb (l.0 % 2) 1)

-- an address is marked where the configurations differ
pub marked_differs : (pack : PackValue) (old new : List Bool) (now : Progress) (start end : ℕ) → length now.addresses ≡ length pack.bits → IsSwept pack old new now start end
    → (a : ℕ) → is_marked now.addresses a ≡ differs_at (bits_under pack old) (bits_under pack new) a
marked_differs pack old new now start end len swept a = elim (cases_lt a (length pack.bits)) [
  | inl l ↦
      let at = at_within pack.bits a l in
      let e = differs_is pack old new a at.0 at.1 in
      elim (cases_Bool (is_marked now.addresses a)) [
        | inl t ↦
            let m = swept.moved a t in
            let same : m.lit ≡ at.0 = same_Some m.lit at.0 (sym m.is ∙ at.1) in
            t ∙ sym (e ∙ ap (λ (x : Lit). is_changed old new (x.0 / 2)) (sym same) ∙ m.changed)
        | inr f ↦ f ∙ sym (e ∙ elim (cases_Bool (is_changed old new (at.0.0 / 2))) [
          | inl t ↦ absurd (false≢true (sym f ∙ swept.all_moved a (record { lit = at.0; is = at.1; changed = t })))
          | inr g ↦ g
        ])
      ]
  | inr past ↦
      let o : length (bits_under pack old) ≡ length pack.bits = length-bits_under pack old in
      let n : length (bits_under pack new) ≡ length pack.bits = length-bits_under pack new in
      get_or_past now.addresses a false (omega arith)
      ∙ sym (ap (λ b. xor b (config_bit (bits_under pack new) a)) (get_or_past (bits_under pack old) a false (omega arith)) ∙ get_or_past (bits_under pack new) a false (omega arith))
]

-- the parameters' values among those that fit
pub params_fit : (pack : PackValue) (given values : List Bool) → length given ≡ length pack.params → FitsGraph pack.graph given values → params_in pack values ≡ given
params_fit pack given values count fits = ext_get_or false (params_in pack values) given (long ∙ sym count) at
  where
    long : length (params_in pack values) ≡ length pack.params
    long = omega (arith, fits.given, fits.count, length-take (length pack.params) (drop 1 values), length-drop 1 values)

    at : (k : ℕ) → k < length (params_in pack values) → get_or (params_in pack values) k false ≡ get_or given k false
    at k l =
        let n : length (params_in pack values) ≡ length pack.params = long in
        let g : length given ≡ length pack.graph.kinds = fits.given in
        let e : 1 + k - 1 ≡ k = omega arith in
        get_or-take (length pack.params) (drop 1 values) k false (omega arith)
        ∙ get_or-drop 1 values k false
        ∙ fits.source (1 + k) (omega arith) (omega arith)
        ∙ ap (λ i. get_or given i false) e

pub one_conf : (pack : PackValue) (params a b : List Bool) → AreNormal (first_and pack.graph) pack.graph.pairs → IsConf pack params a → IsConf pack params b → a ≡ b
one_conf pack params a b normal ca cb =
    let one = has_one_conf pack params (one_fit pack.graph params normal ca.fits.given) in
    one.only a ca ∙ sym (one.only b cb)

-- between events the bits under the values are the configuration
pub idle_conf : (pack : PackValue) (now : Progress) → IsIdle pack now → IsConf pack (params_in pack now.values) (bits_under pack now.values)
idle_conf pack now idle = record { values = now.values; fits = idle.fits; are = refl }

-- between events the parts are together
pub Belong-idle : (pack : PackValue) (readers : ReadersValue) (now : Progress) → IsPack pack.params pack.graph pack.bits → AreNormal (first_and pack.graph) pack.graph.pairs → AreReaders pack readers → IsIdle pack now → Belong pack readers now
Belong-idle pack readers now is normal read idle = record {
  is = is;
  normal = normal;
  read = read;
  values = idle.fits.count;
  nodes = ap length idle.nodes ∙ length-replicate (node_count pack.graph) false;
  addresses = ap length idle.addresses ∙ length-replicate (length pack.bits) false;
  ands = λ n h. absurd (false≢true (sym (ap (λ ms. is_marked ms n) idle.nodes ∙ none_marked (node_count pack.graph) n) ∙ h));
}

-- a sweep that began with new values of parameters is a change
pub change_done : (pack : PackValue) (readers : ReadersValue) (assigns : List Assign) (old now : Progress) (start end : ℕ) → Belong pack readers old → IsIdle pack old → AreAssigned (length pack.graph.kinds) assigns
    → ((before after p q : List Bool) → FitsGraph pack.graph p before → FitsGraph pack.graph q after → IsSweeping pack before after (with_assigned readers old assigns) start start → IsSwept pack before after now start end)
    → IsChange pack assigns old now start end
change_done pack readers assigns old now start end b idle are sweep = record {
  params = params;
  fits = subst (λ ps. FitsGraph pack.graph ps now.values) (sym params) fits;
  swept = subst (λ vs. IsSwept pack old.values vs now start end) (sym swept.values) swept;
}
  where
    count : length (assigned (params_in pack old.values) assigns) ≡ length pack.graph.kinds
    count = length-assigned assigns (params_in pack old.values) ∙ idle.fits.given

    fit : HasOneFit pack.graph (assigned (params_in pack old.values) assigns)
    fit = one_fit pack.graph (assigned (params_in pack old.values) assigns) b.normal count

    swept : IsSwept pack old.values fit.values now start end
    swept = sweep old.values fit.values (params_in pack old.values) (assigned (params_in pack old.values) assigns) idle.fits fit.fits (sweep_begins pack readers old assigns fit.values start b idle are fit.fits)

    fits : FitsGraph pack.graph (assigned (params_in pack old.values) assigns) now.values
    fits = subst (FitsGraph pack.graph (assigned (params_in pack old.values) assigns)) (sym swept.values) fit.fits

    params : params_in pack now.values ≡ assigned (params_in pack old.values) assigns
    params = params_fit pack (assigned (params_in pack old.values) assigns) now.values (count ∙ kinds_count pack b.is) fits

-- what a specialiser knows of a change of its parameters
module _ (pack : PackValue) (assigns : List Assign) (old now : Progress) (start end : ℕ) (idle : IsIdle pack old) (change : IsChange pack assigns old now start end)
    (device sent : DeviceValue) (addresses : length now.addresses ≡ length pack.bits) (done : IsSent (is_marked now.addresses) (bits_under pack now.values) device sent) where
  writes_are : sent.writes ≡ differences (bits_under pack old.values) (bits_under pack now.values)
  writes_are = done.writes ∙ ap (map (write_of (bits_under pack now.values)))
      (filter_agree (is_marked now.addresses) (differs_at (bits_under pack old.values) (bits_under pack now.values)) (marked_differs pack old.values now.values now start end addresses change.swept) (range_with_len 0 (length (bits_under pack now.values))))

  pub change_set : IsSet pack assigns (record { params = params_in pack old.values; config = device.config }) sent.writes (record { params = params_in pack now.values; config = sent.config })
  change_set = record {
    params = change.params;
    from = bits_under pack old.values;
    before = idle_conf pack old idle;
    to = bits_under pack now.values;
    after = record { values = now.values; fits = change.fits; are = refl };
    are = writes_are;
    config = done.config;
  }

  pub change_steady : AreNormal (first_and pack.graph) pack.graph.pairs → IsConf pack (params_in pack old.values) device.config → IsConf pack (params_in pack now.values) sent.config
  change_steady normal conf =
      let from : device.config ≡ bits_under pack old.values = one_conf pack (params_in pack old.values) device.config (bits_under pack old.values) normal conf (idle_conf pack old idle) in
      let to : sent.config ≡ bits_under pack now.values =
      done.config ∙ ap (written device.config) writes_are ∙ ap (λ c. written c (differences (bits_under pack old.values) (bits_under pack now.values))) from
      ∙ written_differences (bits_under pack old.values) (bits_under pack now.values) (length-bits_under pack old.values ∙ sym (length-bits_under pack now.values)) in
      subst (IsConf pack (params_in pack now.values)) (sym to) (record { values = now.values; fits = change.fits; are = refl })

-- what changes the marks of addresses alone
pub addresses_only : (e f g : EvaluationValue) (marks : List Bool) → f ≡ record { pack = e.pack; reads = e.reads; readers = e.readers; now = record { values = e.now.values; nodes = e.now.nodes; addresses = f.now.addresses } }
    → g ≡ record { pack = f.pack; reads = f.reads; readers = f.readers; now = record { values = f.now.values; nodes = f.now.nodes; addresses = marks } }
    → g ≡ record { pack = e.pack; reads = e.reads; readers = e.readers; now = record { values = e.now.values; nodes = e.now.nodes; addresses = marks } }
addresses_only e f g marks one two =
    two ∙ ap (λ (x : EvaluationValue). record { pack = x.pack; reads = x.reads; readers = x.readers; now = record { values = x.now.values; nodes = x.now.nodes; addresses = marks } }) one
