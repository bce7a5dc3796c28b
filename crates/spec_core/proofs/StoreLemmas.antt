-- A node gets a value, and the marks stay right; the bits of a configuration are written at ascending addresses.
use Rattle.spec_core.proofs.Common.{◌≡◌, ℕ, ◌+◌, ◌/◌, ◌<◌, ◌≤◌, Bool, true, false, List, length, slice_set, Option, Some, None, refl, sym, ap, ◌∙◌, inl, inr, arith, cases_lt, false≢true, or_left, or_right, or_cases, length-set, get_or-set_same, get_or-set_other, set-get_or, choose, same_or, Pair, node_count, IsAnd, xor, node_value, PackValue, is_marked, IsLeast, without, ReadersValue, Reads, IsLitOf, nodes_of, addresses_of, reads_and, lit_within, is_changed, is_touched, Progress, Belong, with_marks, stored, IsStale, AreMarked, zero, suc, not, cond, [], ◌∷◌, ◌++◌, map, subst, slice_get, filter, range_with_len, cases_Bool, ext_get_or, length-map, map-append, filter-append, length-filter_both, slice_get-get_or, Write, address_of, AreAscending, AreBitsOf, written, length-written, In, In-filter, in_filter, from_map, IsEmpty, config_bit, differs_at, write_of, differences, writes_where}
use Rattle.spec_core.proofs.MarkLemmas.{xor-false, marked_within, marks_kept, marks_set, marks_only, length-with_marks, changed_here, changed_more, changed_back}
use mathlib.Core.Bool.{beq}
use Rattle.std.proofs.lemmas.List.FromFn.{length-range_with_len}
use Rattle.list_laws.specs.Order.{IsAscending}
use Rattle.list_laws.proofs.Ranges.{of_range, in_range}

-- what a node reads more of is touched as well
touched_more : (old values others : List Bool) (p : Pair) → ((k : ℕ) → is_changed old values k ≡ true → is_changed old others k ≡ true) → is_touched old values p ≡ true → is_touched old others p ≡ true
touched_more old values others p more h = elim (or_cases (is_changed old values (p.x.0 / 2)) (is_changed old values (p.y.0 / 2)) h) [
  | inl x ↦ or_left (is_changed old others (p.x.0 / 2)) (is_changed old others (p.y.0 / 2)) (more (p.x.0 / 2) x)
  | inr y ↦ or_right (is_changed old others (p.x.0 / 2)) (is_changed old others (p.y.0 / 2)) (more (p.y.0 / 2) y)
]

-- the value of a node that gets it
pub stored_values : (readers : ReadersValue) (now : Progress) (n : ℕ) (v : Bool) → (stored readers now n v).values ≡ slice_set now.values n v
stored_values readers now n v = choose (λ (s : Progress). s.values ≡ slice_set now.values n v) (xor (node_value now.values n) v) _ now
    (λ t. refl)
    (λ f. sym (ap (slice_set now.values n) (sym (xor-false (node_value now.values n) v f)) ∙ set-get_or now.values n false))

-- the parts stay together where AND nodes are marked
pub Belong-written : (pack : PackValue) (readers : ReadersValue) (now : Progress) (n : ℕ) (v : Bool) (addresses : List ℕ) → n < node_count pack.graph → Belong pack readers now
    → Belong pack readers (record { values = slice_set now.values n v; nodes = with_marks now.nodes (nodes_of readers n); addresses = with_marks now.addresses addresses })
Belong-written pack readers now n v addresses inside b = record {
  is = b.is;
  normal = b.normal;
  read = b.read;
  values = length-set now.values n v ∙ b.values;
  nodes = length-with_marks (nodes_of readers n) now.nodes ∙ b.nodes;
  addresses = length-with_marks addresses now.addresses ∙ b.addresses;
  ands = λ m h. elim (marks_only (nodes_of readers n) now.nodes m h) [
    | inl i ↦ reads_and pack.graph n m ((b.read.nodes n inside).only m i)
    | inr k ↦ b.ands m k
  ];
}

pub Belong-stored : (pack : PackValue) (readers : ReadersValue) (now : Progress) (n : ℕ) (v : Bool) → n < node_count pack.graph → Belong pack readers now → Belong pack readers (stored readers now n v)
Belong-stored pack readers now n v inside b = choose (Belong pack readers) (xor (node_value now.values n) v) _ now (λ t. Belong-written pack readers now n v (addresses_of readers n) inside b) (λ f. b)

-- a mark that stays where one is taken was there
pub was_marked : (marks : List Bool) (n m : ℕ) → is_marked (slice_set marks n false) m ≡ true → is_marked marks m ≡ true
was_marked marks n m h = elim (same_or m n) [
  | inl e ↦
      let past : n < length marks = let l : length (slice_set marks n false) ≡ length marks = length-set marks n false in let w : m < length (slice_set marks n false) = marked_within (slice_set marks n false) m h in omega arith in
      absurd (false≢true (sym (get_or-set_same marks n false false past) ∙ ap (is_marked (slice_set marks n false)) (sym e) ∙ h))
  | inr d ↦ sym (get_or-set_other marks n m false false d) ∙ h
]

-- they stay together where a node is taken
pub Belong-without : (pack : PackValue) (readers : ReadersValue) (now : Progress) (taken : Option ℕ) → Belong pack readers now
    → Belong pack readers (record { values = now.values; nodes = without now.nodes taken; addresses = now.addresses })
Belong-without pack readers now None b = b
Belong-without pack readers now (Some n) b = record {
  is = b.is;
  normal = b.normal;
  read = b.read;
  values = b.values;
  nodes = length-set now.nodes n false ∙ b.nodes;
  addresses = b.addresses;
  ands = λ m h. b.ands m (was_marked now.nodes n m h);
}

-- A node that had its old value gets one, and what reads it is marked where that is another.
module _ (pack : PackValue) (readers : ReadersValue) (old : List Bool) (now : Progress) (n : ℕ) (v : Bool) (point : ℕ)
    (b : Belong pack readers now) (inside : n < node_count pack.graph) (same : is_changed old now.values n ≡ false)
    (after : (m : ℕ) → Reads pack.graph n m → point ≤ m) (marks : AreMarked pack old now point) where
  within : n < length now.values
  within = let l : length now.values ≡ node_count pack.graph = b.values in omega arith

  new : Progress
  new = record { values = slice_set now.values n v; nodes = with_marks now.nodes (nodes_of readers n); addresses = with_marks now.addresses (addresses_of readers n) }

  reads_touched : (other : xor (node_value now.values n) v ≡ true) (m : ℕ) → Reads pack.graph n m → IsStale pack.graph old (slice_set now.values n v) m
  reads_touched other m r =
      let here : is_changed old (slice_set now.values n v) n ≡ true = changed_here old now.values n v within same other in
      record {
        pair = r.pair;
        is = r.is;
        touched = elim r.fan_in [
          | inl e ↦ or_left (is_changed old (slice_set now.values n v) (r.pair.x.0 / 2)) (is_changed old (slice_set now.values n v) (r.pair.y.0 / 2)) (ap (is_changed old (slice_set now.values n v)) e ∙ here)
          | inr e ↦ or_right (is_changed old (slice_set now.values n v) (r.pair.x.0 / 2)) (is_changed old (slice_set now.values n v) (r.pair.y.0 / 2)) (ap (is_changed old (slice_set now.values n v)) e ∙ here)
        ];
      }

  reader_marked : (m : ℕ) → Reads pack.graph n m → is_marked (with_marks now.nodes (nodes_of readers n)) m ≡ true
  reader_marked m r =
      let and : IsAnd pack.graph m = reads_and pack.graph n m r in
      let l : length now.nodes ≡ node_count pack.graph = b.nodes in
      let below : m < node_count pack.graph = and.1 in
      marks_set (nodes_of readers n) now.nodes m ((b.read.nodes n inside).all m r) (omega arith)

  address_marked : (a : ℕ) → IsLitOf pack.bits n a → is_marked (with_marks now.addresses (addresses_of readers n)) a ≡ true
  address_marked a r =
      let below : a < length pack.bits = lit_within pack.bits n a r in
      let l : length now.addresses ≡ length pack.bits = b.addresses in
      marks_set (addresses_of readers n) now.addresses a ((b.read.addresses n inside).all a r) (omega arith)

  marked_again : xor (node_value now.values n) v ≡ true → AreMarked pack old (record { values = slice_set now.values n v; nodes = with_marks now.nodes (nodes_of readers n); addresses = with_marks now.addresses (addresses_of readers n) }) point
  marked_again other = record {
    from = λ m h. elim (marks_only (nodes_of readers n) now.nodes m h) [
      | inl i ↦ after m ((b.read.nodes n inside).only m i)
      | inr k ↦ marks.from m k
    ];
    stale = λ m h. elim (marks_only (nodes_of readers n) now.nodes m h) [
      | inl i ↦ reads_touched other m ((b.read.nodes n inside).only m i)
      | inr k ↦ (let s = marks.stale m k in record {
        pair = s.pair;
        is = s.is;
        touched = touched_more old now.values (slice_set now.values n v) s.pair (changed_more old now.values n v within same other) s.touched;
      })
    ];
    all_stale = λ m l s. elim (or_cases (is_changed old (slice_set now.values n v) (s.pair.x.0 / 2)) (is_changed old (slice_set now.values n v) (s.pair.y.0 / 2)) s.touched) [
      | inl x ↦ elim (changed_back old now.values n v within same other (s.pair.x.0 / 2) x) [
        | inl e ↦ reader_marked m (record { pair = s.pair; is = s.is; fan_in = inl e })
        | inr c ↦ marks_kept (nodes_of readers n) now.nodes m (marks.all_stale m l (record { pair = s.pair; is = s.is; touched = or_left (is_changed old now.values (s.pair.x.0 / 2)) (is_changed old now.values (s.pair.y.0 / 2)) c }))
      ]
      | inr y ↦ elim (changed_back old now.values n v within same other (s.pair.y.0 / 2) y) [
        | inl e ↦ reader_marked m (record { pair = s.pair; is = s.is; fan_in = inr e })
        | inr c ↦ marks_kept (nodes_of readers n) now.nodes m (marks.all_stale m l (record { pair = s.pair; is = s.is; touched = or_right (is_changed old now.values (s.pair.x.0 / 2)) (is_changed old now.values (s.pair.y.0 / 2)) c }))
      ]
    ];
    moved = λ a h. elim (marks_only (addresses_of readers n) now.addresses a h) [
      | inl i ↦ (let r = (b.read.addresses n inside).only a i in record {
        lit = r.lit;
        is = r.is;
        changed = ap (is_changed old (slice_set now.values n v)) r.node ∙ changed_here old now.values n v within same other;
      })
      | inr k ↦ (let s = marks.moved a k in record {
        lit = s.lit;
        is = s.is;
        changed = changed_more old now.values n v within same other (s.lit.0 / 2) s.changed;
      })
    ];
    all_moved = λ a s. elim (changed_back old now.values n v within same other (s.lit.0 / 2) s.changed) [
      | inl e ↦ address_marked a (record { lit = s.lit; is = s.is; node = e })
      | inr c ↦ marks_kept (addresses_of readers n) now.addresses a (marks.all_moved a (record { lit = s.lit; is = s.is; changed = c }))
    ];
  }

  pub AreMarked-stored : AreMarked pack old (stored readers now n v) point
  AreMarked-stored = choose (λ (s : Progress). AreMarked pack old s point) (xor (node_value now.values n) v) _ now marked_again (λ f. marks)

-- the least marked node is taken: the point moves past it
pub AreMarked-taken : (pack : PackValue) (old : List Bool) (now : Progress) (point n : ℕ) → IsLeast now.nodes n → AreMarked pack old now point
    → AreMarked pack old (record { values = now.values; nodes = slice_set now.nodes n false; addresses = now.addresses }) (n + 1)
AreMarked-taken pack old now point n least marks = record {
  from = λ m h. past m h;
  stale = λ m h. marks.stale m (marked m h);
  all_stale = λ m l s. let f : point ≤ n = marks.from n least.marked in get_or-set_other now.nodes n m false false (λ e. omega arith) ∙ marks.all_stale m (omega arith) s;
  moved = marks.moved;
  all_moved = marks.all_moved;
}
  where
    apart : (m : ℕ) → is_marked (slice_set now.nodes n false) m ≡ true → m ≡ n → ⊥
    apart m h e = false≢true (sym (get_or-set_same now.nodes n false false least.within) ∙ ap (is_marked (slice_set now.nodes n false)) (sym e) ∙ h)

    marked : (m : ℕ) → is_marked (slice_set now.nodes n false) m ≡ true → is_marked now.nodes m ≡ true
    marked = was_marked now.nodes n

    past : (m : ℕ) → is_marked (slice_set now.nodes n false) m ≡ true → n + 1 ≤ m
    past m h = let d = apart m h in elim (cases_lt m n) [
      | inl l ↦ absurd (false≢true (sym (least.least m l) ∙ marked m h))
      | inr g ↦ omega arith
    ]

-- a range keeps its order through a filter
filter_ascends : (test : ℕ → Bool) (count from : ℕ) → IsAscending (filter test (range_with_len from count))
filter_ascends test zero from = tt
filter_ascends test (suc count) from = choose IsAscending (test from) (from ∷ filter test (range_with_len (from + 1) count)) (filter test (range_with_len (from + 1) count))
    (λ t. (λ n i. let r = of_range (from + 1) count n (In-filter test (range_with_len (from + 1) count) n i).0 in let a : from + 1 ≤ n = r.0 in omega arith, filter_ascends test count (from + 1)))
    (λ f. filter_ascends test count (from + 1))

-- a filter by a test that fails everywhere
pub filter_none : (test : ℕ → Bool) (xs : List ℕ) → ((x : ℕ) → test x ≡ false) → filter test xs ≡ []
filter_none test [] none = refl
filter_none test (x ∷ xs) none = ap (λ b. cond b (x ∷ filter test xs) (filter test xs)) (none x) ∙ filter_none test xs none

-- a filter by tests that agree from a number on
filter_same : (test other : ℕ → Bool) (count from : ℕ) → ((x : ℕ) → from ≤ x → test x ≡ other x) → filter test (range_with_len from count) ≡ filter other (range_with_len from count)
filter_same test other zero from same = refl
filter_same test other (suc count) from same =
    ap (λ b. cond b (from ∷ filter test (range_with_len (from + 1) count)) (filter test (range_with_len (from + 1) count))) (same from (omega arith))
    ∙ ap (λ zs. cond (other from) (from ∷ zs) zs) (filter_same test other count (from + 1) (λ x l. same x (omega arith)))

-- the marked numbers from one on, the least first
least_first : (marks : List Bool) (a : ℕ) → IsLeast marks a → (count from : ℕ) → from ≤ a → a < from + count
    → filter (is_marked marks) (range_with_len from count) ≡ a ∷ filter (is_marked (slice_set marks a false)) (range_with_len from count)
least_first marks a least zero from l u = absurd (omega arith)
least_first marks a least (suc count) from l u =
    let rest : List ℕ → List ℕ = λ zs. cond (is_marked marks from) (from ∷ zs) zs in
    elim (same_or from a) [
      | inl e ↦
          ap (λ b. cond b (from ∷ filter (is_marked marks) (range_with_len (from + 1) count)) (filter (is_marked marks) (range_with_len (from + 1) count))) (ap (is_marked marks) e ∙ least.marked)
          ∙ ap (λ b. b ∷ filter (is_marked marks) (range_with_len (from + 1) count)) e
          ∙ ap (λ zs. a ∷ zs) (filter_same (is_marked marks) (is_marked (slice_set marks a false)) count (from + 1) (λ x h. sym (get_or-set_other marks a x false false (λ q. omega arith))))
          ∙ ap (λ b. a ∷ cond b (from ∷ filter (is_marked (slice_set marks a false)) (range_with_len (from + 1) count)) (filter (is_marked (slice_set marks a false)) (range_with_len (from + 1) count)))
          (sym (ap (is_marked (slice_set marks a false)) e ∙ get_or-set_same marks a false false least.within))
      | inr d ↦
          let clear : is_marked marks from ≡ false = least.least from (omega arith) in
          ap (λ b. cond b (from ∷ filter (is_marked marks) (range_with_len (from + 1) count)) (filter (is_marked marks) (range_with_len (from + 1) count))) clear
          ∙ least_first marks a least count (from + 1) (omega arith) (omega arith)
          ∙ ap (λ b. a ∷ cond b (from ∷ filter (is_marked (slice_set marks a false)) (range_with_len (from + 1) count)) (filter (is_marked (slice_set marks a false)) (range_with_len (from + 1) count)))
          (sym (get_or-set_other marks a from false false d ∙ clear))
    ]

-- the addresses of writes
addresses_are : (to : List Bool) (chosen : List ℕ) → map address_of (map (write_of to) chosen) ≡ chosen
addresses_are to [] = refl
addresses_are to (a ∷ chosen) = ap (λ zs. a ∷ zs) (addresses_are to chosen)

-- writes that are sent ascend
pub writes_ascend : (test : ℕ → Bool) (to : List Bool) → AreAscending (writes_where test to)
writes_ascend test to = subst IsAscending (sym (addresses_are to (filter test (range_with_len 0 (length to))))) (filter_ascends test (length to) 0)

pub written-push : (writes : List Write) (config : List Bool) (w : Write) → written config (writes ++ w ∷ []) ≡ slice_set (written config writes) w.address w.bit
written-push [] config w = refl
written-push (v ∷ vs) config w = written-push vs (slice_set config v.address v.bit) w

-- a bit that is right stays so
right_stays : (to : List Bool) (chosen : List ℕ) (config : List Bool) (k : ℕ) → k < length config → config_bit config k ≡ config_bit to k → config_bit (written config (map (write_of to) chosen)) k ≡ config_bit to k
right_stays to [] config k l h = h
right_stays to (a ∷ chosen) config k l h =
    let n : length (slice_set config a (config_bit to a)) ≡ length config = length-set config a (config_bit to a) in
    right_stays to chosen (slice_set config a (config_bit to a)) k (omega arith) (elim (same_or k a) [
      | inl e ↦ subst (λ j. config_bit (slice_set config j (config_bit to j)) k ≡ config_bit to k) e (get_or-set_same config k (config_bit to k) false l)
      | inr d ↦ get_or-set_other config a k (config_bit to a) false d ∙ h
    ])

-- a bit that is written is right
written_right : (to : List Bool) (chosen : List ℕ) (config : List Bool) (k : ℕ) → In chosen k → k < length config → config_bit (written config (map (write_of to) chosen)) k ≡ config_bit to k
written_right to [] config k i l = elim i [ ]
written_right to (a ∷ chosen) config k (inl e) l =
    let n : length (slice_set config a (config_bit to a)) ≡ length config = length-set config a (config_bit to a) in
    right_stays to chosen (slice_set config a (config_bit to a)) k (omega arith) (subst (λ j. config_bit (slice_set config j (config_bit to j)) k ≡ config_bit to k) e (get_or-set_same config k (config_bit to k) false l))
written_right to (a ∷ chosen) config k (inr i) l =
    let n : length (slice_set config a (config_bit to a)) ≡ length config = length-set config a (config_bit to a) in
    written_right to chosen (slice_set config a (config_bit to a)) k i (omega arith)

-- the writes of where two configurations differ make the second of the first
pub written_differences : (from to : List Bool) → length from ≡ length to → written from (differences from to) ≡ to
written_differences from to same = ext_get_or false (written from (differences from to)) to (length-written (differences from to) from ∙ same) (λ k l. at k (let n : length (written from (differences from to)) ≡ length from = length-written (differences from to) from in omega arith))
  where
    at : (k : ℕ) → k < length from → config_bit (written from (differences from to)) k ≡ config_bit to k
    at k l = elim (cases_Bool (differs_at from to k)) [
      | inl t ↦ written_right to (filter (differs_at from to) (range_with_len 0 (length to))) from k (in_filter (differs_at from to) (range_with_len 0 (length to)) k (in_range 0 (length to) k (omega arith) (omega arith)) t) l
      | inr f ↦ right_stays to (filter (differs_at from to) (range_with_len 0 (length to))) from k l (xor-false (config_bit from k) (config_bit to k) f)
    ]

-- writes that were sent are bits of the configuration
pub writes_are_bits : (test : ℕ → Bool) (to config : List Bool) → length config ≡ length to → AreBitsOf (written config (writes_where test to)) (writes_where test to)
writes_are_bits test to config same = record {
  bits = λ w i.
      let chosen : List ℕ = filter test (range_with_len 0 (length to)) in
      let r = from_map (write_of to) chosen w i in
      let within = of_range 0 (length to) r.0 (In-filter test (range_with_len 0 (length to)) r.0 r.1).0 in
      let l : r.0 < 0 + length to = within.1 in
      let n : length (written config (writes_where test to)) ≡ length config = length-written (writes_where test to) config in
      subst (λ (v : Write). slice_get (written config (writes_where test to)) v.address ≡ Some v.bit) (sym r.2)
      (slice_get-get_or (written config (writes_where test to)) r.0 false (omega arith) ∙ ap (λ b. Some b) (written_right to chosen config r.0 r.1 (omega arith)));
}

-- the least marked address is written first
pub least_written : (marks to : List Bool) (a : ℕ) → IsLeast marks a → length marks ≡ length to → writes_where (is_marked marks) to ≡ write_of to a ∷ writes_where (is_marked (slice_set marks a false)) to
least_written marks to a least same = ap (map (write_of to)) (least_first marks a least (length to) 0 (omega arith) (let w : a < length marks = least.within in omega arith))

-- no more addresses pass a test than there are
pub writes_few : (test : ℕ → Bool) (to : List Bool) (n : ℕ) → length (map (write_of to) (filter test (range_with_len 0 n))) ≤ n
writes_few test to n =
    omega (arith, length-map (filter test (range_with_len 0 n)) (write_of to), length-filter_both test (λ x. not (test x)) (λ _. refl) (range_with_len 0 n), length-range_with_len 0 n)

-- one fewer is left where the least marked one is taken
pub fewer_left : (marks : List Bool) (a n : ℕ) → IsLeast marks a → a < n → length (filter (is_marked (slice_set marks a false)) (range_with_len 0 n)) < length (filter (is_marked marks) (range_with_len 0 n))
fewer_left marks a n least l = let e = ap length (least_first marks a least n 0 (omega arith) (omega arith)) in omega (arith, e)

-- without a mark nothing is written
pub none_written : (marks to : List Bool) → IsEmpty marks → writes_where (is_marked marks) to ≡ []
none_written marks to empty = ap (map (write_of to)) (filter_none (is_marked marks) (range_with_len 0 (length to)) empty.none)

-- an address that passes or does not is the last of a range
pub one_more : (test : ℕ → Bool) (to : List Bool) (n : ℕ) → map (write_of to) (filter test (range_with_len 0 (n + 1))) ≡ map (write_of to) (filter test (range_with_len 0 n)) ++ cond (test n) (write_of to n ∷ []) []
one_more test to n =
    ap (λ ns. map (write_of to) (filter test ns)) (range_push n 0 ∙ ap (λ k. range_with_len 0 n ++ k ∷ []) (let e : 0 + n ≡ n = omega arith in e))
    ∙ ap (map (write_of to)) (filter-append test (range_with_len 0 n) (n ∷ []))
    ∙ map-append (write_of to) (filter test (range_with_len 0 n)) (filter test (n ∷ []))
    ∙ ap (λ ws. map (write_of to) (filter test (range_with_len 0 n)) ++ ws) (last (test n))
  where
    range_push : (count from : ℕ) → range_with_len from (count + 1) ≡ range_with_len from count ++ (from + count) ∷ []
    range_push zero from = let e : from + 0 ≡ from = omega arith in ap (λ k. k ∷ []) (sym e)
    range_push (suc count) from = let e : suc count + 1 ≡ suc (count + 1) = omega arith in let d : from + 1 + count ≡ from + suc count = omega arith in
        ap (range_with_len from) e ∙ ap (λ ns. from ∷ ns) (range_push count (from + 1) ∙ ap (λ k. range_with_len (from + 1) count ++ k ∷ []) d)

    last : (b : Bool) → map (write_of to) (cond b (n ∷ []) []) ≡ cond b (write_of to n ∷ []) []
    last true = refl
    last false = refl

-- a test of two bits
pub test_differs : (a b t : Bool) → not (beq a b) ≡ t → xor a b ≡ t
test_differs true true t e = e
test_differs true false t e = e
test_differs false true t e = e
test_differs false false t e = e
