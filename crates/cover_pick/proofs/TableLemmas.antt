-- The LUTs that are made are those of the needed literals, with their bases and bits.
use Rattle.cover_pick.proofs.Common.{◌≡◌, ℕ, suc, ◌+◌, ◌*◌, ◌^◌, ◌<◌, ◌≤◌, Bool, true, false, List, [], ◌∷◌, ◌++◌, length, Option, Some, None, refl, sym, ◌∙◌, subst, inl, inr, ◌⊎◌, arith, get_or, slice_set, get_or-set_same, replicate, drop, drop_more, length-set, length-replicate, get_or-replicate, get_or_past, sum_by_push, sum_by-cons, same_Some, none-some, cases_lt, false≢true, Aig, node_count, In, In-left, In-push, In-pushed, OrMemory, refusal_of, MOST_WORK, PickErr, Work, Memory, Lut, HaveBases, AscendByLit, bits_of, rules, mark_at, mark_each, mark_leaves, mark_cut, mark_cuts, marks_of, IsMarked, root, leaf, leaves_of, Made, add_table, add_marked, tables_from, tables_of, AreMade}
use Rattle.cover_pick.proofs.MarkLemmas.{mark_stays, mark_from}

each_stays : (ls : List ℕ) (xs : List Bool) (m : ℕ) → mark_at xs m ≡ true → mark_at (mark_each xs ls) m ≡ true
each_stays [] xs m h = h
each_stays (l ∷ ls) xs m h = each_stays ls (slice_set xs l true) m (mark_stays xs l m h)

each_in : (ls : List ℕ) (xs : List Bool) (m : ℕ) → In ls m → m < length xs → mark_at (mark_each xs ls) m ≡ true
each_in [] xs m i b = elim i [ ]
each_in (l ∷ ls) xs m (inl e) b = each_stays ls (slice_set xs l true) m (subst (λ k. mark_at (slice_set xs k true) m ≡ true) e (get_or-set_same xs m true false b))
each_in (l ∷ ls) xs m (inr i) b = each_in ls (slice_set xs l true) m i (rw (length-set xs l true) b)

each_from : (ls : List ℕ) (xs : List Bool) (m : ℕ) → mark_at (mark_each xs ls) m ≡ true → In ls m ⊎ (mark_at xs m ≡ true)
each_from [] xs m h = inr h
each_from (l ∷ ls) xs m h = elim (each_from ls (slice_set xs l true) m h) [ inl i ↦ inl (inr i) | inr b ↦ elim (mark_from xs l m b) [ inl e ↦ inl (inl e) | inr c ↦ inr c ] ]

each_length : (ls : List ℕ) (xs : List Bool) → length (mark_each xs ls) ≡ length xs
each_length [] xs = refl
each_length (l ∷ ls) xs = each_length ls (slice_set xs l true) ∙ length-set xs l true

leaves_stay : (ms : List ℕ) (xs : List Bool) (l : ℕ) → mark_at xs l ≡ true → mark_at (mark_leaves xs ms) l ≡ true
leaves_stay [] xs l h = h
leaves_stay (m ∷ ms) xs l h = leaves_stay ms (slice_set xs (2 * m) true) l (mark_stays xs (2 * m) l h)

leaves_in : (ms : List ℕ) (xs : List Bool) (m : ℕ) → In ms m → 2 * m < length xs → mark_at (mark_leaves xs ms) (2 * m) ≡ true
leaves_in [] xs m i b = elim i [ ]
leaves_in (x ∷ ms) xs m (inl e) b = leaves_stay ms (slice_set xs (2 * x) true) (2 * m) (subst (λ k. mark_at (slice_set xs (2 * k) true) (2 * m) ≡ true) e (get_or-set_same xs (2 * m) true false b))
leaves_in (x ∷ ms) xs m (inr i) b = leaves_in ms (slice_set xs (2 * x) true) m i (rw (length-set xs (2 * x) true) b)

leaves_from : (ms : List ℕ) (xs : List Bool) (l : ℕ) → mark_at (mark_leaves xs ms) l ≡ true → ((m : ℕ) × In ms m × (l ≡ 2 * m)) ⊎ (mark_at xs l ≡ true)
leaves_from [] xs l h = inr h
leaves_from (x ∷ ms) xs l h = search (rules, slice_set, mark_from, leaves_from ms (slice_set xs (2 * x) true) l h)

leaves_length : (ms : List ℕ) (xs : List Bool) → length (mark_leaves xs ms) ≡ length xs
leaves_length [] xs = refl
leaves_length (m ∷ ms) xs = leaves_length ms (slice_set xs (2 * m) true) ∙ length-set xs (2 * m) true

cut_stays : (o : Option (List ℕ)) (xs : List Bool) (l : ℕ) → mark_at xs l ≡ true → mark_at (mark_cut xs o) l ≡ true
cut_stays None xs l h = h
cut_stays (Some c) xs l h = leaves_stay c xs l h

cut_length : (o : Option (List ℕ)) (xs : List Bool) → length (mark_cut xs o) ≡ length xs
cut_length None xs = refl
cut_length (Some c) xs = leaves_length c xs

cuts_stay : (os : List (Option (List ℕ))) (xs : List Bool) (l : ℕ) → mark_at xs l ≡ true → mark_at (mark_cuts xs os) l ≡ true
cuts_stay [] xs l h = h
cuts_stay (o ∷ os) xs l h = cuts_stay os (mark_cut xs o) l (cut_stays o xs l h)

cuts_in : (os : List (Option (List ℕ))) (xs : List Bool) (c : List ℕ) (m : ℕ) → In os (Some c) → In c m → 2 * m < length xs → mark_at (mark_cuts xs os) (2 * m) ≡ true
cuts_in [] xs c m i j b = elim i [ ]
cuts_in (o ∷ os) xs c m (inl e) j b = cuts_stay os (mark_cut xs o) (2 * m) (subst (λ q. mark_at (mark_cut xs q) (2 * m) ≡ true) e (leaves_in c xs m j b))
cuts_in (o ∷ os) xs c m (inr i) j b = cuts_in os (mark_cut xs o) c m i j (rw (cut_length o xs) b)

cut_from : (o : Option (List ℕ)) (xs : List Bool) (l : ℕ) → mark_at (mark_cut xs o) l ≡ true → ((c : List ℕ) × (m : ℕ) × (Some c ≡ o) × In c m × (l ≡ 2 * m)) ⊎ (mark_at xs l ≡ true)
cut_from None xs l h = inr h
cut_from (Some c) xs l h = elim (leaves_from c xs l h) [ inl r ↦ inl (c, r.0, refl, r.1, r.2) | inr b ↦ inr b ]

cuts_from : (os : List (Option (List ℕ))) (xs : List Bool) (l : ℕ) → mark_at (mark_cuts xs os) l ≡ true → ((c : List ℕ) × (m : ℕ) × In os (Some c) × In c m × (l ≡ 2 * m)) ⊎ (mark_at xs l ≡ true)
cuts_from [] xs l h = inr h
cuts_from (o ∷ os) xs l h = search (rules, cut_from, cuts_from os (mark_cut xs o) l h)

pub marked_needed : (g : Aig) (roots : List ℕ) (cuts : List (Option (List ℕ))) (l : ℕ) → mark_at (marks_of g roots cuts) l ≡ true → IsMarked roots cuts l
marked_needed g roots cuts l h =
    elim (cuts_from cuts (mark_each (replicate (2 * node_count g) false) roots) l h) [
      | inl r ↦ leaf r.0 r.1 r.2 r.3 r.4
      | inr b ↦ elim (each_from roots (replicate (2 * node_count g) false) l b) [
        | inl i ↦ root i
        | inr d ↦ absurd (elim (cases_lt l (2 * node_count g)) [
          | inl a ↦ false≢true (sym (get_or-replicate (2 * node_count g) l false false a) ∙ d)
          | inr a ↦ false≢true (sym (get_or_past (replicate (2 * node_count g) false) l false (rw (length-replicate (2 * node_count g) false) a)) ∙ d)
        ])
      ]
    ]

pub needed_marked : (g : Aig) (roots : List ℕ) (cuts : List (Option (List ℕ))) (l : ℕ) → ((c : List ℕ) (m : ℕ) → In cuts (Some c) → In c m → m < node_count g) → ((l : ℕ) → In roots l → l < 2 * node_count g)
    → IsMarked roots cuts l → mark_at (marks_of g roots cuts) l ≡ true
needed_marked g roots cuts l inside lits (root i) = grind (arith, cuts_stay, each_in, length-replicate)
needed_marked g roots cuts l inside lits (leaf c m i j e) = grind (arith, each_length, length-replicate, cuts_in)

ascend_push : (ts : List Lut) (x : Lut) → AscendByLit ts → ((t : Lut) → In ts t → t.lit.0 < x.lit.0) → AscendByLit (ts ++ x ∷ [])
ascend_push [] x a b = ((λ u i. absurd i), tt)
ascend_push (y ∷ ts) x a b =
    ((λ u i. elim (In-push ts x u i) [ inl j ↦ a.0 u j | inr e ↦ subst (λ v. y.lit.0 < v.lit.0) (sym e) (b y (inl refl)) ]), ascend_push ts x a.1 (λ t i. b t (inr i)))

bases_push : (ts : List Lut) (x : Lut) (b : ℕ) → HaveBases b ts → x.base ≡ b + bits_of ts → HaveBases b (ts ++ x ∷ [])
bases_push [] x b h e = ((omega arith), tt)
bases_push (y ∷ ts) x b h e = (h.0, bases_push ts x (b + 2 ^ length y.leaves) h.1 (let u : bits_of (y ∷ ts) ≡ 2 ^ length y.leaves + bits_of ts = sum_by-cons (λ (t : Lut). 2 ^ length t.leaves) y ts in omega arith))

module _ (g : Aig) (cuts : List (Option (List ℕ))) (S : ℕ → Type 0) where
  skip_are : (l : ℕ) (made : Made) → AreMade g cuts S l made → ((c : List ℕ) → S l → leaves_of g cuts l ≡ Some c → ⊥) → AreMade g cuts S (l + 1) made
  skip_are l made a none = search (rules, cases_lt)

  add_are : (l : ℕ) (made : Made) (c : List ℕ) → AreMade g cuts S l made → S l → leaves_of g cuts l ≡ Some c → AreMade g cuts S (l + 1) (add_table made l (Some c))
  add_are l made c a s e =
      let x : Lut = record { lit = record { 0 = l }; leaves = c; base = made.bits } in
      record {
        below = λ t i. elim (In-push made.luts x t i) [ inl j ↦ (let b : t.lit.0 < l = a.below t j in omega arith) | inr q ↦ subst (λ v. v.lit.0 < l + 1) (sym q) (omega arith) ];
        only = λ t i. elim (In-push made.luts x t i) [ inl j ↦ a.only t j | inr q ↦ subst (λ v. S v.lit.0 × (leaves_of g cuts v.lit.0 ≡ Some v.leaves)) (sym q) (s, e) ];
        all = λ m d b sm f. elim (cases_lt m l) [
          | inl h ↦ (let r = a.all m d h sm f in record { by = r.by; in' = In-left made.luts (x ∷ []) r.by r.in'; lit_is = r.lit_is; leaves_are = r.leaves_are })
          | inr h ↦ (let q : m ≡ l = omega arith in record { by = x; in' = In-pushed made.luts x; lit_is = sym q; leaves_are = same_Some c d (sym e ∙ subst (λ i. leaves_of g cuts i ≡ Some d) q f) })
        ];
        ascending = ascend_push made.luts x a.ascending (λ t i. a.below t i);
        bases = bases_push made.luts x 0 a.bases (let d : made.bits ≡ bits_of made.luts = a.sum in omega arith);
        sum = (let b : bits_of (made.luts ++ x ∷ []) ≡ bits_of made.luts + 2 ^ length c = sum_by_push (λ (t : Lut). 2 ^ length t.leaves) made.luts x in let d : made.bits ≡ bits_of made.luts = a.sum in omega arith);
      }

  table_are : (l : ℕ) (made : Made) (o : Option (List ℕ)) → AreMade g cuts S l made → S l → leaves_of g cuts l ≡ o → AreMade g cuts S (l + 1) (add_table made l o)
  table_are l made None a s e = skip_are l made a (λ c _ f. absurd (none-some c (sym e ∙ f)))
  table_are l made (Some c) a s e = add_are l made c a s e

  marked_are : (l : ℕ) (made : Made) (m : Bool) → AreMade g cuts S l made → (m ≡ true → S l) → (S l → m ≡ true) → AreMade g cuts S (l + 1) (add_marked g cuts made l m)
  marked_are l made false a to from = skip_are l made a (λ c s _. absurd (false≢true (from s)))
  marked_are l made true a to from = table_are l made (leaves_of g cuts l) a (to refl) refl

  tables_are : (ms : List Bool) (l : ℕ) (made : Made) → AreMade g cuts S l made → ((j : ℕ) → j < length ms → (mark_at ms j ≡ true → S (l + j)) × (S (l + j) → mark_at ms j ≡ true)) → AreMade g cuts S (l + length ms) (tables_from g cuts made l ms)
  tables_are [] l made a h = subst (λ i. AreMade g cuts S i made) (let e : l ≡ l + 0 = omega arith in e) a
  tables_are (m ∷ ms) l made a h =
      let z : l + 0 ≡ l = omega arith in
      grind (arith, marked_are, tables_are ms (l + 1) (add_marked g cuts made l m) (marked_are l made m a (λ t. subst (λ i. S i) z ((h 0 (omega arith)).0 t)) (λ s. (h 0 (omega arith)).1 (subst (λ i. S i) (sym z) s))) (λ j b. let q : l + suc j ≡ l + 1 + j = omega arith in ((λ t. subst (λ i. S i) q ((h (suc j) (omega arith)).0 t)), (λ s. (h (suc j) (omega arith)).1 (subst (λ i. S i) (sym q) s)))))

  no_tables : AreMade g cuts S 0 (record { luts = []; bits = 0 })
  no_tables = record { below = λ t i. absurd i; only = λ t i. absurd i; all = λ m c b s e. absurd (omega arith); ascending = tt; bases = tt; sum = refl }

cuts_length : (os : List (Option (List ℕ))) (xs : List Bool) → length (mark_cuts xs os) ≡ length xs
cuts_length [] xs = refl
cuts_length (o ∷ os) xs = cuts_length os (mark_cut xs o) ∙ cut_length o xs

pub marks_length : (g : Aig) (roots : List ℕ) (cuts : List (Option (List ℕ))) → length (marks_of g roots cuts) ≡ 2 * node_count g
marks_length g roots cuts = cuts_length cuts (mark_each (replicate (2 * node_count g) false) roots) ∙ (each_length roots (replicate (2 * node_count g) false) ∙ length-replicate (2 * node_count g) false)

-- The tables of the needed literals, in ascending order, with their bases.
pub tables_needed : (g : Aig) (roots : List ℕ) (cuts : List (Option (List ℕ))) → ((c : List ℕ) (m : ℕ) → In cuts (Some c) → In c m → m < node_count g) → ((l : ℕ) → In roots l → l < 2 * node_count g)
    → AreMade g cuts (IsMarked roots cuts) (2 * node_count g) (tables_of g roots cuts)
tables_needed g roots cuts inside lits =
    subst (λ i. AreMade g cuts (IsMarked roots cuts) i (tables_of g roots cuts)) (let z : 0 + length (marks_of g roots cuts) ≡ 2 * node_count g = omega (arith, marks_length g roots cuts) in z)
    (tables_are g cuts (IsMarked roots cuts) (marks_of g roots cuts) 0 (record { luts = []; bits = 0 }) (no_tables g cuts (IsMarked roots cuts))
    (λ j b. let z : j ≡ 0 + j = omega arith in ((λ t. subst (λ i. IsMarked roots cuts i) z (marked_needed g roots cuts j t)), (λ n. needed_marked g roots cuts j inside lits (subst (λ i. IsMarked roots cuts i) (sym z) n)))))

table_more : (made : Made) (l : ℕ) (o : Option (List ℕ)) → made.bits ≤ (add_table made l o).bits
table_more made l None = omega arith
table_more made l (Some c) = omega arith

marked_more : (g : Aig) (cuts : List (Option (List ℕ))) (made : Made) (l : ℕ) (m : Bool) → made.bits ≤ (add_marked g cuts made l m).bits
marked_more g cuts made l false = omega arith
marked_more g cuts made l true = table_more made l (leaves_of g cuts l)

pub tables_more : (g : Aig) (cuts : List (Option (List ℕ))) (ms : List Bool) (made : Made) (l : ℕ) → made.bits ≤ (tables_from g cuts made l ms).bits
tables_more g cuts [] made l = omega arith
tables_more g cuts (m ∷ ms) made l = grind (arith, marked_more, tables_more g cuts ms (add_marked g cuts made l m) (l + 1))

-- where the bits so far are too many, all are
pub tables_past : (g : Aig) (cuts : List (Option (List ℕ))) (marks : List Bool) (made all : Made) (l i : ℕ) → i < length marks → tables_from g cuts made l (drop i marks) ≡ all
    → (add_marked g cuts made l (get_or marks i false)).bits ≤ all.bits
tables_past g cuts marks made all l i b e = grind (arith, tables_more, drop_more)

pub bits_more : (e : PickErr) {some all : ℕ} → some ≤ all → OrMemory refusal_of (λ _. MOST_WORK < some) e → OrMemory refusal_of (λ _. MOST_WORK < all) e
bits_more Work l h = omega arith
bits_more Memory l h = tt
