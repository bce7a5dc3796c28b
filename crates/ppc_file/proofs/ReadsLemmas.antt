-- A file is read front by front, in one way; and a sound front that a file begins with is met on the way.
use Rattle.ppc_file.proofs.Common.{◌≡◌, ℕ, ◌+◌, ◌≤◌, true, false, ltb, List, [], ◌∷◌, ◌++◌, length, Option, Some, Ok, refl, sym, ap, subst, ◌∙◌, append_assoc, append-nil, arith, inl, inr, length-append, slice_get, w16, w32, to_be_bytes, flat_map, list_any, le-ltb, lt-ltb, cases_Bool, slice_get_within, In, In-right, In-map, place_in, get_left, get_end, AreOnce, AreNormal, is_pair, Lit, Pair, PackParam, MOST_PACK_NODES, MOST_PACK_BITS, MOST_PARAMETERS, Version, Field, offset, spelled, magic, version_number, head_bytes, param_bytes, node_bytes, nodes_bytes, bit_bytes, params_part, nodes_part, bits_part, names_of_params, Front, nothing, lettered, versioned, in_params, in_nodes, in_bits, spelling, AreParams, AreNodes, AreBits, AreSome, IsSound, read_into, next_at, nat_tests}
use Rattle.ppc_file.proofs.NumberLemmas.{wide16, wide32}
use Rattle.ppc_file.proofs.FieldLemmas.{none_all, IsNextParam, IsNextNode, magic_again, version_again, count_again, param_again, node_again, bit_again}
use Rattle.ppc_file.specs.declared.pack_err.PackErr.TheVariants as refused

-- from a front with something left to another one, field by field
pub data Reads (total : ℕ) (t : Front) (q : List ℕ) : Front → List ℕ → Type 0 where
  stay : {f : Front} {r : List ℕ} → f ≡ t → r ≡ q → Reads total t q f r
  go : {f : Front} {r : List ℕ} (x : Front × List ℕ) → next_at total f r ≡ Some (Ok x) → Reads total t q x.0 x.1 → Reads total t q f r

-- no field is taken there
abbrev pub IsEnd : ℕ → Front → List ℕ → Type 0
IsEnd total f r = (x : Front × List ℕ) → next_at total f r ≡ Some (Ok x) → ⊥

abbrev taken : Front × List ℕ → Option (Field Front)
taken x = Some (Ok x)

same_taken : (x y : Front × List ℕ) → taken x ≡ taken y → x ≡ y
same_taken x y e = cc

-- so there is one end
pub one_end : (total : ℕ) (t : Front) (q : List ℕ) (u : Front) (p : List ℕ) (f : Front) (r : List ℕ) → Reads total t q f r → Reads total u p f r → IsEnd total t q → IsEnd total u p → (t ≡ u) × (q ≡ p)
one_end total t q u p f r (stay a b) (stay c d) no_t no_u = (sym a ∙ c, sym b ∙ d)
one_end total t q u p f r (stay a b) (go x e more) no_t no_u = absurd (no_t x (subst (λ (g : Front). next_at total g q ≡ Some (Ok x)) a (subst (λ (s : List ℕ). next_at total f s ≡ Some (Ok x)) b e)))
one_end total t q u p f r (go x e more) (stay a b) no_t no_u = absurd (no_u x (subst (λ (g : Front). next_at total g p ≡ Some (Ok x)) a (subst (λ (s : List ℕ). next_at total f s ≡ Some (Ok x)) b e)))
one_end total t q u p f r (go x e more) (go y d rest) no_t no_u =
    one_end total t q u p x.0 x.1 more (subst (λ (z : Front × List ℕ). Reads total u p z.0 z.1) (same_taken y x (sym d ∙ e)) rest) no_t no_u

-- the name of a parameter is none of those before it
new_name : (front : List PackParam) (p : PackParam) (rest : List PackParam) → AreOnce (names_of_params (front ++ p ∷ rest)) → In (names_of_params front) p.name → ⊥
new_name [] p rest once i = i
new_name (d ∷ front) p rest once (inl e) = once.0 (subst (λ (n : List ℕ). In (names_of_params (front ++ p ∷ rest)) n) e (In-map (λ (r : PackParam). r.name) (front ++ p ∷ rest) p (In-right front (p ∷ rest) p (inl refl))))
new_name (d ∷ front) p rest once (inr i) = new_name front p rest once.1 i

-- the pair of a node is none of those before it
pair_is : (p q : Pair) → is_pair p.x.0 p.y.0 q ≡ true → q ≡ p
pair_is p q h = grind (arith, nat_tests)

new_pair : (first : ℕ) (front : List Pair) (p : Pair) (rest : List Pair) → AreNormal first (front ++ p ∷ rest) → list_any (is_pair p.x.0 p.y.0) front ≡ false
new_pair first front p rest normal = none_all (is_pair p.x.0 p.y.0) front (λ q i. elim (cases_Bool (is_pair p.x.0 p.y.0 q)) [
  | inl t ↦
      let place = place_in front q i in
      let there : slice_get front place.0 ≡ Some p = place.1 ∙ ap (λ (z : Pair). Some z) (pair_is p q t) in
      absurd (omega (arith, slice_get_within front place.0 p there, normal.once place.0 (length front) p (get_left front (p ∷ rest) place.0 p there) (get_end front p rest)))
  | inr f ↦ f
])

module _ (total : ℕ) (t : Front) (q : List ℕ) where
  -- things behind those that were read, one by one: `part` is the front with some of them, `one` is the text of one behind others, and `all` that of some
  module _ {X : Type 0} (part : List X → Front) (one : List X → X → List ℕ) (all : List X → List X → List ℕ) (none : (front : List X) → all front [] ≡ [])
      (more : (front : List X) (x : X) (xs : List X) → all front (x ∷ xs) ≡ one front x ++ all (front ++ x ∷ []) xs) where
    reads_all : (front todo : List X) (rest : List ℕ)
        → ((before : List X) (x : X) (after : List X) (s : List ℕ) → before ++ x ∷ after ≡ front ++ todo → next_at total (part before) (one before x ++ s) ≡ Some (Ok (part (before ++ x ∷ []), s)))
        → Reads total t q (part (front ++ todo)) rest → Reads total t q (part front) (all front todo ++ rest)
    reads_all front [] rest next on = rw (none front) (subst (λ (xs : List X). Reads total t q (part xs) rest) (append-nil front) on)
    reads_all front (x ∷ todo) rest next on =
        let same : (front ++ x ∷ []) ++ todo ≡ front ++ x ∷ todo = append_assoc front (x ∷ []) todo in
        let behind : List ℕ = all (front ++ x ∷ []) todo ++ rest in
        let again : Reads total t q (part (front ++ x ∷ [])) behind =
        reads_all (front ++ x ∷ []) todo rest (λ before y after s is. next before y after s (is ∙ same)) (subst (λ (xs : List X). Reads total t q (part xs) rest) (sym same) on) in
        subst (λ (s : List ℕ). Reads total t q (part front) s) (sym (ap (λ (s : List ℕ). s ++ rest) (more front x todo) ∙ append_assoc (one front x) (all (front ++ x ∷ []) todo) rest))
        (go (part (front ++ x ∷ []), behind) (next front x todo behind refl) again)

  param_next : (v : Version) (count : ℕ) (before : List PackParam) (p : PackParam) (after : List PackParam) (s : List ℕ) → AreParams (before ++ p ∷ after) → length (before ++ p ∷ after) ≤ count
      → next_at total (in_params v count before) (param_bytes v p ++ s) ≡ Some (Ok (in_params v count (before ++ p ∷ []), s))
  param_next v count before p after s are few =
      let here : In (before ++ p ∷ after) p = In-right before (p ∷ after) p (inl refl) in
      let next : IsNextParam total (names_of_params before) p = record { clean = are.clean p here; short = are.short p here; new = new_name before p after are.once } in
      grind (arith, lt-ltb, length-append, param_again)

  node_next : (v : Version) (params : List PackParam) (count : ℕ) (before : List Pair) (p : Pair) (after : List Pair) (s : List ℕ) → length params ≤ MOST_PARAMETERS → AreNodes params (before ++ p ∷ after) → length (before ++ p ∷ after) ≤ count
      → next_at total (in_nodes v params count before) (node_bytes v (1 + length params + length before) p ++ s) ≡ Some (Ok (in_nodes v params count (before ++ p ∷ []), s))
  node_next v params count before p after s few_params are few =
      let next : IsNextNode total _ before p = record { normal = are.normal.each (length before) p (get_end before p after); new = new_pair (1 + length params) before p after are.normal } in
      grind (arith, lt-ltb, length-append, node_again)

  bit_next : (v : Version) (params : List PackParam) (pairs : List Pair) (count : ℕ) (before : List Lit) (l : Lit) (after : List Lit) (s : List ℕ) → 1 + length params + length pairs ≤ 2147483648
      → AreBits (1 + length params + length pairs) (before ++ l ∷ after) → length (before ++ l ∷ after) ≤ count → next_at total (in_bits v params pairs count before) (bit_bytes v l ++ s) ≡ Some (Ok (in_bits v params pairs count (before ++ l ∷ []), s))
  bit_next v params pairs count before l after s small are few =
      rw (lt-ltb (length before) count (omega (arith, length-append before (l ∷ after))))
      (ap (λ (f : Field Lit). Some (read_into (λ r. in_bits v params pairs count (before ++ r ∷ [])) f))
      (bit_again total v (1 + length params + length pairs) l s (are.below l (In-right before (l ∷ after) l (inl refl))) small))

  reads_head : (v : Version) (rest : List ℕ) → Reads total t q (versioned v) rest → Reads total t q nothing (head_bytes v ++ rest)
  reads_head v rest on =
      let vb : List ℕ = to_be_bytes w16 (version_number v) in
      subst (λ (s : List ℕ). Reads total t q nothing s) (sym (append_assoc magic vb rest))
      (go (lettered, vb ++ rest) (ap (λ (f : Field (List ℕ)). Some (read_into (λ letters. lettered) f)) (magic_again total (vb ++ rest)))
      (go (versioned v, rest) (ap (λ (f : Field Version). Some (read_into versioned f)) (version_again total v rest)) on))

  reads_params_part : (v : Version) (count : ℕ) (params : List PackParam) (rest : List ℕ) → AreSome MOST_PARAMETERS count (length params) → AreParams params → Reads total t q (in_params v count params) rest
      → Reads total t q (versioned v) (params_part v count params ++ rest)
  reads_params_part v count params rest some are on =
      subst (λ (s : List ℕ). Reads total t q (versioned v) s) (sym (append_assoc (spelled v w16 count) (flat_map (param_bytes v) params) rest))
      (go (in_params v count [], _) (ap (λ (f : Field ℕ). Some (read_into (λ n. in_params v n []) f)) (count_again total w16 65536 wide16 v MOST_PARAMETERS (refused.BadNumber (offset total (spelled v w16 count ++ _))) count _ some.few (omega arith)))
      (reads_all (in_params v count) (λ front p. param_bytes v p) (λ front ps. flat_map (param_bytes v) ps) (λ front. refl) (λ front p ps. refl) [] params rest
      (λ before p after s is. param_next v count before p after s (subst AreParams (sym is) are) (subst (λ (ps : List PackParam). length ps ≤ count) (sym is) some.within)) on))

  reads_nodes_part : (v : Version) (params : List PackParam) (count : ℕ) (pairs : List Pair) (rest : List ℕ) → AreParams params → AreSome MOST_PACK_NODES count (length pairs) → AreNodes params pairs
      → Reads total t q (in_nodes v params count pairs) rest → Reads total t q (in_params v (length params) params) (nodes_part v (1 + length params) count pairs ++ rest)
  reads_nodes_part v params count pairs rest are_params some are on =
      let first : ℕ = 1 + length params in
      let all : ltb (length params) (length params) ≡ false = le-ltb (length params) (length params) (omega arith) in
      let start : 1 + length params + 0 ≡ first = omega arith in
      subst (λ (s : List ℕ). Reads total t q (in_params v (length params) params) s) (sym (append_assoc (spelled v w32 count) (nodes_bytes v first pairs) rest))
      (go (in_nodes v params count [], _)
      (rw all (ap (λ (f : Field ℕ). Some (read_into (λ n. in_nodes v params n []) f)) (count_again total w32 4294967296 wide32 v MOST_PACK_NODES (refused.BadNode (offset total (spelled v w32 count ++ _))) count _ some.few (omega arith))))
      (subst (λ (n : ℕ). Reads total t q (in_nodes v params count []) (nodes_bytes v n pairs ++ rest)) start
      (reads_all (in_nodes v params count) (λ front p. node_bytes v (first + length front) p) (λ front ps. nodes_bytes v (first + length front) ps) (λ front. refl)
      (λ front p ps. ap (λ (n : ℕ). node_bytes v (first + length front) p ++ nodes_bytes v n ps) (omega (arith, length-append front (p ∷ [])))) [] pairs rest
      (λ before p after s is. node_next v params count before p after s are_params.few (subst (AreNodes params) (sym is) are) (subst (λ (ps : List Pair). length ps ≤ count) (sym is) some.within)) on)))

  reads_bits_part : (v : Version) (params : List PackParam) (pairs : List Pair) (count : ℕ) (bits : List Lit) (rest : List ℕ) → AreParams params → AreNodes params pairs → AreSome MOST_PACK_BITS count (length bits) → AreBits (1 + length params + length pairs) bits
      → Reads total t q (in_bits v params pairs count bits) rest → Reads total t q (in_nodes v params (length pairs) pairs) (bits_part v count bits ++ rest)
  reads_bits_part v params pairs count bits rest are_params are_nodes some are on =
      let all : ltb (length pairs) (length pairs) ≡ false = le-ltb (length pairs) (length pairs) (omega arith) in
      subst (λ (s : List ℕ). Reads total t q (in_nodes v params (length pairs) pairs) s) (sym (append_assoc (spelled v w32 count) (flat_map (bit_bytes v) bits) rest))
      (go (in_bits v params pairs count [], _)
      (rw all (ap (λ (f : Field ℕ). Some (read_into (λ n. in_bits v params pairs n []) f)) (count_again total w32 4294967296 wide32 v MOST_PACK_BITS (refused.BadBit (offset total (spelled v w32 count ++ _))) count _ some.few (omega arith))))
      (reads_all (in_bits v params pairs count) (λ front l. bit_bytes v l) (λ front ls. flat_map (bit_bytes v) ls) (λ front. refl) (λ front l ls. refl) [] bits rest
      (λ before l after s is. bit_next v params pairs count before l after s (omega arith) (subst (AreBits (1 + length params + length pairs)) (sym is) are) (subst (λ (ls : List Lit). length ls ≤ count) (sym is) some.within)) on))

pub reads_front : (total : ℕ) (front : Front) (rest : List ℕ) → IsSound front → Reads total front rest nothing (spelling front ++ rest)
reads_front total nothing rest sound = stay refl refl
reads_front total lettered rest sound = go (lettered, rest) (ap (λ (f : Field (List ℕ)). Some (read_into (λ letters. lettered) f)) (magic_again total rest)) (stay refl refl)
reads_front total (versioned v) rest sound = reads_head total (versioned v) rest v rest (stay refl refl)
reads_front total (in_params v count params) rest sound =
    let f : Front = in_params v count params in
    subst (λ (s : List ℕ). Reads total f rest nothing s) (sym (append_assoc (head_bytes v) (params_part v count params) rest))
    (reads_head total f rest v (params_part v count params ++ rest) (reads_params_part total f rest v count params rest sound.0 sound.1 (stay refl refl)))
reads_front total (in_nodes v params count pairs) rest sound =
    let f : Front = in_nodes v params count pairs in
    let N : List ℕ = nodes_part v (1 + length params) count pairs in
    let whole : AreSome MOST_PARAMETERS (length params) (length params) = record { few = sound.1.0.few; within = omega arith } in
    subst (λ (s : List ℕ). Reads total f rest nothing s) (sym (append_assoc (head_bytes v) (_ ++ N) rest ∙ ap (λ (s : List ℕ). head_bytes v ++ s) (append_assoc _ N rest)))
    (reads_head total f rest v (_ ++ (N ++ rest)) (reads_params_part total f rest v (length params) params (N ++ rest) whole sound.1.0
    (reads_nodes_part total f rest v params count pairs rest sound.1.0 sound.0 sound.1.1 (stay refl refl))))
reads_front total (in_bits v params pairs count bits) rest sound =
    let f : Front = in_bits v params pairs count bits in
    let P : List ℕ = params_part v (length params) params in
    let B : List ℕ = bits_part v count bits in
    let whole : AreSome MOST_PARAMETERS (length params) (length params) = record { few = sound.1.0.few; within = omega arith } in
    let nodes : AreSome MOST_PACK_NODES (length pairs) (length pairs) = record { few = sound.1.1.0.few; within = omega arith } in
    subst (λ (s : List ℕ). Reads total f rest nothing s)
    (sym (append_assoc (head_bytes v) (P ++ (_ ++ B)) rest ∙ ap (λ (s : List ℕ). head_bytes v ++ s) (append_assoc P (_ ++ B) rest ∙ ap (λ (s : List ℕ). P ++ s) (append_assoc _ B rest))))
    (reads_head total f rest v (P ++ (_ ++ (B ++ rest))) (reads_params_part total f rest v (length params) params (_ ++ (B ++ rest)) whole sound.1.0
    (reads_nodes_part total f rest v params (length pairs) pairs (B ++ rest) sound.1.0 nodes sound.1.1.0
    (reads_bits_part total f rest v params pairs count bits rest sound.1.0 sound.1.1.0 sound.0 sound.1.1.1 (stay refl refl)))))
