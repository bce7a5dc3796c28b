-- A reader that is after a front is after a longer one once the next field is taken.
use Rattle.ppc_file.proofs.Common.{◌≡◌, ℕ, suc, ◌+◌, ◌*◌, ◌<◌, ◌≤◌, List, [], ◌∷◌, ◌++◌, length, Some, Ok, Err, refl, sym, ap, subst, ◌∙◌, append_assoc, append-nil, arith, inl, inr, length-append, slice_get, w16, w32, to_be_bytes, flat_map, map-append, none-some, position_none, In-push, IsClean, AreOnce, is_pair, Lit, Pair, AreNormal-push, PackParam, MOST_PACK_NODES, MOST_PACK_BITS, MOST_PARAMETERS, MOST_NAME_BYTES, PackErr, Version, Field, offset, spelled, version_number, head_bytes, param_bytes, node_bytes, nodes_bytes, bit_bytes, params_part, nodes_part, bits_part, magic_at, version_at, param_count_at, node_count_at, bit_count_at, param_at, names_of_params, node_at, bit_at, Front, lettered, versioned, in_params, in_nodes, in_bits, spelling, AreParams, IsSound, read_into, next_at, IsPackFault, StandsAt, AreNodes, AreBits, rules}
use Rattle.std.proofs.lemmas.List.Concat.{flat_map-append}
use Rattle.list_laws.proofs.Apart.{pushed_apart}
use Rattle.ppc_file.specs.declared.pack_err.PackErr.TheVariants as refused
use Rattle.ppc_file.proofs.NumberLemmas.{IsBytes, Takes, wide16, wide32}
use Rattle.ppc_file.proofs.FieldLemmas.{IsNextParam, magic_takes, version_takes, count_takes, param_takes, node_takes, bit_takes}

bytes_behind : (front rest : List ℕ) → IsBytes (front ++ rest) → IsBytes rest
bytes_behind [] rest fits = fits
bytes_behind (b ∷ front) rest fits = bytes_behind front rest (λ i. fits (suc i))

inner : (a b c d : List ℕ) → b ++ c ≡ d → (a ++ b) ++ c ≡ a ++ d
inner a b c d e = append_assoc a b c ∙ ap (λ (t : List ℕ). a ++ t) e

grown : {X : Type 0} (f : X → List ℕ) (xs : List X) (x : X) → flat_map f xs ++ f x ≡ flat_map f (xs ++ x ∷ [])
grown f xs x = sym (flat_map-append f xs (x ∷ []) ∙ ap (λ (t : List ℕ). flat_map f xs ++ t) (append-nil (f x)))

grown_nodes : (v : Version) (node : ℕ) (ps : List Pair) (p : Pair) → nodes_bytes v node ps ++ node_bytes v (node + length ps) p ≡ nodes_bytes v node (ps ++ p ∷ [])
grown_nodes v node [] p = (let e : node + 0 ≡ node = omega arith in ap (λ (n : ℕ). node_bytes v n p) e ∙ sym (append-nil (node_bytes v node p)))
grown_nodes v node (q ∷ ps) p = grind (arith, inner, grown_nodes v (node + 1) ps p)

abbrev no_pairs : List Pair
no_pairs = []

none_there : (i : ℕ) (p : Pair) → slice_get no_pairs i ≡ Some p → ⊥
none_there i p h = none-some p h

-- what stands where a field is refused has a fault
pub field_refused : {A : Type 0} (bytes : List ℕ) (f : Front) (rest : List ℕ) (more : A → Front) (field : Field A) (e : PackErr)
    → StandsAt bytes f rest → field ≡ Err e → next_at (length bytes) f rest ≡ Some (read_into more field) → IsPackFault bytes e
field_refused bytes f rest more field e stands is next = search rules

module _ (bytes : List ℕ) (fits : IsBytes bytes) where
  pub rest_bytes : (f : Front) (rest : List ℕ) → StandsAt bytes f rest → IsBytes rest
  rest_bytes f rest stands = bytes_behind (spelling f) rest (subst IsBytes stands.spelled fits)

  further : (f g : Front) (text rest behind : List ℕ) → StandsAt bytes f rest → Takes rest text behind → spelling f ++ text ≡ spelling g → IsSound g → StandsAt bytes g behind
  further f g text rest behind stands takes e sound = search (rules, append_assoc)

  pub stands_magic : (y : List ℕ × List ℕ) → magic_at (length bytes) bytes ≡ Ok y → StandsAt bytes lettered y.1
  stands_magic y e = record { spelled = (magic_takes (length bytes) bytes y fits e).parts; sound = tt }

  pub stands_version : (rest : List ℕ) (y : Version × List ℕ) → StandsAt bytes lettered rest → version_at (length bytes) rest ≡ Ok y → StandsAt bytes (versioned y.0) y.1
  stands_version rest y stands e = further lettered (versioned y.0) (to_be_bytes w16 (version_number y.0)) rest y.1 stands (version_takes (length bytes) rest y (rest_bytes lettered rest stands) e) refl tt

  pub stands_param_count : (v : Version) (rest : List ℕ) (y : ℕ × List ℕ) → StandsAt bytes (versioned v) rest → param_count_at (length bytes) v rest ≡ Ok y → StandsAt bytes (in_params v y.0 []) y.1
  stands_param_count v rest y stands e =
      let t = count_takes (length bytes) w16 65536 wide16 v MOST_PARAMETERS (refused.BadNumber (offset (length bytes) rest)) rest y (rest_bytes (versioned v) rest stands) e in
      grind (arith, further, append-nil)

  more_params : (params : List PackParam) (p : PackParam) (total : ℕ) → AreParams params → length params < MOST_PARAMETERS → IsNextParam total (names_of_params params) p → AreParams (params ++ p ∷ [])
  more_params params p total are few next = record {
    few = omega (arith, length-append params (p ∷ []));
    short = λ q i. elim (In-push params p q i) [ inl old ↦ are.short q old | inr new ↦ subst (λ (r : PackParam). length r.name ≤ MOST_NAME_BYTES) (sym new) next.short ];
    clean = λ q i. elim (In-push params p q i) [ inl old ↦ are.clean q old | inr new ↦ subst (λ (r : PackParam). IsClean r.name) (sym new) next.clean ];
    once = subst AreOnce (sym (map-append (λ (r : PackParam). r.name) params (p ∷ []))) (pushed_apart (names_of_params params) p.name are.once next.new);
  }

  pub stands_param : (v : Version) (count : ℕ) (params : List PackParam) (rest : List ℕ) (y : PackParam × List ℕ) → StandsAt bytes (in_params v count params) rest → length params < count
      → param_at (length bytes) v (names_of_params params) rest ≡ Ok y → StandsAt bytes (in_params v count (params ++ y.0 ∷ [])) y.1
  stands_param v count params rest y stands more e =
      let t = param_takes (length bytes) v (names_of_params params) rest y (rest_bytes (in_params v count params) rest stands) e in
      further (in_params v count params) (in_params v count (params ++ y.0 ∷ [])) (param_bytes v y.0) rest y.1 stands t.0
      (inner (head_bytes v) (params_part v count params) (param_bytes v y.0) _ (inner (spelled v w16 count) (flat_map (param_bytes v) params) (param_bytes v y.0) _ (grown (param_bytes v) params y.0)))
      (record { few = stands.sound.0.few; within = omega (arith, length-append params (y.0 ∷ [])) }, more_params params y.0 (length bytes) stands.sound.1 (omega arith) t.1)

  pub stands_node_count : (v : Version) (params : List PackParam) (rest : List ℕ) (y : ℕ × List ℕ) → StandsAt bytes (in_params v (length params) params) rest → node_count_at (length bytes) v rest ≡ Ok y
      → StandsAt bytes (in_nodes v params y.0 []) y.1
  stands_node_count v params rest y stands e =
      let t = count_takes (length bytes) w32 4294967296 wide32 v MOST_PACK_NODES (refused.BadNode (offset (length bytes) rest)) rest y (rest_bytes (in_params v (length params) params) rest stands) e in
      grind (arith, further, inner, append-nil, none_there)

  pub stands_node : (v : Version) (params : List PackParam) (count : ℕ) (pairs : List Pair) (rest : List ℕ) (y : Pair × List ℕ) → StandsAt bytes (in_nodes v params count pairs) rest → length pairs < count
      → node_at (length bytes) v (1 + length params + length pairs) pairs rest ≡ Ok y → StandsAt bytes (in_nodes v params count (pairs ++ y.0 ∷ [])) y.1
  stands_node v params count pairs rest y stands more e =
      let t = node_takes (length bytes) v _ pairs rest y (rest_bytes (in_nodes v params count pairs) rest stands) e in
      let sound = stands.sound in
      let nodes : AreNodes params (pairs ++ y.0 ∷ []) = record {
        few = omega (arith, length-append pairs (y.0 ∷ []));
        normal = AreNormal-push (1 + length params) pairs y.0 sound.1.1.normal (position_none (is_pair y.0.x.0 y.0.y.0) pairs t.1.new) t.1.normal;
      } in
      further (in_nodes v params count pairs) (in_nodes v params count (pairs ++ y.0 ∷ [])) (node_bytes v _ y.0) rest y.1 stands t.0
      (inner (head_bytes v) (_ ++ nodes_part v (1 + length params) count pairs) (node_bytes v _ y.0) _ (inner _ (nodes_part v (1 + length params) count pairs) (node_bytes v _ y.0) _
      (inner (spelled v w32 count) (nodes_bytes v (1 + length params) pairs) (node_bytes v _ y.0) _ (grown_nodes v (1 + length params) pairs y.0))))
      (record { few = sound.0.few; within = omega (arith, length-append pairs (y.0 ∷ [])) }, (sound.1.0, nodes))

  pub stands_bit_count : (v : Version) (params : List PackParam) (pairs : List Pair) (rest : List ℕ) (y : ℕ × List ℕ) → StandsAt bytes (in_nodes v params (length pairs) pairs) rest → bit_count_at (length bytes) v rest ≡ Ok y
      → StandsAt bytes (in_bits v params pairs y.0 []) y.1
  stands_bit_count v params pairs rest y stands e =
      let t = count_takes (length bytes) w32 4294967296 wide32 v MOST_PACK_BITS (refused.BadBit (offset (length bytes) rest)) rest y (rest_bytes (in_nodes v params (length pairs) pairs) rest stands) e in
      let N : List ℕ = nodes_part v (1 + length params) (length pairs) pairs in
      grind (arith, further, inner, append-nil)

  pub stands_bit : (v : Version) (params : List PackParam) (pairs : List Pair) (count : ℕ) (bits : List Lit) (rest : List ℕ) (y : Lit × List ℕ) → StandsAt bytes (in_bits v params pairs count bits) rest → length bits < count
      → bit_at (length bytes) v (1 + length params + length pairs) rest ≡ Ok y → StandsAt bytes (in_bits v params pairs count (bits ++ y.0 ∷ [])) y.1
  stands_bit v params pairs count bits rest y stands more e =
      let nodes : ℕ = 1 + length params + length pairs in
      let t = bit_takes (length bytes) v nodes rest y (rest_bytes (in_bits v params pairs count bits) rest stands) e in
      let sound = stands.sound in
      let are : AreBits nodes (bits ++ y.0 ∷ []) = record {
        few = omega (arith, length-append bits (y.0 ∷ []));
        below = λ l i. elim (In-push bits y.0 l i) [ inl old ↦ sound.1.1.1.below l old | inr new ↦ subst (λ (m : Lit). m.0 < 2 * nodes) (sym new) t.1 ];
      } in
      further (in_bits v params pairs count bits) (in_bits v params pairs count (bits ++ y.0 ∷ [])) (bit_bytes v y.0) rest y.1 stands t.0
      (inner (head_bytes v) (_ ++ (_ ++ bits_part v count bits)) (bit_bytes v y.0) _ (inner _ (_ ++ bits_part v count bits) (bit_bytes v y.0) _ (inner _ (bits_part v count bits) (bit_bytes v y.0) _
      (inner (spelled v w32 count) (flat_map (bit_bytes v) bits) (bit_bytes v y.0) _ (grown (bit_bytes v) bits y.0)))))
      (record { few = sound.0.few; within = omega (arith, length-append bits (y.0 ∷ [])) }, (sound.1.0, (sound.1.1.0, are)))

  pub no_version : (rest : List ℕ) (e : PackErr) → StandsAt bytes lettered rest → version_at (length bytes) rest ≡ Err e → IsPackFault bytes e
  no_version rest e stands is = field_refused bytes lettered rest versioned (version_at (length bytes) rest) e stands is refl
