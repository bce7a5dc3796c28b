-- Bytes are the file of a pack or are refused: they are read front by front, until a field is refused or the pack is whole.
use Rattle.ppc_file.proofs.Common.{◌≡◌, ℕ, suc, ◌+◌, ◌<◌, List, [], ◌∷◌, ◌++◌, length, replicate, Ok, Err, refl, subst, arith, le-ltb, lt-ltb, length-append, Aig, Parameter, Lit, Pair, PackParam, PackErr, Version, Field, nothing, lettered, versioned, in_params, in_nodes, in_bits, IsPackFile, IsPackFault, MOST_PACK_NODES, names_of_params}
use Rattle.std.proofs.Common.{zero}
use Rattle.tl_fault.specs.Settled.{HasAnswer, has_value, has_fault}
use Rattle.ppc_file.specs.Fields.{magic_at, version_at, param_count_at, param_at, node_count_at, node_at, bit_count_at, bit_at}
use Rattle.ppc_file.specs.Reading.{StandsAt}
use Rattle.ppc_file.proofs.NumberLemmas.{IsBytes}
use Rattle.ppc_file.proofs.ReadLemmas.{is_file, trailing}
use Rattle.ppc_file.proofs.StandLemmas.{field_refused, stands_magic, stands_version, stands_param_count, stands_param, stands_node_count, stands_node, stands_bit_count, stands_bit, no_version}

module _ (bytes : List ℕ) (fits : IsBytes bytes) where
  abbrev Answer : Type 0
  Answer = HasAnswer (IsPackFile bytes) (IsPackFault bytes)

  -- a field is taken or refused
  by_field : {A : Type 0} (field read : Field A) → field ≡ read → ((y : A × List ℕ) → field ≡ Ok y → Answer) → ((e : PackErr) → field ≡ Err e → Answer) → Answer
  by_field field (Ok y) is ok err = ok y is
  by_field field (Err e) is ok err = err e is

  abbrev graph_with : List PackParam → List Pair → Aig
  graph_with params pairs = record { kinds = replicate (length params) Parameter; pairs = pairs; max = MOST_PACK_NODES }

  at_end : (v : Version) (params : List PackParam) (pairs : List Pair) (bits : List Lit) (rest : List ℕ) → StandsAt bytes (in_bits v params pairs (length bits) bits) rest → Answer
  at_end v params pairs bits [] stands = has_value (record { params = params; graph = graph_with params pairs; bits = bits }) (is_file bytes params (graph_with params pairs) bits refl v stands)
  at_end v params pairs bits (b ∷ rest) stands = has_fault _ (trailing bytes v params pairs bits (b ∷ rest) stands (omega arith))

  -- so many bits, nodes and parameters are left
  bits_left : (left : ℕ) (v : Version) (params : List PackParam) (pairs : List Pair) (count : ℕ) (bits : List Lit) (rest : List ℕ) → StandsAt bytes (in_bits v params pairs count bits) rest → length bits + left ≡ count → Answer
  bits_left zero v params pairs count bits rest stands is =
      let same : count ≡ length bits = omega (arith, is) in
      at_end v params pairs bits rest (subst (λ (n : ℕ). StandsAt bytes (in_bits v params pairs n bits) rest) same stands)
  bits_left (suc left) v params pairs count bits rest stands is =
      let more : length bits < count = omega (arith, is) in
      let field : Field Lit = bit_at (length bytes) v (1 + length params + length pairs) rest in
      by_field field field refl
      (λ y e. bits_left left v params pairs count (bits ++ y.0 ∷ []) y.1 (stands_bit bytes fits v params pairs count bits rest y stands more e) (omega (arith, is, length-append bits (y.0 ∷ []))))
      (λ e r. has_fault e (field_refused bytes (in_bits v params pairs count bits) rest (λ l. in_bits v params pairs count (bits ++ l ∷ [])) field e stands r (rw (lt-ltb (length bits) count more) refl)))

  nodes_left : (left : ℕ) (v : Version) (params : List PackParam) (count : ℕ) (pairs : List Pair) (rest : List ℕ) → StandsAt bytes (in_nodes v params count pairs) rest → length pairs + left ≡ count → Answer
  nodes_left zero v params count pairs rest stands is =
      let same : count ≡ length pairs = omega (arith, is) in
      let whole : StandsAt bytes (in_nodes v params (length pairs) pairs) rest = subst (λ (n : ℕ). StandsAt bytes (in_nodes v params n pairs) rest) same stands in
      let field : Field ℕ = bit_count_at (length bytes) v rest in
      by_field field field refl
      (λ y e. bits_left y.0 v params pairs y.0 [] y.1 (stands_bit_count bytes fits v params pairs rest y whole e) (omega arith))
      (λ e r. has_fault e (field_refused bytes (in_nodes v params (length pairs) pairs) rest (λ n. in_bits v params pairs n []) field e whole r (rw (le-ltb (length pairs) (length pairs) (omega arith)) refl)))
  nodes_left (suc left) v params count pairs rest stands is =
      let more : length pairs < count = omega (arith, is) in
      let field : Field Pair = node_at (length bytes) v (1 + length params + length pairs) pairs rest in
      by_field field field refl
      (λ y e. nodes_left left v params count (pairs ++ y.0 ∷ []) y.1 (stands_node bytes fits v params count pairs rest y stands more e) (omega (arith, is, length-append pairs (y.0 ∷ []))))
      (λ e r. has_fault e (field_refused bytes (in_nodes v params count pairs) rest (λ p. in_nodes v params count (pairs ++ p ∷ [])) field e stands r (rw (lt-ltb (length pairs) count more) refl)))

  params_left : (left : ℕ) (v : Version) (count : ℕ) (params : List PackParam) (rest : List ℕ) → StandsAt bytes (in_params v count params) rest → length params + left ≡ count → Answer
  params_left zero v count params rest stands is =
      let same : count ≡ length params = omega (arith, is) in
      let whole : StandsAt bytes (in_params v (length params) params) rest = subst (λ (n : ℕ). StandsAt bytes (in_params v n params) rest) same stands in
      let field : Field ℕ = node_count_at (length bytes) v rest in
      by_field field field refl
      (λ y e. nodes_left y.0 v params y.0 [] y.1 (stands_node_count bytes fits v params rest y whole e) (omega arith))
      (λ e r. has_fault e (field_refused bytes (in_params v (length params) params) rest (λ n. in_nodes v params n []) field e whole r (rw (le-ltb (length params) (length params) (omega arith)) refl)))
  params_left (suc left) v count params rest stands is =
      let more : length params < count = omega (arith, is) in
      let field : Field PackParam = param_at (length bytes) v (names_of_params params) rest in
      by_field field field refl
      (λ y e. params_left left v count (params ++ y.0 ∷ []) y.1 (stands_param bytes fits v count params rest y stands more e) (omega (arith, is, length-append params (y.0 ∷ []))))
      (λ e r. has_fault e (field_refused bytes (in_params v count params) rest (λ p. in_params v count (params ++ p ∷ [])) field e stands r (rw (lt-ltb (length params) count more) refl)))

  after_version : (v : Version) (rest : List ℕ) → StandsAt bytes (versioned v) rest → Answer
  after_version v rest stands =
      let field : Field ℕ = param_count_at (length bytes) v rest in
      by_field field field refl
      (λ y e. params_left y.0 v y.0 [] y.1 (stands_param_count bytes fits v rest y stands e) (omega arith))
      (λ e r. has_fault e (field_refused bytes (versioned v) rest (λ n. in_params v n []) field e stands r refl))

  after_magic : (rest : List ℕ) → StandsAt bytes lettered rest → Answer
  after_magic rest stands =
      let field : Field Version = version_at (length bytes) rest in
      by_field field field refl
      (λ y e. after_version y.0 y.1 (stands_version bytes fits rest y stands e))
      (λ e r. has_fault e (no_version bytes fits rest e stands r))

  pub some_reading : HasAnswer (IsPackFile bytes) (IsPackFault bytes)
  some_reading =
      let field : Field (List ℕ) = magic_at (length bytes) bytes in
      by_field field field refl
      (λ y e. after_magic y.1 (stands_magic bytes fits y e))
      (λ e r. has_fault e (field_refused bytes nothing bytes (λ letters. lettered) field e (record { spelled = refl; sound = tt }) r refl))
