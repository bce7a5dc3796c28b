-- What is made on the way to the cuts of a node is no longer than what is made in the end.
use Rattle.cut_enum.proofs.Common.{◌≡◌, ℕ, ◌+◌, ◌<◌, ◌≤◌, List, [], ◌++◌, length, get_or, map, sym, ap, ◌∙◌, subst, drop, arith, length-append, bit_or, count_ones, get_or_default, union, add_holder, add_holders, add_union, add_unions, add_pairs, leading, holders, unions_at, signature_of, union_over_bits}
use Rattle.list_laws.proofs.Items.{drop_at}
use Rattle.cut_enum.proofs.LevelLemmas.{length-holders, length-unions, length-pairs, union-other}
use Rattle.cut_enum.proofs.SignedLemmas.{signed_at, signed_length}

longer_front : (base xs ys : List (List ℕ)) → length xs ≤ length ys → length (base ++ xs) ≤ length (base ++ ys)
longer_front base xs ys l = omega (arith, length-append base xs, length-append base ys)

module _ (size : ℕ) (base : List (List ℕ)) where
  -- one more holder
  pub holders_next : (parts : List (List ℕ)) (d : List ℕ) (ds level full : List (List ℕ)) (i : ℕ) → i < length ds → d ≡ get_or ds i d → add_holders size base parts (drop i ds) level ≡ full
      → add_holders size base parts (drop (i + 1) ds) (add_holder size base parts d level) ≡ full
  holders_next parts d ds level full i l at e = ap (λ s. add_holders size base parts s level) (sym (drop_at ds i d l at)) ∙ e

  pub holders_step : (parts : List (List ℕ)) (d : List ℕ) (ds level full : List (List ℕ)) (i : ℕ) → i < length ds → d ≡ get_or ds i d → add_holders size base parts (drop i ds) level ≡ full
      → length (base ++ add_holder size base parts d level) ≤ length (base ++ full)
  holders_step parts d ds level full i l at e =
      let made = add_holder size base parts d level in
      longer_front base made full (subst (λ s. length made ≤ length s) (holders_next parts d ds level full i l at e) (length-holders size base made parts (drop (i + 1) ds) made (omega arith)))

  -- one more union with c
  pub unions_next : (c d : List ℕ) (ds level full : List (List ℕ)) (i : ℕ) → i < length ds → d ≡ get_or ds i d → add_unions size base c (drop i ds) level ≡ full
      → add_unions size base c (drop (i + 1) ds) (add_union size base c d level) ≡ full
  unions_next c d ds level full i l at e = ap (λ s. add_unions size base c s level) (sym (drop_at ds i d l at)) ∙ e

  pub unions_step : (c d : List ℕ) (ds level full : List (List ℕ)) (i : ℕ) → i < length ds → d ≡ get_or ds i d → add_unions size base c (drop i ds) level ≡ full
      → length (base ++ add_union size base c d level) ≤ length (base ++ full)
  unions_step c d ds level full i l at e =
      let made = add_union size base c d level in
      longer_front base made full (subst (λ s. length made ≤ length s) (unions_next c d ds level full i l at e) (length-unions size base made c (drop (i + 1) ds) made (omega arith)))

  -- a union whose signature has more bits is passed over
  pub unions_pass : (c : List ℕ) (ds level full : List (List ℕ)) (words : List ℕ) (i : ℕ) → words ≡ map signature_of ds → i < length words → size < count_ones (bit_or (get_or words i 0) (signature_of c))
      → add_unions size base c (drop i ds) level ≡ full → add_unions size base c (drop (i + 1) ds) level ≡ full
  unions_pass c ds level full words i signed l over e =
      let d = get_or ds i [] in
      let n : length words ≡ length ds = signed_length words ds signed in
      let at : d ≡ get_or ds i d = get_or_default ds i [] d (omega arith) in
      let s : get_or words i 0 ≡ signature_of d = signed_at words ds i d signed (omega arith) at in
      let m : size < length (union d c) = union_over_bits d c size (subst (λ w. size < count_ones (bit_or w (signature_of c))) s over) in
      let q : add_union size base c d level ≡ level = union-other size base c d level (λ h. absurd (omega arith)) in
      ap (λ s. add_unions size base c (drop (i + 1) ds) s) (sym q) ∙ unions_next c d ds level full i (omega arith) at e

  -- the unions with one more set
  pub pairs_next : (c : List ℕ) (cs ds level full : List (List ℕ)) (i : ℕ) → i < length cs → c ≡ get_or cs i c → add_pairs size base (drop i cs) ds level ≡ full
      → add_pairs size base (drop (i + 1) cs) ds (add_unions size base c ds level) ≡ full
  pairs_next c cs ds level full i l at e = ap (λ s. add_pairs size base s ds level) (sym (drop_at cs i c l at)) ∙ e

  pub pairs_step : (c : List ℕ) (cs ds level full : List (List ℕ)) (i : ℕ) → i < length cs → c ≡ get_or cs i c → add_pairs size base (drop i cs) ds level ≡ full
      → length (base ++ add_unions size base c ds level) ≤ length (base ++ full)
  pairs_step c cs ds level full i l at e =
      let made = add_unions size base c ds level in
      longer_front base made full (subst (λ s. length made ≤ length s) (pairs_next c cs ds level full i l at e) (length-pairs size base made (drop (i + 1) cs) ds made (omega arith)))

  -- the holders of the one list, and of both, before the pairs
  pub holders_at : (below ys' level xs ys : List (List ℕ)) → below ≡ leading size xs → ys' ≡ ys → level ≡ add_holders size base (leading (size + 1) ys) xs []
      → length (base ++ add_holders size base below ys' level) ≤ length (base ++ unions_at size base xs ys)
  holders_at below ys' level xs ys p q r = rw (p, q, r) (longer_front base (holders size base xs ys) (unions_at size base xs ys)
      (length-pairs size base (holders size base xs ys) (leading size xs) (leading size ys) (holders size base xs ys) (omega arith)))

  pub left_holders_at : (parts xs' level xs ys : List (List ℕ)) → parts ≡ leading (size + 1) ys → xs' ≡ xs → level ≡ [] → length (base ++ add_holders size base parts xs' level) ≤ length (base ++ unions_at size base xs ys)
  left_holders_at parts xs' level xs ys p q r =
      let made = add_holders size base (leading (size + 1) ys) xs [] in
      let m : length made ≤ length (holders size base xs ys) = length-holders size base made (leading size xs) ys made (omega arith) in
      let n : length (holders size base xs ys) ≤ length (unions_at size base xs ys) = length-pairs size base (holders size base xs ys) (leading size xs) (leading size ys) (holders size base xs ys) (omega arith) in
      rw (p, q, r) (longer_front base made (unions_at size base xs ys) (omega arith))
