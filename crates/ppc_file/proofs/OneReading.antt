-- Bytes are the file of one pack or have one refusal, and not both.
use Rattle.ppc_file.proofs.Common.{◌≡◌, ℕ, ◌+◌, List, [], length, Option, Some, Ok, Err, refl, sym, ap, subst, ◌∙◌, append-nil, arith, inl, inr, le-ltb, none-some, AreNormal, Lit, Pair, PackValue, IsPack, PackParam, PackErr, Version, One, Two, Field, bytes_of, Front, nothing, in_bits, IsSound, next_at, IsPackFile, IsPackFault, AreSame, HasOneReading}
use Rattle.ppc_pack.proofs.ConfLemmas.{kinds_count}
use Rattle.ppc_file.proofs.NumberLemmas.{IsBytes}
use Rattle.ppc_file.proofs.SomeReading.{some_reading}
use Rattle.ppc_file.proofs.ReadsLemmas.{Reads, IsEnd, one_end, reads_front}

abbrev pub whole : Version → PackValue → Front
whole v pack = in_bits v pack.params pack.graph.pairs (length pack.bits) pack.bits

whole_sound : (v : Version) (pack : PackValue) → IsPack pack.params pack.graph pack.bits → AreNormal (1 + length pack.graph.kinds) pack.graph.pairs → IsSound (whole v pack)
whole_sound v pack is normal = grind (arith, kinds_count)

whole_end : (total : ℕ) (v : Version) (pack : PackValue) → IsEnd total (whole v pack) []
whole_end total v pack x e = grind arith

refused_end : (total : ℕ) (f : Front) (r : List ℕ) (e : PackErr) → next_at total f r ≡ Some (Err e) → IsEnd total f r
refused_end total f r e is x h = (let same : Some (Err e) ≡ Some (Ok x) = sym is ∙ h in cc)

abbrev refuses : PackErr → Option (Field Front)
refuses e = Some (Err e)

same_refusal : (e f : PackErr) → refuses e ≡ refuses f → e ≡ f
same_refusal e f h = cc

module _ (bytes : List ℕ) where
  -- a pack's file is read to its end
  record IsRead (pack : PackValue) : Type 0 where
    version : Version
    reads : Reads (length bytes) (whole version pack) [] nothing bytes

  reads_whole : (v : Version) (pack : PackValue) → IsPack pack.params pack.graph pack.bits → AreNormal (1 + length pack.graph.kinds) pack.graph.pairs → bytes ≡ bytes_of v pack → IsRead pack
  reads_whole v pack is normal spelled = record {
    version = v;
    reads = subst (λ (s : List ℕ). Reads (length bytes) (whole v pack) [] nothing s) (append-nil (bytes_of v pack) ∙ sym spelled) (reads_front (length bytes) (whole v pack) [] (whole_sound v pack is normal));
  }

  file_reads : (pack : PackValue) → IsPackFile bytes pack → IsRead pack
  file_reads pack file = elim file.spelled [ inl one ↦ reads_whole One pack file.is_pack file.normal one | inr two ↦ reads_whole Two pack file.is_pack file.normal two ]

  fault_reads : (e : PackErr) (fault : IsPackFault bytes e) → Reads (length bytes) fault.front fault.rest nothing bytes
  fault_reads e fault = subst (λ (s : List ℕ). Reads (length bytes) fault.front fault.rest nothing s) (sym fault.spelled) (reads_front (length bytes) fault.front fault.rest fault.sound)

  -- what a whole front tells
  params_of : Front → List PackParam
  params_of f = grind arith

  pairs_of : Front → List Pair
  pairs_of f = grind arith

  bits_of : Front → List Lit
  bits_of f = grind arith

  same_whole : (v w : Version) (p q : PackValue) → IsPack p.params p.graph p.bits → IsPack q.params q.graph q.bits → whole v p ≡ whole w q → AreSame p q
  unfolding params_of pairs_of bits_of
  same_whole v w p q is_p is_q e = grind arith

  pub one_pack : (p q : PackValue) → IsPackFile bytes p → IsPackFile bytes q → AreSame p q
  one_pack p q a b =
      let r = file_reads p a in
      let s = file_reads q b in
      let same = one_end (length bytes) (whole r.version p) [] (whole s.version q) [] nothing bytes r.reads s.reads (whole_end (length bytes) r.version p) (whole_end (length bytes) s.version q) in
      same_whole r.version s.version p q a.is_pack b.is_pack same.0

  one_fault : (e f : PackErr) → IsPackFault bytes e → IsPackFault bytes f → e ≡ f
  one_fault e f a b =
      let same = one_end (length bytes) a.front a.rest b.front b.rest nothing bytes (fault_reads e a) (fault_reads f b) (refused_end (length bytes) a.front a.rest e a.refused) (refused_end (length bytes) b.front b.rest f b.refused) in
      same_refusal e f (sym a.refused ∙ (ap (λ (g : Front). next_at (length bytes) g a.rest) same.0 ∙ ap (next_at (length bytes) b.front) same.1) ∙ b.refused)

  not_both : (pack : PackValue) (e : PackErr) → IsPackFile bytes pack → IsPackFault bytes e → ⊥
  not_both pack e file fault =
      let r = file_reads pack file in
      let same = one_end (length bytes) (whole r.version pack) [] fault.front fault.rest nothing bytes r.reads (fault_reads e fault) (whole_end (length bytes) r.version pack) (refused_end (length bytes) fault.front fault.rest e fault.refused) in
      let there : next_at (length bytes) (whole r.version pack) [] ≡ next_at (length bytes) fault.front fault.rest = ap (λ (g : Front). next_at (length bytes) g []) same.0 ∙ ap (next_at (length bytes) fault.front) same.1 in
      none-some (Err e) (sym (rw (le-ltb (length pack.bits) (length pack.bits) (omega arith)) refl) ∙ there ∙ fault.refused)

  pub one_reading : IsBytes bytes → HasOneReading bytes
  one_reading fits = record { some = some_reading bytes fits; one_pack = one_pack; one_fault = one_fault; not_both = not_both }
