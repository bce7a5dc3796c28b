-- The pack of a file: it is read or refused, for one reason, and the packs of one file are the same but for the room of their graphs.
use Rattle.cmd_stations.proofs.Common.{◌≡◌, ℕ, ◌≤◌, List, length, Some, refl, sym, ap, ◌∙◌, subst, same_Some, RefusalValue, Files, ShelfSeen, Lit, PackParam, PackValue, IsPackFile, AreSame, HasOneReading, NamesValue, Stops, outcome_at, most_bytes, Told, Explains, File, Outcome, Stop, HasBytes, IsUnread, HasPack, IsPackRefusal, IsPackRefused, IsPackSettled, pack_reading, names_on, pack_names, param_names, Shape, Source, SourceTables, width_of, names_in, AreMade, arith}
use Rattle.ppc_file.specs.Refusals.{refusal_of as pack_refusal}
use Rattle.run_text.specs.declared.event.Forms.{Forms}
use Rattle.cmd_stations.proofs.LengthLemmas.{pack_not_long}
use Rattle.cmd_stations.proofs.StopLemmas.{text_once, short_or_long}
use Rattle.cmd_stations.proofs.StationLemmas.{unread_ends, stop_ends}
use Rattle.cmd_base.specs.declared.outcome.File.TheVariants as file
use Rattle.cmd_stations.specs.Packs as packs

-- bytes are read or refused, for one reason
bytes_or_refused : (bytes : List ℕ) (pack : PackValue) (r : RefusalValue) → HasOneReading bytes → IsPackFile bytes pack → IsPackRefusal bytes r → ⊥
bytes_or_refused bytes pack r one is refused = one.not_both pack refused.e is refused.fault

bytes_refused_once : (bytes : List ℕ) (r s : RefusalValue) → HasOneReading bytes → IsPackRefusal bytes r → IsPackRefusal bytes s → r ≡ s
bytes_refused_once bytes r s one a b = same_Some r s (sym a.tells ∙ (ap (λ e. pack_refusal e) (one.one_fault a.e b.e a.fault b.fault) ∙ b.tells))

module _ (files : Files) (name : List ℕ) (settled : IsPackSettled files name) where
  -- a pack that is read isn't refused
  pub pack_or_not : (pack : PackValue) (f : File) (r : RefusalValue) → HasPack files name pack → IsPackRefused files name f r → ⊥
  pack_or_not pack f r has (packs.IsPackRefused.long at long is) = short_or_long files name has.bytes has.there long
  pack_or_not pack f r has (packs.IsPackRefused.bytes at bytes there refused) =
      bytes_or_refused bytes pack r (settled bytes there) (subst (λ bs. IsPackFile bs pack) (text_once files name has.bytes bytes has.there there) has.is) refused

  -- one that is refused is refused for one reason
  pub pack_refused_once : (f e : File) (r s : RefusalValue) → IsPackRefused files name f r → IsPackRefused files name e s → r ≡ s
  pack_refused_once f e r s (packs.IsPackRefused.long at long is) (packs.IsPackRefused.long at2 long2 is2) = is ∙ sym is2
  pack_refused_once f e r s (packs.IsPackRefused.long at long is) (packs.IsPackRefused.bytes at2 bytes there refused) = absurd (short_or_long files name bytes there long)
  pack_refused_once f e r s (packs.IsPackRefused.bytes at bytes there refused) (packs.IsPackRefused.long at2 long is) = absurd (short_or_long files name bytes there long)
  pack_refused_once f e r s (packs.IsPackRefused.bytes at bytes there refused) (packs.IsPackRefused.bytes at2 bytes2 there2 refused2) =
      bytes_refused_once bytes2 r s (settled bytes2 there2) (subst (λ bs. IsPackRefusal bs r) (text_once files name bytes bytes2 there there2) refused) refused2

  -- the packs of one file are the same
  pub pack_once : (p q : PackValue) → HasPack files name p → HasPack files name q → AreSame p q
  pack_once p q a b = (settled b.bytes b.there).one_pack p q (subst (λ bs. IsPackFile bs p) (text_once files name a.bytes b.bytes a.there b.there) a.is) b.is

-- and so a script may name the same of both
pub same_names : (p q : PackValue) → AreSame p q → pack_names p ≡ pack_names q
same_names p q same = grind arith

-- the pack of a mapped source circuit has the names of its script
abbrev names_with : Forms → List (List ℕ) → ℕ → ℕ → NamesValue
names_with forms params width bits = record { forms = forms; params = params; width = Some width; bits = bits }

pub made_names : (forms : Forms) (source : Source) (t : SourceTables) → AreMade source t → names_on forms t.pack (Some t.shape.regular) ≡ names_in forms source t.template.bits
made_names forms source t made = grind arith

-- what the station of a pack answers explains how a command ends there
module _ (name : List ℕ) (old new : ShelfSeen) where
  pub pack_unread : (o : Outcome) → IsUnread name file.Pack old new o → Explains (pack_reading name) old new o
  pack_unread o u = unread_ends (pack_reading name) file.Pack old new tt (λ g. g)
      (λ long files told. (packs.IsPackRefused.long refl (long files told) refl, λ bytes there. absurd (short_or_long files name bytes there (long files told)))) (λ files told. tt) o u

  pub pack_explains : (bytes : List ℕ) (s : Stop) (o : Outcome) → o ≡ outcome_at file.Pack s → new.given ≤ most_bytes file.Pack → Told old.files (λ files. HasBytes (most_bytes file.Pack) files name bytes) → HasOneReading bytes
      → Stops (IsPackRefusal bytes) s → Explains (pack_reading name) old new o
  pack_explains bytes s o at g there one u = stop_ends (pack_reading name) file.Pack old new tt (λ n. n) (IsPackRefusal bytes) s o at g u (pack_not_long bytes)
      (λ r refused files told. (packs.IsPackRefused.bytes refl bytes (there files told) refused, λ other has. subst (λ bs. HasOneReading bs) (text_once files name bytes other (there files told) has) one))
