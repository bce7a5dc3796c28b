-- The walk of `bits`: an accepted job isn't refused, a job is refused for one reason, and what its stations return explains how it ends.
use Rattle.cmd_pack.proofs.Common.{◌≡◌, Option, refl, subst, Files, ShelfSeen, PackValue, Told, Explains, Outcome, HasPack, IsPackSettled, pack_reading, pack_names, IsScriptRefused, IsScriptSettled, script_reading, BitsWords, IsBitsRefused, IsBitsSettled, IsOfBits, bits_word, ReachesBits, bits_reading, HasBitsJob, IsPart, Explains_lift, pack_or_not, pack_refused_once, pack_once, same_names}
use Rattle.tl_fault.specs.RefusalValue.{RefusalValue}
use Rattle.cmd_base.specs.declared.outcome.File.{File}
use Rattle.cmd_stations.proofs.RefusedLemmas.{events_or_not, events_refused_once}
use Rattle.cmd_stations.proofs.StopLemmas.{of_script, of_pack}
use Rattle.cmd_pack.specs.Bits as job

module _ (files : Files) (words : BitsWords) (settled : IsBitsSettled files words) where
  -- a script is refused behind the one pack
  refused_there : (p q : PackValue) (f : File) (r : RefusalValue) → HasPack files words.pack p → HasPack files words.pack q → IsScriptRefused files words.script (pack_names p) f r → IsScriptRefused files words.script (pack_names q) f r
  refused_there p q f r a b refused = subst (λ names. IsScriptRefused files words.script names f r) (same_names p q (pack_once files words.pack settled.pack p q a b)) refused

  -- an accepted job isn't refused
  pub bits_or_not : HasBitsJob files words → (f : File) (r : RefusalValue) → IsBitsRefused files words f r → ⊥
  bits_or_not has f r (job.IsBitsRefused.pack refused) = pack_or_not files words.pack settled.pack has.pack f r has.is.pack refused
  bits_or_not has f r (job.IsBitsRefused.script other there refused) =
      events_or_not files words.script (pack_names has.pack) has.events f r (settled.script has.pack has.is.pack) has.is.script (refused_there other has.pack f r there has.is.pack refused)

  -- a job that is refused is refused for one reason
  pub bits_refused_once : (f e : File) (r s : RefusalValue) → IsBitsRefused files words f r → IsBitsRefused files words e s → r ≡ s
  bits_refused_once f e r s (job.IsBitsRefused.pack one) (job.IsBitsRefused.pack other) = pack_refused_once files words.pack settled.pack f e r s one other
  bits_refused_once f e r s (job.IsBitsRefused.pack one) (job.IsBitsRefused.script p there other) = absurd (pack_or_not files words.pack settled.pack p f r there one)
  bits_refused_once f e r s (job.IsBitsRefused.script p there one) (job.IsBitsRefused.pack other) = absurd (pack_or_not files words.pack settled.pack p e s there other)
  bits_refused_once f e r s (job.IsBitsRefused.script p there one) (job.IsBitsRefused.script q has other) =
      events_refused_once files words.script (pack_names q) f e r s (settled.script q has) (refused_there p q f r there has one) other

-- the reading of a pack is part of that of `bits`
pack_part : (words : BitsWords) (told : Option Files) → IsPart (pack_reading words.pack) (bits_reading words) told
pack_part words told = record {
  read = of_pack IsOfBits tt;
  word = of_pack (λ f. words.pack ≡ bits_word words f) refl;
  given = λ f n h. h;
  files = λ files told. told;
  reaches = λ files told f h reached. of_pack (λ f. ReachesBits files words f) tt f h;
  refused = λ files told f r refused. job.IsBitsRefused.pack refused;
  settled = λ files told f r settled refused. record { pack = settled; script = λ pack there. absurd (pack_or_not files words.pack settled pack f r there refused) };
}

pub pack_to_bits : (words : BitsWords) (old new : ShelfSeen) (o : Outcome) → Explains (pack_reading words.pack) old new o → Explains (bits_reading words) old new o
pack_to_bits words old new o h = Explains_lift (pack_reading words.pack) (bits_reading words) old new (pack_part words old.files) o h

-- and so is that of a script behind a pack
module _ (words : BitsWords) (pack : PackValue) where
  pub names_settled : (files : Files) → HasPack files words.pack pack → IsPackSettled files words.pack → IsScriptSettled files words.script (pack_names pack)
      → (other : PackValue) → HasPack files words.pack other → IsScriptSettled files words.script (pack_names other)
  names_settled files there settled script other has = subst (λ names. IsScriptSettled files words.script names) (same_names pack other (pack_once files words.pack settled pack other there has)) script

  script_part : (told : Option Files) → Told told (λ files. HasPack files words.pack pack × IsPackSettled files words.pack) → IsPart (script_reading words.script (pack_names pack)) (bits_reading words) told
  script_part is_told comes = record {
    read = of_script IsOfBits tt;
    word = of_script (λ f. words.script ≡ bits_word words f) refl;
    given = λ f n h. h;
    files = λ files told. told;
    reaches = λ files told f h reached. of_script (λ f. ReachesBits files words f) (pack, (comes files told).0) f h;
    refused = λ files told f r refused. job.IsBitsRefused.script pack (comes files told).0 refused;
    settled = λ files told f r settled refused. record { pack = (comes files told).1; script = names_settled files (comes files told).0 (comes files told).1 settled };
  }

pub script_to_bits : (words : BitsWords) (old new : ShelfSeen) (o : Outcome) (pack : PackValue) → Told old.files (λ files. HasPack files words.pack pack × IsPackSettled files words.pack)
    → Explains (script_reading words.script (pack_names pack)) old new o → Explains (bits_reading words) old new o
script_to_bits words old new o pack comes h = Explains_lift (script_reading words.script (pack_names pack)) (bits_reading words) old new (script_part words pack old.files comes) o h
