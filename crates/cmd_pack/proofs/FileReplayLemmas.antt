-- Files of the same pack are played alike.
use Rattle.cmd_pack.proofs.Common.{◌≡◌, ℕ, List, ◌∷◌, Some, sym, ap, ◌∙◌, subst, concat, same_Some, extended, Files, PackValue, EventValue, SpecialiserValue, HasPack, pack_names, present_bytes, HasScript, BitsWords, AreHostSteps, pack_header, same_names, PutTheSame, ReplaysFile}
use Rattle.std.specs.FinMap.{get}
use Rattle.aig_core.specs.declared.lit.Lit.{Lit}
use Rattle.ppc_file.specs.PackFile.{AreSame}
use Rattle.run_text.specs.ScriptText.{IsScript}
use Rattle.run_text.proofs.ScriptOnceLemmas as scripts
use Rattle.cmd_stations.proofs.ReplayLemmas.{same_packs_replay, same_both, file_same, repacked, pack_at}

-- a script that is the same text has the same events
same_events : (files others : Files) (name other_name : List ℕ) (p q : PackValue) (events again : List EventValue) → AreSame p q → get others other_name ≡ get files name
    → HasScript files name (pack_names p) events → HasScript others other_name (pack_names q) again → events ≡ again
same_events files others name other_name p q events again same text a b =
    let bytes : b.text ≡ a.text = same_Some b.text a.text (sym b.there.is ∙ (text ∙ a.there.is)) in
    let there : IsScript (pack_names p) a.text again = subst (λ names. IsScript names a.text again) (sym (same_names p q same)) (subst (λ ts. IsScript (pack_names q) ts again) bytes b.is) in
    (scripts.one_reading (pack_names p) a.text).one_value events again a.is there

same_header : (h k : SpecialiserValue) (p q : PackValue) → AreSame p q → h.pack ≡ p → k.pack ≡ q → pack_header k.pack ≡ pack_header h.pack
same_header h k p q same a b =
    ap (λ (r : PackValue). pack_header r) b ∙ (ap (λ (ls : List Lit). pack_header (record p { bits = ls })) (sym same.bits) ∙ ap (λ (r : PackValue). pack_header r) (sym a))

-- Two jobs of `bits` on files of the same pack put the same.
module _ (files others : Files) (words other_words : BitsWords) (pack : PackValue) where
  put_the_same : HasPack files words.pack pack → get others other_words.pack ≡ Some (present_bytes pack) → get others other_words.script ≡ get files words.script → PutTheSame files others words other_words
  put_the_same here there script = record {
    bytes = λ old new before after a b start.
        let first : AreSame a.pack pack = file_same here.bytes a.pack pack (pack_at files words.pack here.bytes a.pack here.there.is a.is_job.pack) here.is in
        let second : AreSame pack b.pack = file_same (present_bytes pack) pack b.pack (repacked here.bytes pack here.is) (pack_at others other_words.pack (present_bytes pack) b.pack there b.is_job.pack) in
        let same : AreSame a.pack b.pack = same_both a.pack b.pack pack first second in
        let events : a.events ≡ b.events = same_events files others words.script other_words.script a.pack b.pack a.events b.events same script a.is_job.script b.is_job.script in
        let lines : a.ends.put.lines ≡ b.ends.put.lines =
        (same_packs_replay a.pack b.pack same).are a.host b.host a.start b.start a.events a.ends.put.lines b.ends.put.lines a.ends.end b.ends.end a.ends.put.come
        (subst (λ es. AreHostSteps b.host es b.ends.put.lines b.ends.end) (sym events) b.ends.put.come) in
        b.ends.put.bytes
        ∙ (ap (λ o. extended o (concat (pack_header b.host.pack ∷ b.ends.put.lines))) start
        ∙ (ap (λ (l : List ℕ). extended old.bytes (concat (l ∷ b.ends.put.lines))) (same_header a.host b.host a.pack b.pack same a.start.pack b.start.pack)
        ∙ (ap (λ (ls : List (List ℕ)). extended old.bytes (concat (pack_header a.host.pack ∷ ls))) (sym lines) ∙ sym a.ends.put.bytes)));
  }

pub replays_file : (pack : PackValue) → ReplaysFile pack
replays_file pack = record {
  accepted = λ files others name other_name has there. record { bytes = present_bytes pack; there = there; is = repacked has.bytes pack has.is };
  same = λ files others words other_words here there script. put_the_same files others words other_words pack here there script;
}
