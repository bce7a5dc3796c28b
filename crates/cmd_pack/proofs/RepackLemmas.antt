-- The job of `repack`: the pack's file, and then the line; and the laws of the walks of `bits` and of `repack`.
use Rattle.cmd_pack.proofs.Common.{◌≡◌, ℕ, ◌≤◌, List, [], ◌∷◌, Result, Ok, Err, refl, sym, subst, Rose, PortSeen, ShelfSeen, SinkSeen, PackValue, Outside, outside, FileText, HasPrefix, AreWritten, IsCut, writing_outcome, Told, IsBegunFrom, Ends, Outcome, HasPack, IsPackSettled, present_text, cut_in_file, cut_cause, pack_header, RepackWords, HasRepack, repack_walk, BitsWords, bits_walk, pack_or_not, pack_refused_once, HasLaws}
use Rattle.std.specs.Prelude.{IsErrAnd}
use Rattle.cmd_base.specs.Refusals.{most_bytes}
use Rattle.cmd_base.specs.declared.outcome.File.TheVariants.{Pack}
use Rattle.cmd_stations.specs.FileWrites.{WritesAll}
use Rattle.cmd_pack.proofs.FileReplayLemmas.{replays_file}
use Rattle.cmd_pack.proofs.BitsWalkLemmas.{bits_or_not, bits_refused_once}

-- a fault in the file, of the answer that a `?` makes of it
pub passed_cut : {E : Type 0} (text : FileText) (line : List ℕ) (old new : ShelfSeen) (out : SinkSeen) (r : Result Unit E) (e : E) → IsErrAnd r (λ x. x ≡ e) → HasPrefix text old.files new.files
    → Rose old.write_faults new.write_faults → (ports : List PortSeen) → WritesAll (text ∷ []) line (outside old out ports) (outside new out ports) r
passed_cut text line old new out (Ok done) e is prefix rose ports = absurd is
passed_cut text line old new out (Err f) e is prefix rose ports = cut_in_file [] text [] line old old new out ports refl prefix rose

-- the job whose pack was read
module _ (words : RepackWords) (pack : PackValue) (old mid new : ShelfSeen) (same : (out : SinkSeen) (ports : List PortSeen) → outside mid out ports ≡ outside old out ports) (has : Told old.files (λ files. HasPack files words.old pack)) (settled : Told old.files (λ files. IsPackSettled files words.old)) where
  begun_from : mid.given ≤ most_bytes Pack → new.given ≡ mid.given → IsBegunFrom (repack_walk words) old new
  begun_from given stays = record {
    given = subst (λ n. n ≤ most_bytes Pack) (sym stays) given;
    begun = λ files told. record { accepted = record { pack = pack; has = has files told }; settled = settled files told };
  }

  repacked_from : (P : Outside → List FileText → List ℕ → Type 0) (out : SinkSeen) (ports : List PortSeen)
      → P (outside mid out ports) (present_text pack words.new ∷ []) (pack_header pack) → Told old.files (λ files. HasRepack files words (P (outside old out ports)))
  repacked_from P out ports ends files told = record {
    pack = pack;
    has = has files told;
    ends = subst (λ w. P w (present_text pack words.new ∷ []) (pack_header pack)) (same out ports) ends;
    replays = replays_file pack;
  }

  pub repack_ends : {E : Type 0} → mid.given ≤ most_bytes Pack → new.given ≡ mid.given → (before after : SinkSeen) (ports : List PortSeen) (r : Result Unit E)
      → WritesAll (present_text pack words.new ∷ []) (pack_header pack) (outside mid before ports) (outside new after ports) r → (o : Outcome) → o ≡ writing_outcome r
      → Ends (repack_walk words) old new (outside old before ports) (outside new after ports) o
  repack_ends given stays before after ports (Ok done) all o is =
      subst (λ x. Ends (repack_walk words) old new (outside old before ports) (outside new after ports) x) (sym is) (
        begun_from given stays,
        repacked_from (λ w texts line. AreWritten texts line w (outside new after ports)) before ports all,
        refl,
      )
  repack_ends given stays before after ports (Err e) part o is =
      let cut = subst (λ w. IsCut (present_text pack words.new ∷ []) (pack_header pack) w (outside new after ports)) (same before ports) part in
      subst (λ x. Ends (repack_walk words) old new (outside old before ports) (outside new after ports) x) (sym is) (
        begun_from given stays,
        repacked_from (λ w texts line. IsCut texts line w (outside new after ports)) before ports part,
        refl,
        cut_cause (repack_walk words) (present_text pack words.new ∷ []) (pack_header pack) (outside old before ports) (outside new after ports) tt cut,
      )

-- The laws of the walks of `bits` and of `repack`.
pub bits_laws : (words : BitsWords) → HasLaws (bits_walk words)
bits_laws words = record {
  not_both = λ files settled has f r refused. bits_or_not files words settled has f r refused;
  one_refusal = λ files settled f e r s one other. bits_refused_once files words settled f e r s one other;
  shows = λ files old new done. tt;
}

pub repack_laws : (words : RepackWords) → HasLaws (repack_walk words)
repack_laws words = record {
  not_both = λ files settled has f r refused. pack_or_not files words.old settled has.pack f r has.has refused;
  one_refusal = λ files settled f e r s one other. pack_refused_once files words.old settled f e r s one other;
  shows = λ files old new done. tt;
}
