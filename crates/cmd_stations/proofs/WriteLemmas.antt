-- What is written: a file, the files of a job one after the other and then its line, and the job of a command that does so.
use Rattle.cmd_stations.proofs.Common.{◌≡◌, take, Option, Result, Ok, Err, inl, inr, ◌⊎◌, sym, ap, ◌∙◌, subst, option_map, Puts, FileText, HasPrefix, WritesFile, ℕ, List, ◌∷◌, ◌++◌, refl, PortSeen, SinkSeen, IsPut, HasWriteFault, Outside, outside, CommandWalk, with_texts, IsCut, WritesAll, ◌≤◌, Some, MOST_BYTES, AreWritten, writing_outcome, Told, IsBegun, IsBegunFrom, Ends, Outcome, Aim, SourceWords, Files, ShelfSeen, apart, written, emptied, arith}
use Rattle.tl_io.proofs.WrittenLemmas.{files_written}
use Rattle.tl_io.specs.Causes.{Rose}
use Rattle.cmd_base.specs.declared.outcome.Outcome.TheVariants as outcome
use Rattle.cmd_stations.specs.WritingWalk.{writing_walk}

-- once it was begun, its bytes or a prefix of them are put there
pub written_ends : {E : Type 0} (text : FileText) (old mid new : ShelfSeen) (r : Result Unit E) → mid.writing ≡ option_map (λ _. text.name) old.files → mid.files ≡ emptied old.files text.name
    → Puts (written mid) (written new) text.bytes r → apart new ≡ apart mid → WritesFile text old.files new.files r
written_ends text old mid new (Ok done) at begun put same = files_written old mid new text.name text.bytes at begun put same
written_ends text old mid new (Err e) at begun put same = inr (inr (put.0, put.1, files_written old mid new text.name (take put.0 text.bytes) at begun put.2 same))

-- the same through a sink over a lent shelf, which has what the sink left once it is gone
pub written_over : {E : Type 0} {S : Type 0} (seen : S → ShelfSeen) (text : FileText) (old begun over put new : S) (r : Result Unit E) → over ≡ begun → new ≡ put → (seen begun).writing ≡ option_map (λ _. text.name) (seen old).files
    → (seen begun).files ≡ emptied (seen old).files text.name → Puts (written (seen over)) (written (seen put)) text.bytes r → apart (seen put) ≡ apart (seen over) → WritesFile text (seen old).files (seen new).files r
written_over seen text old begun over put new r lent back at empty puts same = grind (arith, written_ends)

-- where it was not begun, it is as before or empty
pub not_begun : (text : FileText) (old new : Option Files) → (new ≡ old) ⊎ (new ≡ emptied old text.name) → HasPrefix text old new
not_begun text old new (inl same) = inl same
not_begun text old new (inr empty) = inr (inl empty)

-- a fault of writing in a file: those before it are there
pub cut_in_file : (before : List FileText) (cut : FileText) (after : List FileText) (line : List ℕ) (old mid new : ShelfSeen) (out : SinkSeen) (ports : List PortSeen) → mid.files ≡ with_texts old.files before
    → HasPrefix cut mid.files new.files → Rose old.write_faults new.write_faults → IsCut (before ++ cut ∷ after) line (outside old out ports) (outside new out ports)
cut_in_file before cut after line old mid new out ports same prefix rose = grind arith

-- all files are there, and then the line is, or a prefix of it
pub line_ends : {E : Type 0} (texts : List FileText) (line : List ℕ) (old new : ShelfSeen) (before after : SinkSeen) (ports : List PortSeen) (r : Result Unit E) → new.files ≡ with_texts old.files texts
    → IsPut before line after r → WritesAll texts line (outside old before ports) (outside new after ports) r
line_ends texts line old new before after ports (Ok done) files put = record { files = files; bytes = put.grown; ports = refl }
line_ends texts line old new before after ports (Err e) files put = inr (record { part = put.grown.0; within = put.grown.1; files = files; bytes = put.grown.2; cause = put.cause.failed; ports = refl })

-- so a job that was cut off has the cause of its fault
pub cut_cause : (walk : CommandWalk) (texts : List FileText) (line : List ℕ) (old new : Outside) → walk.WritesFiles → IsCut texts line old new → HasWriteFault walk old new
cut_cause walk texts line old new writes (inl cut) = inr (writes, cut.cause)
cut_cause walk texts line old new writes (inr cut) = inl cut.cause

-- A job of a command that makes files of its source circuit: once all is made, it is done or cut off.
module _ (aim : Aim) (words : SourceWords) (IsAccepted : Files → Type 0) (HasMade : Files → (List FileText → List ℕ → Type 0) → Type 0) where
  abbrev walk : CommandWalk
  walk = writing_walk aim words IsAccepted HasMade

  module _ (texts : List FileText) (line : List ℕ) (old mid new : ShelfSeen) (same : (out : SinkSeen) (ports : List PortSeen) → outside mid out ports ≡ outside old out ports) (few : mid.given ≤ MOST_BYTES) (given : new.given ≡ mid.given)
      (begun : Told old.files (IsBegun walk)) (made : (files : Files) → old.files ≡ Some files → (P : List FileText → List ℕ → Type 0) → P texts line → HasMade files P)
      (before after : SinkSeen) (ports : List PortSeen) where
    begun_from : IsBegunFrom walk old new
    begun_from = record { given = subst (λ n. n ≤ MOST_BYTES) (sym given) few; begun = begun }

    writing_done : AreWritten texts line (outside mid before ports) (outside new after ports) → Ends walk old new (outside old before ports) (outside new after ports) outcome.Done
    writing_done all = (
      begun_from,
      λ files told. made files told (λ ts l. AreWritten ts l (outside old before ports) (outside new after ports)) (subst (λ w. AreWritten texts line w (outside new after ports)) (same before ports) all),
      refl,
    )

    writing_cut : IsCut texts line (outside mid before ports) (outside new after ports) → Ends walk old new (outside old before ports) (outside new after ports) outcome.WriteFault
    writing_cut part =
        let cut = subst (λ w. IsCut texts line w (outside new after ports)) (same before ports) part in (
          begun_from,
          λ files told. made files told (λ ts l. IsCut ts l (outside old before ports) (outside new after ports)) cut,
          refl,
          cut_cause walk texts line (outside old before ports) (outside new after ports) tt cut,
        )

    pub writing_ends : {E : Type 0} (r : Result Unit E) → WritesAll texts line (outside mid before ports) (outside new after ports) r → (o : Outcome) → o ≡ writing_outcome r → Ends walk old new (outside old before ports) (outside new after ports) o
    writing_ends (Ok done) all o is = subst (λ x. Ends walk old new (outside old before ports) (outside new after ports) x) (sym is) (writing_done all)
    writing_ends (Err e) part o is = subst (λ x. Ends walk old new (outside old before ports) (outside new after ports) x) (sym is) (writing_cut part)
