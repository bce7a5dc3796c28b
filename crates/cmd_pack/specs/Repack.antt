-- The command `repack`: a pack is written in version 2.
use Rattle.std.specs.Prelude.{ℕ, not, ◌&&◌, if◌then◌else◌, List, [], ◌∷◌, codes, bytes_eq, Option, Some, None, Result}
use Rattle.cmd_pack.specs.declared.repack.words.RepackWords.{RepackWords as RepackWordsRead}
use Rattle.cmd_pack.specs.Words.{PortSeen, Files, ShelfSeen, SinkSeen, PackValue, CommandWalk, portless_walk, outside, HasPack, pack_reading, present_bytes}
use Rattle.cmd_base.specs.Writing.{FileText, AreWritten, IsCut}
use Rattle.cmd_stations.specs.FileWrites.{WritesAll}
use Rattle.cmd_pack.specs.Bits.{pack_header, ReplaysFile}

-- the words that name the pack, and the file to be written
pub record RepackWords : Type 0 where
  pub old : List ℕ
  pub new : List ℕ

-- the words `repack OLD NEW`, of which the last two differ
abbrev pub repack_of : List (List ℕ) → Option RepackWords
repack_of (command ∷ old ∷ new ∷ []) = if bytes_eq command (codes "repack") && not (bytes_eq old new) then Some (record { old = old; new = new }) else None
repack_of words = None

-- words as they are read
abbrev pub repack_seen : RepackWordsRead → RepackWords
repack_seen words = record { old = words.old.now; new = words.new.now }

-- the file in version 2 of a pack, and the writing of this and then of the line, whatever ports there are
abbrev pub present_text : PackValue → List ℕ → FileText
present_text pack name = record { name = name; bytes = present_bytes pack }

abbrev pub WritesPack : {E : Type 0} → PackValue → List ℕ → ShelfSeen → ShelfSeen → SinkSeen → SinkSeen → Result Unit E → Type 0
WritesPack pack name old new before after result = (ports : List PortSeen) → WritesAll (present_text pack name ∷ []) (pack_header pack) (outside old before ports) (outside new after ports) result

-- the file OLD is that of a pack, and NEW is its file in version 2: scripts are played on it as on OLD
pub record HasRepack (files : Files) (words : RepackWords) (Ends : List FileText → List ℕ → Type 0) : Type 0 where
  pub pack : PackValue
  pub has : HasPack files words.old pack
  pub ends : Ends (present_text pack words.new ∷ []) (pack_header pack)
  pub replays : ReplaysFile pack

-- the files hold an accepted job of `repack`
pub record HasRepackJob (files : Files) (words : RepackWords) : Type 0 where
  pub pack : PackValue
  pub has : HasPack files words.old pack

abbrev pub repack_walk : RepackWords → CommandWalk
repack_walk words =
    portless_walk (pack_reading words.old) (λ files. HasRepackJob files words) (λ files old new. HasRepack files words (λ texts line. AreWritten texts line old new)) (λ files old new. HasRepack files words (λ texts line. IsCut texts line old new))
    (λ files old new. Unit {0}) (Unit {0})
