-- A job of `map`: a source circuit that is mapped is accepted, and its written template and pack are the verdict's, whole or cut off.
use Rattle.cmd_map.proofs.Common.{◌≡◌, ◌≤◌, List, [], ◌∷◌, ℕ, Some, Result, MOST_BYTES, PortSeen, Files, ShelfSeen, SinkSeen, outside, FileText, writing_outcome, Told, IsBegun, Ends, Outcome, WritesAll, MappedSource, template_header, AreMade, ComesPast, IsTunedSource, template_text, pack_text, writing_ends, MapWords, HasMap, map_walk, least_mapped, ToTables, IsMappedFrom}
use Rattle.cmd_map.proofs.MachineReplayLemmas.{replays_machine}

map_begun : (files : Files) (words : MapWords) (m : MappedSource) → ComesPast files words.source m → IsBegun (map_walk words) files
map_begun files words m past = record { accepted = record { source = m.source; template = m.tables.template; has = past.has }; settled = past.settled }

-- a job that came past its mapping, and wrote
module _ (m : MappedSource) (made : AreMade m.source m.tables) (means : IsTunedSource m) (words : MapWords) (old mid new : ShelfSeen) (same : (out : SinkSeen) (ports : List PortSeen) → outside mid out ports ≡ outside old out ports) (few : mid.given ≤ MOST_BYTES) (given : new.given ≡ mid.given) (comes : Told old.files (λ files. ComesPast files words.source m))
    (before after : SinkSeen) (ports : List PortSeen) where
  abbrev texts : List FileText
  texts = template_text m words.template ∷ pack_text m words.pack ∷ []

  has_map : (files : Files) → old.files ≡ Some files → (P : List FileText → List ℕ → Type 0) → P texts (template_header m.tables.template) → HasMap files words P
  has_map files told P ends =
      let past = comes files told in
      let law = least_mapped files words.source m.source m.tables.template past.settled past.has in
      record {
        source = m.source;
        template = m.tables.template;
        mapped = past.has;
        law = law;
        pack = m.tables.pack;
        tunable = made.tunable;
        ends = ends;
        means = means;
        replays = replays_machine words.source.rule m.source words.source.k m.tables.template m.tables.pack past.has.mapped law.least made.tunable made.file;
      }

  pub map_ends : {E : Type 0} (r : Result Unit E) → WritesAll texts (template_header m.tables.template) (outside mid before ports) (outside new after ports) r → (o : Outcome) → o ≡ writing_outcome r
      → Ends (map_walk words) old new (outside old before ports) (outside new after ports) o
  map_ends r all o is = writing_ends ToTables words.source (λ files. IsMappedFrom files words.source) (λ files P. HasMap files words P) texts (template_header m.tables.template) old mid new same few given
      (λ files told. map_begun files words m (comes files told)) has_map before after ports r all o is
