-- What `spec` and `map` write of a mapped source circuit.
use Rattle.std.specs.Prelude.{ℕ, Bool, List, [], ◌∷◌, Result}
use Rattle.tl_io.specs.Port.{PortSeen}
use Rattle.cmd_map.specs.Words.{ShelfSeen, outside, FileText, template_header, present_bytes}
use Rattle.tl_io.specs.Sink.{SinkSeen}
use Rattle.cmd_stations.specs.FileWrites.{WritesAll}
use Rattle.cmd_stations.specs.declared.mapped.MappedSource.{MappedSource}
pub use Rattle.cmd_stations.specs.Written.{specialised_text, RunsSpecialised, template_text, IsTunedSource}

module _ (m : MappedSource) where
  -- its pack
  abbrev pub pack_text : List ℕ → FileText
  pack_text name = record { name = name; bytes = present_bytes m.tables.pack }

  -- its files are written and then the header line, whatever ports there are
  abbrev pub WritesSpecialised : {E : Type 0} → List Bool → List ℕ → ShelfSeen → ShelfSeen → SinkSeen → SinkSeen → Result Unit E → Type 0
  WritesSpecialised config name old new before after result =
      (ports : List PortSeen) → WritesAll (specialised_text m config name ∷ []) (template_header m.tables.template) (outside old before ports) (outside new after ports) result

  abbrev pub WritesTemplate : {E : Type 0} → List ℕ → List ℕ → ShelfSeen → ShelfSeen → SinkSeen → SinkSeen → Result Unit E → Type 0
  WritesTemplate template pack old new before after result =
      (ports : List PortSeen) → WritesAll (template_text m template ∷ pack_text pack ∷ []) (template_header m.tables.template) (outside old before ports) (outside new after ports) result
