-- A source circuit's graph that is ready to be written, as the code makes it.
use Rattle.std.specs.Prelude.{◌≡◌, ℕ, List, [], ◌∷◌, string_bytes, Result}
use Rattle.tl_io.specs.Port.{PortSeen}
use Rattle.cmd_graph.specs.Words.{ShelfSeen, Circuit, circuit_text, IsWrittenFrom, AreRegularPlaces, outside, FileText}
use Rattle.tl_io.specs.Sink.{SinkSeen}
use Rattle.cmd_stations.specs.FileWrites.{WritesAll}
use Rattle.cmd_stations.specs.Tables.{IsBuiltSource}
use Rattle.cmd_stations.specs.declared.graphs.BuiltSource.{BuiltSource}
use Rattle.cmd_graph.specs.Graph.{graph_line, circuit_at, IsExported}
use Rattle.cmd_graph.specs.declared.export.Export.{Export}

-- the circuit of a graph with these places of its regular inputs, and that it can be written with them
abbrev pub export_circuit : BuiltSource → List ℕ → Circuit
export_circuit b regular = circuit_at b.source regular b.graph b.roots

abbrev pub CanBeWritten : BuiltSource → List ℕ → Type 0
CanBeWritten b regular = IsWrittenFrom b.source.netlist.flat b.source.params.list regular b.graph b.roots

-- it has the places of its regular inputs and its line, and can be written; its circuit is that of the source circuit
pub record IsExport (e : Export) : Type 0 where
  pub built : IsBuiltSource e.built
  pub places : AreRegularPlaces e.built.source.netlist.flat e.built.source.params.list e.regular.items
  pub written : CanBeWritten e.built e.regular.items
  pub exported : IsExported e.built.source (export_circuit e.built e.regular.items)
  pub line : string_bytes e.line ≡ graph_line (export_circuit e.built e.regular.items).header

-- its file, and the writing of this and then of its line, whatever ports there are
abbrev pub export_text : List ℕ → Export → FileText
export_text name e = record { name = name; bytes = circuit_text (export_circuit e.built e.regular.items) }

abbrev pub WritesExport : {E : Type 0} → List ℕ → Export → ShelfSeen → ShelfSeen → SinkSeen → SinkSeen → Result Unit E → Type 0
WritesExport name e old new before after result = (ports : List PortSeen) → WritesAll (export_text name e ∷ []) (string_bytes e.line) (outside old before ports) (outside new after ports) result
