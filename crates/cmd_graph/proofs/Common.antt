-- What the proofs of this crate cite of other crates, and its own definitions, passed on from one place.
pub use Rattle.std.proofs.Common.{◌≡◌, ◌⊎◌, Option, Result, Ok, Err, ℕ, ◌+◌, ◌≤◌, List, [], ◌∷◌, ◌++◌, length, map, Some, refl, sym, ap, ap₂, subst, inl, inr, arith, rules}
pub use Rattle.std.specs.Prelude.{slice_get, slice_index_or, string_bytes}
pub use Rattle.aiger_io.specs.Circuit.{Circuit}
pub use Rattle.aiger_io.specs.WrittenText.{circuit_text}
pub use Rattle.cmd_base.specs.Writing.{FileText, writing_outcome}
pub use Rattle.cmd_stations.proofs.WriteLemmas.{not_begun, written_over, writing_ends, cut_in_file, line_ends}
pub use Rattle.cmd_stations.specs.Tables.{IsBuiltSource, ComesToGraph}
pub use Rattle.cmd_stations.specs.FileWrites.{WritesFile, WritesAll}
pub use Rattle.cmd_stations.specs.declared.graphs.BuiltSource.{BuiltSource}
pub use Rattle.tl_io.proofs.PutLemmas.{put_as}
pub use Rattle.tl_io.specs.Shelf.{Files, emptied, ShelfSeen}
pub use Rattle.cmd_graph.specs.Graph.{circuit_at, HasOtherNames, IsExported, HasExport, HasGraphJob, graph_walk, GraphWords, graph_seen}
pub use Rattle.cmd_stations.specs.Source.{IsSourceRefused, IsSourceSettled, source_seen}
pub use Rattle.cmd_graph.specs.Exports.{IsExport, export_text, export_circuit}
