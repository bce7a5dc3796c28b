-- What the proofs of this crate cite of other crates, and its own definitions, passed on from one place.
pub use Rattle.std.proofs.Common.{◌≡◌, ℕ, Bool, List, ◌∷◌, refl, sym, ap, ◌∙◌, subst, inl, inr, ◌≤◌, [], Some, Result, length, Option}
pub use Rattle.aig_core.specs.Aig.{Aig}
pub use Rattle.cmd_base.proofs.EndLemmas.{only_read, unbegun_ends, Rose_from, memory_ends}
pub use Rattle.cmd_base.specs.Walk.{Told, IsBegun, Ends, outside, HasLaws}
pub use Rattle.cmd_base.specs.Writing.{FileText, writing_outcome}
pub use Rattle.cmd_base.specs.declared.outcome.Outcome.{Outcome}
pub use Rattle.cmd_stations.proofs.GraphLemmas.{same_graph}
pub use Rattle.cmd_stations.proofs.RefusedLemmas.{least_mapped, source_or_not, source_refused_once}
pub use Rattle.cmd_stations.proofs.WriteLemmas.{cut_in_file, line_ends, writing_ends}
pub use Rattle.cmd_stations.specs.Mapped.{ToTables, IsLeastMapping, IsMapped, template_header}
pub use Rattle.cmd_stations.specs.FileWrites.{WritesAll}
pub use Rattle.cmd_stations.specs.Machine.{Job, IsStart, Stage, AreSteps}
pub use Rattle.cmd_stations.specs.Packs.{present_bytes}
pub use Rattle.cmd_stations.specs.Source.{IsMappedFrom}
pub use Rattle.cmd_stations.specs.Tables.{AreMade, ComesPast}
pub use Rattle.cmd_stations.specs.declared.mapped.MappedSource.{MappedSource}
pub use Rattle.lut_sim.proofs.RoomLemmas.{tables_within_bits}
pub use Rattle.param_list.specs.Parameters.{param_inits}
pub use Rattle.ppc_pack.specs.Pack.{PackValue, IsConf}
pub use Rattle.tl_io.specs.Port.{PortSeen}
pub use Rattle.tl_io.specs.Shelf.{Files, ShelfSeen, with_file}
pub use Rattle.tl_io.specs.Sink.{SinkSeen}
pub use Rattle.tl_text.specs.declared.logical_lines.TheConstants.{MOST_BYTES}
pub use Rattle.cmd_map.specs.Map.{HasMap, map_walk, MapWords, map_seen, ReplaysMachine}
pub use Rattle.cmd_map.specs.Outputs.{specialised_text, RunsSpecialised, template_text, pack_text, IsTunedSource}
pub use Rattle.cmd_map.specs.Spec.{spec_walk, HasSpec, SpecWords, spec_seen}
