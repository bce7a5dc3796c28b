-- The words of other crates that the definitions say, passed on from one place.
pub use Rattle.tl_io.specs.Shelf.{Files, with_file, ShelfSeen}
pub use Rattle.cmd_base.specs.Walk.{Outside, FileReading, shelf_reading, Told, IsReadFault, CommandWalk, portless_walk}
pub use Rattle.cmd_base.specs.Writing.{FileText, HasPrefix, AreWritten, IsCut}
pub use Rattle.machine.specs.Machine.{MealyMachine, Passes, Refines, GivesCycle, GivesRun, reading, restricted}
pub use Rattle.ppc_pack.specs.Pack.{PackValue, IsConf, HasOneConf, inits_of}
pub use Rattle.run_text.specs.EventValue.{EventValue, event_values}
pub use Rattle.run_core.specs.Events.{IsHostPlayed, IsSteady, host_line, IsOfHost, MachineValue, IsPlayed, event_line}
pub use Rattle.ppc_file.specs.PackFile.{AreSame, IsPackFile}
pub use Rattle.param_list.specs.Parameters.{param_inits, param_names, regular_names, AreParameters}
pub use Rattle.netlist.specs.Runs.{AreInits, IsCycle, library_machine}
pub use Rattle.cover_pick.specs.Template.{TemplateValue, IsTemplate, IsTooMuch}
pub use Rattle.aig_build.specs.NetlistGraph.{IsGraphOf, HasTooManyNodes, HasOneGraph}
pub use Rattle.aig_core.specs.Aig.{Aig, node_count, first_and, AreNormal}
pub use Rattle.aig_core.specs.Roots.{RootsValue, roots_of, AreRoots}
pub use Rattle.cut_sets.specs.Labels.{label_at, AreLeastHeights}
pub use Rattle.cover_pick.specs.declared.rule.Rule.{Rule}
pub use Rattle.tl_fault.specs.RefusalValue.{RefusalValue}
pub use Rattle.ppc_pack.specs.declared.pack.PackParam.{PackParam}
pub use Rattle.run_text.specs.NamesValue.{NamesValue}
pub use Rattle.run_text.specs.declared.event.Forms.{Forms}
pub use Rattle.cmd_base.specs.Refusals.{most_bytes, too_long}
pub use Rattle.cmd_base.specs.declared.outcome.File.{File}
pub use Rattle.cmd_base.specs.declared.outcome.File.TheVariants.{Netlist, Params, Script, Pack, Cert}
pub use Rattle.netlist.specs.FlatValue.{FlatValue}
pub use Rattle.netlist.specs.Sound.{IsSound}
pub use Rattle.param_list.specs.ParamsText.{IsParamsText, HasOneReading, IsParamsFault}
pub use Rattle.aiger_io.specs.Reading.{HasRunsOf, IsLibraryOf}
pub use Rattle.netlist.specs.Flat.{IsFlat}
pub use Rattle.netlist.specs.FlatCycle.{HasCycles, flat_inits}
pub use Rattle.blif_write.specs.Meaning.{AreTablesOf, free_control, all_bit_names, input_bits}
pub use Rattle.blif_read.specs.Denotes.{Denotes}
