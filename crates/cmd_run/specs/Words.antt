-- The words of other crates that the definitions say, passed on from one place.
pub use Rattle.tl_io.specs.Shelf.{Files, ShelfSeen, no_shelf}
pub use Rattle.cover_pick.specs.declared.rule.Rule.{Rule}
pub use Rattle.tl_text.specs.Decimal.{decimal_of}
pub use Rattle.cmd_base.specs.Walk.{FileReading, Explains, CommandWalk, portless_walk, Ends, outside, Outside}
pub use Rattle.cmd_base.specs.declared.outcome.Outcome.{Outcome}
pub use Rattle.cmd_stations.specs.Mapped.{ToTables, template_header, IsLeastMapping}
pub use Rattle.cmd_stations.specs.Script.{names_of, IsOfScripted, IsSplit, ScriptedWords, HasScripted, IsScriptedRefused, IsScriptedSettled, scripted_word, scripted_reading}
pub use Rattle.cmd_stations.specs.Source.{source_reading, IsLeastMapped, SourceWords, k_of, source_seen}
pub use Rattle.cmd_stations.specs.declared.source.Source.{Source}
pub use Rattle.machine.specs.Machine.{MealyMachine, Passes}
pub use Rattle.run_text.specs.EventValue.{EventValue, Set, Cycle, Upset, Scrub, Image, event_values}
pub use Rattle.run_core.specs.Events.{MachineValue, IsPlayed, event_line, FitsPack, FitsShape}
pub use Rattle.tl_io.specs.Port.{PortSeen}
pub use Rattle.tl_io.specs.Sink.{SinkSeen}
pub use Rattle.cover_pick.specs.Template.{TemplateValue}
pub use Rattle.cmd_stations.specs.Machine.{Job, IsStart, machine_header, Stage, IsStep, HasCome, IsSourceStart, AreSteps}
pub use Rattle.tl_io.specs.Content.{extended}
pub use Rattle.tl_io.specs.Writes.{writes_from}
pub use Rattle.port_bank.specs.Bank.{BankSeen, all_ports}
pub use Rattle.run_core.specs.declared.step_err.StepErr.{StepErr}
pub use Rattle.run_core.specs.declared.step_err.StepErr.TheVariants.{WriteFault, PortFault}
pub use Rattle.list_laws.specs.Members.{In}
