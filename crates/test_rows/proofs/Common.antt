-- What the proofs of this crate cite of other crates, and its own definitions, passed on from one place.
pub use Rattle.std.proofs.Common.{◌≡◌, ℕ, List, [], ◌∷◌, ◌++◌, codes, Some, None, refl, inl, inr, arith, Bool, true, false, cond, bytes_eq, Option, map, ap}
pub use Rattle.cover_pick.specs.declared.rule.Rule.TheVariants.{FewestLeaves, LeastCost}
pub use Rattle.tlut_cli.specs.Commands.{Spec, Map, Bits, Gen, Repack, Prove, Audit, Graph, command_of, line_of}
pub use Rattle.netlist.specs.declared.cell.Cell.TheVariants.{One, Zero, Any}
pub use Rattle.netlist.specs.declared.command.Body.TheVariants.{Cover}
pub use Rattle.netlist.specs.CoverValue.{CoverValue}
pub use Rattle.netlist.specs.LibraryValue.{LibraryValue, ModelValue, Ports, input_ports, output_ports, clock_ports, ports_of}
