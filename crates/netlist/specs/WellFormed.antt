-- What every library that a text denotes keeps.
use Rattle.std.specs.Prelude.{◌≡◌, ◌<◌, length, map}
use Rattle.list_laws.specs.Members.{In}
use Rattle.netlist.specs.declared.command.Body.{Body}
use Rattle.netlist.specs.declared.command.Body.TheVariants.{Cover, Latch, Subckt}
use Rattle.netlist.specs.declared.command.Command.{Command}
use Rattle.netlist.specs.CoverValue.{RowValue}
use Rattle.netlist.specs.LibraryValue.{ModelValue, LibraryValue, Ports, ports_of}
use Rattle.tl_text.specs.Once.{AreOnce}
use Rattle.netlist.specs.SubcktValue.{formals}

-- each row has one cell for each input of its cover, and no subcircuit has a formal twice
abbrev pub IsWellFormedBody : Body → Type 0
IsWellFormedBody (Cover cover) = (row : RowValue) → In cover.rows row → length row.cells ≡ length cover.inputs
IsWellFormedBody (Latch latch) = Unit {0}
IsWellFormedBody (Subckt subckt) = AreOnce (formals subckt.pairs)

-- and the lists of inputs, of outputs and of clocks are without repeats
pub record IsWellFormedModel (m : ModelValue) : Type 0 where
  pub ports : (p : Ports) → AreOnce (ports_of p m)
  pub commands : (command : Command) → In m.commands command → IsWellFormedBody command.body

-- a library has a model, and no two models have the same name
pub record IsWellFormed (library : LibraryValue) : Type 0 where
  pub some : 0 < length library.models
  pub once : AreOnce (map (λ (m : ModelValue). m.name) library.models)
  pub each : (m : ModelValue) → In library.models m → IsWellFormedModel m
