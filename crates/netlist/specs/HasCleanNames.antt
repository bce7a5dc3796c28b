-- Each name in a library is one that a token can be.
use Rattle.std.specs.Prelude.{◌≡◌, ℕ, List, Some}
use Rattle.list_laws.specs.Members.{In}
use Rattle.tl_text.specs.Clean.{HasCleanBytes, IsClean}
use Rattle.netlist.specs.declared.command.Body.{Body}
use Rattle.netlist.specs.declared.command.Body.TheVariants.{Cover, Latch, Subckt}
use Rattle.netlist.specs.declared.command.Command.{Command}
use Rattle.netlist.specs.declared.subckt.Connection.{Connection}
use Rattle.netlist.specs.LibraryValue.{ModelValue, LibraryValue, Ports, ports_of}

abbrev pub AreClean : List (List ℕ) → Type 0
AreClean names = (name : List ℕ) → In names name → IsClean name

-- A formal has clean bytes, and may end in `\`: it stands before the `=` of its token, of which only the end is looked at.
pub record IsCleanPair (pair : Connection) : Type 0 where
  pub formal : HasCleanBytes pair.formal
  pub actual : IsClean pair.actual

abbrev pub IsCleanBody : Body → Type 0
IsCleanBody (Cover cover) = AreClean cover.inputs × IsClean cover.output
IsCleanBody (Latch latch) = IsClean latch.input × IsClean latch.output × ((control : List ℕ) → latch.control ≡ Some control → IsClean control)
IsCleanBody (Subckt subckt) = IsClean subckt.model × ((pair : Connection) → In subckt.pairs pair → IsCleanPair pair)

pub record IsCleanModel (m : ModelValue) : Type 0 where
  pub name : IsClean m.name
  pub ports : (p : Ports) → AreClean (ports_of p m)
  pub commands : (command : Command) → In m.commands command → IsCleanBody command.body

pub record HasCleanNames (library : LibraryValue) : Type 0 where
  pub each : (m : ModelValue) → In library.models m → IsCleanModel m
