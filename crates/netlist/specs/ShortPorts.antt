-- Names of ports that are short enough for their bytes to be counted in 32 bits.
use Rattle.std.specs.Prelude.{◌≡◌, ◌<◌, ◌^◌, ℕ, List, ◌++◌, length, Some}
use Rattle.std.specs.List.{slice_get}
use Rattle.list_laws.specs.Members.{In}
use Rattle.netlist.specs.LibraryValue.{ModelValue, LibraryValue}

-- the ports of the main model, which is the first, have names of fewer than 2 ^ 32 bytes
abbrev pub HasShortPorts : LibraryValue → Type 0
HasShortPorts library = (m : ModelValue) → slice_get library.models 0 ≡ Some m → (name : List ℕ) → In (m.inputs ++ (m.clocks ++ m.outputs)) name → length name < 2 ^ 32
