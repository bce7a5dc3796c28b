-- Which events fit what a script may name.
use Rattle.std.specs.Prelude.{◌≡◌, ◌<◌, length, Some}
use Rattle.tl_io.specs.Assigns.{AreAssigned}
use Rattle.run_text.specs.EventValue.{EventValue, Set, Cycle, Upset, Scrub, Image}
use Rattle.run_text.specs.NamesValue.{NamesValue}

abbrev pub Fits : NamesValue → EventValue → Type 0
Fits names (Set assigns) = AreAssigned (length names.params) assigns
Fits names (Cycle values) = names.width ≡ Some (length values)
Fits names (Upset address) = address < names.bits
Fits names Scrub = Unit {0}
Fits names Image = Unit {0}
