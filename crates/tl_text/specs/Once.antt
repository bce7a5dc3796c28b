-- Lists of names in which none occurs twice.
use Rattle.std.specs.Prelude.{ℕ, List}
use Rattle.list_laws.specs.Apart.{AreApart}

abbrev pub AreOnce : List (List ℕ) → Type 0
AreOnce names = AreApart names
