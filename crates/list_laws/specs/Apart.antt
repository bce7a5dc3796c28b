-- Lists in which nothing occurs twice.
use Rattle.std.specs.Prelude.{List, [], ◌∷◌}
use Rattle.list_laws.specs.Members.{In}

abbrev pub AreApart : {A : Type 0} → List A → Type 0
AreApart [] = Unit {0}
AreApart (x ∷ xs) = (¬ (In xs x)) × AreApart xs
