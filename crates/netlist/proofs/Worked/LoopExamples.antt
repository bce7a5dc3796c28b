-- A worked example of loops: two covers that read each other through two instances.
use Rattle.netlist.proofs.Common.{ℕ, true, List, [], ◌∷◌, codes, refl, inl, inr, Cover, Subckt, Connection, ModelValue, CoverAt, ConnectionAt, cover_output, from_inside, from_outside, Place, ReadsCover, Depends, direct, through, IsSound, CoverValue, SubcktValue, LibraryValue}
use Rattle.netlist.specs.declared.cell.Cell.TheVariants.{One}

-- .model top / .inputs a / .outputs y / .subckt g i=a f=y o=x / .subckt g i=a f=x o=y / .model g / .inputs i f / .outputs o / .names i f o / 11 1
abbrev both : CoverValue
both = record { inputs = codes "i" ∷ codes "f" ∷ []; output = codes "o"; value = true; rows = record { cells = One ∷ One ∷ [] } ∷ [] }

abbrev pair : List ℕ → List ℕ → Connection
pair formal actual = record { formal = formal; actual = actual }

abbrev first : SubcktValue
first = record { model = codes "g"; pairs = pair (codes "i") (codes "a") ∷ pair (codes "f") (codes "y") ∷ pair (codes "o") (codes "x") ∷ [] }

abbrev second : SubcktValue
second = record { model = codes "g"; pairs = pair (codes "i") (codes "a") ∷ pair (codes "f") (codes "x") ∷ pair (codes "o") (codes "y") ∷ [] }

abbrev top : ModelValue
top = record { name = codes "top"; line = 1; inputs = codes "a" ∷ []; outputs = codes "y" ∷ []; clocks = []; commands = record { line = 4; body = Subckt first } ∷ record { line = 5; body = Subckt second } ∷ [] }

abbrev gate : ModelValue
gate = record { name = codes "g"; line = 6; inputs = codes "i" ∷ codes "f" ∷ []; outputs = codes "o" ∷ []; clocks = []; commands = record { line = 9; body = Cover both } ∷ [] }

abbrev library : LibraryValue
library = record { models = top ∷ gate ∷ [] }

-- the cover of each instance, and how the instances are connected
abbrev cover_of : ℕ → Place
cover_of k = record { path = k ∷ []; command = 0 }

first_cover : CoverAt library (0 ∷ []) 0 both
first_cover = record { model = gate; at = refl; is = refl }

second_cover : CoverAt library (1 ∷ []) 0 both
second_cover = record { model = gate; at = refl; is = refl }

abbrev first_in : ConnectionAt library [] 0 (pair (codes "f") (codes "y"))
first_in = record { model = top; subckt = first; child = gate; at = refl; is = refl; member = inr (inl refl); places = refl }

abbrev first_out : ConnectionAt library [] 0 (pair (codes "o") (codes "x"))
first_out = record { model = top; subckt = first; child = gate; at = refl; is = refl; member = inr (inr (inl refl)); places = refl }

abbrev second_in : ConnectionAt library [] 1 (pair (codes "f") (codes "x"))
second_in = record { model = top; subckt = second; child = gate; at = refl; is = refl; member = inr (inl refl); places = refl }

abbrev second_out : ConnectionAt library [] 1 (pair (codes "o") (codes "y"))
second_out = record { model = top; subckt = second; child = gate; at = refl; is = refl; member = inr (inr (inl refl)); places = refl }

-- The first instance's cover reads f, which is y outside, which the second instance's cover drives; and the other way round by x.
first_reads : ReadsCover library (cover_of 0) (cover_of 1)
first_reads = record {
  cover = both;
  is = first_cover;
  name = codes "f";
  input = inr (inl refl);
  drives = from_outside 0 [] (pair (codes "f") (codes "y")) first_in refl refl refl
      (from_inside 1 (pair (codes "o") (codes "y")) second_out refl refl (cover_output 0 both second_cover refl refl));
}

second_reads : ReadsCover library (cover_of 1) (cover_of 0)
second_reads = record {
  cover = both;
  is = second_cover;
  name = codes "f";
  input = inr (inl refl);
  drives = from_outside 1 [] (pair (codes "f") (codes "x")) second_in refl refl refl
      (from_inside 0 (pair (codes "o") (codes "x")) first_out refl refl (cover_output 0 both first_cover refl refl));
}

-- So each depends on itself, and the library isn't sound.
first_depends : Depends library (cover_of 0) (cover_of 0)
first_depends = through (cover_of 1) first_reads (direct second_reads)

unsound : IsSound library → ⊥
unsound sound = sound.no_loop (cover_of 0) first_depends
