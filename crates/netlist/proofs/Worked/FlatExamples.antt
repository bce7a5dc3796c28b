-- A worked example of flat circuits: two inverters in a row, each an instance, and a latch behind them.
use Rattle.netlist.proofs.Common.{◌≡◌, true, false, [], ◌∷◌, codes, None, refl, inl, inr, Zero, Cover, Latch, Subckt, LatchValue, ModelValue, cover_net, cover_output, from_inside, from_outside, is_cover, FlatOrder, flat, flat_roots, IsNetOf, a_cover, most_underscores, flat_machine, CoverValue, SubcktValue, LibraryValue, Places, FlatValue, more, none}
use Rattle.netlist.specs.declared.flat.FlatNet.TheVariants as net

-- .model top / .inputs a / .outputs y q / .subckt inv i=a o=t / .subckt inv i=t o=y / .latch y q 1 / .model inv / .inputs i / .outputs o / .names i o / 0 1
abbrev flip : CoverValue
flip = record { inputs = codes "i" ∷ []; output = codes "o"; value = true; rows = record { cells = Zero ∷ [] } ∷ [] }

abbrev first : SubcktValue
first = record { model = codes "inv"; pairs = record { formal = codes "i"; actual = codes "a" } ∷ record { formal = codes "o"; actual = codes "t" } ∷ [] }

abbrev second : SubcktValue
second = record { model = codes "inv"; pairs = record { formal = codes "i"; actual = codes "t" } ∷ record { formal = codes "o"; actual = codes "y" } ∷ [] }

abbrev kept : LatchValue
kept = record { input = codes "y"; output = codes "q"; control = None; init = true }

abbrev top : ModelValue
top = record {
  name = codes "top";
  line = 1;
  inputs = codes "a" ∷ [];
  outputs = codes "y" ∷ codes "q" ∷ [];
  clocks = [];
  commands = record { line = 4; body = Subckt first } ∷ record { line = 5; body = Subckt second } ∷ record { line = 6; body = Latch kept } ∷ [];
}

abbrev inverter : ModelValue
inverter = record { name = codes "inv"; line = 7; inputs = codes "i" ∷ []; outputs = codes "o" ∷ []; clocks = []; commands = record { line = 10; body = Cover flip } ∷ [] }

abbrev library : LibraryValue
library = record { models = top ∷ inverter ∷ [] }

abbrev at : Places
at = record { inputs = codes "a" ∷ []; latches = record { path = []; command = 2 } ∷ []; covers = record { path = 0 ∷ []; command = 0 } ∷ record { path = 1 ∷ []; command = 0 } ∷ [] }

-- In flat order the cover of the first instance comes before that of the second.
order : FlatOrder library is_cover [] top at.covers
order = flat (at.covers)
    (more first (second ∷ []) inverter (record { path = 0 ∷ []; command = 0 } ∷ []) (record { path = 1 ∷ []; command = 0 } ∷ []) refl refl (flat [] (none refl refl) refl)
    (more second [] inverter (record { path = 1 ∷ []; command = 0 } ∷ []) [] refl refl (flat [] (none refl refl) refl) (none refl refl) refl) refl) refl

-- The input of the second inverter is the net of the first one's cover: outwards by the formal i, then inwards by the formal o.
inner_net : IsNetOf library at (1 ∷ []) (codes "i") (net.Cover 0)
inner_net = record {
  net = cover_net (0 ∷ []) 0;
  drives = from_outside 1 [] (record { formal = codes "i"; actual = codes "t" }) (record { model = top; subckt = second; child = inverter; at = refl; is = refl; member = inl refl; places = refl }) refl refl refl
      (from_inside 0 (record { formal = codes "o"; actual = codes "t" }) (record { model = top; subckt = first; child = inverter; at = refl; is = refl; member = inr (inl refl); places = refl }) refl refl
      (cover_output 0 flip (record { model = inverter; at = refl; is = refl }) refl refl));
  numbered = a_cover (record { path = 0 ∷ []; command = 0 }) 0 refl refl refl;
}

-- the flat circuit
abbrev circuit : FlatValue
circuit = record {
  model = codes "top";
  inputs = codes "a" ∷ [];
  clocks = [];
  control = None;
  outputs = record { name = codes "y"; net = net.Cover 1 } ∷ record { name = codes "q"; net = net.Latch 0 } ∷ [];
  covers = record { model = 1; command = 0; inputs = net.Input 0 ∷ [] } ∷ record { model = 1; command = 0; inputs = net.Cover 0 ∷ [] } ∷ [];
  latches = record { input = net.Cover 1; init = true; clocked = false } ∷ [];
  order = 0 ∷ 1 ∷ [];
  under = 0;
}

-- The roots are the cover at the output and the same one at the latch's input; the postorder has the first inverter before the second.
roots : flat_roots circuit ≡ 1 ∷ 1 ∷ []
roots = refl

-- A cycle with the input 1 in the state 0 has the outputs 1 and 0, and the next state 1.
cycle : (flat_machine library circuit).HasCycle (true ∷ []) (false ∷ []) (true ∷ false ∷ []) (true ∷ [])
cycle = record { states = refl; outputs_are = refl; next_are = refl }

-- two of `__a` and one of `_b`
under : most_underscores (codes "__a" ∷ codes "_b" ∷ codes "c_" ∷ []) ≡ 2
under = refl
