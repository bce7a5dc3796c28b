-- Worked examples: a multiplexer with a parameter, as a template and specialised, and a latch with a clock and a constant LUT.
use Rattle.blif_write.proofs.Common.{◌≡◌, true, false, [], ◌∷◌, Some, None, codes, refl, FlatValue, Param, TemplateValue, netlist_text, template_netlist, specialised_netlist}
use Rattle.std.specs.Fmt.{digits}
use Rattle.netlist.specs.declared.flat.FlatNet.TheVariants.{Input, Latch, Cover}

-- y is a where the parameter p is 0, and b where it is 1
multiplexer : FlatValue
multiplexer = record {
  model = codes "mux";
  inputs = codes "a" ∷ codes "b" ∷ codes "p" ∷ [];
  clocks = [];
  control = None;
  outputs = record { name = codes "y"; net = Cover 0 } ∷ [];
  covers = [];
  latches = [];
  order = [];
  under = 0;
}

chooses : Param
chooses = record { name = codes "p"; input = 2; init = false }

-- one table over a and b, of the literal 13
one_table : TemplateValue
one_table = record { luts = record { lit = record { 0 = 13 }; leaves = 1 ∷ 2 ∷ []; base = 0 } ∷ []; outputs = record { 0 = 13 } ∷ []; next = []; bits = 4; depth = 1 }

template_text : netlist_text (template_netlist multiplexer (chooses ∷ []) one_table)
    ≡ codes ".model mux\n.inputs a b\n.inputs _c0 _c1 _c2 _c3\n.outputs y\n.names a b _c0 _c1 _c2 _c3 _n13\n001--- 1\n10-1-- 1\n01--1- 1\n11---1 1\n.names _n13 y\n1 1\n.end\n"
unfolding digits multiplexer chooses one_table
template_text = refl

-- under p = 0 the table's bits are those of a
specialised_text : netlist_text (specialised_netlist multiplexer (chooses ∷ []) one_table (false ∷ true ∷ false ∷ true ∷ []))
    ≡ codes ".model mux\n.inputs a b\n.outputs y\n.names a b _n13\n10 1\n11 1\n.names _n13 y\n1 1\n.end\n"
unfolding digits multiplexer chooses one_table
specialised_text = refl

-- A latch, with the clock `_k`, takes the input `__x`; the outputs are its state, the input itself, and the constant 1. So own names begin with three underscores.
latched : FlatValue
latched = record {
  model = codes "m";
  inputs = codes "__x" ∷ [];
  clocks = codes "_k" ∷ [];
  control = Some (codes "_k");
  outputs = record { name = codes "q"; net = Latch 0 } ∷ record { name = codes "__x"; net = Input 0 } ∷ record { name = codes "one"; net = Cover 0 } ∷ [];
  covers = [];
  latches = record { input = Input 0; init = true; clocked = true } ∷ [];
  order = [];
  under = 2;
}

constant_table : TemplateValue
constant_table = record { luts = record { lit = record { 0 = 1 }; leaves = []; base = 0 } ∷ []; outputs = record { 0 = 4 } ∷ record { 0 = 2 } ∷ record { 0 = 1 } ∷ []; next = record { 0 = 2 } ∷ []; bits = 1; depth = 0 }

latched_text : netlist_text (specialised_netlist latched [] constant_table (true ∷ []))
    ≡ codes ".model m\n.inputs __x _k\n.outputs q __x one\n.latch __x ___l0 re _k 1\n.names ___n1\n1\n.names ___l0 q\n1 1\n.names ___n1 one\n1 1\n.end\n"
unfolding digits latched constant_table
latched_text = refl

-- a constant table whose bit is 0 has no row
zero_text : netlist_text (specialised_netlist latched [] constant_table (false ∷ []))
    ≡ codes ".model m\n.inputs __x _k\n.outputs q __x one\n.latch __x ___l0 re _k 1\n.names ___n1\n.names ___l0 q\n1 1\n.names ___n1 one\n1 1\n.end\n"
unfolding digits latched constant_table
zero_text = refl
