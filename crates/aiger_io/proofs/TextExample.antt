-- Worked examples: texts and their circuits, libraries and runs, texts that are refused, and the circuit of a graph and its text. Those of the format's own
-- pages are among them.
use Rattle.aiger_io.proofs.Common.{◌≡◌, ℕ, zero, suc, ◌+◌, ◌/◌, lit<, Bool, true, false, List, [], ◌∷◌, ◌++◌, Some, None, codes, inl, inr, refl, ap, subst, arith, slice_get, decimal_digit, Zero, One, IsAigerText, Circuit, variable_name, next_name, library_of, default_name, IsRefused, IsCircuitCycle, Input, Latch, Output, And, sym, RootsValue, FlatValue, Param, graph_circuit, circuit_text}
use Rattle.netlist.specs.declared.command.Body.TheVariants as body
use Rattle.aiger_io.specs.declared.aag_err.AagErr.TheVariants as aag_err
use Rattle.aiger_io.proofs.Format.SettledLemmas.{is_text, is_told}
use Rattle.std.specs.Fmt.{digits}
use Rattle.aig_core.proofs.ValueExample.{multiplexer}
use Rattle.netlist.specs.declared.flat.FlatNet.TheVariants as net

-- a latch that toggles, and an output that is its complement
abbrev toggle : Circuit
toggle = record {
  header = record { variables = 1; inputs = 0; latches = 1; outputs = 2; ands = 0 };
  items = Latch 2 3 false ∷ Output 2 ∷ Output 3 ∷ [];
  inputs = [];
  outputs = default_name 111 0 ∷ default_name 111 1 ∷ [];
}

toggle_is_text : IsAigerText (codes "aag 1 0 1 2 0\n2 3\n2\n3\n") toggle
toggle_is_text = is_text _ _ refl refl

-- its library: constant 0, the latch's next state, the latch, and the outputs
abbrev one_variable : ℕ → List ℕ
one_variable v = variable_name (codes "_") v

toggle_is : library_of toggle ≡ record {
  models = record {
    name = codes "aag";
    line = 1;
    inputs = [];
    outputs = toggle.outputs;
    clocks = [];
    commands = record { line = 1; body = body.Cover (record { inputs = []; output = one_variable 0; value = true; rows = [] }) }
        ∷ record { line = 2; body = body.Cover (record { inputs = one_variable 1 ∷ []; output = next_name (codes "_") 0; value = true; rows = record { cells = Zero ∷ [] } ∷ [] }) }
        ∷ record { line = 2; body = body.Latch (record { input = next_name (codes "_") 0; output = one_variable 1; control = None; init = false }) }
        ∷ record { line = 3; body = body.Cover (record { inputs = one_variable 1 ∷ []; output = default_name 111 0; value = true; rows = record { cells = One ∷ [] } ∷ [] }) }
        ∷ record { line = 4; body = body.Cover (record { inputs = one_variable 1 ∷ []; output = default_name 111 1; value = true; rows = record { cells = Zero ∷ [] } ∷ [] }) } ∷ [];
  } ∷ [];
}
toggle_is = refl

-- the names are as they look
names_are : (default_name 111 1 ≡ codes "o1") × (one_variable 1 ≡ codes "_v1") × (next_name (codes "_") 0 ≡ codes "_x0")
names_are = (ap (λ d. 111 ∷ d) (decimal_digit 1 (lit< tt)), ap (λ d. 95 ∷ 118 ∷ d) (decimal_digit 1 (lit< tt)), ap (λ d. 95 ∷ 120 ∷ d) (decimal_digit 0 (lit< tt)))

no_input : (k own : ℕ) → slice_get toggle.items k ≡ Some (Input own) → ⊥
no_input zero own e = cc
no_input (suc zero) own e = cc
no_input (suc (suc zero)) own e = cc
no_input (suc (suc (suc k))) own e = cc

-- a cycle of it from the state 0: the outputs are 0 and 1, and the next state is 1
toggle_value : ℕ → Bool
toggle_value v = false

only_latch : (k own next : ℕ) (init : Bool) → slice_get toggle.items (0 + k) ≡ Some (Latch own next init) → slice_get (false ∷ []) k ≡ Some (toggle_value (own / 2))
unfolding toggle_value
only_latch zero own next init e = refl
only_latch (suc zero) own next init e = absurd (cc)
only_latch (suc (suc zero)) own next init e = absurd (cc)
only_latch (suc (suc (suc k))) own next init e =
    let z : 0 + suc (suc (suc k)) ≡ suc (suc (suc k)) = omega arith in
    let q : slice_get toggle.items (suc (suc (suc k))) ≡ Some (Latch own next init) = subst (λ i. slice_get toggle.items i ≡ Some (Latch own next init)) z e in absurd (cc)

pub cycle_of_toggle : IsCircuitCycle toggle [] (false ∷ []) (false ∷ true ∷ []) (true ∷ [])
unfolding toggle_value
cycle_of_toggle = record {
  inputs = refl;
  states = refl;
  value = toggle_value;
  fits = record {
    zero_is = refl;
    inputs = λ k own e. absurd (no_input k own e);
    latches = λ k own next init e. only_latch k own next init e;
    ands = λ own left right i. elim i [ inl e ↦ cc | inr j ↦ elim j [ inl e ↦ cc | inr l ↦ elim l [ inl e ↦ cc | inr m ↦ absurd m ] ] ];
  };
  outputs_are = refl;
  next_are = refl;
}

-- the init of a latch: none, `0`, its own literal, and `1`
inits_are : IsAigerText (codes "aag 4 0 4 0 0\n2 0\n4 0 0\n6 0 6\n8 0 1") (record {
  header = record { variables = 4; inputs = 0; latches = 4; outputs = 0; ands = 0 };
  items = Latch 2 0 false ∷ Latch 4 0 false ∷ Latch 6 0 false ∷ Latch 8 0 true ∷ [];
  inputs = [];
  outputs = [];
})
inits_are = is_text _ _ refl refl

-- the empty circuit, constant 1, and an inverter
empty_is : IsAigerText (codes "aag 0 0 0 0 0\n") (record { header = record { variables = 0; inputs = 0; latches = 0; outputs = 0; ands = 0 }; items = []; inputs = []; outputs = [] })
empty_is = is_text _ _ refl refl

inverter_is : IsAigerText (codes "aag 1 1 0 1 0\n2\n3\n") (record {
  header = record { variables = 1; inputs = 1; latches = 0; outputs = 1; ands = 0 };
  items = Input 2 ∷ Output 3 ∷ [];
  inputs = default_name 105 0 ∷ [];
  outputs = default_name 111 0 ∷ [];
})
inverter_is = is_text _ _ refl refl

-- the half adder, whose gates stand in an order of their own
half_adder_is : IsAigerText (codes "aag 7 2 0 2 3\n2\n4\n6\n12\n6 13 15\n12 2 4\n14 3 5\ni0 x\ni1 y\no0 s\no1 c\nc\nhalf adder\n") (record {
  header = record { variables = 7; inputs = 2; latches = 0; outputs = 2; ands = 3 };
  items = Input 2 ∷ Input 4 ∷ Output 6 ∷ Output 12 ∷ And 6 13 15 ∷ And 12 2 4 ∷ And 14 3 5 ∷ [];
  inputs = codes "x" ∷ codes "y" ∷ [];
  outputs = codes "s" ∷ codes "c" ∷ [];
})
half_adder_is = is_text _ _ refl refl

-- a toggle that is enabled and reset
enabled_is : IsAigerText (codes "aag 7 2 1 2 4\n2\n4\n6 8\n6\n7\n8 4 10\n10 13 15\n12 2 6\n14 3 7\n") (record {
  header = record { variables = 7; inputs = 2; latches = 1; outputs = 2; ands = 4 };
  items = Input 2 ∷ Input 4 ∷ Latch 6 8 false ∷ Output 6 ∷ Output 7 ∷ And 8 4 10 ∷ And 10 13 15 ∷ And 12 2 6 ∷ And 14 3 7 ∷ [];
  inputs = default_name 105 0 ∷ default_name 105 1 ∷ [];
  outputs = default_name 111 0 ∷ default_name 111 1 ∷ [];
})
enabled_is = is_text _ _ refl refl

-- a multiplexer, with its symbols; a carriage return before a line feed is dropped, and the comment isn't read
multiplexer_is_text : IsAigerText (codes "aag 6 3 0 1 3\r\n2\n4\n6\n13\n8 6 2\n10 7 4\n12 11 9\ni0 a\ni1 __b\ni2 p\no0 y\nc\n\nno line" ++ 1 ∷ []) (record {
  header = record { variables = 6; inputs = 3; latches = 0; outputs = 1; ands = 3 };
  items = Input 2 ∷ Input 4 ∷ Input 6 ∷ Output 13 ∷ And 8 6 2 ∷ And 10 7 4 ∷ And 12 11 9 ∷ [];
  inputs = codes "a" ∷ codes "__b" ∷ codes "p" ∷ [];
  outputs = codes "y" ∷ [];
})
multiplexer_is_text = is_text _ _ refl refl

-- the header: of a later version, with too few numbers, with two blanks, with numbers that don't go together, and of no text
headers : IsRefused (codes "aag 0 0 0 0 0 1") aag_err.Unsupported
    × IsRefused (codes "aag 0 0 0 0\n") aag_err.Header
    × IsRefused (codes "aag  0 0 0 0 0") aag_err.Header
    × IsRefused (codes "aag 1 1 0 0 1\n2\n4 2 2") aag_err.Header
    × IsRefused [] aag_err.Header
headers = (is_told _ _ refl refl, is_told _ _ refl refl, is_told _ _ refl refl, is_told _ _ refl refl, is_told _ _ refl refl)

-- an odd literal of an input, one that is too great, a line that isn't there, and a form, which comes before the range: this latch's literal is odd, and its
-- init is another literal than its own
lines_told : IsRefused (codes "aag 1 1 0 1 0\n3\n2") (aag_err.Range 2)
    × IsRefused (codes "aag 1 1 0 1 0\n2\n4\n") (aag_err.Range 3)
    × IsRefused (codes "aag 1 1 0 1 0\n2\n") (aag_err.Malformed 3)
    × IsRefused (codes "aag 2 0 1 0 0\n3 0 2\n") (aag_err.Malformed 2)
lines_told = (is_told _ _ refl refl, is_told _ _ refl refl, is_told _ _ refl refl, is_told _ _ refl refl)

-- symbols: an empty line, an ordinal that isn't there, one that stood earlier, a blank in a name, and names that are alike: a latch may have any port's name,
-- and an output may not have an input's
pub symbols_told : IsRefused (codes "aag 1 1 0 0 0\n2\n\n") (aag_err.Malformed 3)
    × IsRefused (codes "aag 1 1 0 0 0\n2\ni1 a\n") (aag_err.BadSymbol 3 (codes "a"))
    × IsRefused (codes "aag 1 1 0 0 0\n2\ni0 a\ni0 b\n") (aag_err.BadSymbol 4 (codes "b"))
    × IsRefused (codes "aag 1 1 0 0 0\n2\ni0 a b\n") (aag_err.BadSymbol 3 (codes "a b"))
    × IsRefused (codes "aag 2 1 1 1 0\n2\n4 2\n2\nl0 a\no0 a\ni0 a\n") (aag_err.BadSymbol 6 (codes "a"))
symbols_told = (is_told _ _ refl refl, is_told _ _ refl refl, is_told _ _ refl refl, is_told _ _ refl refl, is_told _ _ refl refl)

-- the multiplexer's netlist: the inputs a, b and p, and the output y, which is one cover
abbrev flat : FlatValue
flat = record {
  model = codes "mux";
  inputs = codes "a" ∷ codes "b" ∷ codes "p" ∷ [];
  clocks = [];
  control = None;
  outputs = record { name = codes "y"; net = net.Cover 0 } ∷ [];
  covers = record { model = 0; command = 0; inputs = net.Input 0 ∷ net.Input 1 ∷ net.Input 2 ∷ [] } ∷ [];
  latches = [];
  order = 0 ∷ [];
  under = 0;
}

-- p is its parameter
abbrev params : List Param
params = record { name = codes "p"; input = 2; init = false } ∷ []

-- its root is the complement of node 6
abbrev roots : RootsValue
roots = record { outputs = record { 0 = 13 } ∷ []; next = [] }

abbrev circuit : Circuit
circuit = graph_circuit flat params (0 ∷ 1 ∷ []) multiplexer roots

-- its header, its items and its names
circuit_is : circuit ≡ record {
  header = record { variables = 6; inputs = 3; latches = 0; outputs = 1; ands = 3 };
  items = Input 2 ∷ Input 4 ∷ Input 6 ∷ Output 13 ∷ And 8 6 2 ∷ And 10 7 4 ∷ And 12 11 9 ∷ [];
  inputs = codes "a" ∷ codes "b" ∷ codes "p" ∷ [];
  outputs = codes "y" ∷ [];
}
circuit_is = refl

-- its text
text_is : circuit_text circuit ≡ codes "aag 6 3 0 1 3\n2\n4\n6\n13\n8 6 2\n10 7 4\n12 11 9\ni0 a\ni1 b\ni2 p\no0 y\n"
unfolding digits
text_is = refl

-- which is the circuit
is_circuit : IsAigerText (circuit_text circuit) circuit
is_circuit = subst (λ text. IsAigerText text circuit) (sym text_is) (is_text (codes "aag 6 3 0 1 3\n2\n4\n6\n13\n8 6 2\n10 7 4\n12 11 9\ni0 a\ni1 b\ni2 p\no0 y\n") circuit refl refl)
