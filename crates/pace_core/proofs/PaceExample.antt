-- A worked example: a table of an input x whose two bits are p and not p, so that its output is x where p is 0, and not x where p is 1. The port takes one bit a tick.
use Rattle.pace_core.proofs.Common.{◌≡◌, ℕ, ◌+◌, ◌-◌, ◌*◌, ◌<◌, ◌≤◌, ◌==◌, nat_le, nat_lt, ◌&&◌, Bool, true, false, IsTrue, List, [], ◌∷◌, get_or, slice_index_or, refl, sym, ap, ◌∙◌, subst, inl, inr, arith, or_cases, and_parts, leb-true, ltb-true, none-some, Assign, In, node_value, FitsGraph, TemplateValue, PackValue, IsConf, Shape, address, FitsTables, IsTableCycle, IsOnlyTableCycle, Ask, Tick}
use Rattle.list_laws.specs.Digits.{number}
use Rattle.aig_core.specs.declared.lit.Kind.TheVariants.{Parameter}
use Rattle.cover_pick.specs.declared.lut.Lut.{Lut}
use Rattle.lut_sim.specs.Sources.{is_regular, source_value}
use Rattle.machine.specs.Machine.{none, more}
use Rattle.pace_core.specs.Pace.{PacerValue, asked, waited, cycled, IsPaced, ArePaced, steps, waits}

-- one parameter p, and the bits p and not p
abbrev pub pack : PackValue
pack = record {
  params = record { name = 112 ∷ []; init = false } ∷ [];
  graph = record { kinds = Parameter ∷ []; pairs = []; max = 0 };
  bits = record { 0 = 2 } ∷ record { 0 = 3 } ∷ [];
}

-- its nodes under a value of p
pub fits_at : (p : Bool) → FitsGraph pack.graph (p ∷ []) (false ∷ p ∷ [])
fits_at p = record {
  given = refl;
  count = refl;
  constant = refl;
  source = λ n above below. (let e : n ≡ 1 = omega arith in subst (λ m. node_value (false ∷ p ∷ []) m ≡ get_or (p ∷ []) (m - 1) false) (sym e) refl);
  node = λ n pair is. absurd (none-some pair is.is);
}

-- where p is 0
pub conf_at_0 : IsConf pack (false ∷ []) (false ∷ true ∷ [])
conf_at_0 = record { values = false ∷ false ∷ []; fits = fits_at false; are = refl }

-- where p is 1
pub conf_at_1 : IsConf pack (true ∷ []) (true ∷ false ∷ [])
conf_at_1 = record { values = false ∷ true ∷ []; fits = fits_at true; are = refl }

-- the table of the input, which is source 1; p is source 2
abbrev table : Lut
table = record { lit = record { 0 = 6 }; leaves = 1 ∷ []; base = 0 }

-- the output is the table's
abbrev template : TemplateValue
template = record { luts = table ∷ []; outputs = record { 0 = 6 } ∷ []; next = []; bits = 2; depth = 1 }

-- one input and one parameter
abbrev shape : Shape
shape = record { regular = 1; params = 1; latches = 0 }

-- the machine under a value of p, with these bits on its device, behind a cycle of this output
abbrev machine : Bool → List Bool → Bool → PacerValue
machine p config output = record { pack = pack; params = p ∷ []; config = config; sim = record { template = template; shape = shape; outputs = output ∷ []; states = [] }; rate = 1; looks = 0 }

-- p gets a value
abbrev p_gets : Bool → List Assign
p_gets bit = record { param = 0; bit = bit } ∷ []

-- where it gets 1, two bits differ
asks_1 : IsPaced (Ask (p_gets true)) (machine false (false ∷ true ∷ []) false) (machine true (false ∷ true ∷ []) false) (asked 2)
asks_1 = record { wanted = true ∷ false ∷ []; conf = conf_at_1; shows = refl; becomes = refl }

-- the first tick writes the lower address, whatever its input
waits_at_0 : (values : List Bool) → IsPaced (Tick values) (machine true (false ∷ true ∷ []) false) (machine true (true ∷ true ∷ []) false) (waited (record { address = 0; bit = true } ∷ []))
waits_at_0 values = waits (record { wanted = true ∷ false ∷ []; conf = conf_at_1; behind = omega arith; shows = refl; becomes = refl })

-- the second one writes the other, and is no cycle yet
waits_at_1 : (values : List Bool) → IsPaced (Tick values) (machine true (true ∷ true ∷ []) false) (machine true (true ∷ false ∷ []) false) (waited (record { address = 1; bit = false } ∷ []))
waits_at_1 values = waits (record { wanted = true ∷ false ∷ []; conf = conf_at_1; behind = omega arith; shows = refl; becomes = refl })

-- an ask back to 0 in between leaves one bit, the one that was written
asks_back : IsPaced (Ask (p_gets false)) (machine true (true ∷ true ∷ []) false) (machine false (true ∷ true ∷ []) false) (asked 1)
asks_back = record { wanted = false ∷ true ∷ []; conf = conf_at_0; shows = refl; becomes = refl }

-- so a tick writes it back
waits_back : (values : List Bool) → IsPaced (Tick values) (machine false (true ∷ true ∷ []) false) (machine false (false ∷ true ∷ []) false) (waited (record { address = 0; bit = false } ∷ []))
waits_back values = waits (record { wanted = false ∷ true ∷ []; conf = conf_at_0; behind = omega arith; shows = refl; becomes = refl })

-- an ask for the value that p has leaves none
asks_same : IsPaced (Ask (p_gets false)) (machine false (false ∷ true ∷ []) false) (machine false (false ∷ true ∷ []) false) (asked 0)
asks_same = record { wanted = false ∷ true ∷ []; conf = conf_at_0; shows = refl; becomes = refl }

-- the values of the literals where x is 0: the positive literal of the table is its first bit, which is 1
abbrev value_at : ℕ → Bool
value_at l = l == 6

-- source 1 is the only input
one_regular : (n : ℕ) → IsTrue (is_regular shape n) → n ≡ 1
one_regular n r = elim (or_cases (nat_le 1 n && nat_le n 1) (nat_lt 2 n && nat_le n 2) r) [
  | inl a ↦ (let p = and_parts (nat_le 1 n) (nat_le n 1) a in let l : 1 ≤ n = leb-true 1 n p.0 in let u : n ≤ 1 = leb-true n 1 p.1 in omega arith)
  | inr b ↦ (let p = and_parts (nat_lt 2 n) (nat_le n 2) b in let l : 2 < n = ltb-true 2 n p.0 in let u : n ≤ 2 = leb-true n 2 p.1 in absurd (omega arith))
]

-- the values fit the table
fits : FitsTables (table ∷ []) shape (true ∷ false ∷ []) (false ∷ []) [] value_at
fits = record {
  source = λ n r. let e : n ≡ 1 = one_regular n r in subst (λ m. value_at (2 * m) ≡ source_value shape (false ∷ []) [] m) (sym e) refl;
  table = λ t i plain. one_table t i;
}
  where
    -- there is no other table
    one_table : (t : Lut) → In (table ∷ []) t → value_at t.lit.0 ≡ slice_index_or (true ∷ false ∷ []) (address value_at t) false
    one_table t (inl e) = subst (λ (u : Lut). value_at u.lit.0 ≡ slice_index_or (true ∷ false ∷ []) (address value_at u) false) (sym e) refl
    one_table t (inr i) = elim i [ ]

-- so the third tick is a cycle, whose output is not x
cycle_at_1 : IsTableCycle template shape (true ∷ false ∷ []) (false ∷ []) [] (true ∷ []) []
cycle_at_1 = record { value = value_at; fits = fits; outputs_are = refl; next_are = refl }

-- whatever values fit, the output is this
only_cycle : IsOnlyTableCycle template shape (true ∷ false ∷ []) (false ∷ []) [] (true ∷ []) []
only_cycle = record { outputs_are = λ value other. ap (λ b. b ∷ []) (sym (output value other)); next_are = λ value other. refl }
  where
    -- their value of the table is the first bit
    output : (value : ℕ → Bool) → FitsTables (table ∷ []) shape (true ∷ false ∷ []) (false ∷ []) [] value → value 6 ≡ true
    output value other =
        let x : value 2 ≡ false = other.source 1 refl in
        other.table table (inl refl) refl ∙ ap (λ b. slice_index_or (true ∷ false ∷ []) (0 + number (b ∷ [])) false) x

-- the machine plays it
cycles : IsPaced (Tick (false ∷ [])) (machine true (true ∷ false ∷ []) false) (machine true (true ∷ false ∷ []) true) (cycled (true ∷ []) [])
cycles = steps (record { right = conf_at_1; outputs = true ∷ []; states = []; cycle = cycle_at_1; only = only_cycle; shows = refl; becomes = refl })

-- all of it, one after the other
all_paced : ArePaced (machine false (false ∷ true ∷ []) false) (Ask (p_gets true) ∷ Tick (true ∷ []) ∷ Tick (true ∷ []) ∷ Tick (false ∷ []) ∷ [])
    (asked 2 ∷ waited (record { address = 0; bit = true } ∷ []) ∷ waited (record { address = 1; bit = false } ∷ []) ∷ cycled (true ∷ []) [] ∷ []) (machine true (true ∷ false ∷ []) true)
all_paced =
    more (Ask (p_gets true)) (asked 2) (machine true (false ∷ true ∷ []) false) asks_1
    (more (Tick (true ∷ [])) (waited (record { address = 0; bit = true } ∷ [])) (machine true (true ∷ true ∷ []) false) (waits_at_0 (true ∷ []))
    (more (Tick (true ∷ [])) (waited (record { address = 1; bit = false } ∷ [])) (machine true (true ∷ false ∷ []) false) (waits_at_1 (true ∷ []))
    (more (Tick (false ∷ [])) (cycled (true ∷ []) []) (machine true (true ∷ false ∷ []) true) cycles none)))
