-- Worked examples: the events of a multiplexer of two LUTs of two bits, and the nodes of a chain that a change touches.
use Rattle.spec_core.proofs.Common.{◌≡◌, ◌-◌, Bool, true, false, List, [], ◌∷◌, get_or, refl, sym, subst, arith, none-some, Assign, Write, Aig, node_value, FitsGraph, PackValue, IsConf, HostState, IsSet, IsUpset, IsScrub, touched}
use Rattle.aig_core.specs.declared.lit.Kind.TheVariants.{Parameter}

-- one parameter p, and the bits 0, p, not p and 1
abbrev pub multiplexer : PackValue
multiplexer = record {
  params = record { name = 112 ∷ []; init = false } ∷ [];
  graph = record { kinds = Parameter ∷ []; pairs = []; max = 0 };
  bits = record { 0 = 0 } ∷ record { 0 = 2 } ∷ record { 0 = 3 } ∷ record { 0 = 1 } ∷ [];
}

fits_at : (p : Bool) → FitsGraph multiplexer.graph (p ∷ []) (false ∷ p ∷ [])
fits_at p = record {
  given = refl;
  count = refl;
  constant = refl;
  source = λ n above below. (let e : n ≡ 1 = omega arith in subst (λ m. node_value (false ∷ p ∷ []) m ≡ get_or (p ∷ []) (m - 1) false) (sym e) refl);
  node = λ n pair is. absurd (none-some pair is.is);
}

-- the states of the host with p at 0 and at 1, and what the bits of the device are
abbrev at : Bool → List Bool → HostState
at p config = record { params = p ∷ []; config = config }

abbrev at_0 : List Bool
at_0 = false ∷ false ∷ true ∷ true ∷ []

abbrev at_1 : List Bool
at_1 = false ∷ true ∷ false ∷ true ∷ []

conf_at_0 : IsConf multiplexer (false ∷ []) at_0
conf_at_0 = record { values = false ∷ false ∷ []; fits = fits_at false; are = refl }

conf_at_1 : IsConf multiplexer (true ∷ []) at_1
conf_at_1 = record { values = false ∷ true ∷ []; fits = fits_at true; are = refl }

-- p gets a value
abbrev p_gets : Bool → List Assign
p_gets value = record { param = 0; bit = value } ∷ []

-- the writes that take the device from p at 0 to p at 1
abbrev up : List Write
up = record { address = 1; bit = true } ∷ record { address = 2; bit = false } ∷ []

sets_1 : IsSet multiplexer (p_gets true) (at false at_0) up (at true at_1)
sets_1 = record { params = refl; from = at_0; before = conf_at_0; to = at_1; after = conf_at_1; are = refl; config = refl }

-- the value that it has makes no write
sets_same : IsSet multiplexer (p_gets false) (at false at_0) [] (at false at_0)
sets_same = record { params = refl; from = at_0; before = conf_at_0; to = at_0; after = conf_at_0; are = refl; config = refl }

-- the bit at 3 is upset, stays so through a change, and is set right by a scrub
upset_3 : IsUpset 3 (at false at_0) (record { address = 3; bit = false } ∷ []) (at false (false ∷ false ∷ true ∷ false ∷ []))
upset_3 = record { params = refl; is = refl; config = refl }

sets_upset_3 : IsSet multiplexer (p_gets true) (at false (false ∷ false ∷ true ∷ false ∷ [])) up (at true (false ∷ true ∷ false ∷ false ∷ []))
sets_upset_3 = record { params = refl; from = at_0; before = conf_at_0; to = at_1; after = conf_at_1; are = refl; config = refl }

scrub_3 : IsScrub multiplexer (at true (false ∷ true ∷ false ∷ false ∷ [])) (record { address = 3; bit = true } ∷ []) (at true at_1)
scrub_3 = record { params = refl; right = at_1; conf = conf_at_1; are = refl; config = refl }

-- the bit at 1 is upset to what the change makes it: it is written all the same, and nothing is left to scrub
upset_1 : IsUpset 1 (at false at_0) (record { address = 1; bit = true } ∷ []) (at false (false ∷ true ∷ true ∷ true ∷ []))
upset_1 = record { params = refl; is = refl; config = refl }

sets_upset_1 : IsSet multiplexer (p_gets true) (at false (false ∷ true ∷ true ∷ true ∷ [])) up (at true at_1)
sets_upset_1 = record { params = refl; from = at_0; before = conf_at_0; to = at_1; after = conf_at_1; are = refl; config = refl }

scrub_none : IsScrub multiplexer (at true at_1) [] (at true at_1)
scrub_none = record { params = refl; right = at_1; conf = conf_at_1; are = refl; config = refl }

-- A chain over three parameters: the node 4 is the product of the first two, and the node 5 that of the third and the node 4.
abbrev chain : Aig
chain = record {
  kinds = Parameter ∷ Parameter ∷ Parameter ∷ [];
  pairs = record { x = record { 0 = 2 }; y = record { 0 = 4 } } ∷ record { x = record { 0 = 6 }; y = record { 0 = 8 } } ∷ [];
  max = 2;
}

-- where all are 0 and the last parameter gets 1, one node is touched
touches_last : touched chain (false ∷ false ∷ false ∷ false ∷ false ∷ false ∷ []) (false ∷ false ∷ false ∷ true ∷ false ∷ false ∷ []) ≡ record { x = record { 0 = 6 }; y = record { 0 = 8 } } ∷ []
touches_last = refl

-- where all are 1 and the first gets 0, both are
touches_all : touched chain (false ∷ true ∷ true ∷ true ∷ true ∷ true ∷ []) (false ∷ false ∷ true ∷ true ∷ false ∷ false ∷ []) ≡ chain.pairs
touches_all = refl
