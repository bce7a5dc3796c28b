-- Worked examples: rows of the wrong length, connections and latches as they are written, an off-set row without inputs, and short names of ports.
use Rattle.blif_read.proofs.Common.{◌≡◌, ℕ, ◌<◌, ◌^◌, true, false, List, [], ◌∷◌, ◌++◌, length, codes, Some, None, refl, sym, ap, subst, inl, inr, arith, same_Some, In, BadLatch, LatchKind, Zero, One, Any, CoverValue, matches, cover_value, row_of, connection_of, latch_fault, ModelValue, read_fault, HasShortPorts}

-- a row matches values of its length, and none of another
as_long : matches (One ∷ Any ∷ Zero ∷ []) (true ∷ false ∷ false ∷ []) ≡ true
as_long = refl

longer : matches (One ∷ Any ∷ []) (true ∷ []) ≡ false
longer = refl

shorter : matches (One ∷ []) (true ∷ true ∷ []) ≡ false
shorter = refl

-- the first `=` splits, and a formal may end in `\`
two_signs : connection_of (codes "i=a=b") ≡ Some (record { formal = codes "i"; actual = codes "a=b" })
two_signs = refl

slash_formal : connection_of (codes "x\\=a") ≡ Some (record { formal = codes "x\\"; actual = codes "a" })
slash_formal = refl

no_sign : connection_of (codes "ia") ≡ None
no_sign = refl

-- an unknown type comes before a wrong init, and so does one that isn't accepted
unknown_type : latch_fault 3 (codes "a" ∷ codes "b" ∷ codes "xx" ∷ codes "c" ∷ codes "9" ∷ []) ≡ Some (BadLatch 3)
unknown_type = refl

other_type : latch_fault 3 (codes "a" ∷ codes "b" ∷ codes "as" ∷ codes "c" ∷ codes "9" ∷ []) ≡ Some (LatchKind 3)
other_type = refl

wrong_init : latch_fault 3 (codes "a" ∷ codes "b" ∷ codes "re" ∷ codes "c" ∷ codes "9" ∷ []) ≡ Some (BadLatch 3)
wrong_init = refl

-- `.names y` and the row `0`: the row matches the empty list of values, so the cover is 0
off_row : row_of 0 (codes "0" ∷ []) ≡ Some (record { cells = []; value = false })
off_row = refl

abbrev off_cover : CoverValue
off_cover = record { inputs = []; output = codes "y"; value = false; rows = record { cells = [] } ∷ [] }

off_value : cover_value off_cover [] ≡ false
off_value = refl

off_text : read_fault (codes ".model m\n.names y\n0\n") ≡ None
off_text = refl

-- the names `a` and `out` of the ports of the first model are short; those of the other models don't count
abbrev wire : ModelValue
wire = record { name = codes "m"; line = 1; inputs = codes "a" ∷ []; outputs = codes "out" ∷ []; clocks = []; commands = [] }

short_name : (name : List ℕ) → In (codes "a" ∷ codes "out" ∷ []) name → length name < 2 ^ 32
short_name name (inl e) = let l : length name ≡ 1 = ap length e in let less : length name < 4294967296 = omega arith in less
short_name name (inr (inl e)) = let l : length name ≡ 3 = ap length e in let less : length name < 4294967296 = omega arith in less
short_name name (inr (inr b)) = absurd b

short_ports : (others : List ModelValue) → HasShortPorts (record { models = wire ∷ others })
short_ports others m at name i = short_name name (subst (λ (n : ModelValue). In (n.inputs ++ (n.clocks ++ n.outputs)) name) (sym (same_Some wire m at)) i)
