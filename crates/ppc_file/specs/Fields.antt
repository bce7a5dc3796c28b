-- The fields of a pack file, one by one: what is taken, and what is refused at which byte. Each field is refused as truncated before anything else of it is looked at.
use Rattle.std.specs.Prelude.{ℕ, ◌-◌, ◌*◌, ◌/◌, Bool, true, false, not, ◌||◌, ◌==◌, if◌then◌else◌, nat_lt, nat_le, List, [], ◌∷◌, length, map, take, drop, Ok, Err, bytes_eq}
use Rattle.std.specs.Int.{w16, w32}
use Rattle.std.specs.List.{list_any}
use Rattle.tl_text.specs.Lines.{ends_in}
use Rattle.tl_text.specs.NameSets.{has_name}
use Rattle.aig_core.specs.And.{is_pair}
use Rattle.ppc_file.specs.Words.{Lit, Pair, PackParam, MOST_PACK_NODES, MOST_PACK_BITS, MOST_PARAMETERS, MOST_NAME_BYTES}
use Rattle.ppc_file.specs.declared.pack_err.PackErr.TheVariants as refused
use Rattle.ppc_file.specs.declared.version.Version.{Version}
use Rattle.ppc_file.specs.declared.version.Version.TheVariants.{One, Two}
use Rattle.ppc_file.specs.Numbers.{Field, ◌>>=◌, offset, unless_over, number_at}
use Rattle.ppc_file.specs.Bytes.{magic}

-- so many bytes
abbrev pub bytes_at : ℕ → ℕ → List ℕ → Field (List ℕ)
bytes_at total count rest =
    if nat_lt (length rest) count then Err (refused.Truncated (offset total rest))
    else Ok (take count rest, drop count rest)

-- the four letters
abbrev pub if_magic : ℕ → List ℕ × List ℕ → Field (List ℕ)
if_magic at x = if not (bytes_eq x.0 magic) then Err (refused.Magic at) else Ok x

abbrev pub magic_at : ℕ → List ℕ → Field (List ℕ)
magic_at total rest = bytes_at total 4 rest >>= if_magic (offset total rest)

-- the version, two bytes in each version
abbrev pub version_by : ℕ → ℕ × List ℕ → Field Version
version_by at x = if x.0 == 1 then Ok (One, x.1) else if x.0 == 2 then Ok (Two, x.1) else Err (refused.Version at)

abbrev pub version_at : ℕ → List ℕ → Field Version
version_at total rest = number_at total One w16 rest >>= version_by (offset total rest)

-- how many parameters there are, how many nodes, and how many bits
abbrev pub param_count_at : ℕ → Version → List ℕ → Field ℕ
param_count_at total v rest = unless_over MOST_PARAMETERS (refused.BadNumber (offset total rest)) (number_at total v w16 rest)

abbrev pub node_count_at : ℕ → Version → List ℕ → Field ℕ
node_count_at total v rest = unless_over MOST_PACK_NODES (refused.BadNode (offset total rest)) (number_at total v w32 rest)

abbrev pub bit_count_at : ℕ → Version → List ℕ → Field ℕ
bit_count_at total v rest = unless_over MOST_PACK_BITS (refused.BadBit (offset total rest)) (number_at total v w32 rest)

-- how many bytes the name of a parameter has: one at least
abbrev pub if_some : ℕ → ℕ × List ℕ → Field ℕ
if_some at x = if x.0 == 0 then Err (refused.BadName at) else Ok x

abbrev pub name_length_at : ℕ → Version → List ℕ → Field ℕ
name_length_at total v rest = unless_over MOST_NAME_BYTES (refused.BadName (offset total rest)) (number_at total v w16 rest) >>= if_some (offset total rest)

-- a byte that no name has: one below 33, `#` (35) or 127
abbrev pub is_bad_byte : ℕ → Bool
is_bad_byte b = nat_lt b 33 || ((b == 35) || (b == 127))

-- has it such a byte, does it end in `\` (92), or stood it earlier
abbrev pub is_bad_name : List (List ℕ) → List ℕ → Bool
is_bad_name earlier name = list_any is_bad_byte name || (ends_in 92 name || has_name earlier name)

abbrev pub if_good_name : ℕ → List (List ℕ) → List ℕ × List ℕ → Field (List ℕ)
if_good_name at earlier x = if is_bad_name earlier x.0 then Err (refused.BadName at) else Ok x

abbrev pub name_at : ℕ → List (List ℕ) → ℕ → List ℕ → Field (List ℕ)
name_at total earlier count rest = bytes_at total count rest >>= if_good_name (offset total rest) earlier

-- the value at the start: a byte 0 or 1
abbrev pub value_at : ℕ → List ℕ → Field Bool
value_at total [] = Err (refused.Truncated (offset total []))
value_at total (b ∷ rest) = if b == 0 then Ok (false, rest) else if b == 1 then Ok (true, rest) else Err (refused.BadName (offset total (b ∷ rest)))

abbrev pub names_of_params : List PackParam → List (List ℕ)
names_of_params ps = map (λ (p : PackParam). p.name) ps

-- a parameter after others with these names: three fields
abbrev pub with_name : List ℕ → Bool × List ℕ → Field PackParam
with_name name x = Ok (record { name = name; init = x.0 }, x.1)

abbrev pub value_behind : ℕ → List ℕ × List ℕ → Field PackParam
value_behind total x = value_at total x.1 >>= with_name x.0

abbrev pub name_behind : ℕ → List (List ℕ) → ℕ × List ℕ → Field PackParam
name_behind total earlier x = name_at total earlier x.0 x.1 >>= value_behind total

abbrev pub param_at : ℕ → Version → List (List ℕ) → List ℕ → Field PackParam
param_at total v earlier rest = name_length_at total v rest >>= name_behind total earlier

abbrev pub pair : ℕ → ℕ → Pair
pair x y = record { x = record { 0 = x }; y = record { 0 = y } }

-- the fan-ins of the node with this index, as they stand: in version 1 a field of eight bytes, in version 2 two numbers
abbrev pub higher_behind : ℕ → ℕ × List ℕ → Field Pair
higher_behind total x = number_at total One w32 x.1 >>= λ y. Ok (pair x.0 y.0, y.1)

abbrev pub lower_behind : ℕ → ℕ → ℕ × List ℕ → Field Pair
lower_behind total node x = number_at total Two w32 x.1 >>= λ y. Ok (pair (2 * node - x.0 - y.0) (2 * node - x.0), y.1)

abbrev pub fan_ins_at : ℕ → Version → ℕ → List ℕ → Field Pair
fan_ins_at total One node rest =
    if nat_lt (length rest) 8 then Err (refused.Truncated (offset total rest))
    else number_at total One w32 rest >>= higher_behind total
fan_ins_at total Two node rest = number_at total Two w32 rest >>= lower_behind total node

-- a constant, not in order, of one node, or not below the node
abbrev pub is_bad_pair : ℕ → Pair → Bool
is_bad_pair node p = nat_lt p.x.0 2 || (nat_le p.y.0 p.x.0 || (((p.x.0 / 2) == (p.y.0 / 2)) || nat_le node (p.y.0 / 2)))

-- or a pair that stood earlier
abbrev pub if_new_pair : ℕ → ℕ → List Pair → Pair × List ℕ → Field Pair
if_new_pair at node earlier x =
    if is_bad_pair node x.0 || list_any (is_pair x.0.x.0 x.0.y.0) earlier then Err (refused.BadNode at) else Ok x

abbrev pub node_at : ℕ → Version → ℕ → List Pair → List ℕ → Field Pair
node_at total v node earlier rest = fan_ins_at total v node rest >>= if_new_pair (offset total rest) node earlier

-- the literal of a bit, of a node with an index below a number
abbrev pub if_literal : ℕ → ℕ → ℕ × List ℕ → Field Lit
if_literal at nodes x = if nat_le nodes (x.0 / 2) then Err (refused.BadBit at) else Ok (record { 0 = x.0 }, x.1)

abbrev pub bit_at : ℕ → Version → ℕ → List ℕ → Field Lit
bit_at total v nodes rest = number_at total v w32 rest >>= if_literal (offset total rest) nodes
