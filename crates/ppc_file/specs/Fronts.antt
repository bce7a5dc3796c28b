-- The fronts of a pack file: what was read of it, and what comes next.
use Rattle.std.specs.Prelude.{ℕ, ◌+◌, ◌*◌, ◌<◌, ◌≤◌, if◌then◌else◌, nat_lt, List, [], ◌∷◌, ◌++◌, length, Option, Some, None, Ok, Err}
use Rattle.list_laws.specs.Members.{In}
use Rattle.tl_text.specs.Clean.{IsClean}
use Rattle.tl_text.specs.Once.{AreOnce}
use Rattle.ppc_file.specs.Words.{AreNormal, Lit, Pair, PackParam, MOST_PACK_NODES, MOST_PACK_BITS, MOST_PARAMETERS, MOST_NAME_BYTES}
use Rattle.ppc_file.specs.declared.pack_err.PackErr.TheVariants as refused
use Rattle.ppc_file.specs.declared.version.Version.{Version}
use Rattle.ppc_file.specs.Numbers.{Field, offset}
use Rattle.ppc_file.specs.Bytes.{magic, head_bytes, params_part, nodes_part, bits_part}
use Rattle.ppc_file.specs.Fields.{magic_at, version_at, param_count_at, node_count_at, bit_count_at, param_at, names_of_params, node_at, bit_at}

-- Nothing; the magic; the version; and then how many parameters, nodes or bits the file says that it has, and those that were read.
pub data Front : Type 0 where
  nothing : Front
  lettered : Front
  versioned : Version → Front
  in_params : Version → ℕ → List PackParam → Front
  in_nodes : Version → List PackParam → ℕ → List Pair → Front
  in_bits : Version → List PackParam → List Pair → ℕ → List Lit → Front

-- the bytes of a front
abbrev pub spelling : Front → List ℕ
spelling nothing = []
spelling lettered = magic
spelling (versioned v) = head_bytes v
spelling (in_params v count params) = head_bytes v ++ params_part v count params
spelling (in_nodes v params count pairs) = head_bytes v ++ (params_part v (length params) params ++ nodes_part v (1 + length params) count pairs)
spelling (in_bits v params pairs count bits) =
    head_bytes v ++ (params_part v (length params) params ++ (nodes_part v (1 + length params) (length pairs) pairs ++ bits_part v count bits))

-- what the parts of a front obey, as far as they were read
pub record AreParams (params : List PackParam) : Type 0 where
  pub few : length params ≤ MOST_PARAMETERS
  pub short : (p : PackParam) → In params p → length p.name ≤ MOST_NAME_BYTES
  pub clean : (p : PackParam) → In params p → IsClean p.name
  pub once : AreOnce (names_of_params params)

pub record AreNodes (params : List PackParam) (pairs : List Pair) : Type 0 where
  pub few : length pairs ≤ MOST_PACK_NODES
  pub normal : AreNormal (1 + length params) pairs

pub record AreBits (nodes : ℕ) (bits : List Lit) : Type 0 where
  pub few : length bits ≤ MOST_PACK_BITS
  pub below : (l : Lit) → In bits l → l.0 < 2 * nodes

pub record AreSome (most count read : ℕ) : Type 0 where
  pub few : count ≤ most
  pub within : read ≤ count

abbrev pub IsSound : Front → Type 0
IsSound nothing = Unit {0}
IsSound lettered = Unit {0}
IsSound (versioned v) = Unit {0}
IsSound (in_params v count params) = AreSome MOST_PARAMETERS count (length params) × AreParams params
IsSound (in_nodes v params count pairs) = AreSome MOST_PACK_NODES count (length pairs) × (AreParams params × AreNodes params pairs)
IsSound (in_bits v params pairs count bits) =
    AreSome MOST_PACK_BITS count (length bits) × (AreParams params × (AreNodes params pairs × AreBits (1 + length params + length pairs) bits))

-- the front with one more field
abbrev pub read_into : {A : Type 0} → (A → Front) → Field A → Field Front
read_into more (Ok x) = Ok (more x.0, x.1)
read_into more (Err e) = Err e

-- no byte follows a whole pack
abbrev pub end_at : ℕ → List ℕ → Option (Field Front)
end_at total [] = None
end_at total (b ∷ rest) = Some (Err (refused.Trailing (offset total (b ∷ rest))))

-- what comes next after a front: a field, which is taken or refused, or nothing where the pack is whole and the file ends
abbrev pub next_at : ℕ → Front → List ℕ → Option (Field Front)
next_at total nothing rest = Some (read_into (λ letters. lettered) (magic_at total rest))
next_at total lettered rest = Some (read_into versioned (version_at total rest))
next_at total (versioned v) rest = Some (read_into (λ count. in_params v count []) (param_count_at total v rest))
next_at total (in_params v count params) rest =
    if nat_lt (length params) count then Some (read_into (λ p. in_params v count (params ++ p ∷ [])) (param_at total v (names_of_params params) rest))
    else Some (read_into (λ n. in_nodes v params n []) (node_count_at total v rest))
next_at total (in_nodes v params count pairs) rest =
    if nat_lt (length pairs) count then Some (read_into (λ p. in_nodes v params count (pairs ++ p ∷ [])) (node_at total v (1 + length params + length pairs) pairs rest))
    else Some (read_into (λ n. in_bits v params pairs n []) (bit_count_at total v rest))
next_at total (in_bits v params pairs count bits) rest =
    if nat_lt (length bits) count then Some (read_into (λ l. in_bits v params pairs count (bits ++ l ∷ [])) (bit_at total v (1 + length params + length pairs) rest))
    else end_at total rest
