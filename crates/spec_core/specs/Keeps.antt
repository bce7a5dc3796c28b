-- What a specialiser keeps between events.
use Rattle.std.specs.Prelude.{◌≡◌, ℕ, ◌≤◌, Bool, false, List, length, take, drop, replicate, [], ◌∷◌, ◌++◌, map, slice_set}
use Rattle.spec_core.specs.Words.{Assign, assigned, AreAscending, AreBitsOf, written, first_and, node_count, AreNormal, FitsGraph, PackValue, Write}
use Rattle.ppc_pack.specs.declared.pack.TheConstants.{MOST_PACK_BITS}
use Rattle.spec_core.specs.Sweep.{EvaluationValue, Progress, IsSwept}
use Rattle.std.specs.List.{filter, range_with_len}
use Rattle.spec_core.specs.Differences.{write_of}

pub record DeviceValue : Type 0 where
  pub config : List Bool
  pub writes : List Write

-- one more write
abbrev pub with_write : DeviceValue → ℕ → Bool → DeviceValue
with_write device address bit = record { config = slice_set device.config address bit; writes = device.writes ++ record { address = address; bit = bit } ∷ [] }

-- the bits of a configuration at the addresses that pass a test, ascending
abbrev pub writes_where : (ℕ → Bool) → List Bool → List Write
writes_where test to = map (write_of to) (filter test (range_with_len 0 (length to)))

-- the writes are the bits of a configuration at the addresses that pass a test, and were sent
pub record IsSent (test : ℕ → Bool) (to : List Bool) (old new : DeviceValue) : Type 0 where
  pub writes : new.writes ≡ writes_where test to
  pub config : new.config ≡ written old.config new.writes

-- the values of the parameters among those of all nodes: after that of the constant
abbrev pub params_in : PackValue → List Bool → List Bool
params_in pack values = take (length pack.params) (drop 1 values)

-- the values are those of the nodes under the parameters' values, and no mark is set
pub record IsIdle (pack : PackValue) (now : Progress) : Type 0 where
  pub fits : FitsGraph pack.graph (params_in pack now.values) now.values
  pub nodes : now.nodes ≡ replicate (node_count pack.graph) false
  pub addresses : now.addresses ≡ replicate (length pack.bits) false

-- The evaluation is of a pack and idle, the device has a bit for each of the pack's, and the last event's writes ascend and are bits of the configuration.
pub record Keeps (evaluation : EvaluationValue) (device : DeviceValue) : Type 0 where
  pub idle : IsIdle evaluation.pack evaluation.now
  pub normal : AreNormal (first_and evaluation.pack.graph) evaluation.pack.graph.pairs
  pub few : length evaluation.pack.bits ≤ MOST_PACK_BITS
  pub bits : length device.config ≡ length evaluation.pack.bits
  pub ascending : AreAscending device.writes
  pub sent : AreBitsOf device.config device.writes

-- An evaluation ran through a change of its parameters, in these steps: its values are those under the parameters' new values, no node is marked, and exactly the addresses are whose nodes changed.
pub record IsChange (pack : PackValue) (assigns : List Assign) (old now : Progress) (start end : ℕ) : Type 0 where
  pub params : params_in pack now.values ≡ assigned (params_in pack old.values) assigns
  pub fits : FitsGraph pack.graph (params_in pack now.values) now.values
  pub swept : IsSwept pack old.values now.values now start end
