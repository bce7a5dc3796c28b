-- Which addresses each port serves, and the writes of a region.
use Rattle.std.specs.Prelude.{ℕ, ◌+◌, ◌*◌, ◌/◌, ◌%◌, max, min, Bool, not, ◌==◌, List, take, drop}
use Rattle.std.specs.List.{filter}
use Rattle.port_bank.specs.Words.{Write, writes_from}

-- how many addresses a region has: the number of bits over that of the serving ports, rounded up
abbrev pub width : ℕ → ℕ → ℕ
width ports bits = bits / max ports 1 + min 1 (bits % max ports 1)

-- the number of the region that a write goes to
abbrev pub region_of : ℕ → Write → ℕ
region_of width write = write.address / width

-- a region of a configuration: each of its addresses, ascending, with its bit
abbrev pub region : ℕ → List Bool → ℕ → List Write
region width config i = writes_from (i * width) (take width (drop (i * width) config))

-- a write goes to another region
abbrev pub is_outside : ℕ → ℕ → Write → Bool
is_outside width i write = not (region_of width write == i)

-- those that go to other regions
abbrev pub outside : ℕ → ℕ → List Write → List Write
outside width i writes = filter (is_outside width i) writes
