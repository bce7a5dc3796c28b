-- The line that a port over a file writes for a bit.
use Rattle.std.specs.Prelude.{ℕ, Bool, if◌then◌else◌, List, ◌++◌, codes, decimal}

-- the address, `=`, the bit and a line end
abbrev pub port_line : ℕ → Bool → List ℕ
port_line address bit = decimal address ++ (if bit then codes "=1\n" else codes "=0\n")
