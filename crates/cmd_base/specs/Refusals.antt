-- The refusals of the command line itself.
use Rattle.std.specs.Prelude.{ℕ, codes}
use Rattle.ppc_pack.specs.declared.pack.TheConstants.{MOST_PACK_BYTES}
use Rattle.tl_text.specs.declared.logical_lines.TheConstants.{MOST_BYTES}
use Rattle.tl_fault.specs.RefusalValue.{RefusalValue, refusal}
use Rattle.tl_fault.specs.declared.refusal.Details.TheVariants.{Nothing}
use Rattle.cmd_base.specs.declared.outcome.File.{File}
use Rattle.cmd_base.specs.declared.outcome.File.TheVariants.{Netlist, Params, Script, Pack, Cert}

-- how many bytes a file may have
abbrev pub most_bytes : File → ℕ
most_bytes Netlist = MOST_BYTES
most_bytes Params = MOST_BYTES
most_bytes Script = MOST_BYTES
most_bytes Pack = MOST_PACK_BYTES
most_bytes Cert = MOST_BYTES

-- a file has too many bytes
abbrev pub too_long : RefusalValue
too_long = refusal (codes "L1") (codes "FileTooLong") Nothing
