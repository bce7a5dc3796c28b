-- What a command writes besides its output.
use Rattle.std.specs.Prelude.{ℕ, ◌+◌, List, Option, Some, None}
use Rattle.tlut_cli.specs.declared.outputs.Outputs.{Outputs as OutputsRead}
use Rattle.tlut_cli.specs.declared.outputs.Outputs.TheVariants as read
use Rattle.tlut_cli.specs.Commands.{Subcommand, Run, Spec, Map, Bits, Gen, Repack, Prove, Audit, Graph, Pace}

-- nothing, one file, two files in their order, or so many ports
pub data Written : Type 0 where
  Nothing : Written
  File : List ℕ → Written
  Files : List ℕ → List ℕ → Written
  Ports : ℕ → Written

abbrev pub written_by : Option Subcommand → Written
written_by None = Nothing
written_by (Some (Run words)) = Ports (words.ports.serving + words.ports.spares)
written_by (Some (Spec words)) = File words.out
written_by (Some (Map words)) = Files words.template words.pack
written_by (Some (Bits words)) = Nothing
written_by (Some (Gen words)) = Nothing
written_by (Some (Repack words)) = File words.new
written_by (Some (Prove words)) = File words.cert
written_by (Some (Audit words)) = Nothing
written_by (Some (Graph words)) = File words.out
written_by (Some (Pace words)) = Nothing

-- it as it is read
abbrev pub outputs_seen : OutputsRead → Written
outputs_seen read.Nothing = Nothing
outputs_seen (read.File name) = File name.now
outputs_seen (read.Files first second) = Files first.now second.now
outputs_seen (read.Ports count) = Ports count
