-- The commands, by the command-line arguments, the walk of each, and the fault line of a call: for a usage error it lists the forms of all commands.
use Rattle.std.specs.Prelude.{ℕ, List, [], ◌∷◌, codes, Option, Some, None}
use Rattle.std.specs.Option.{option_map}
use Rattle.tlut_cli.specs.Words.{Rule, CommandWalk, RunWords, run_of, run_seen, IsInRange, MapWords, map_of, map_seen, map_walk, BitsWords, bits_of, bits_seen, bits_walk, Outcome}
use Rattle.tlut_cli.specs.declared.command.Subcommand.{Subcommand as CommandRead}
use Rattle.tlut_cli.specs.declared.command.Subcommand.TheVariants as read
use Rattle.cmd_run.specs.declared.gen_command.words.GenWords.{GenWords}
use Rattle.cmd_stations.specs.Source.{IsTableSize}
use Rattle.cmd_run.specs.Run.Verdict.{run_walk}
use Rattle.cmd_map.specs.Spec.{SpecWords, spec_of, spec_seen, spec_walk}
use Rattle.cmd_cert.specs.Certs.{CertWords, cert_words_of, cert_seen}
use Rattle.cmd_cert.specs.Prove.{prove_walk}
use Rattle.cmd_cert.specs.Audit.{audit_walk}
use Rattle.cmd_graph.specs.Graph.{GraphWords, graph_words_of, graph_seen, graph_walk}
use Rattle.cmd_pace.specs.Job.{PaceWords, pace_of, pace_seen, IsInRange as IsPaceInRange}
use Rattle.cmd_pace.specs.Verdict.{pace_walk}
use Rattle.cmd_run.specs.GenCommand.Case.{gen_of, HasDigits}
use Rattle.cmd_run.specs.GenCommand.Verdict.{gen_walk}
use Rattle.cmd_pack.specs.Repack.{RepackWords, repack_of, repack_seen, repack_walk}
use Rattle.cmd_base.specs.FaultLine.{line_of as line_with}

-- a command with its words
pub data Subcommand : Type 0 where
  Run : RunWords → Subcommand
  Spec : SpecWords → Subcommand
  Map : MapWords → Subcommand
  Bits : BitsWords → Subcommand
  Gen : GenWords → Subcommand
  Repack : RepackWords → Subcommand
  Prove : CertWords → Subcommand
  Audit : CertWords → Subcommand
  Graph : GraphWords → Subcommand
  Pace : PaceWords → Subcommand

-- one command, or else another
abbrev pub or_else : Option Subcommand → Option Subcommand → Option Subcommand
or_else (Some command) other = Some command
or_else None other = other

abbrev pub cert_commands : Rule → List (List ℕ) → Option Subcommand
cert_commands rule words = or_else (option_map Prove (cert_words_of rule (codes "prove") words)) (option_map Audit (cert_words_of rule (codes "audit") words))

abbrev pub later_commands : Rule → List (List ℕ) → Option Subcommand
later_commands rule words = or_else (cert_commands rule words) (or_else (option_map Graph (graph_words_of rule words)) (option_map Pace (pace_of rule words)))

abbrev pub other_commands : Rule → List (List ℕ) → Option Subcommand
other_commands rule words =
    or_else (option_map Spec (spec_of rule words))
    (or_else (option_map Map (map_of rule words)) (or_else (option_map Bits (bits_of words)) (or_else (option_map Gen (gen_of rule words)) (or_else (option_map Repack (repack_of words)) (later_commands rule words)))))

-- the command of some words by a rule of choice, where so many ports are handed in; none where they are of no command's form
abbrev pub command_of : Rule → ℕ → List (List ℕ) → Option Subcommand
command_of rule ports words = or_else (option_map Run (run_of rule ports words)) (other_commands rule words)

abbrev pub walk_of : Subcommand → CommandWalk
walk_of (Run words) = run_walk words
walk_of (Spec words) = spec_walk words
walk_of (Map words) = map_walk words
walk_of (Bits words) = bits_walk words
walk_of (Gen words) = gen_walk words
walk_of (Repack words) = repack_walk words
walk_of (Prove words) = prove_walk words
walk_of (Audit words) = audit_walk words
walk_of (Graph words) = graph_walk words
walk_of (Pace words) = pace_walk words

-- a command as it is read
abbrev pub command_seen : CommandRead → Subcommand
command_seen (read.Run words) = Run (run_seen words)
command_seen (read.Spec words) = Spec (spec_seen words)
command_seen (read.Map words) = Map (map_seen words)
command_seen (read.Bits words) = Bits (bits_seen words)
command_seen (read.Gen words) = Gen words
command_seen (read.Repack words) = Repack (repack_seen words)
command_seen (read.Prove words) = Prove (cert_seen words)
command_seen (read.Audit words) = Audit (cert_seen words)
command_seen (read.Graph words) = Graph (graph_seen words)
command_seen (read.Pace words) = Pace (pace_seen words)

-- the line of words that are of no command's form, in pieces: it lists all forms
abbrev pub usage : List (List ℕ)
usage =
    codes "tlut: usage: " ∷ codes "run K NETLIST PARAMS SCRIPT PORTS SPARES" ∷ codes ", spec K NETLIST PARAMS OUT" ∷ codes ", map K NETLIST PARAMS TEMPLATE PACK" ∷ codes ", bits PACK SCRIPT" ∷ codes ", gen N SEED"
    ∷ codes ", repack OLD NEW" ∷ codes ", prove K NETLIST PARAMS CERT" ∷ codes ", audit K NETLIST PARAMS CERT" ∷ codes ", graph NETLIST PARAMS OUT"
    ∷ codes ", pace K NETLIST PARAMS SCRIPT RATE" ∷ codes "\n" ∷ []

-- its numbers are in range
abbrev pub HasRange : ℕ → CommandRead → Type 0
HasRange ports (read.Run words) = IsInRange ports words
HasRange ports (read.Spec words) = IsTableSize words.source.k
HasRange ports (read.Map words) = IsTableSize words.source.k
HasRange ports (read.Bits words) = Unit {0}
HasRange ports (read.Gen words) = HasDigits words
HasRange ports (read.Repack words) = Unit {0}
HasRange ports (read.Prove words) = IsTableSize words.source.k
HasRange ports (read.Audit words) = IsTableSize words.source.k
HasRange ports (read.Graph words) = Unit {0}
HasRange ports (read.Pace words) = IsPaceInRange words

-- The fault line of a call: for a usage error it lists the forms of all commands.
abbrev pub line_of : List ℕ → Outcome → List ℕ
line_of name outcome = line_with usage name outcome
