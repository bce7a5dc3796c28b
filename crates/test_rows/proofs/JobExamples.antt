-- Worked examples of the definitions: words, ports, what a script may name, and fault lines.
use Rattle.test_rows.proofs.Common.{◌≡◌, ℕ, Bool, true, false, cond, List, [], ◌∷◌, bytes_eq, codes, Option, Some, None, map, refl, One, Cover, CoverValue, LibraryValue, line_of, FewestLeaves}
use Rattle.std.specs.Fmt.{digits}
use Rattle.std.specs.Option.{option_map}
use Rattle.tl_io.specs.Port.{PortSeen}
use Rattle.blif_read.specs.Refusals.{refusal_of as blif_refusal}
use Rattle.blif_read.specs.declared.blif_err.BlifErr.TheVariants as blif_err
use Rattle.netlist.specs.FlatValue.{FlatValue}
use Rattle.netlist.specs.declared.flat.FlatNet.TheVariants as net
use Rattle.blif_flat.specs.Refusals.{refusal_of as flat_refusal}
use Rattle.blif_flat.specs.declared.flat_err.FlatErr.TheVariants as flat_err
use Rattle.param_list.specs.Parameters.{regular_names, param_names}
use Rattle.run_text.specs.ScriptRefusals.{refusal_of as script_refusal}
use Rattle.run_text.specs.declared.event.Forms.TheVariants as script_forms
use Rattle.run_text.specs.declared.script_err.ScriptErr.TheVariants as script_err
use Rattle.tl_fault.specs.RefusalValue.{RefusalValue}
use Rattle.cmd_base.specs.declared.outcome.File.{File}
use Rattle.cmd_base.specs.declared.outcome.File.TheVariants as file
use Rattle.cmd_base.specs.declared.outcome.Outcome.TheVariants as outcome
use Rattle.cmd_base.specs.declared.status.Status.TheVariants as status
use Rattle.cmd_stations.specs.declared.source.Source.{Source}
use Rattle.tlut_cli.specs.Call.{fault_word}
use Rattle.cmd_run.specs.Run.Job.{bank_of, RunWords, run_of}
use Rattle.cmd_stations.specs.Script.{names_of}
use Rattle.cmd_stations.specs.SourceCircuit.{width_of, shape_of}
use Rattle.cmd_base.specs.Statuses.{refusal_status, status_of}

-- the words of a job with tables of K inputs, and these ports and spares
abbrev words : List ℕ → List ℕ → List ℕ → List (List ℕ)
words k serving spares = codes "run" ∷ k ∷ codes "n" ∷ codes "p" ∷ codes "s" ∷ serving ∷ spares ∷ []

-- where four ports are handed in
abbrev job_of : List ℕ → List ℕ → List ℕ → Option RunWords
job_of k serving spares = run_of FewestLeaves 4 (words k serving spares)

a_job : job_of (codes "2") (codes "3") (codes "1") ≡ Some (record { source = record { rule = FewestLeaves; k = 2; netlist = codes "n"; params = codes "p" }; script = codes "s"; ports = record { serving = 3; spares = 1 } })
a_job = refl

no_ports : run_of FewestLeaves 0 (words (codes "6") (codes "0") (codes "0")) ≡ Some (record { source = record { rule = FewestLeaves; k = 6; netlist = codes "n"; params = codes "p" }; script = codes "s"; ports = record { serving = 0; spares = 0 } })
no_ports = refl

-- and words of no form: tables of one input or seven, more ports than are handed in, numbers that aren't written so, a word too few
tables_of_one_input : job_of (codes "1") (codes "0") (codes "0") ≡ None
tables_of_one_input = refl

tables_of_seven_inputs : job_of (codes "7") (codes "0") (codes "0") ≡ None
tables_of_seven_inputs = refl

five_ports : job_of (codes "2") (codes "3") (codes "2") ≡ None
five_ports = refl

two_zeros : job_of (codes "2") (codes "00") (codes "0") ≡ None
two_zeros = refl

above_all_numbers : job_of (codes "2") (codes "0") (codes "18446744073709551616") ≡ None
above_all_numbers = refl

no_spares : run_of FewestLeaves 4 (codes "run" ∷ codes "2" ∷ codes "n" ∷ codes "p" ∷ codes "s" ∷ codes "0" ∷ []) ≡ None
no_spares = refl

-- two ports serve, the third one is a spare, and the fourth one is not touched
parts_of_four : (a b c d : PortSeen) → bank_of (record { serving = 2; spares = 1 }) (a ∷ b ∷ c ∷ d ∷ []) ≡ record { serving = a ∷ b ∷ []; spares = c ∷ []; rest = d ∷ []; failed = [] }
parts_of_four a b c d = refl

-- the source circuit of a AND b AND p, where p is a parameter of 1
abbrev a : List ℕ
a = codes "a"

abbrev b : List ℕ
b = codes "b"

abbrev y : List ℕ
y = codes "y"

abbrev p : List ℕ
p = codes "p"

abbrev and3 : CoverValue
and3 = record { inputs = a ∷ b ∷ p ∷ []; output = y; value = true; rows = record { cells = One ∷ One ∷ One ∷ [] } ∷ [] }

abbrev library : LibraryValue
library = record { models = record { name = codes "m"; line = 1; inputs = a ∷ b ∷ p ∷ []; outputs = y ∷ []; clocks = []; commands = record { line = 4; body = Cover and3 } ∷ [] } ∷ [] }

abbrev flat : FlatValue
flat = record {
  model = codes "m";
  inputs = a ∷ b ∷ p ∷ [];
  clocks = [];
  control = None;
  outputs = record { name = y; net = net.Cover 0 } ∷ [];
  covers = record { model = 0; command = 0; inputs = net.Input 0 ∷ net.Input 1 ∷ net.Input 2 ∷ [] } ∷ [];
  latches = [];
  order = 0 ∷ [];
  under = 0;
}

abbrev source : Source
source = record { netlist = record { library = library; flat = flat }; params = record { list = record { name = p; input = 2; init = true } ∷ [] } }

-- a cycle gives a and b values, and a change p
two_regular_inputs : width_of source ≡ 2
two_regular_inputs = refl

sources : shape_of source ≡ record { regular = 2; params = 1; latches = 0 }
sources = refl

named : names_of source 4 ≡ record { forms = script_forms.Run; params = p ∷ []; width = Some 2; bits = 4 }
named = refl

-- the values of the inputs by their names: a and p are 1, and b is 0
abbrev value : List ℕ → Bool
value name = cond (bytes_eq name b) false true

values_of_a_cycle : map value (regular_names source.netlist.flat source.params.list) ≡ true ∷ false ∷ []
values_of_a_cycle = refl

values_of_parameters : map value (param_names source.params.list) ≡ true ∷ []
values_of_parameters = refl

-- fault lines, byte by byte
abbrev told_line : Option RefusalValue → List ℕ
told_line None = []
told_line (Some refusal) = line_of (codes "l.blif") (outcome.Refused file.Netlist refusal)

no_model_line : told_line (blif_refusal blif_err.NoModel) ≡ codes "tlut: l.blif: B12 NoModel\n"
no_model_line = refl

chain_line : told_line (flat_refusal (flat_err.RecursiveModel (codes "m" ∷ codes "f" ∷ codes "m" ∷ []))) ≡ codes "tlut: l.blif: F2 RecursiveModel m f m\n"
chain_line = refl

clocks_line : told_line (flat_refusal (flat_err.SecondClock (codes "c") (codes "0/e"))) ≡ codes "tlut: l.blif: F7 SecondClock c 0/e\n"
clocks_line = refl

large_line : told_line (flat_refusal flat_err.TooLarge) ≡ codes "tlut: l.blif: L2 TooLarge\n"
large_line = refl

width_line : told_line (script_refusal (script_err.Width 1 2)) ≡ codes "tlut: l.blif: S2 Width line 1 width 2\n"
unfolding digits
width_line = refl

parameter_line : told_line (script_refusal (script_err.NotParameter 1 (codes "q"))) ≡ codes "tlut: l.blif: S3 NotParameter line 1 q\n"
unfolding digits
parameter_line = refl

address_line : told_line (script_refusal (script_err.Address 12 4)) ≡ codes "tlut: l.blif: S5 Address line 12 bits 4\n"
unfolding digits
address_line = refl

long_line : line_of (codes "s.scr") (outcome.TooLong file.Script) ≡ codes "tlut: s.scr: L1 FileTooLong\n"
long_line = refl

read_line : line_of (codes "p.par") (outcome.ReadFault file.Params) ≡ codes "tlut: p.par: read failed\n"
read_line = refl

usage_line : line_of [] outcome.Usage ≡ codes "tlut: usage: run K NETLIST PARAMS SCRIPT PORTS SPARES, spec K NETLIST PARAMS OUT, map K NETLIST PARAMS TEMPLATE PACK, bits PACK SCRIPT, gen N SEED, repack OLD NEW, prove K NETLIST PARAMS CERT, audit K NETLIST PARAMS CERT, graph NETLIST PARAMS OUT, pace K NETLIST PARAMS SCRIPT RATE\n"
usage_line = refl

port_line : line_of [] outcome.PortFault ≡ codes "tlut: port failed\n"
port_line = refl

-- the word that a fault line tells
abbrev told_word : File → List ℕ
told_word f = fault_word FewestLeaves 4 (words (codes "2") (codes "1") (codes "0")) (outcome.ReadFault f)

three_words : told_word file.Netlist ∷ told_word file.Params ∷ told_word file.Script ∷ [] ≡ codes "n" ∷ codes "p" ∷ codes "s" ∷ []
three_words = refl

-- a limit has another status than what blames the netlist
loop_status : option_map (λ r. refusal_status r) (flat_refusal (flat_err.Loop [])) ≡ Some status.Refused
loop_status = refl

large_status : option_map (λ r. refusal_status r) (flat_refusal flat_err.TooLarge) ≡ Some status.Limit
large_status = refl

ports_status : status_of outcome.PortFault ≡ status.PortFault
ports_status = refl
