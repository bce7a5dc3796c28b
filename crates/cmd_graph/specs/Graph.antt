-- The walk of `graph`: a source circuit is read, and its graph is written as the text of its circuit.
use Rattle.std.specs.Prelude.{ℕ, if◌then◌else◌, List, [], ◌∷◌, bytes_eq, codes, Option, Some, None, decimal}
use Rattle.cover_pick.specs.declared.rule.Rule.{Rule}
use Rattle.cmd_graph.specs.declared.words.GraphWords.{GraphWords as GraphWordsRead}
use Rattle.cmd_stations.specs.Source.{SourceWords, source_seen, HasGraph}
use Rattle.std.specs.List.{concat}
use Rattle.list_laws.specs.Members.{In}
use Rattle.cmd_graph.specs.Words.{Files, AreRegularPlaces, Circuit, graph_circuit, circuit_text, CommandWalk, FileText}
use Rattle.aig_core.specs.Aig.{Aig}
use Rattle.aig_core.specs.Roots.{RootsValue}
use Rattle.netlist.specs.Sound.{IsSound}
use Rattle.netlist.specs.Weight.{Weighs}
use Rattle.aiger_io.specs.AigerText.{IsOfFormat, IsAigerText}
use Rattle.aiger_io.specs.CircuitLibrary.{model_of, library_of, library_weight}
use Rattle.aiger_io.specs.Refused.{IsNameRefused}
use Rattle.aiger_io.specs.Run.{HasOneFit, HasSameRuns}
use Rattle.aiger_io.specs.declared.header.Header.{Header}
use Rattle.cmd_stations.specs.declared.source.Source.{Source}
use Rattle.cmd_stations.specs.Mapped.{ToGraph}
use Rattle.cmd_stations.specs.WritingWalk.{writing_walk}

-- the source circuit, and the word that names the file that is written
pub record GraphWords : Type 0 where
  pub source : SourceWords
  pub out : List ℕ

-- the words graph NETLIST PARAMS OUT, and the rule that says how many nodes are too many; no tables are made, so 0 stands for their size
abbrev pub graph_words_of : Rule → List (List ℕ) → Option GraphWords
graph_words_of rule (command ∷ netlist ∷ params ∷ out ∷ []) =
    if bytes_eq command (codes "graph") then Some (record { source = record { rule = rule; k = 0; netlist = netlist; params = params }; out = out }) else None
graph_words_of rule words = None

-- words as they are read
abbrev pub graph_seen : GraphWordsRead → GraphWords
graph_seen words = record { source = source_seen words.source; out = words.out.now }

-- the line that it prints
abbrev pub graph_line : Header → List ℕ
graph_line h = concat (codes "inputs " ∷ decimal h.inputs ∷ codes " latches " ∷ decimal h.latches ∷ codes " ands " ∷ decimal h.ands ∷ codes "\n" ∷ [])

-- The circuit of a source circuit's graph, where these are the places of its regular inputs.
abbrev pub circuit_at : Source → List ℕ → Aig → RootsValue → Circuit
circuit_at source regular graph roots = graph_circuit source.netlist.flat source.params.list regular graph roots

-- No output has the name of an input.
abbrev pub HasOtherNames : Circuit → Type 0
HasOtherNames c = (name : List ℕ) → In c.inputs name → In c.outputs name → ⊥

-- The text of such a circuit is of the format. It is this circuit where no output has the name of an input, and is refused for a name where one has. The
-- library that is read of it weighs what its header says: so it is too large exactly where that is above the most that a main model may weigh. Values that
-- fit its lines are there, and its cycles and runs, with values of the regular inputs and then of the parameters, are those of the source circuit.
pub record IsExported (source : Source) (c : Circuit) : Type 0 where
  pub format : IsOfFormat (circuit_text c) c
  pub reads_back : HasOtherNames c → IsAigerText (circuit_text c) c
  pub alike : (name : List ℕ) → In c.inputs name → In c.outputs name → IsNameRefused (circuit_text c)
  pub weight : Weighs (library_of c) (model_of c) (library_weight c.header)
  pub fit : HasOneFit c
  pub runs : HasSameRuns c source.netlist.library

-- The source circuit that the files hold has this graph. The file has the text of its circuit, and the line tells its counts.
pub record HasExport (files : Files) (words : GraphWords) (Ends : List FileText → List ℕ → Type 0) : Type 0 where
  pub source : Source
  pub graph : Aig
  pub roots : RootsValue
  pub has : HasGraph files words.source source graph roots
  pub sound : IsSound source.netlist.library
  pub regular : List ℕ
  pub places : AreRegularPlaces source.netlist.flat source.params.list regular
  pub exported : IsExported source (circuit_at source regular graph roots)
  pub ends : Ends (record { name = words.out; bytes = circuit_text (circuit_at source regular graph roots) } ∷ []) (graph_line (circuit_at source regular graph roots).header)

-- the files hold a source circuit that has a graph
pub record HasGraphJob (files : Files) (words : SourceWords) : Type 0 where
  pub source : Source
  pub graph : Aig
  pub roots : RootsValue
  pub has : HasGraph files words source graph roots

abbrev pub graph_walk : GraphWords → CommandWalk
graph_walk words = writing_walk ToGraph words.source (λ files. HasGraphJob files words.source) (λ files P. HasExport files words P)
