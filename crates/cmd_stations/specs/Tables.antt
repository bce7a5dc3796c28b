-- A source circuit with its graph, its labels, its LUTs and its script as the code makes them.
use Rattle.netlist.specs.HasCleanNames.{HasCleanNames}
use Rattle.netlist.specs.WellFormed.{IsWellFormed}
use Rattle.netlist.specs.Bounds.{IsWithinBounds}
use Rattle.cmd_stations.specs.Words.{IsFlat, HasCycles, IsSound, Files, Aig, first_and, AreNormal, RootsValue, AreRoots, roots_of, IsGraphOf, HasOneGraph, label_at, AreLeastHeights, Rule, TemplateValue, PackParam, inits_of, AreParameters, param_names, param_inits, AreTablesOf, IsPackFile, event_values}
use Rattle.netlist.specs.Flattened.{HasValues}
use Rattle.cmd_stations.specs.declared.netlist_text.Netlist.{Netlist, Netlist as NetlistValue}
use Rattle.std.specs.Prelude.{◌≡◌, ℕ, length, map}
use Rattle.aig_build.specs.NetlistCycle.{HasSourceCycles}
use Rattle.cmd_stations.specs.declared.limits.TheConstants.{GRAPH_ROOM}
use Rattle.cmd_stations.specs.declared.source.Source.{Source}
use Rattle.cmd_stations.specs.declared.tables.SourceTables.{SourceTables}
use Rattle.cmd_stations.specs.declared.mapped.MappedSource.{MappedSource}
use Rattle.lut_sim.specs.Playable.{IsPlayable}
use Rattle.cmd_stations.specs.Packs.{present_bytes}
use Rattle.cmd_stations.specs.Source.{SourceWords, HasNetlist, HasSource, HasMapped, IsNetlistSettled, AreParamsSettled, IsSourceSettled, HasGraph, HasLabels}
use Rattle.cmd_stations.specs.SourceCircuit.{shape_of}
use Rattle.cmd_stations.specs.Mapped.{IsChosen, IsLeastMapping, IsMapped, ToTables, AreLabelsBy, ToGraph, ToLabels, IsBuilt}
use Rattle.cmd_stations.specs.Tunable.{IsTunable}
use Rattle.cmd_stations.specs.declared.graphs.BuiltSource.{BuiltSource}
use Rattle.cmd_stations.specs.declared.labelling.LabelledSource.{LabelledSource}
use Rattle.blif_write.specs.Writable.{CanBeNamed}
use Rattle.cmd_stations.specs.declared.drafts.WritableSource.{WritableSource}
use Rattle.cmd_stations.specs.declared.scripted.Scripted.{Scripted}
use Rattle.cmd_stations.specs.Script.{ScriptedWords, HasScripted, IsScriptedSettled}

-- a well-formed and sound library with clean names, and its flat circuit, which is within bounds and whose cycles are the library's
pub record IsReadNetlist (n : Netlist) : Type 0 where
  pub formed : IsWellFormed n.library
  pub sound : IsSound n.library
  pub clean : HasCleanNames n.library
  pub flat : IsFlat n.library n.flat
  pub bounds : IsWithinBounds n.library n.flat
  pub values : HasValues n.library n.flat
  pub cycles : HasCycles n.library n.flat

-- the template of a source circuit's graph, whose cycles are the source circuit's
pub record HasTables (source : Source) (g : Aig) (t : TemplateValue) : Type 0 where
  pub rule : Rule
  pub k : ℕ
  pub roots : RootsValue
  pub is_graph : IsGraphOf source.netlist.library source.netlist.flat source.params.list GRAPH_ROOM g roots
  pub one_graph : HasOneGraph source.netlist.library source.netlist.flat source.params.list
  pub cycles : HasSourceCycles source.netlist.library source.netlist.flat source.params.list g roots
  pub chosen : IsChosen rule g k roots t
  pub least : IsLeastMapping g k roots t

-- the LUTs of a source circuit by a template of its graph: the pack of their bits, and their shape, which can be played and written; and the file of the pack is its own
pub record AreMade (source : Source) (t : SourceTables) : Type 0 where
  pub tunable : IsTunable source t.template t.pack
  pub names : map (λ (p : PackParam). p.name) t.pack.params ≡ param_names source.params.list
  pub inits : inits_of t.pack.params ≡ param_inits source.params.list
  pub bits : length t.pack.bits ≡ t.template.bits
  pub params : length t.pack.params ≡ t.shape.params
  pub shape : t.shape ≡ shape_of source
  pub playable : IsPlayable t.template t.shape
  pub written : AreTablesOf source.netlist.flat source.params.list t.template
  pub file : IsPackFile (present_bytes t.pack) t.pack

-- its LUTs by the chosen template
pub record AreTables (rule : Rule) (source : Source) (k : ℕ) (t : SourceTables) : Type 0 where
  pub mapped : IsMapped rule source k t.template
  pub least : IsLeastMapping mapped.graph k mapped.roots t.template
  pub made : AreMade source t

-- a source circuit that was read
pub record IsReadSource (source : Source) : Type 0 where
  pub netlist : IsReadNetlist source.netlist
  pub params : AreParameters source.netlist.flat source.params.list

-- the walk comes past the reading of a netlist
pub record ComesFrom (files : Files) (words : SourceWords) (n : NetlistValue) : Type 0 where
  pub netlist : HasNetlist files words n
  pub settled : IsNetlistSettled files words

-- past the reading of a source circuit
pub record ComesWith (files : Files) (words : SourceWords) (source : Source) : Type 0 where
  pub has : HasSource files words source
  pub netlist : IsNetlistSettled files words
  pub params : AreParamsSettled files words source.netlist

-- and past its mapping
pub record ComesPast (files : Files) (words : SourceWords) (m : MappedSource) : Type 0 where
  pub has : HasMapped files words m.source m.tables.template
  pub settled : IsSourceSettled ToTables files words

-- A source circuit with its graph, and with the labels of the graph's nodes, as the code makes them.
pub record IsBuiltSource (b : BuiltSource) : Type 0 where
  pub rule : Rule
  pub read : IsReadSource b.source
  pub built : IsBuilt rule b.source b.graph b.roots
  pub cycles : HasSourceCycles b.source.netlist.library b.source.netlist.flat b.source.params.list b.graph b.roots
  pub lits : AreRoots b.graph (roots_of b.roots)
  pub normal : AreNormal (first_and b.graph) b.graph.pairs

-- the walk comes past its graph
pub record ComesToGraph (files : Files) (words : SourceWords) (b : BuiltSource) : Type 0 where
  pub has : HasGraph files words b.source b.graph b.roots
  pub settled : IsSourceSettled ToGraph files words

pub record IsLabelledSource (rule : Rule) (k : ℕ) (l : LabelledSource) : Type 0 where
  pub built : IsBuiltSource l.built
  pub labelled : AreLabelsBy rule l.built.graph k l.labels
  pub heights : AreLeastHeights l.built.graph k (label_at l.labels)

-- and past its labels
pub record ComesToLabels (files : Files) (words : SourceWords) (l : LabelledSource) : Type 0 where
  pub has : HasLabels files words l.built.source l.built.graph l.built.roots
  pub settled : IsSourceSettled ToLabels files words

-- its source circuit was read and mapped to its LUTs, and its regular inputs stand at its places
pub record IsDraft (d : WritableSource) : Type 0 where
  pub read : IsReadSource d.mapped.source
  pub made : AreMade d.mapped.source d.mapped.tables
  pub named : CanBeNamed d.mapped.source.netlist.flat d.mapped.source.params.list d.regular.items

-- the walk comes past the script
pub record ComesScripted (files : Files) (words : ScriptedWords) (s : Scripted) : Type 0 where
  pub has : HasScripted files words s.mapped.source s.mapped.tables.template (event_values s.events.items)
  pub settled : IsScriptedSettled files words
