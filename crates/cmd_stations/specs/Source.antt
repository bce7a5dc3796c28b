-- The source circuit: the words that name it, what files hold of it, and its LUTs: the walk through NETLIST, PARAMS and what a command makes of them; and that each file says one thing, or is refused for one reason.
use Rattle.std.specs.Prelude.{ℕ, ◌≤◌, ◌+◌, ◌-◌, ◌&&◌, nat_le, if◌then◌else◌, List, [], ◌∷◌, Option, Some, None, ◌≡◌, true}
use Rattle.cut_sets.specs.declared.limits.TheConstants.{MOST_LEAVES}
use Rattle.cmd_stations.specs.Words.{Rule, RefusalValue, Files, FlatValue, IsSound, IsParamsText, HasOneReading, Aig, RootsValue, TemplateValue, too_long, File, Netlist, Params, Script, Pack, Cert, HasOneGraph, HasRunsOf, FileReading, shelf_reading}
use Rattle.cmd_stations.specs.declared.words.SourceWords.{SourceWords as SourceWordsRead}
use Rattle.param_list.specs.declared.params.Param.{Param}
use Rattle.cmd_stations.specs.declared.netlist_text.Netlist.{Netlist as NetlistValue}
use Rattle.cmd_stations.specs.declared.source.Source.{Source}
use Rattle.cmd_stations.specs.Texts.{HasText, IsLongText, IsNetlistText, NetlistRefusal, IsParamsRefusal, is_aag}
use Rattle.cmd_stations.specs.Mapped.{AreLabelsBy, IsLeastMapping, IsMapped, Aim, IsBuilt, IsUnmade, IsChosen, IsUnchosen, IsUnmapped, ToGraph, ToLabels, ToTables, IsUnbuilt, IsUnlabelled}

-- the rule by which cuts are chosen, the size of the LUTs, and the words that name the netlist and the parameters
pub record SourceWords : Type 0 where
  pub rule : Rule
  pub k : ℕ
  pub netlist : List ℕ
  pub params : List ℕ

-- the number of a table's inputs, one digit: from 2 to the most leaves of a cut
abbrev pub k_of : List ℕ → Option ℕ
k_of (digit ∷ []) = if nat_le 50 digit && nat_le digit (48 + MOST_LEAVES) then Some (digit - 48) else None
k_of [] = None
k_of (digit ∷ other ∷ more) = None

abbrev pub source_words : Rule → Option ℕ → List ℕ → List ℕ → Option SourceWords
source_words rule None netlist params = None
source_words rule (Some k) netlist params = Some (record { rule = rule; k = k; netlist = netlist; params = params })

-- the words as they are read
abbrev pub source_seen : SourceWordsRead → SourceWords
source_seen words = record { rule = words.rule; k = words.k; netlist = words.netlist.now; params = words.params.now }

-- the size of the LUTs is from 2 to the most leaves of a cut
pub record IsTableSize (k : ℕ) : Type 0 where
  pub least : 2 ≤ k
  pub most : k ≤ MOST_LEAVES

-- the netlist that is read
pub record HasNetlist (files : Files) (words : SourceWords) (n : NetlistValue) : Type 0 where
  pub text : List ℕ
  pub there : HasText files words.netlist text
  pub is : IsNetlistText text n

-- the parameters that are listed, for a flat circuit
pub record HasParams (files : Files) (words : SourceWords) (flat : FlatValue) (params : List Param) : Type 0 where
  pub text : List ℕ
  pub there : HasText files words.params text
  pub is : IsParamsText flat text params

-- the source circuit: the netlist with its parameters
pub record HasSource (files : Files) (words : SourceWords) (source : Source) : Type 0 where
  pub netlist : HasNetlist files words source.netlist
  pub params : HasParams files words source.netlist.flat source.params.list

-- the walk comes past the netlist, the list and the graph
pub record HasGraph (files : Files) (words : SourceWords) (source : Source) (graph : Aig) (roots : RootsValue) : Type 0 where
  pub has : HasSource files words source
  pub built : IsBuilt words.rule source graph roots

-- past the labels of the graph's nodes
pub record HasLabels (files : Files) (words : SourceWords) (source : Source) (graph : Aig) (roots : RootsValue) : Type 0 where
  pub graph_is : HasGraph files words source graph roots
  pub labels : List ℕ
  pub labelled : AreLabelsBy words.rule graph words.k labels

-- past the netlist, the list and the mapping
pub record HasMapped (files : Files) (words : SourceWords) (source : Source) (template : TemplateValue) : Type 0 where
  pub has : HasSource files words source
  pub mapped : IsMapped words.rule source words.k template

-- what is so of it: the netlist is sound, and its template maps its graph with the least depth
pub record IsLeastMapped (files : Files) (words : SourceWords) (source : Source) (template : TemplateValue) (has : HasMapped files words source template) : Type 0 where
  pub sound : IsSound source.netlist.library
  pub least : IsLeastMapping has.mapped.graph words.k has.mapped.roots template

-- the files hold a source circuit that is mapped
pub record IsMappedFrom (files : Files) (words : SourceWords) : Type 0 where
  pub source : Source
  pub template : TemplateValue
  pub has : HasMapped files words source template

-- the walk comes to a file; a script is read after the mapping
abbrev pub ReachesSource : Files → SourceWords → File → Type 0
ReachesSource files words Netlist = Unit {0}
ReachesSource files words Params = (n : NetlistValue) × HasNetlist files words n
ReachesSource files words Script = (source : Source) × (template : TemplateValue) × HasMapped files words source template
ReachesSource files words Pack = ⊥
ReachesSource files words Cert = ⊥

-- the first refusal up to what a command makes of a source circuit, at a file
pub data IsSourceRefused (aim : Aim) (files : Files) (words : SourceWords) (file : File) (refusal : RefusalValue) : Type 0 where
  long_netlist : file ≡ Netlist → IsLongText files words.netlist → refusal ≡ too_long → IsSourceRefused aim files words file refusal
  netlist : file ≡ Netlist → (text : List ℕ) → HasText files words.netlist text → NetlistRefusal text refusal → IsSourceRefused aim files words file refusal
  long_params : file ≡ Params → (n : NetlistValue) → HasNetlist files words n → IsLongText files words.params → refusal ≡ too_long → IsSourceRefused aim files words file refusal
  params : file ≡ Params → (n : NetlistValue) (text : List ℕ) → HasNetlist files words n → HasText files words.params text → IsParamsRefusal n.flat text refusal → IsSourceRefused aim files words file refusal
  unmade : file ≡ Netlist → (source : Source) → HasSource files words source → IsUnmade aim words.rule source words.k refusal → IsSourceRefused aim files words file refusal

-- a netlist's text; in AIGER's form the netlist has the cycles and runs of the circuit that the text's lines are
pub record IsTextSettled (text : List ℕ) : Type 0 where
  pub sound : (n : NetlistValue) → IsNetlistText text n → IsSound n.library
  pub one_netlist : (n m : NetlistValue) → IsNetlistText text n → IsNetlistText text m → n ≡ m
  pub not_both : (n : NetlistValue) (r : RefusalValue) → IsNetlistText text n → NetlistRefusal text r → ⊥
  pub one_refusal : (r s : RefusalValue) → NetlistRefusal text r → NetlistRefusal text s → r ≡ s
  pub runs : (n : NetlistValue) → IsNetlistText text n → is_aag text ≡ true → HasRunsOf text n.library

-- a graph that is mapped
pub record IsGraphSettled (rule : Rule) (g : Aig) (k : ℕ) (roots : RootsValue) : Type 0 where
  pub maps : (t : TemplateValue) → IsChosen rule g k roots t → IsLeastMapping g k roots t
  pub one_template : (t u : TemplateValue) → IsChosen rule g k roots t → IsChosen rule g k roots u → t ≡ u
  pub not_both : (t : TemplateValue) (r : RefusalValue) → IsChosen rule g k roots t → IsUnchosen rule g k roots r → ⊥
  pub one_refusal : (r s : RefusalValue) → IsUnchosen rule g k roots r → IsUnchosen rule g k roots s → r ≡ s

-- a source circuit that is mapped
pub record IsMappingSettled (rule : Rule) (source : Source) (k : ℕ) : Type 0 where
  pub maps : (t : TemplateValue) (m : IsMapped rule source k t) → IsLeastMapping m.graph k m.roots t
  pub one_template : (t u : TemplateValue) → IsMapped rule source k t → IsMapped rule source k u → t ≡ u
  pub not_both : (t : TemplateValue) (r : RefusalValue) → IsMapped rule source k t → IsUnmapped rule source k r → ⊥
  pub one_refusal : (r s : RefusalValue) → IsUnmapped rule source k r → IsUnmapped rule source k s → r ≡ s

-- the graph of a source circuit
pub record IsBuildingSettled (rule : Rule) (source : Source) : Type 0 where
  pub one_graph : HasOneGraph source.netlist.library source.netlist.flat source.params.list
  pub not_both : (g : Aig) (roots : RootsValue) (r : RefusalValue) → IsBuilt rule source g roots → IsUnbuilt rule source r → ⊥

-- the labels of its nodes
pub record IsLabellingSettled (rule : Rule) (source : Source) (k : ℕ) : Type 0 where
  pub building : IsBuildingSettled rule source
  pub not_both : (g : Aig) (roots : RootsValue) (labels : List ℕ) (r : RefusalValue) → IsBuilt rule source g roots → AreLabelsBy rule g k labels → IsUnlabelled rule source k r → ⊥
  pub one_refusal : (r s : RefusalValue) → IsUnlabelled rule source k r → IsUnlabelled rule source k s → r ≡ s

-- what a command makes of a source circuit
abbrev pub IsMakingSettled : Aim → Rule → Source → ℕ → Type 0
IsMakingSettled ToGraph rule source k = IsBuildingSettled rule source
IsMakingSettled ToLabels rule source k = IsLabellingSettled rule source k
IsMakingSettled ToTables rule source k = IsMappingSettled rule source k

-- the netlist that files hold
abbrev pub IsNetlistSettled : Files → SourceWords → Type 0
IsNetlistSettled files words = (text : List ℕ) → HasText files words.netlist text → IsTextSettled text

-- its parameters for a netlist
abbrev pub AreParamsSettled : Files → SourceWords → NetlistValue → Type 0
AreParamsSettled files words n = (text : List ℕ) → HasText files words.params text → HasOneReading n.flat text

-- the source circuit that files hold, and what is made of it, as far as its walk comes
pub record IsSourceSettled (aim : Aim) (files : Files) (words : SourceWords) : Type 0 where
  pub netlist : IsNetlistSettled files words
  pub params : (n : NetlistValue) → HasNetlist files words n → AreParamsSettled files words n
  pub made : (source : Source) → HasSource files words source → IsMakingSettled aim words.rule source words.k

-- its files, and the word that names each; it has no script and no pack
abbrev pub IsOfSource : File → Type 0
IsOfSource Netlist = Unit {0}
IsOfSource Params = Unit {0}
IsOfSource Script = ⊥
IsOfSource Pack = ⊥
IsOfSource Cert = ⊥

abbrev pub source_word : SourceWords → File → List ℕ
source_word words Netlist = words.netlist
source_word words file = words.params

-- how its files are read
abbrev pub source_reading : Aim → SourceWords → FileReading
source_reading aim words = shelf_reading IsOfSource (source_word words) Params (λ files. ReachesSource files words) (λ files. IsSourceRefused aim files words) (λ files. IsSourceSettled aim files words)
