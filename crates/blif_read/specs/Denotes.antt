-- What a text denotes: a relation between its logical lines, split before each `.model` line, and the models of a library.
use Rattle.std.specs.Prelude.{◌≡◌, ◌⊎◌, ℕ, ◌<◌, true, List, [], ◌∷◌, ◌++◌, length, map, Ok}
use Rattle.blif_read.specs.Words.{LineValue, lines_of, Keyword, Cover, Command, LatchValue, CoverValue, SubcktValue, formals, ModelValue, LibraryValue, Ports, input_ports, output_ports, clock_ports, ports_of, AreOnce, In, Connection}
use Rattle.blif_read.specs.declared.keyword.Keyword.TheVariants as keyword
use Rattle.netlist.specs.declared.command.Body.TheVariants.{Latch, Subckt}
use Rattle.blif_read.specs.Statement.{StatementValue, statements}
use Rattle.blif_read.specs.Rows.{AreRows}
use Rattle.blif_read.specs.Latches.{IsLatch}

-- a connection as it is written: the formal, `=` (61), the actual
abbrev pub connection_token : Connection → List ℕ
connection_token pair = pair.formal ++ 61 ∷ pair.actual

-- neither side is empty, and the formal has no `=`: so the token is split at its first one
pub record IsConnection (pair : Connection) : Type 0 where
  pub formal : 0 < length pair.formal
  pub first : ¬ (In pair.formal 61)
  pub actual : 0 < length pair.actual

-- the words after `.subckt`: the name of a model and connections, in which no formal occurs twice
pub record IsSubckt (words : List (List ℕ)) (subckt : SubcktValue) : Type 0 where
  pub words_are : words ≡ subckt.model ∷ map connection_token subckt.pairs
  pub each : (pair : Connection) → In subckt.pairs pair → IsConnection pair
  pub once : AreOnce (formals subckt.pairs)

-- the names that a statement adds to a list of ports
abbrev pub port_names : Ports → Keyword → List (List ℕ) → List (List ℕ)
port_names input_ports keyword.Inputs names = names
port_names input_ports keyword.Outputs names = []
port_names input_ports keyword.Clock names = []
port_names output_ports keyword.Inputs names = []
port_names output_ports keyword.Outputs names = names
port_names output_ports keyword.Clock names = []
port_names clock_ports keyword.Inputs names = []
port_names clock_ports keyword.Outputs names = []
port_names clock_ports keyword.Clock names = names
port_names ports other names = []

-- the names of all `.inputs` lines in order, and likewise of `.outputs` and `.clock`
abbrev pub names_in : Ports → List StatementValue → List (List ℕ)
names_in ports [] = []
names_in ports (s ∷ ss) = port_names ports s.keyword s.arguments ++ names_in ports ss

-- a `.names` line is a cover: its names are the inputs and, last, the output; without rows its value is true
pub record IsCoverLine (s : StatementValue) (cover : CoverValue) : Type 0 where
  pub is : s.keyword ≡ keyword.Names
  pub names : s.arguments ≡ cover.inputs ++ cover.output ∷ []
  pub no_rows : cover.rows ≡ [] → cover.value ≡ true

-- The commands of lines, in order: a cover has the rows directly after its line. An `.end` may stand last.
pub data AreCommands : List StatementValue → List Command → Type 0 where
  none : AreCommands [] []
  end : (s : StatementValue) → s.keyword ≡ keyword.End → s.arguments ≡ [] → AreCommands (s ∷ []) []
  ports : (s : StatementValue) (ss : List StatementValue) (commands : List Command)
      → (s.keyword ≡ keyword.Inputs) ⊎ ((s.keyword ≡ keyword.Outputs) ⊎ (s.keyword ≡ keyword.Clock))
      → AreCommands ss commands → AreCommands (s ∷ ss) commands
  cover : (s : StatementValue) (rows rest ss : List StatementValue) (cover : CoverValue) (commands : List Command)
      → IsCoverLine s cover → AreRows (length cover.inputs) cover.value rows cover.rows → ss ≡ rows ++ rest
      → AreCommands rest commands → AreCommands (s ∷ ss) (record { line = s.number; body = Cover cover } ∷ commands)
  latch : (s : StatementValue) (ss : List StatementValue) (latch : LatchValue) (commands : List Command)
      → s.keyword ≡ keyword.Latch → IsLatch s.arguments latch
      → AreCommands ss commands → AreCommands (s ∷ ss) (record { line = s.number; body = Latch latch } ∷ commands)
  subckt : (s : StatementValue) (ss : List StatementValue) (subckt : SubcktValue) (commands : List Command)
      → s.keyword ≡ keyword.Subckt → IsSubckt s.arguments subckt
      → AreCommands ss commands → AreCommands (s ∷ ss) (record { line = s.number; body = Subckt subckt } ∷ commands)

-- a `.model` line and the lines up to the next one are a model
pub record IsModel (header : StatementValue) (body : List StatementValue) (model : ModelValue) : Type 0 where
  pub is : header.keyword ≡ keyword.Model
  pub name : header.arguments ≡ model.name ∷ []
  pub line : model.line ≡ header.number
  pub ports : (p : Ports) → ports_of p model ≡ names_in p body
  pub once : (p : Ports) → AreOnce (ports_of p model)
  pub commands : AreCommands body model.commands

-- lines split before each `.model` line into models, with no line before the first one
pub data AreModels : List StatementValue → List ModelValue → Type 0 where
  none : AreModels [] []
  model : (header : StatementValue) (body rest ss : List StatementValue) (model : ModelValue) (models : List ModelValue)
      → IsModel header body model → ss ≡ body ++ rest → AreModels rest models → AreModels (header ∷ ss) (model ∷ models)

-- statements are a library: at least one model, and no two of one name
pub record AreLibrary (ss : List StatementValue) (library : LibraryValue) : Type 0 where
  pub models : AreModels ss library.models
  pub some : 0 < length library.models
  pub once : AreOnce (map (λ (m : ModelValue). m.name) library.models)

-- a text denotes a library
pub record Denotes (text : List ℕ) (library : LibraryValue) : Type 0 where
  pub lines : List LineValue
  pub lines_are : lines_of text ≡ Ok lines
  pub models_are : AreLibrary (statements text lines) library
