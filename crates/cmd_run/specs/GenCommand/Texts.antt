-- The texts of a case, wherever they are the files of `case_words`.
use Rattle.std.specs.Prelude.{ℕ, List, Some, codes}
use Rattle.cmd_run.specs.Words.{Files, ShelfSeen, no_shelf, Rule, FileReading, Explains, Outcome, ToTables, names_of, source_reading, Source}
use Rattle.run_text.specs.NamesValue.{NamesValue}
use Rattle.cmd_stations.specs.Tables.{ComesWith}
use Rattle.cmd_stations.specs.Texts.{HasText}
use Rattle.cmd_stations.specs.declared.mapped.MappedSource.{MappedSource}
use Rattle.cmd_run.specs.GenCommand.Case.{case_words}

-- a shelf with these files, of which no byte was given
abbrev pub shelf_of : Files → ShelfSeen
shelf_of files = record no_shelf { files = Some files }

-- files have the texts of a netlist and of its parameters
pub record HaveSource (files : Files) (netlist params : List ℕ) : Type 0 where
  pub has_netlist : HasText files (codes "netlist") netlist
  pub has_params : HasText files (codes "params") params

-- and that of a script
pub record HaveCase (files : Files) (netlist params script : List ℕ) : Type 0 where
  pub source : HaveSource files netlist params
  pub has_script : HasText files (codes "script") script

-- what is so of all files with the texts of a case, and with that of a script
abbrev pub OfCase : List ℕ → List ℕ → List ℕ → (Files → Type 0) → Type 0
OfCase netlist params script P = (files : Files) → HaveCase files netlist params script → P files

abbrev pub OfScript : List ℕ → (Files → Type 0) → Type 0
OfScript script P = (files : Files) → HasText files (codes "script") script → P files

-- the walk through files comes past the source circuit, or a reading of them, as that of the source circuit, stops with an outcome
abbrev pub ComesCase : Rule → Files → Source → Type 0
ComesCase rule files source = ComesWith files (case_words rule).source source

abbrev pub StopsIn : FileReading → Files → Outcome → Type 0
StopsIn reading files o = Explains reading (shelf_of files) (shelf_of files) o

abbrev pub StopsSource : Rule → Files → Outcome → Type 0
StopsSource rule files o = StopsIn (source_reading ToTables (case_words rule).source) files o

-- the names that the script of a mapped case may have
abbrev pub case_names : MappedSource → NamesValue
case_names m = names_of m.source m.tables.template.bits
