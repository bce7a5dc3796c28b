-- The arguments of `gen`, and the generated texts as the files of a job of `run`, with LUTs of at most 4 inputs whose cuts are chosen by a rule, and no ports.
use Rattle.std.specs.Prelude.{codes, ℕ, ◌≤◌, ◌&&◌, nat_le, if◌then◌else◌, List, [], ◌∷◌, bytes_eq, Option, Some, None}
use Rattle.std.specs.FinMap.{insert, empty}
use Rattle.cmd_run.specs.Words.{Files, Rule, decimal_of}
use Rattle.gen_case.specs.Lines.{text_of}
use Rattle.gen_case.specs.Netlist.{netlist_lines}
use Rattle.gen_case.specs.Script.{all_params, script_lines}
use Rattle.cmd_run.specs.declared.gen_command.words.GenWords.{GenWords}
use Rattle.cmd_run.specs.Run.Job.{RunWords}

abbrev pub case_words : Rule → RunWords
case_words rule = record {
  source = record { rule = rule; k = 4; netlist = codes "netlist"; params = codes "params" };
  script = codes "script";
  ports = record { serving = 0; spares = 0 };
}

abbrev pub case_files : GenWords → Files
case_files words =
    insert (insert (insert empty (codes "netlist") (text_of (netlist_lines words.digits))) (codes "params") (text_of (all_params words.digits words.seed))) (codes "script") (text_of (script_lines words.digits words.seed))

-- 1 to 32 digits, and a seed below 2^32
abbrev pub gen_words : Rule → Option ℕ → Option ℕ → Option GenWords
gen_words rule (Some digits) (Some seed) = if nat_le 1 digits && nat_le digits 32 && nat_le seed 4294967295 then Some (record { rule = rule; digits = digits; seed = seed }) else None
gen_words rule digits seed = None

-- the words `gen N SEED`, where cuts are chosen by a rule
abbrev pub gen_of : Rule → List (List ℕ) → Option GenWords
gen_of rule (command ∷ digits ∷ seed ∷ []) = if bytes_eq command (codes "gen") then gen_words rule (decimal_of digits) (decimal_of seed) else None
gen_of rule words = None

-- the number of digits is 1 to 32
pub record HasDigits (words : GenWords) : Type 0 where
  pub least : 1 ≤ words.digits
  pub most : words.digits ≤ 32
