-- Worked examples of the definitions: the words of the other commands, the lines of `gen`, and files that are written one after the other.
use Rattle.test_rows.proofs.Common.{◌≡◌, ℕ, List, [], ◌∷◌, ◌++◌, codes, Some, None, refl, inl, inr, arith, FewestLeaves, LeastCost, Spec, Map, Bits, Gen, Repack, Prove, Audit, Graph, command_of}
use Rattle.std.specs.Fmt.{digits}
use Rattle.tl_io.specs.Causes.{Rose}
use Rattle.tl_io.specs.Content.{extended}
use Rattle.tl_io.specs.Shelf.{with_file}
use Rattle.cmd_stations.specs.Source.{SourceWords}
use Rattle.cmd_base.specs.Walk.{Outside}
use Rattle.cmd_base.specs.Writing.{FileText, AreWritten, IsCutInFile, IsCutInLine}
use Rattle.cmd_run.specs.GenCommand.Verdict.{first_line, last_line}

-- the words K NETLIST PARAMS, for tables of six inputs
abbrev six : List (List ℕ)
six = codes "6" ∷ codes "n" ∷ codes "p" ∷ []

abbrev source : SourceWords
source = record { rule = FewestLeaves; k = 6; netlist = codes "n"; params = codes "p" }

-- the commands of some words
a_spec : command_of FewestLeaves 4 (codes "spec" ∷ six ++ codes "n" ∷ []) ≡ Some (Spec (record { source = source; out = codes "n" }))
a_spec = refl

a_map : command_of FewestLeaves 0 (codes "map" ∷ six ++ codes "t" ∷ codes "m" ∷ []) ≡ Some (Map (record { source = source; template = codes "t"; pack = codes "m" }))
a_map = refl

a_compact_map : command_of LeastCost 0 (codes "map" ∷ six ++ codes "t" ∷ codes "m" ∷ []) ≡ Some (Map (record { source = record { rule = LeastCost; k = 6; netlist = codes "n"; params = codes "p" }; template = codes "t"; pack = codes "m" }))
a_compact_map = refl

a_host : command_of FewestLeaves 4 (codes "bits" ∷ codes "m" ∷ codes "m" ∷ []) ≡ Some (Bits (record { pack = codes "m"; script = codes "m" }))
a_host = refl

a_multiplier : command_of FewestLeaves 4 (codes "gen" ∷ codes "32" ∷ codes "4294967295" ∷ []) ≡ Some (Gen (record { rule = FewestLeaves; digits = 32; seed = 4294967295 }))
a_multiplier = refl

a_repack : command_of FewestLeaves 4 (codes "repack" ∷ codes "m" ∷ codes "n" ∷ []) ≡ Some (Repack (record { old = codes "m"; new = codes "n" }))
a_repack = refl

a_proof : command_of FewestLeaves 4 (codes "prove" ∷ six ++ codes "c" ∷ []) ≡ Some (Prove (record { source = source; cert = codes "c" }))
a_proof = refl

an_audit : command_of FewestLeaves 4 (codes "audit" ∷ six ++ codes "c" ∷ []) ≡ Some (Audit (record { source = source; cert = codes "c" }))
an_audit = refl

a_compact_audit : command_of LeastCost 4 (codes "audit" ∷ six ++ codes "c" ∷ []) ≡ Some (Audit (record { source = record { rule = LeastCost; k = 6; netlist = codes "n"; params = codes "p" }; cert = codes "c" }))
a_compact_audit = refl

a_compact_graph : command_of LeastCost 4 (codes "graph" ∷ codes "n" ∷ codes "p" ∷ codes "o" ∷ []) ≡ Some (Graph (record { source = record { rule = LeastCost; k = 0; netlist = codes "n"; params = codes "p" }; out = codes "o" }))
a_compact_graph = refl

-- and words of no form: one file for both, no digit or too many, too great a seed, a word too many
one_file_of_map : command_of FewestLeaves 4 (codes "map" ∷ six ++ codes "t" ∷ codes "t" ∷ []) ≡ None
one_file_of_map = refl

one_file_of_repack : command_of FewestLeaves 4 (codes "repack" ∷ codes "m" ∷ codes "m" ∷ []) ≡ None
one_file_of_repack = refl

no_digits : command_of FewestLeaves 4 (codes "gen" ∷ codes "0" ∷ codes "1" ∷ []) ≡ None
no_digits = refl

many_digits : command_of FewestLeaves 4 (codes "gen" ∷ codes "33" ∷ codes "1" ∷ []) ≡ None
many_digits = refl

great_seed : command_of FewestLeaves 4 (codes "gen" ∷ codes "1" ∷ codes "4294967296" ∷ []) ≡ None
great_seed = refl

one_word_more : command_of FewestLeaves 4 (codes "bits" ∷ codes "m" ∷ codes "s" ∷ codes "0" ∷ []) ≡ None
one_word_more = refl

-- the lines of `gen`
case_line : first_line (record { rule = FewestLeaves; digits = 2; seed = 7 }) ≡ codes "gen 2 7\n"
unfolding digits
case_line = refl

totals_line : last_line 12 345 ≡ codes "rounds 100 writes 12 total 345\n"
unfolding digits
totals_line = refl

-- two files and a line
abbrev template : FileText
template = record { name = codes "t"; bytes = codes "xy" }

abbrev pack : FileText
pack = record { name = codes "m"; bytes = codes "z" }

abbrev line : List ℕ
line = codes "l\n"

module _ (old : Outside) where
  -- all is written
  written : AreWritten (template ∷ pack ∷ []) line old
      (record old { files = with_file (with_file old.files (codes "t") (codes "xy")) (codes "m") (codes "z"); bytes = extended old.bytes (codes "l\n") })
  written = record { files = refl; bytes = refl; ports = refl }

  -- where the shelf's count of faults rose
  module _ (faults : ℕ) (rose : Rose old.file_faults faults) where
    -- behind one byte of the first file: the second one isn't touched
    cut_in_first : IsCutInFile (template ∷ pack ∷ []) line old (record old { files = with_file old.files (codes "t") (codes "x"); file_faults = faults })
    cut_in_first = record {
      before = [];
      cut = template;
      after = pack ∷ [];
      split = refl;
      files = inr (inr (1, omega arith, refl));
      cause = rose;
      bytes = refl;
      put_faults = refl;
      ports = refl;
    }

    -- the second file can't be begun: the first one is whole
    cut_at_second : IsCutInFile (template ∷ pack ∷ []) line old (record old { files = with_file old.files (codes "t") (codes "xy"); file_faults = faults })
    cut_at_second = record {
      before = template ∷ [];
      cut = pack;
      after = [];
      split = refl;
      files = inl refl;
      cause = rose;
      bytes = refl;
      put_faults = refl;
      ports = refl;
    }

  -- where the output's count rose, behind one byte of the line
  cut_in_line : (faults : ℕ) → Rose old.put_faults faults → IsCutInLine (template ∷ []) line old (record old { files = with_file old.files (codes "t") (codes "xy"); bytes = extended old.bytes (codes "l"); put_faults = faults })
  cut_in_line faults rose = record {
    part = 1;
    within = omega arith;
    files = refl;
    bytes = refl;
    cause = rose;
    ports = refl;
  }
