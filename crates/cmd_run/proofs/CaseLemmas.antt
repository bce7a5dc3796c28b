-- The texts of a case as files: what they are read as, and what stops their walk.
use Rattle.cmd_run.proofs.Common.{◌≡◌, ℕ, ◌<◌, ◌≤◌, List, length, Some, Result, Ok, Err, codes, refl, sym, ap, ◌∙◌, subst, arith, same_Some, MOST_BYTES, Files, ShelfSeen, CaseValue, IsShort, text_of, NamesValue, Stops, outcome_at, Told, Explains, Outcome, GenWords, Ready, Source, IsUnmapped, script_reading, IsTextSettled, IsMappingSettled, ToTables, ComesFrom, ComesWith, IsRefused, IsSettled, run_reading, IsReadyFor, case_words, case_files, shelf_of, HaveSource, HaveCase, OfCase, StopsIn, StopsSource, gen_reading, text_settles, netlist_explains, params_explains, made_explains, script_explains, HasText, IsNetlistText, NetlistRefusal, IsParamsRefusal, IsScriptRefusal}
use Rattle.gen_case.specs.Netlist.{netlist_lines}
use Rattle.std.specs.Cmp.Lexicographic.{nat_list_cmp_total}
use Rattle.std.specs.FinMap.{get, insert, empty, get-insert}
use Rattle.std.specs.Prelude.{IfOk, IfErr}
use Rattle.gen_case.specs.Script.{all_params, script_lines}
use Rattle.param_list.specs.ParamsText.{HasOneReading}
use Rattle.run_text.specs.ScriptText as script_text
use Rattle.cover_pick.specs.declared.rule.Rule.{Rule}
use Rattle.cmd_base.specs.Refusals.{most_bytes}
use Rattle.cmd_base.specs.declared.outcome.File.TheVariants as file
use Rattle.cmd_base.specs.declared.outcome.Outcome.TheVariants as outcome
use Rattle.cmd_stations.specs.declared.stop.Stop.{Stop}
use Rattle.cmd_stations.specs.declared.netlist_text.Netlist.{Netlist as NetlistValue}

-- What is so of some files is told by a shelf that has them.
module _ (files : Files) where
  pub told_of : (P : Files → Type 0) → P files → Told (shelf_of files).files P
  told_of P here others told = subst P (same_Some files others told) here

  nothing_given : (most : ℕ) → (shelf_of files).given ≤ most
  nothing_given most = omega arith

  -- a script that stops the walk
  pub script_stops : (script : List ℕ) (names : NamesValue) (s : Stop) (o : Outcome) → o ≡ outcome_at file.Script s → HasText files (codes "script") script → script_text.HasOneReading names script → Stops (IsScriptRefusal names script) s
      → Explains (script_reading (codes "script") names) (shelf_of files) (shelf_of files) o
  script_stops script names s o at there one refused =
      script_explains (codes "script") names (shelf_of files) (shelf_of files) script s o at (nothing_given (most_bytes file.Script)) (told_of (λ fs. HasText fs (codes "script") script) there) one refused

-- the walk through a netlist, its parameters and the mapping, by a rule
module _ (rule : Rule) (files : Files) where
  -- a netlist's text that stops the walk
  pub netlist_stops : (netlist params : List ℕ) (s : Stop) (o : Outcome) → o ≡ outcome_at file.Netlist s → HaveSource files netlist params → Stops (NetlistRefusal netlist) s → Stops (λ _. IsTextSettled netlist) s
      → StopsSource rule files o
  netlist_stops netlist params s o at have refused settled =
      netlist_explains ToTables (case_words rule).source (shelf_of files) (shelf_of files) netlist s o at (nothing_given files (most_bytes file.Netlist)) (told_of files (λ fs. HasText fs (case_words rule).source.netlist netlist) have.has_netlist) refused settled

  -- the walk comes past a netlist's text
  netlist_comes : (netlist params : List ℕ) (n : NetlistValue) → HaveSource files netlist params → IsNetlistText netlist n → IsTextSettled netlist → ComesFrom files (case_words rule).source n
  netlist_comes netlist params n have is settled = record {
    netlist = record { text = netlist; there = have.has_netlist; is = is };
    settled = text_settles files (case_words rule).source netlist have.has_netlist settled;
  }

  -- a text of its parameters that stops it
  pub params_stop : (netlist params : List ℕ) (n : NetlistValue) (s : Stop) (o : Outcome) → o ≡ outcome_at file.Params s → HaveSource files netlist params → IsNetlistText netlist n → IsTextSettled netlist → HasOneReading n.flat params → Stops (IsParamsRefusal n.flat params) s
      → StopsSource rule files o
  params_stop netlist params n s o at have is settled one refused =
      params_explains ToTables (case_words rule).source (shelf_of files) (shelf_of files) n (told_of files (λ fs. ComesFrom fs (case_words rule).source n) (netlist_comes netlist params n have is settled)) params s o at
      (nothing_given files (most_bytes file.Params)) (told_of files (λ fs. HasText fs (case_words rule).source.params params) have.has_params) one refused

  -- a mapping that stops it
  pub mapping_stops : (source : Source) (s : Stop) (o : Outcome) → o ≡ outcome_at file.Netlist s → ComesWith files (case_words rule).source source → Stops (IsUnmapped rule source (case_words rule).source.k) s → Stops (λ _. IsMappingSettled rule source (case_words rule).source.k) s
      → StopsSource rule files o
  mapping_stops source s o at comes refused settled =
      made_explains ToTables (case_words rule).source (shelf_of files) (shelf_of files) source s o at (nothing_given files (most_bytes file.Netlist)) (told_of files (λ fs. ComesWith fs (case_words rule).source source) comes) refused settled

module _ (words : GenWords) where
  abbrev netlist_text : List ℕ
  netlist_text = text_of (netlist_lines words.digits)

  abbrev params_text : List ℕ
  params_text = text_of (all_params words.digits words.seed)

  abbrev script_text_of : List ℕ
  script_text_of = text_of (script_lines words.digits words.seed)

  abbrev first : Files
  first = insert empty (codes "netlist") netlist_text

  abbrev second : Files
  second = insert first (codes "params") params_text

  -- The generated texts are the files of the case.
  pub netlist_there : get (case_files words) (codes "netlist") ≡ Some (text_of (netlist_lines words.digits))
  netlist_there =
      get-insert nat_list_cmp_total second (codes "script") script_text_of (codes "netlist") ∙ get-insert nat_list_cmp_total first (codes "params") params_text (codes "netlist")
      ∙ get-insert nat_list_cmp_total empty (codes "netlist") netlist_text (codes "netlist")

  pub have_case : (made : CaseValue) (netlist params script : List ℕ) → netlist ≡ made.netlist → params ≡ made.params → script ≡ made.script → made.netlist ≡ netlist_text → made.params ≡ params_text → made.script ≡ script_text_of → IsShort made
      → HaveCase (case_files words) netlist params script
  have_case made netlist params script n p s netlist_is params_are script_is short = record {
    source = record {
      has_netlist = record {
        is = netlist_there ∙ ap Some (sym (n ∙ netlist_is));
        short = subst (λ (text : List ℕ). length text ≤ MOST_BYTES) (sym n) short.netlist;
      };
      has_params = record {
        is = get-insert nat_list_cmp_total second (codes "script") script_text_of (codes "params") ∙ get-insert nat_list_cmp_total first (codes "params") params_text (codes "params") ∙ ap Some (sym (p ∙ params_are));
        short = subst (λ (text : List ℕ). length text ≤ MOST_BYTES) (sym p) short.params;
      };
    };
    has_script = record {
      is = get-insert nat_list_cmp_total second (codes "script") script_text_of (codes "script") ∙ ap Some (sym (s ∙ script_is));
      short = subst (λ (text : List ℕ). length text ≤ MOST_BYTES) (sym s) short.script;
    };
  }

  -- As no byte of them was given and no read failed, a refusal alone can stop the walk, or want of memory.
  pub case_explains : (o : Outcome) → Explains (run_reading (case_words words.rule)) (shelf_of (case_files words)) (shelf_of (case_files words)) o → (old new : ShelfSeen) → Explains (gen_reading words) old new o
  case_explains (outcome.TooLong f) h old new = let past : most_bytes f < 0 = h.given in absurd (omega arith)
  case_explains (outcome.Refused f r) h old new = record {
    given = tt;
    is_read = h.is_read;
    not_long = h.not_long;
    is = λ files has. subst (λ fs. IsRefused fs (case_words words.rule) f r) (sym has) (h.is (case_files words) refl);
    settled = λ files has. subst (λ fs. IsSettled fs (case_words words.rule)) (sym has) (h.settled (case_files words) refl);
  }
  case_explains (outcome.ReadFault f) h old new = let rose : 1 ≤ 0 = h.fault.rose in absurd (omega arith)
  case_explains outcome.Memory h old new = tt
  case_explains o h old new = absurd h

  -- So what is ready for these texts is the job of the case, and what stops them stops it.
  module _ (netlist params script : List ℕ) (have : HaveCase (case_files words) netlist params script) where
    pub case_ready : (result : Result Ready Outcome) → IfOk result (λ r. OfCase netlist params script (λ files. IsReadyFor files (case_words words.rule) r)) → IfOk result (IsReadyFor (case_files words) (case_words words.rule))
    case_ready (Ok ready) is = is (case_files words) have
    case_ready (Err o) is = tt

    pub case_stopped : (result : Result Ready Outcome) → IfErr result (λ o. OfCase netlist params script (λ files. StopsIn (run_reading (case_words words.rule)) files o))
        → IfErr result (λ o. (old new : ShelfSeen) → Explains (gen_reading words) old new o)
    case_stopped (Ok ready) stops = tt
    case_stopped (Err o) stops = case_explains o (stops (case_files words) have)
