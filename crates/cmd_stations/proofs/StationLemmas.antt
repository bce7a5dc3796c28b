-- What a station answers explains how a command ends there.
use Rattle.cmd_stations.proofs.Common.{◌≡◌, ℕ, ◌≤◌, List, refl, sym, subst, MOST_BYTES, RefusalValue, too_long, most_bytes, File, Files, ShelfSeen, NamesValue, Stops, outcome_at, Told, Explains, Outcome, Stop, Refused, Memory, Source, SourceWords, HasText, IsLongText, IsNetlistText, NetlistRefusal, IsParamsRefusal, IsScriptRefusal, Aim, IsUnmade, HasNetlist, HasParams, HasSource, long_netlist, netlist, long_params, params, unmade, script_reading, IsTextSettled, IsNetlistSettled, AreParamsSettled, IsMakingSettled, IsSourceSettled, source_reading, ComesFrom, ComesWith, IsUnread, InFiles, FileReading, IsOverlong, arith}
use Rattle.param_list.specs.ParamsText.{IsParamsText, HasOneReading}
use Rattle.cmd_stations.specs.declared.netlist_text.Netlist.{Netlist as NetlistValue}
use Rattle.cmd_stations.proofs.StopLemmas.{text_once, short_or_long}
use Rattle.cmd_stations.proofs.TextLemmas.{params_or_refused}
use Rattle.cmd_stations.proofs.LengthLemmas.{netlist_not_long, params_not_long, unmade_not_long, script_not_long}
use Rattle.cmd_stations.proofs.RefusedLemmas.{netlist_once, source_once}
use Rattle.run_text.specs.ScriptText as script_text
use Rattle.cmd_base.specs.declared.outcome.File.TheVariants as file
use Rattle.cmd_stations.specs.Script as script
use Rattle.cmd_stations.specs.Stops as unread

-- how a reading ends at a file that isn't read, or whose content is refused
module _ (reading : FileReading) (f : File) (old new : ShelfSeen) (is_read : reading.IsRead f) (given : new.given ≤ most_bytes f → reading.HasGiven f new.given) where
  pub unread_ends : (Told old.files (λ files. IsOverlong (most_bytes f) files (reading.word f)) → InFiles reading old.files (λ files. reading.IsRefused files f too_long × reading.IsSettled files))
      → InFiles reading old.files (λ files. reading.Reaches files f) → (o : Outcome) → IsUnread (reading.word f) f old new o → Explains reading old new o
  unread_ends long reached o (unread.IsUnread.too_long at over told) =
      subst (λ x. Explains reading old new x) (sym at) (record { given = over; is_read = is_read; is = λ files has. (long told files has).0; settled = λ files has. (long told files has).1 })
  unread_ends long reached o (unread.IsUnread.fault at few fault) = subst (λ x. Explains reading old new x) (sym at) (record { given = given few; is_read = is_read; fault = fault; reached = reached })
  unread_ends long reached o (unread.IsUnread.memory at) = subst (λ x. Explains reading old new x) (sym at) tt

  pub stop_ends : (Q : RefusalValue → Type 0) (s : Stop) (o : Outcome) → o ≡ outcome_at f s → new.given ≤ most_bytes f → Stops Q s → ((r : RefusalValue) → Q r → r ≡ too_long → ⊥)
      → ((r : RefusalValue) → Q r → InFiles reading old.files (λ files. reading.IsRefused files f r × reading.IsSettled files)) → Explains reading old new o
  stop_ends Q (Refused r) o at few u not_long refused =
      subst (λ x. Explains reading old new x) (sym at) (record { given = given few; is_read = is_read; not_long = not_long r u; is = λ files has. (refused r u files has).0; settled = λ files has. (refused r u files has).1 })
  stop_ends Q Memory o at few u not_long refused = subst (λ x. Explains reading old new x) (sym at) tt

-- a stop for a refusal, and what holds anyway
stops_both : (Q : RefusalValue → Type 0) (A : Type 0) (s : Stop) → Stops Q s → Stops (λ _. A) s → Stops (λ r. Q r × A) s
stops_both Q A (Refused r) u a = (u, a)
stops_both Q A Memory u a = tt

-- what a text settles, and what is refused, settles what the walk comes to
module _ (files : Files) (words : SourceWords) where
  pub text_settles : (text : List ℕ) → HasText files words.netlist text → IsTextSettled text → IsNetlistSettled files words
  text_settles text there settled other has = subst (λ ts. IsTextSettled ts) (text_once files words.netlist text other there has) settled

  pub list_settles : (n : NetlistValue) (text : List ℕ) → HasText files words.params text → HasOneReading n.flat text → AreParamsSettled files words n
  list_settles n text there settled other has = subst (λ ts. HasOneReading n.flat ts) (text_once files words.params text other there has) settled

-- and with that what is made of it
module _ (aim : Aim) (files : Files) (words : SourceWords) where
  -- where no netlist is read, nothing comes after it
  unread_settles : IsNetlistSettled files words → ((n : NetlistValue) → HasNetlist files words n → ⊥) → IsSourceSettled aim files words
  unread_settles settled none = record { netlist = settled; params = λ n has. absurd (none n has); made = λ source has. absurd (none source.netlist has.netlist) }

  long_netlist_settles : IsLongText files words.netlist → IsSourceSettled aim files words
  long_netlist_settles long = unread_settles (λ text there. absurd (short_or_long files words.netlist text there long)) (λ n has. short_or_long files words.netlist has.text has.there long)

  netlist_settles : (text : List ℕ) (r : RefusalValue) → HasText files words.netlist text → IsTextSettled text → NetlistRefusal text r → IsSourceSettled aim files words
  netlist_settles text r there settled refused =
      unread_settles (text_settles files words text there settled) (λ n has. settled.not_both n r (subst (λ ts. IsNetlistText ts n) (text_once files words.netlist has.text text has.there there) has.is) refused)

  -- where no list of the netlist's is read, nor
  unlisted_settles : (n : NetlistValue) → ComesFrom files words n → AreParamsSettled files words n → ((source : Source) → HasSource files words source → ⊥) → IsSourceSettled aim files words
  unlisted_settles n comes settled none = record {
    netlist = comes.settled;
    params = λ m has. subst (λ x. AreParamsSettled files words x) (netlist_once files words n m comes.settled comes.netlist has) settled;
    made = λ source has. absurd (none source has);
  }

  long_params_settles : (n : NetlistValue) → ComesFrom files words n → IsLongText files words.params → IsSourceSettled aim files words
  long_params_settles n comes long = grind arith

  params_settles : (n : NetlistValue) (text : List ℕ) (r : RefusalValue) → ComesFrom files words n → HasText files words.params text → HasOneReading n.flat text → IsParamsRefusal n.flat text r → IsSourceSettled aim files words
  params_settles n text r comes there one refused = unlisted_settles n comes (list_settles files words n text there one) none
    where
      none : (source : Source) → HasSource files words source → ⊥
      none source has =
          let same : source.netlist ≡ n = netlist_once files words source.netlist n comes.settled has.netlist comes.netlist in
          let here : HasParams files words n.flat source.params.list = subst (λ (m : NetlistValue). HasParams files words m.flat source.params.list) same has.params in
          params_or_refused n.flat text source.params.list r one (subst (λ ts. IsParamsText n.flat ts source.params.list) (text_once files words.params here.text text here.there there) here.is) refused

  pub making_settles : (source : Source) → ComesWith files words source → IsMakingSettled aim words.rule source words.k → IsSourceSettled aim files words
  making_settles source comes settled = record {
    netlist = comes.netlist;
    params = λ m has. subst (λ x. AreParamsSettled files words x) (netlist_once files words source.netlist m comes.netlist comes.has.netlist has) comes.params;
    made = λ other has. subst (λ x. IsMakingSettled aim words.rule x words.k) (sym (source_once files words other source comes.netlist comes.params has comes.has)) settled;
  }

-- what the stations of a source circuit answer explains how it ends
module _ (aim : Aim) (words : SourceWords) (old new : ShelfSeen) where
  pub netlist_unread : (o : Outcome) → IsUnread words.netlist file.Netlist old new o → Explains (source_reading aim words) old new o
  netlist_unread o u = unread_ends (source_reading aim words) file.Netlist old new tt (λ g. g) (λ long files told. (long_netlist refl (long files told) refl, long_netlist_settles aim files words (long files told))) (λ files told. tt) o u

  pub netlist_explains : (text : List ℕ) (s : Stop) (o : Outcome) → o ≡ outcome_at file.Netlist s → new.given ≤ MOST_BYTES → Told old.files (λ files. HasText files words.netlist text) → Stops (NetlistRefusal text) s
      → Stops (λ _. IsTextSettled text) s → Explains (source_reading aim words) old new o
  netlist_explains text s o at g there u settled = stop_ends (source_reading aim words) file.Netlist old new tt (λ n. n) (λ r. NetlistRefusal text r × IsTextSettled text) s o at g (stops_both (NetlistRefusal text) (IsTextSettled text) s u settled)
      (λ r both. netlist_not_long text r both.0) (λ r both files told. (netlist refl text (there files told) both.0, netlist_settles aim files words text r (there files told) both.1 both.0))

  module _ (n : NetlistValue) (comes : Told old.files (λ files. ComesFrom files words n)) where
    pub params_unread : (o : Outcome) → IsUnread words.params file.Params old new o → Explains (source_reading aim words) old new o
    params_unread o u = unread_ends (source_reading aim words) file.Params old new tt (λ g. g)
        (λ long files told. (long_params refl n (comes files told).netlist (long files told) refl, long_params_settles aim files words n (comes files told) (long files told))) (λ files told. (n, (comes files told).netlist)) o u

    pub params_explains : (text : List ℕ) (s : Stop) (o : Outcome) → o ≡ outcome_at file.Params s → new.given ≤ MOST_BYTES → Told old.files (λ files. HasText files words.params text) → HasOneReading n.flat text
        → Stops (IsParamsRefusal n.flat text) s → Explains (source_reading aim words) old new o
    params_explains text s o at g there one u = stop_ends (source_reading aim words) file.Params old new tt (λ n. n) (IsParamsRefusal n.flat text) s o at g u (params_not_long n.flat text)
        (λ r refused files told. (params refl n text (comes files told).netlist (there files told) refused, params_settles aim files words n text r (comes files told) (there files told) one refused))

  pub made_explains : (source : Source) (s : Stop) (o : Outcome) → o ≡ outcome_at file.Netlist s → new.given ≤ MOST_BYTES → Told old.files (λ files. ComesWith files words source) → Stops (IsUnmade aim words.rule source words.k) s
      → Stops (λ _. IsMakingSettled aim words.rule source words.k) s → Explains (source_reading aim words) old new o
  made_explains source s o at g comes u settled =
      let Unmade = IsUnmade aim words.rule source words.k in
      stop_ends (source_reading aim words) file.Netlist old new tt (λ n. n) (λ r. Unmade r × _) s o at g (stops_both Unmade _ s u settled) (λ r both. unmade_not_long aim words.rule source words.k r both.0)
      (λ r both files told. (unmade refl source (comes files told).has both.0, making_settles aim files words source (comes files told) both.1))

-- and so do those of a script
module _ (name : List ℕ) (names : NamesValue) (old new : ShelfSeen) where
  pub script_unread : (o : Outcome) → IsUnread name file.Script old new o → Explains (script_reading name names) old new o
  script_unread o u = unread_ends (script_reading name names) file.Script old new tt (λ g. g)
      (λ long files told. (script.IsScriptRefused.long refl (long files told) refl, λ text there. absurd (short_or_long files name text there (long files told)))) (λ files told. tt) o u

  pub script_explains : (text : List ℕ) (s : Stop) (o : Outcome) → o ≡ outcome_at file.Script s → new.given ≤ MOST_BYTES → Told old.files (λ files. HasText files name text) → script_text.HasOneReading names text
      → Stops (IsScriptRefusal names text) s → Explains (script_reading name names) old new o
  script_explains text s o at g there one u = stop_ends (script_reading name names) file.Script old new tt (λ n. n) (IsScriptRefusal names text) s o at g u (script_not_long names text)
      (λ r refused files told. (script.IsScriptRefused.text refl text (there files told) refused, λ other has. subst (λ ts. script_text.HasOneReading names ts) (text_once files name text other (there files told) has) one))
