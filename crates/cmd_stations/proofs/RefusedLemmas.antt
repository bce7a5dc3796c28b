-- What files hold is the only thing that they hold, it isn't refused, and they are refused for one reason.
use Rattle.cmd_stations.proofs.Common.{◌≡◌, List, ap, ◌∙◌, subst, Files, TemplateValue, Param, IsParamsText, Source, SourceWords, IsNetlistText, IsMapped, Aim, ToTables, HasNetlist, HasParams, HasSource, HasMapped, IsLeastMapped, IsNetlistSettled, AreParamsSettled, IsSourceSettled, ℕ, RefusalValue, EventValue, NamesValue, IsScript, File, HasText, NetlistRefusal, IsParamsRefusal, IsUnmade, IsSourceRefused, long_netlist, netlist, long_params, params, unmade, HasScript, IsScriptRefused, IsScriptSettled, sym, same_Some, Rule, too_long, IsLongText, IsScriptRefusal, ToGraph, ToLabels, IsMakingSettled, arith}
use Rattle.cmd_stations.specs.declared.netlist_text.Netlist.{Netlist as NetlistValue}
use Rattle.cmd_stations.proofs.StopLemmas.{text_once, short_or_long}
use Rattle.cmd_stations.proofs.TextLemmas.{params_or_refused, script_or_refused, params_refused_once, script_refused_once}
use Rattle.cmd_stations.specs.Script as script

pub netlist_once : (files : Files) (words : SourceWords) (n m : NetlistValue) → IsNetlistSettled files words → HasNetlist files words n → HasNetlist files words m → n ≡ m
netlist_once files words n m settled a b = grind arith

pub params_once : (files : Files) (words : SourceWords) (n : NetlistValue) (ps qs : List Param) → AreParamsSettled files words n → HasParams files words n.flat ps → HasParams files words n.flat qs → ps ≡ qs
params_once files words n ps qs settled a b = grind arith

-- both: a source circuit
pub source_once : (files : Files) (words : SourceWords) (a b : Source) → IsNetlistSettled files words → AreParamsSettled files words b.netlist → HasSource files words a → HasSource files words b → a ≡ b
source_once files words a b one settled x y =
    let same : a.netlist ≡ b.netlist = netlist_once files words a.netlist b.netlist one x.netlist y.netlist in
    let lists : a.params.list ≡ b.params.list = params_once files words b.netlist a.params.list b.params.list settled (subst (λ (n : NetlistValue). HasParams files words n.flat a.params.list) same x.params) y.params in
    ap (λ n. record { netlist = n; params = a.params }) same ∙ ap (λ ps. record { netlist = b.netlist; params = record { list = ps } }) lists

-- where all its files are settled
pub settled_once : {aim : Aim} (files : Files) (words : SourceWords) (a b : Source) → IsSourceSettled aim files words → HasSource files words a → HasSource files words b → a ≡ b
settled_once files words a b settled x y = source_once files words a b settled.netlist (settled.params b.netlist y.netlist) x y

pub template_once : (files : Files) (words : SourceWords) (a b : Source) (t u : TemplateValue) → IsSourceSettled ToTables files words → HasMapped files words a t → HasMapped files words b u → t ≡ u
template_once files words a b t u settled x y =
    (settled.made b y.has).one_template t u (subst (λ s. IsMapped words.rule s words.k t) (settled_once files words a b settled x.has y.has) x.mapped) y.mapped

-- a source circuit that files hold is sound, and its template maps it with the least depth
pub least_mapped : (files : Files) (words : SourceWords) (source : Source) (template : TemplateValue) → IsSourceSettled ToTables files words → (has : HasMapped files words source template) → IsLeastMapped files words source template has
least_mapped files words source template settled has = record {
  sound = (settled.netlist has.has.netlist.text has.has.netlist.there).sound source.netlist has.has.netlist.is;
  least = (settled.made source has.has).maps template has.mapped;
}

-- What files hold isn't refused.
module _ {aim : Aim} (files : Files) (words : SourceWords) (settled : IsSourceSettled aim files words) where
  -- a netlist is read or refused
  pub read_or_not : (n : NetlistValue) (text : List ℕ) (r : RefusalValue) → HasNetlist files words n → HasText files words.netlist text → NetlistRefusal text r → ⊥
  read_or_not n text r has there refused =
      (settled.netlist text there).not_both n r (subst (λ ts. IsNetlistText ts n) (text_once files words.netlist has.text text has.there there) has.is) refused

  -- a list is read or refused
  pub list_or_not : (source : Source) (n : NetlistValue) (text : List ℕ) (r : RefusalValue) → HasSource files words source → HasNetlist files words n → HasText files words.params text → IsParamsRefusal n.flat text r → ⊥
  list_or_not source n text r has own there refused =
      let same : source.netlist ≡ n = netlist_once files words source.netlist n settled.netlist has.netlist own in
      let here : HasParams files words n.flat source.params.list = subst (λ (m : NetlistValue). HasParams files words m.flat source.params.list) same has.params in
      grind (arith, params_or_refused, text_once)

  -- so a source circuit that is read isn't refused, unless for what is made of it
  pub refused_unmade : (source : Source) (f : File) (r : RefusalValue) → HasSource files words source → IsSourceRefused aim files words f r → IsUnmade aim words.rule source words.k r
  refused_unmade source f r has (long_netlist at long is) = absurd (short_or_long files words.netlist has.netlist.text has.netlist.there long)
  refused_unmade source f r has (netlist at text there refused) = absurd (read_or_not source.netlist text r has.netlist there refused)
  refused_unmade source f r has (long_params at n own long is) = absurd (short_or_long files words.params has.params.text has.params.there long)
  refused_unmade source f r has (params at n text own there refused) = absurd (list_or_not source n text r has own there refused)
  refused_unmade source f r has (unmade at other own u) = subst (λ s. IsUnmade aim words.rule s words.k r) (settled_once files words other source settled own has) u

-- and one that is mapped isn't refused, at any of its files, for any reason
pub source_or_not : (files : Files) (words : SourceWords) → IsSourceSettled ToTables files words → (source : Source) (t : TemplateValue) (f : File) (r : RefusalValue) → HasMapped files words source t → IsSourceRefused ToTables files words f r → ⊥
source_or_not files words settled source t f r past refused = (settled.made source past.has).not_both t r past.mapped (refused_unmade files words settled source f r past.has refused)

-- nor is a script that is read
pub events_or_not : (files : Files) (name : List ℕ) (names : NamesValue) (events : List EventValue) (f : File) (r : RefusalValue) → IsScriptSettled files name names → HasScript files name names events → IsScriptRefused files name names f r → ⊥
events_or_not files name names events f r settled has (script.IsScriptRefused.long at long is) = short_or_long files name has.text has.there long
events_or_not files name names events f r settled has (script.IsScriptRefused.text at ts there refused) = grind arith

-- what is made of a source circuit is refused for one reason
unmade_once : (aim : Aim) (rule : Rule) (source : Source) (k : ℕ) (r s : RefusalValue) → IsMakingSettled aim rule source k → IsUnmade aim rule source k r → IsUnmade aim rule source k s → r ≡ s
unmade_once ToGraph rule source k r s settled u v = same_Some r s (sym u.tells ∙ v.tells)
unmade_once aim rule source k r s settled u v = settled.one_refusal r s u v

module _ {aim : Aim} (files : Files) (words : SourceWords) (settled : IsSourceSettled aim files words) where
  netlist_short : {A : Type 0} (n : NetlistValue) → HasNetlist files words n → IsLongText files words.netlist → A
  netlist_short n has long = absurd (short_or_long files words.netlist has.text has.there long)

  -- a netlist that is too long is refused for that
  netlist_long : (f : File) (r : RefusalValue) → IsLongText files words.netlist → IsSourceRefused aim files words f r → r ≡ too_long
  netlist_long f r long (long_netlist at again is) = is
  netlist_long f r long (netlist at text there refused) = absurd (short_or_long files words.netlist text there long)
  netlist_long f r long (long_params at n has other is) = netlist_short n has long
  netlist_long f r long (params at n text has there refused) = netlist_short n has long
  netlist_long f r long (unmade at source has u) = netlist_short source.netlist has.netlist long

  -- one that is refused for what it says, for that
  netlist_refused : (f : File) (text : List ℕ) (r s : RefusalValue) → HasText files words.netlist text → NetlistRefusal text s → IsSourceRefused aim files words f r → r ≡ s
  netlist_refused f text r s there refused (long_netlist at long is) = absurd (short_or_long files words.netlist text there long)
  netlist_refused f text r s there refused (netlist at other has first) =
      (settled.netlist text there).one_refusal r s (subst (λ ts. NetlistRefusal ts r) (text_once files words.netlist other text has there) first) refused
  netlist_refused f text r s there refused (long_params at n has other is) = absurd (read_or_not files words settled n text s has there refused)
  netlist_refused f text r s there refused (params at n other has has_list bad) = absurd (read_or_not files words settled n text s has there refused)
  netlist_refused f text r s there refused (unmade at source has u) = absurd (read_or_not files words settled source.netlist text s has.netlist there refused)

  -- a list that is too long, behind a netlist that is read
  params_long : (f : File) (n : NetlistValue) (r : RefusalValue) → HasNetlist files words n → IsLongText files words.params → IsSourceRefused aim files words f r → r ≡ too_long
  params_long f n r has long (long_netlist at other is) = is
  params_long f n r has long (netlist at text there refused) = absurd (read_or_not files words settled n text r has there refused)
  params_long f n r has long (long_params at m own other is) = is
  params_long f n r has long (params at m text own there refused) = absurd (short_or_long files words.params text there long)
  params_long f n r has long (unmade at source own u) = absurd (short_or_long files words.params own.params.text own.params.there long)

  -- one that is refused for what it says
  params_refused : (f : File) (n : NetlistValue) (text : List ℕ) (r s : RefusalValue) → HasNetlist files words n → HasText files words.params text → IsParamsRefusal n.flat text s → IsSourceRefused aim files words f r → r ≡ s
  params_refused f n text r s has there refused (long_netlist at long is) = netlist_short n has long
  params_refused f n text r s has there refused (netlist at other own bad) = absurd (read_or_not files words settled n other r has own bad)
  params_refused f n text r s has there refused (long_params at m own long is) = absurd (short_or_long files words.params text there long)
  params_refused f n text r s has there refused (params at m other own there2 bad) =
      let same : m ≡ n = netlist_once files words m n settled.netlist own has in
      let here : IsParamsRefusal n.flat text r = subst (λ (x : NetlistValue). IsParamsRefusal x.flat text r) same (subst (λ ts. IsParamsRefusal m.flat ts r) (text_once files words.params other text there2 there) bad) in
      params_refused_once n.flat text r s (settled.params n has text there) here refused
  params_refused f n text r s has there refused (unmade at source own u) = absurd (list_or_not files words settled source n text s own has there refused)

  -- and what is made of a source circuit
  made_refused : (f : File) (source : Source) (r s : RefusalValue) → HasSource files words source → IsUnmade aim words.rule source words.k s → IsSourceRefused aim files words f r → r ≡ s
  made_refused f source r s has u (long_netlist at long is) = netlist_short source.netlist has.netlist long
  made_refused f source r s has u (netlist at text there refused) = absurd (read_or_not files words settled source.netlist text r has.netlist there refused)
  made_refused f source r s has u (long_params at n own long is) = absurd (short_or_long files words.params has.params.text has.params.there long)
  made_refused f source r s has u (params at n text own there refused) = absurd (list_or_not files words settled source n text r has own there refused)
  made_refused f source r s has u (unmade at other own v) =
      unmade_once aim words.rule source words.k r s (settled.made source has) (subst (λ x. IsUnmade aim words.rule x words.k r) (settled_once files words other source settled own has) v) u

  -- So a source circuit is refused for one reason.
  pub source_refused_once : (f e : File) (r s : RefusalValue) → IsSourceRefused aim files words f r → IsSourceRefused aim files words e s → r ≡ s
  source_refused_once f e r s one (long_netlist at long is) = netlist_long f r long one ∙ sym is
  source_refused_once f e r s one (netlist at text there refused) = netlist_refused f text r s there refused one
  source_refused_once f e r s one (long_params at n has long is) = params_long f n r has long one ∙ sym is
  source_refused_once f e r s one (params at n text has there refused) = params_refused f n text r s has there refused one
  source_refused_once f e r s one (unmade at source has u) = made_refused f source r s has u one

-- and so is a script
pub events_refused_once : (files : Files) (name : List ℕ) (names : NamesValue) (f e : File) (r s : RefusalValue) → IsScriptSettled files name names → IsScriptRefused files name names f r → IsScriptRefused files name names e s → r ≡ s
events_refused_once files name names f e r s settled (script.IsScriptRefused.long at long is) (script.IsScriptRefused.long at2 long2 is2) = is ∙ sym is2
events_refused_once files name names f e r s settled (script.IsScriptRefused.long at long is) (script.IsScriptRefused.text at2 ts there refused) = absurd (short_or_long files name ts there long)
events_refused_once files name names f e r s settled (script.IsScriptRefused.text at ts there refused) (script.IsScriptRefused.long at2 long is) = absurd (short_or_long files name ts there long)
events_refused_once files name names f e r s settled (script.IsScriptRefused.text at ts there refused) (script.IsScriptRefused.text at2 ts2 there2 refused2) = grind arith
