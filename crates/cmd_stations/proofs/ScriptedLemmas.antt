-- A mapped source circuit with its script: what its files hold isn't refused, it is refused for one reason, and what its stations return explains how a command ends there.
use Rattle.cmd_stations.proofs.Common.{◌≡◌, List, Option, refl, subst, RefusalValue, Files, ShelfSeen, TemplateValue, EventValue, event_values, Told, Explains, File, Outcome, IsPart, Explains_lift, Source, HasMapped, ReachesSource, names_in, HasScript, IsScriptRefused, IsScriptSettled, script_reading, ToTables, source_word, IsSourceSettled, source_reading, ScriptedWords, HasScripted, IsScriptedRefused, IsScriptedSettled, IsOfScripted, scripted_word, scripted_reading, ComesPast, ComesScripted, rules}
use Rattle.cmd_stations.specs.declared.scripted.Scripted.{Scripted}
use Rattle.cmd_stations.proofs.StopLemmas.{of_source, of_script}
use Rattle.cmd_stations.proofs.RefusedLemmas.{settled_once, template_once, source_or_not, events_or_not, source_refused_once, events_refused_once}
use Rattle.cmd_stations.specs.Script as scripted

module _ (files : Files) (words : ScriptedWords) (settled : IsScriptedSettled files words) where
  -- a script is refused behind the one source circuit that is mapped
  refused_there : (a b : Source) (t u : TemplateValue) (f : File) (r : RefusalValue) → HasMapped files words.source a t → HasMapped files words.source b u
      → IsScriptRefused files words.script (names_in words.forms a t.bits) f r → IsScriptRefused files words.script (names_in words.forms b u.bits) f r
  refused_there a b t u f r x y refused =
      subst (λ (v : TemplateValue). IsScriptRefused files words.script (names_in words.forms b v.bits) f r) (template_once files words.source a b t u settled.source x y)
      (subst (λ s. IsScriptRefused files words.script (names_in words.forms s t.bits) f r) (settled_once files words.source a b settled.source x.has y.has) refused)

  -- what the files hold isn't refused
  pub scripted_or_not : (source : Source) (template : TemplateValue) (events : List EventValue) (f : File) (r : RefusalValue) → HasScripted files words source template events → IsScriptedRefused files words f r → ⊥
  scripted_or_not source template events f r has (scripted.IsScriptedRefused.source refused) = source_or_not files words.source settled.source source template f r has.mapped refused
  scripted_or_not source template events f r has (scripted.IsScriptedRefused.script other there past refused) =
      events_or_not files words.script (names_in words.forms source template.bits) events f r (settled.script source template has.mapped) has.script
      (refused_there other source there template f r past has.mapped refused)

  -- and what is refused is refused for one reason
  pub scripted_refused_once : (f e : File) (r s : RefusalValue) → IsScriptedRefused files words f r → IsScriptedRefused files words e s → r ≡ s
  scripted_refused_once f e r s (scripted.IsScriptedRefused.source one) (scripted.IsScriptedRefused.source other) = source_refused_once files words.source settled.source f e r s one other
  scripted_refused_once f e r s (scripted.IsScriptedRefused.source one) (scripted.IsScriptedRefused.script source template past other) = search (rules, source_or_not)
  scripted_refused_once f e r s (scripted.IsScriptedRefused.script source template past one) (scripted.IsScriptedRefused.source other) = search (rules, source_or_not)
  scripted_refused_once f e r s (scripted.IsScriptedRefused.script source template past one) (scripted.IsScriptedRefused.script again other_template has other) =
      events_refused_once files words.script (names_in words.forms again other_template.bits) f e r s (settled.script again other_template has) (refused_there source again template other_template f r past has one) other

-- the reading of a source circuit is part of that of both
source_part : (words : ScriptedWords) (told : Option Files) → IsPart (source_reading ToTables words.source) (scripted_reading words) told
source_part words told = record {
  read = of_source IsOfScripted tt tt;
  word = of_source (λ f. source_word words.source f ≡ scripted_word words f) refl refl;
  given = λ f n h. h;
  files = λ files told. told;
  reaches = λ files told f h reached. reached;
  refused = λ files told f r refused. scripted.IsScriptedRefused.source refused;
  settled = λ files told f r settled refused. record { source = settled; script = λ source template past. absurd (source_or_not files words.source settled source template f r past refused) };
}

pub source_to_scripted : (words : ScriptedWords) (old new : ShelfSeen) (o : Outcome) → Explains (source_reading ToTables words.source) old new o → Explains (scripted_reading words) old new o
source_to_scripted words old new o h = Explains_lift (source_reading ToTables words.source) (scripted_reading words) old new (source_part words old.files) o h

-- and so is that of a script behind a source circuit that is mapped
module _ (words : ScriptedWords) (source : Source) (template : TemplateValue) where
  names_settled : (files : Files) → HasMapped files words.source source template → IsSourceSettled ToTables files words.source → IsScriptSettled files words.script (names_in words.forms source template.bits)
      → (other : Source) (t : TemplateValue) → HasMapped files words.source other t → IsScriptSettled files words.script (names_in words.forms other t.bits)
  names_settled files past settled script other t has =
      subst (λ (u : TemplateValue). IsScriptSettled files words.script (names_in words.forms other u.bits)) (template_once files words.source source other template t settled past has)
      (subst (λ s. IsScriptSettled files words.script (names_in words.forms s template.bits)) (settled_once files words.source source other settled past.has has.has) script)

  script_part : (told : Option Files) → Told told (λ files. HasMapped files words.source source template × IsSourceSettled ToTables files words.source)
      → IsPart (script_reading words.script (names_in words.forms source template.bits)) (scripted_reading words) told
  script_part is_told comes = record {
    read = of_script IsOfScripted tt;
    word = of_script (λ f. words.script ≡ scripted_word words f) refl;
    given = λ f n h. h;
    files = λ files told. told;
    reaches = λ files told f h reached. of_script (λ f. ReachesSource files words.source f) (source, template, (comes files told).0) f h;
    refused = λ files told f r refused. scripted.IsScriptedRefused.script source template (comes files told).0 refused;
    settled = λ files told f r settled refused. record { source = (comes files told).1; script = names_settled files (comes files told).0 (comes files told).1 settled };
  }

pub script_to_scripted : (words : ScriptedWords) (old new : ShelfSeen) (o : Outcome) (source : Source) (template : TemplateValue)
    → Told old.files (λ files. HasMapped files words.source source template × IsSourceSettled ToTables files words.source)
    → Explains (script_reading words.script (names_in words.forms source template.bits)) old new o → Explains (scripted_reading words) old new o
script_to_scripted words old new o source template comes h =
    Explains_lift (script_reading words.script (names_in words.forms source template.bits)) (scripted_reading words) old new (script_part words source template old.files comes) o h

-- the walk comes past both
pub comes_scripted : (files : Files) (words : ScriptedWords) (s : Scripted) → ComesPast files words.source s.mapped
    → HasScript files words.script (names_in words.forms s.mapped.source s.mapped.tables.template.bits) (event_values s.events.items)
    → IsScriptSettled files words.script (names_in words.forms s.mapped.source s.mapped.tables.template.bits) → ComesScripted files words s
comes_scripted files words s past script settled = record {
  has = record { mapped = past.has; script = script };
  settled = record { source = past.settled; script = names_settled words s.mapped.source s.mapped.tables.template files past.has past.settled settled };
}
