-- No station refuses a text or a pack for its length: that depends on the count of its bytes alone.
use Rattle.cmd_stations.proofs.Common.{◌≡◌, ℕ, Bool, true, false, List, Option, Some, None, bytes_eq, refl, sym, ap, ◌∙◌, RefusalValue, FlatValue, NamesValue, Aig, RootsValue, FlatErr, CutErr, Rule, too_long, Source, NetlistRefusal, fault, unsound, IsParamsRefusal, IsScriptRefusal, IsUnchosen, cuts, work, IsUnmapped, too_many, unchosen, Aim, ToGraph, ToLabels, ToTables, IsUnlabelled, unbuilt, many_cuts, IsUnmade, IsPackRefusal}
use Rattle.blif_read.specs.declared.blif_err.BlifErr.{BlifErr}
use Rattle.blif_read.specs.declared.blif_err.BlifErr.TheVariants as blif_err
use Rattle.blif_read.specs.Refusals.{refusal_of as blif_refusal}
use Rattle.aiger_io.specs.declared.aag_err.AagErr.{AagErr}
use Rattle.aiger_io.specs.declared.aag_err.AagErr.TheVariants as aag_err
use Rattle.aiger_io.specs.Refusals.{refusal_of as aag_refusal}
use Rattle.blif_flat.specs.declared.flat_err.FlatErr.TheVariants as flat_err
use Rattle.blif_flat.specs.Refusals.{refusal_of as flat_refusal}
use Rattle.param_list.specs.declared.par_err.ParErr.{ParErr}
use Rattle.param_list.specs.declared.par_err.ParErr.TheVariants as list_err
use Rattle.param_list.specs.Refusals.{refusal_of as list_refusal}
use Rattle.run_text.specs.declared.script_err.ScriptErr.{ScriptErr}
use Rattle.run_text.specs.declared.script_err.ScriptErr.TheVariants as events_err
use Rattle.run_text.specs.ScriptRefusals.{refusal_of as events_refusal}
use Rattle.cut_enum.specs.declared.table.CutErr.TheVariants as cuts_err
use Rattle.cut_enum.specs.Refusals.{refusal_of as cuts_refusal}
use Rattle.ppc_file.specs.declared.pack_err.PackErr.{PackErr}
use Rattle.ppc_file.specs.declared.pack_err.PackErr.TheVariants as pack_err
use Rattle.ppc_file.specs.Refusals.{refusal_of as pack_refusal}
use Rattle.cmd_stations.specs.Texts as form

-- the code of an overlong file, and no other one's
abbrev pub is_long : Option RefusalValue → Bool
is_long None = false
is_long (Some r) = bytes_eq r.code too_long.code

pub other_code : {o : Option RefusalValue} {r : RefusalValue} → o ≡ Some r → r ≡ too_long → is_long o ≡ false → ⊥
other_code tells is other = let wrong : false ≡ true = sym other ∙ ap is_long (tells ∙ ap Some is) in cc

-- each layer's errors have other codes
blif_code : (e : BlifErr) → is_long (blif_refusal e) ≡ false
blif_code blif_err.Memory = refl
blif_code e = refl

aag_code : (e : AagErr) → is_long (aag_refusal e) ≡ false
aag_code aag_err.Memory = refl
aag_code e = refl

flat_code : (e : FlatErr) → is_long (flat_refusal e) ≡ false
flat_code flat_err.Memory = refl
flat_code e = refl

list_code : (e : ParErr) → is_long (list_refusal e) ≡ false
list_code list_err.Memory = refl
list_code e = refl

events_code : (e : ScriptErr) → is_long (events_refusal e) ≡ false
events_code events_err.Memory = refl
events_code e = refl

cuts_code : (e : CutErr) → is_long (cuts_refusal e) ≡ false
cuts_code cuts_err.Memory = refl
cuts_code e = refl

pack_code : (e : PackErr) → is_long (pack_refusal e) ≡ false
pack_code pack_err.Memory = refl
pack_code e = refl

pub netlist_not_long : (text : List ℕ) (r : RefusalValue) → NetlistRefusal text r → r ≡ too_long → ⊥
netlist_not_long text r (fault (form.LibraryRefusal.blif off e stands tells)) is = other_code tells is (blif_code e)
netlist_not_long text r (fault (form.LibraryRefusal.aiger begins_so e stands tells)) is = other_code tells is (aag_code e)
netlist_not_long text r (unsound library e denotes stands tells) is = other_code tells is (flat_code e)

pub params_not_long : (flat : FlatValue) (text : List ℕ) (r : RefusalValue) → IsParamsRefusal flat text r → r ≡ too_long → ⊥
params_not_long flat text r refused is = other_code refused.tells is (list_code refused.e)

pub script_not_long : (names : NamesValue) (text : List ℕ) (r : RefusalValue) → IsScriptRefusal names text r → r ≡ too_long → ⊥
script_not_long names text r refused is = other_code refused.tells is (events_code refused.e)

unchosen_not_long : (rule : Rule) (g : Aig) (k : ℕ) (roots : RootsValue) (r : RefusalValue) → IsUnchosen rule g k roots r → r ≡ too_long → ⊥
unchosen_not_long rule g k roots r (cuts all e limit tells) is = other_code tells is (cuts_code e)
unchosen_not_long rule g k roots r (work over tells) is = other_code tells is refl

unmapped_not_long : (rule : Rule) (source : Source) (k : ℕ) (r : RefusalValue) → IsUnmapped rule source k r → r ≡ too_long → ⊥
unmapped_not_long rule source k r (too_many over tells) is = other_code tells is refl
unmapped_not_long rule source k r (unchosen graph) is = unchosen_not_long rule graph.graph k graph.roots r graph.unchosen is

unlabelled_not_long : (rule : Rule) (source : Source) (k : ℕ) (r : RefusalValue) → IsUnlabelled rule source k r → r ≡ too_long → ⊥
unlabelled_not_long rule source k r (unbuilt u) is = other_code u.tells is refl
unlabelled_not_long rule source k r (many_cuts all u) is = other_code u.tells is (cuts_code u.e)

pub unmade_not_long : (aim : Aim) (rule : Rule) (source : Source) (k : ℕ) (r : RefusalValue) → IsUnmade aim rule source k r → r ≡ too_long → ⊥
unmade_not_long ToGraph rule source k r u is = other_code u.tells is refl
unmade_not_long ToLabels rule source k r u is = unlabelled_not_long rule source k r u is
unmade_not_long ToTables rule source k r u is = unmapped_not_long rule source k r u is

pub pack_not_long : (bytes : List ℕ) (r : RefusalValue) → IsPackRefusal bytes r → r ≡ too_long → ⊥
pack_not_long bytes r refused is = other_code refused.tells is (pack_code refused.e)
