-- Hosts that start on the same pack are alike, and a file is of one pack.
use Rattle.cmd_stations.proofs.Common.{◌≡◌, ℕ, Bool, List, length, map, Some, Ok, sym, ap, ◌∙◌, subst, subst₂, inr, refl, option_and_then, length-map, same_Some, fun_ext, Files, Aig, FitsGraph, Kind, Lit, Pair, PackParam, PackValue, IsConf, inits_of, IsPackFile, AreSame, SpecialiserValue, HasPack, pack_names, present_bytes, IsHostStart, names_of, HasScript, HasMapped, IsMapped, IsTunable, SourceWords, Source, TemplateValue, EventValue, NamesValue, event_of, line_event, SamePacksReplay, arith, rules, each_of}
use Rattle.std.specs.FinMap.{get}
use Rattle.ppc_file.proofs.OneReading.{one_pack}
use Rattle.cmd_stations.proofs.ShowLemmas.{pack_param_names}
use Rattle.run_text.specs.Sayings.{said_of}
use Rattle.tl_text.specs.LineValue.{WordsLine, words_line}
use Rattle.tl_text.specs.Lines.{lines_of}
use Rattle.cmd_stations.proofs.AlikeLemmas.{AreAlike, StandAlike, same_conf, come_alike}

-- the same parameters, graph and bits, but for the graph's room
abbrev roomed : PackValue → ℕ → PackValue
roomed p n = record { params = p.params; graph = record { kinds = p.graph.kinds; pairs = p.graph.pairs; max = n }; bits = p.bits }

roomed_is : (p q : PackValue) → AreSame p q → roomed p q.graph.max ≡ q
roomed_is p q same = grind arith

-- the room doesn't matter to the values
fits_roomed : (g : Aig) (n : ℕ) (sources values : List Bool) → FitsGraph g sources values → FitsGraph (record { kinds = g.kinds; pairs = g.pairs; max = n }) sources values
fits_roomed g n sources values fits = search rules

-- so packs that are the same are alike
pub same_alike : (p q : PackValue) → AreSame p q → AreAlike p q
same_alike p q same = search (rules, roomed_is, fits_roomed)

-- hosts that start on them stand alike
pub start_alike : (p q : PackValue) (alike : AreAlike p q) → inits_of p.params ≡ inits_of q.params → (h k : SpecialiserValue) → IsHostStart p h → (there : IsHostStart q k) → StandAlike p q alike there.one_config h k
start_alike p q alike inits h k here there =
    let long : length (inits_of q.params) ≡ length q.params = length-map q.params (λ (x : PackParam). x.init) in
    record {
      pack = here.pack;
      other = there.pack;
      params = here.params ∙ (inits ∙ sym there.params);
      config = same_conf p q alike there.one_config p q (inits_of p.params) (inits_of q.params) h.state.config k.state.config refl refl inits long here.config there.config;
      count = ap length there.params ∙ long;
    }

-- and so they put the same lines
pub same_packs_replay : SamePacksReplay
same_packs_replay p q same = record {
  are = λ h k here there events lines others end last steps again.
      (come_alike p q (same_alike p q same) there.one_config (start_alike p q (same_alike p q same) (ap inits_of same.params) h k here there) steps again refl).lines_are;
}

-- packs that are the same as one are the same as each other
pub same_both : (p q r : PackValue) → AreSame p r → AreSame r q → AreSame p q
same_both p q r a b = record { params = a.params ∙ b.params; kinds = a.kinds ∙ b.kinds; pairs = a.pairs ∙ b.pairs; bits = a.bits ∙ b.bits }

-- the pack of a file
pub file_same : (bytes : List ℕ) (p q : PackValue) → IsPackFile bytes p → IsPackFile bytes q → AreSame p q
file_same bytes p q a b = one_pack bytes p q a b

-- the file in version 2 of the pack of a file is a file of that pack
pub repacked : (bytes : List ℕ) (pack : PackValue) → IsPackFile bytes pack → IsPackFile (present_bytes pack) pack
repacked bytes pack is = record { is_pack = is.is_pack; normal = is.normal; spelled = inr refl }

-- the pack of a file with these bytes
pub pack_at : (files : Files) (name bytes : List ℕ) (p : PackValue) → get files name ≡ Some bytes → HasPack files name p → IsPackFile bytes p
pack_at files name bytes p at has = subst (λ bs. IsPackFile bs p) (same_Some has.bytes bytes (sym has.there.is ∙ at)) has.is

-- the same texts hold the same source circuit, mapped
pub mapped_there : (first files : Files) (from to : SourceWords) (source : Source) (template : TemplateValue) → from.k ≡ to.k → from.rule ≡ to.rule → get first from.netlist ≡ get files to.netlist → get first from.params ≡ get files to.params
    → HasMapped first from source template → HasMapped files to source template
mapped_there first files from to source template k rule netlist params has = grind (arith, subst₂)

-- a text has the same events wherever the same parameters may be named, by the same forms
pub script_same : (first others : Files) (name other : List ℕ) (a b : NamesValue) (es fs : List EventValue) → get others other ≡ get first name → a.forms ≡ b.forms → a.params ≡ b.params → HasScript first name a es → HasScript others other b fs → es ≡ fs
script_same first others name other a b es fs same forms params x y = grind (arith, same_Some, fun_ext)

-- what a script may name by a source circuit's tables has the parameters of a pack of their bits
pub params_same : (source : Source) (template : TemplateValue) (pack p : PackValue) → IsTunable source template pack → AreSame p pack → (names_of source template.bits).params ≡ (pack_names p).params
params_same source template pack p tunable same =
    sym (pack_param_names tunable.graph template.luts source.params.list pack tunable.pack_is) ∙ sym (ap (map (λ (q : PackParam). q.name)) same.params)
