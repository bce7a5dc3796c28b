-- The configurations of a template's pack are those of the template, there is one pack, and the pack keeps what every pack keeps.
use Rattle.bit_fun.proofs.Common.{◌≡◌, ℕ, ◌+◌, ◌<◌, Bool, false, List, [], length, map, get_or, sym, ap, ◌∙◌, subst, arith, length-map, length-replicate, get_or-map, none-some, Parameter, Lit, Pair, Aig, first_and, AreNormal, value_of, is_values_of, Extends-refl, Lut, bits_of, Param, PackValue, IsConf, param_count, IsBit, IsMapped, IsConfiguration, pack_param, BitsMade, MakesTables, IsPackOf, HasOnePack, ◌-◌, ◌*◌, ◌/◌, ◌≤◌, ◌∷◌, replicate, refl, inl, inr, slice_get_within, In, Regular, node_count, IsTableOf, source, free, node, IsLight, IsMakeable, bits_worked, waiting, PackParam, IsPack, IsTableIn, HasAllTables}
use Rattle.aig_core.specs.Roots.{lits_of}
use Rattle.bit_fun.specs.PackLaw.{HasConfigurations}
use Rattle.bit_fun.proofs.LawLemmas.{table_leaves, table_blocks, configuration_lawful}
use Rattle.bit_fun.proofs.MadeLemmas.{literal_at, HasBitAt, AreTablesMade, tables_made, values_over, tables_once}
use Rattle.tl_text.specs.Clean.{IsClean}
use Rattle.tl_text.specs.Once.{AreOnce}
use Rattle.param_list.specs.Parameters.{AreNamed, param_names}
use Rattle.bit_fun.proofs.BitLemmas.{AreLeaves}
use Rattle.bit_fun.proofs.ConeFunctionLemmas.{tables_done}

-- there is one pack
pub has_one_pack : (g : Aig) (luts : List Lut) (params : List Param) → IsMapped g luts → HasOnePack g luts params
has_one_pack g luts params m = record { only = λ made other a b. tables_once g (1 + length params) [] luts made other (λ t i. table_leaves g m.k t ((m.mapping).table t i)) a b }

-- a pack has as many parameters as the list
pub params_len : (g : Aig) (luts : List Lut) (list : List Param) (pack : PackValue) → IsPackOf g luts list pack → length pack.params ≡ length list
params_len g luts list pack is = ap length is.params_are ∙ length-map list pack_param

-- what was made for its bits
pub pack_made : (g : Aig) (luts : List Lut) (list : List Param) (params : List Bool) (made : BitsMade) → IsMapped g luts → param_count g.kinds ≡ length list → length params ≡ length list
    → MakesTables g (1 + length list) [] luts made → AreTablesMade g params (1 + length list) 0 luts [] made
pack_made g luts list params made m count len makes =
    tables_made g params (1 + length list) 0 luts [] made (ap (λ n. 1 + n) (sym len)) (len ∙ sym count) (m.mapping).bases (record { each = λ i p at. absurd (none-some p at); once = λ i j p at to. absurd (none-some p at) }) makes

-- each bit of a configuration of the pack is the bit of its address
conf_bit : (g : Aig) (luts : List Lut) (params bits values : List Bool) (pairs : List Pair) (lits : List Lit) (b : ℕ) → bits ≡ map (value_of values) (lits_of lits) → values ≡ values_over params pairs
    → b < length lits → HasBitAt g params luts b pairs (literal_at lits b) → IsBit g luts params b (get_or bits b false)
conf_bit g luts params bits values pairs lits b are same within h =
    let long : length (lits_of lits) ≡ length lits = length-map lits (λ (l : Lit). l.0) in
    let at : get_or bits b false ≡ value_of values (literal_at lits b) =
    ap (λ xs. get_or xs b false) are
    ∙ get_or-map (value_of values) (lits_of lits) b 0 false (omega arith)
    ∙ ap (value_of values) (get_or-map (λ (l : Lit). l.0) lits b (record { 0 = 0 }) 0 within) in
    record {
      table = h.table;
      in' = h.in';
      from = h.from;
      before = h.before;
      value = (h.has).value;
      by = (h.has).by;
      is = at ∙ ap (λ vs. value_of vs (literal_at lits b)) same ∙ (h.has).is;
    }

-- a configuration of the pack has the bit of each address
pack_configuration : (g : Aig) (luts : List Lut) (list : List Param) (pack : PackValue) (params bits : List Bool) → IsMapped g luts → param_count g.kinds ≡ length list → IsPackOf g luts list pack
    → length params ≡ length pack.params → IsConf pack params bits → IsConfiguration g luts params bits
pack_configuration g luts list pack params bits m count is len conf =
    let n : length params ≡ length list = len ∙ params_len g luts list pack is in
    let made : AreTablesMade g params (1 + length list) 0 luts [] is.made = pack_made g luts list params is.made m count n is.makes in
    let first : first_and pack.graph ≡ 1 + length list = ap (λ k. 1 + k) (ap length is.kinds ∙ length-replicate (length list) Parameter) in
    let normal : AreNormal (first_and pack.graph) pack.graph.pairs =
    subst (λ f. AreNormal f pack.graph.pairs) (sym first) (subst (λ ps. AreNormal (1 + length list) ps) (sym is.pairs) made.normal) in
    let same : conf.values ≡ values_over params is.made.pairs = is_values_of pack.graph params conf.values normal conf.fits ∙ ap (values_over params) is.pairs in
    let all : length bits ≡ bits_of luts =
    ap length conf.are ∙ length-map (lits_of pack.bits) (value_of conf.values) ∙ length-map pack.bits (λ (l : Lit). l.0) ∙ ap length is.bits ∙ made.count in
    let lits : bits ≡ map (value_of conf.values) (lits_of is.made.bits) = conf.are ∙ ap (λ (ls : List Lit). map (value_of conf.values) (lits_of ls)) is.bits in
    let long : length is.made.bits ≡ bits_of luts = made.count in
    record {
      count = all;
      each = λ b l.
          let low : b < length is.made.bits = omega arith in
          let zero_more : 0 + b ≡ b = omega arith in
          conf_bit g luts params bits conf.values is.made.pairs is.made.bits b lits same low
          (subst (λ k. HasBitAt g params luts k is.made.pairs (literal_at is.made.bits b)) zero_more (made.each is.made.pairs (Extends-refl is.made.pairs) b low));
    }

-- the configurations of the pack are those of the template, and lawful
pub has_configurations : (g : Aig) (luts : List Lut) (list : List Param) (pack : PackValue) → IsMapped g luts → param_count g.kinds ≡ length list → IsPackOf g luts list pack → HasConfigurations g luts pack
has_configurations g luts list pack m count is = record {
  is = λ params bits len conf. pack_configuration g luts list pack params bits m count is len conf;
  law = λ params bits len conf.
      configuration_lawful g luts params bits m (len ∙ params_len g luts list pack is ∙ sym count) (pack_configuration g luts list pack params bits m count is len conf);
}

-- a source is a node of the graph
source_inside : (g : Aig) (n : ℕ) → n - 1 < length g.kinds → 1 ≤ n → n < node_count g
source_inside g n w a = omega arith

table_inside : (g : Aig) (k : ℕ) (t : Lut) → IsTableOf g k t → t.lit.0 / 2 < node_count g
table_inside g k t (source s odd e) = source_inside g (t.lit.0 / 2) (slice_get_within g.kinds (t.lit.0 / 2 - 1) Regular s.is) s.above
table_inside g k t (free (inl z) e) = omega arith
table_inside g k t (free (inr p) e) = source_inside g (t.lit.0 / 2) (slice_get_within g.kinds (t.lit.0 / 2 - 1) Parameter p.is) p.above
table_inside g k t (node a c) = a.1

-- each table of a mapping is a table over the graph
pub table_in : (g : Aig) (luts : List Lut) (t : Lut) → IsMapped g luts → In luts t → IsTableIn g t
table_in g luts t m i =
    let is : IsTableOf g m.k t = (m.mapping).table t i in
    let are : AreLeaves g t.leaves = table_leaves g m.k t is in
    record { ascending = are.ascending; kinds = are.kinds; blocks = table_blocks g m.k t is; inside = table_inside g m.k t is }

-- what holds of each parameter of a list holds of each of the pack
each_param : (P : PackParam → Type 0) (list : List Param) → ((p : Param) → In list p → P (pack_param p)) → (p : PackParam) → In (map pack_param list) p → P p
each_param P [] h p i = absurd i
each_param P (q ∷ qs) h p (inl e) = subst P (sym e) (h q (inl refl))
each_param P (q ∷ qs) h p (inr i) = each_param P qs (λ r j. h r (inr j)) p i

names_same : (list : List Param) → map (λ (p : PackParam). p.name) (map pack_param list) ≡ param_names list
names_same [] = refl
names_same (q ∷ qs) = ap (λ ns. q.name ∷ ns) (names_same qs)

pub pack_of : (g : Aig) (luts : List Lut) (list : List Param) (old new : Aig) (lits bits : List Lit) → old.kinds ≡ replicate (length list) Parameter → old.pairs ≡ [] → HasAllTables g luts old new lits bits
    → IsPackOf g luts list (record { params = map pack_param list; graph = new; bits = bits })
pack_of g luts list old new lits bits kinds none made =
    let first : first_and old ≡ 1 + length list = ap (λ n. 1 + n) (ap length kinds ∙ length-replicate (length list) Parameter) in
    let all : MakesTables g (first_and old) old.pairs luts (record { pairs = new.pairs; bits = bits }) = tables_done g made.free luts old new made.kept lits bits made.made in
    record {
      made = record { pairs = new.pairs; bits = bits };
      makes = subst (λ f. MakesTables g f [] luts (record { pairs = new.pairs; bits = bits })) first (subst (λ ps. MakesTables g (first_and old) ps luts (record { pairs = new.pairs; bits = bits })) none all);
      params_are = refl;
      kinds = ap (λ (m : Aig). m.kinds) (made.made).same ∙ kinds;
      pairs = refl;
      bits = refl;
    }

pub pack_kept : (g : Aig) (luts : List Lut) (list : List Param) (old new : Aig) (lits bits : List Lit) → IsMapped g luts → IsMakeable g luts → param_count g.kinds ≡ length list → AreNamed list → old.kinds ≡ replicate (length list) Parameter
    → old.pairs ≡ [] → old.max ≡ 33554432 → HasAllTables g luts old new lits bits → IsPack (map pack_param list) new bits
unfolding pack_of
pack_kept g luts list old new lits bits m light count named kinds none max made =
    let is : IsPackOf g luts list (record { params = map pack_param list; graph = new; bits = bits }) = pack_of g luts list old new lits bits kinds none made in
    let given : length (replicate (length list) false) ≡ length list = length-replicate (length list) false in
    let all : AreTablesMade g (replicate (length list) false) (1 + length list) 0 luts [] is.made = pack_made g luts list (replicate (length list) false) is.made m count given is.makes in
    let long : length (map pack_param list) ≡ length list = length-map list pack_param in
    let new_kinds : new.kinds ≡ replicate (length list) Parameter = is.kinds in
    let sources : length new.kinds ≡ length list = ap length new_kinds ∙ length-replicate (length list) Parameter in
    let room : length new.pairs + (made.made).work + waiting made.kept (made.made).shared ≤ old.max = (made.made).room in
    let by_rule : IsLight light.supply g luts = light.light in
    let fits : bits_of luts ≤ by_rule.work = bits_worked g luts by_rule.work by_rule.is in
    let low : by_rule.work ≤ 33554432 = by_rule.light in
    let bits_len : length bits ≡ bits_of luts = all.count in
    let few : length list ≤ 65535 = named.few in
    record {
      few_params = omega arith;
      short = λ p i. each_param (λ (x : PackParam). length x.name ≤ 65535) list named.short p i;
      clean = λ p i. each_param (λ (x : PackParam). IsClean x.name) list named.clean p i;
      once = subst AreOnce (sym (names_same list)) named.once;
      kinds = new_kinds ∙ ap (λ n. replicate n Parameter) (sym long);
      few_nodes = omega arith;
      few_bits = omega arith;
      lits = λ l i. let b : l.0 < 2 * (1 + length list + length new.pairs) = all.lits l i in omega arith;
    }
