-- What the readers of a file's parts are compared with: refusals, new names, new pairs of a graph, and the pack of a file that was read to its end.
use Rattle.ppc_file.proofs.Common.{◌≡◌, ℕ, ◌+◌, ◌*◌, ◌/◌, ◌<◌, ◌≤◌, true, false, ◌||◌, List, [], ◌∷◌, ◌++◌, length, replicate, min, max, None, Ok, Err, refl, sym, ap, subst, ◌∙◌, arith, list_any, position, cases_Bool, ne_eqb, length-replicate, position_none, list_any-position_none, OrMemory, place_of, Aig, IsNormal, first_and, node_count, and_of, is_pair, found_or_new, Parameter, Lit, Pair, PackParam, PackErr, Version, Field, ◌>>=◌, offset, param_at, names_of_params, fan_ins_at, is_bad_pair, if_new_pair, node_at, bit_at, in_params, in_nodes, in_bits, IsPackFault, StandsAt, refusal_of, ◌⊎◌, append-nil, PackValue, IsPack, One, Two, bytes_of, IsPackFile, Result, passed_on, lt-ltb, le-ltb, Front, rules, IsErrAnd, MatchResult, Unless-of}
use Rattle.std.proofs.lemmas.List.Quantifiers.{position-Some}
use Rattle.ppc_file.proofs.FieldLemmas.{param_takes, new_place}
use Rattle.ppc_file.proofs.NumberLemmas.{IsBytes}
use Rattle.ppc_file.proofs.StandLemmas.{rest_bytes, stands_param, stands_node, stands_bit, field_refused}
use Rattle.ppc_file.specs.declared.pack_err.PackErr.TheVariants as refused

-- a refusal that is so whatever it tells
pub said : (P : PackErr → Type 0) (e : PackErr) → P e → OrMemory refusal_of P e
said P e p = Unless-of (refusal_of e) p

-- and that a `?` passes on
pub refused_on : {T : Type 0} (bytes : List ℕ) (r : Result T PackErr) (e : PackErr) → IsErrAnd r (λ y. y ≡ e) → IsPackFault bytes e → MatchResult r (λ _. Unit {0}) (OrMemory refusal_of (IsPackFault bytes))
refused_on bytes r e is fault = passed_on r e (λ _. Unit {0}) (OrMemory refusal_of (IsPackFault bytes)) is (said (IsPackFault bytes) e fault)

-- the product of the fan-ins of a node that would be the next one
module _ (g : Aig) (p : Pair) (normal : IsNormal (node_count g) p) where
  searched : and_of g p.x.0 p.y.0 ≡ found_or_new (first_and g) g.pairs p.x.0 p.y.0 (position (is_pair p.x.0 p.y.0) g.pairs)
  searched =
      let low : 2 ≤ p.x.0 = normal.no_constant in
      let order : p.x.0 / 2 < p.y.0 / 2 = normal.ordered in
      let least : min p.x.0 p.y.0 ≡ p.x.0 = omega arith in
      let most : max p.x.0 p.y.0 ≡ p.y.0 = omega arith in
      rw (least, most) (rw (ne_eqb p.x.0 0 (λ e. absurd (omega arith)), ne_eqb p.x.0 1 (λ e. absurd (omega arith)), ne_eqb p.x.0 p.y.0 (λ e. absurd (omega arith)), ne_eqb (p.x.0 / 2) (p.y.0 / 2) (λ e. absurd (omega arith))) refl)

  -- it is made where its literal is that of the next node
  pub record IsMade : Type 0 where
    pub new : list_any (is_pair p.x.0 p.y.0) g.pairs ≡ false
    pub pairs : (and_of g p.x.0 p.y.0).pairs ≡ g.pairs ++ p ∷ []

  pub is_made : (and_of g p.x.0 p.y.0).lit ≡ 2 * node_count g → IsMade
  is_made e = grind (arith, list_any-position_none, position-Some)

  -- else the pair stood earlier
  pub is_found : ((and_of g p.x.0 p.y.0).lit ≡ 2 * node_count g → ⊥) → list_any (is_pair p.x.0 p.y.0) g.pairs ≡ true
  is_found other = search (rules, cases_Bool, position_none)

module _ (bytes : List ℕ) (fits : IsBytes bytes) (v : Version) (count : ℕ) (params : List PackParam) (names : List (List ℕ)) (rest : List ℕ) (stands : StandsAt bytes (in_params v count params) rest) (are : names ≡ names_of_params params) (more : length params < count) where
  -- a parameter that is read has a new name
  pub param_new : (p : PackParam) (behind : List ℕ) → param_at (length bytes) v names rest ≡ Ok (p, behind) → place_of names p.name ≡ None
  param_new p behind e =
      let e' : param_at (length bytes) v (names_of_params params) rest ≡ Ok (p, behind) = subst (λ (ns : List (List ℕ)). param_at (length bytes) v ns rest ≡ Ok (p, behind)) are e in
      let t = param_takes (length bytes) v (names_of_params params) rest (p, behind) (rest_bytes bytes fits (in_params v count params) rest stands) e' in
      subst (λ (ns : List (List ℕ)). place_of ns p.name ≡ None) (sym are) (new_place (names_of_params params) p.name t.1.new)

  -- the reader stands behind it
  pub param_read : (p : PackParam) (behind : List ℕ) (all : List PackParam) → param_at (length bytes) v names rest ≡ Ok (p, behind) → all ≡ params ++ p ∷ [] → StandsAt bytes (in_params v count all) behind
  param_read p behind all e is =
      subst (λ (ps : List PackParam). StandsAt bytes (in_params v count ps) behind) (sym is)
      (stands_param bytes fits v count params rest (p, behind) stands more (subst (λ (ns : List (List ℕ)). param_at (length bytes) v ns rest ≡ Ok (p, behind)) are e))

  -- or it is refused
  pub param_refused : (e : PackErr) → param_at (length bytes) v names rest ≡ Err e → IsPackFault bytes e
  param_refused e is =
      field_refused bytes (in_params v count params) rest (λ p. in_params v count (params ++ p ∷ [])) _ e stands (subst (λ (ns : List (List ℕ)). param_at (length bytes) v ns rest ≡ Err e) are is) (rw (lt-ltb (length params) count more) refl)

module _ (total : ℕ) (v : Version) (node : ℕ) (earlier : List Pair) (rest : List ℕ) where
  pub node_taken : (p : Pair) (behind : List ℕ) → fan_ins_at total v node rest ≡ Ok (p, behind) → (is_bad_pair node p || list_any (is_pair p.x.0 p.y.0) earlier) ≡ false → node_at total v node earlier rest ≡ Ok (p, behind)
  node_taken p behind e good = rw (e, good) refl

  pub node_bad : (p : Pair) (behind : List ℕ) → fan_ins_at total v node rest ≡ Ok (p, behind) → (is_bad_pair node p || list_any (is_pair p.x.0 p.y.0) earlier) ≡ true → node_at total v node earlier rest ≡ Err (refused.BadNode (offset total rest))
  node_bad p behind e bad = rw (e, bad) refl

  pub node_refused : (e : PackErr) → fan_ins_at total v node rest ≡ Err e → node_at total v node earlier rest ≡ Err e
  node_refused e is = ap (λ (f : Field Pair). f >>= if_new_pair (offset total rest) node earlier) is

module _ (bytes : List ℕ) (fits : IsBytes bytes) (v : Version) (params : List PackParam) (count : ℕ) (g : Aig) (rest : List ℕ) (stands : StandsAt bytes (in_nodes v params count g.pairs) rest) (kinds : g.kinds ≡ replicate (length params) Parameter) (more : length g.pairs < count) where
  place : node_count g ≡ 1 + length params + length g.pairs
  place = ap (λ (n : ℕ). 1 + n + length g.pairs) (ap length kinds ∙ length-replicate (length params) Parameter)

  pub node_read : (p : Pair) (behind : List ℕ) (all : List Pair) → node_at (length bytes) v (node_count g) g.pairs rest ≡ Ok (p, behind) → all ≡ g.pairs ++ p ∷ [] → StandsAt bytes (in_nodes v params count all) behind
  node_read p behind all e is =
      subst (λ (ps : List Pair). StandsAt bytes (in_nodes v params count ps) behind) (sym is)
      (stands_node bytes fits v params count g.pairs rest (p, behind) stands more (subst (λ (n : ℕ). node_at (length bytes) v n g.pairs rest ≡ Ok (p, behind)) place e))

  pub no_next_node : (e : PackErr) → node_at (length bytes) v (node_count g) g.pairs rest ≡ Err e → IsPackFault bytes e
  no_next_node e is =
      field_refused bytes (in_nodes v params count g.pairs) rest (λ p. in_nodes v params count (g.pairs ++ p ∷ [])) _ e stands (subst (λ (n : ℕ). node_at (length bytes) v n g.pairs rest ≡ Err e) place is) (rw (lt-ltb (length g.pairs) count more) refl)

module _ (bytes : List ℕ) (fits : IsBytes bytes) (v : Version) (params : List PackParam) (pairs : List Pair) (count nodes : ℕ) (bits : List Lit) (rest : List ℕ) (stands : StandsAt bytes (in_bits v params pairs count bits) rest) (are : nodes ≡ 1 + length params + length pairs) (more : length bits < count) where
  pub bit_read : (l : Lit) (behind : List ℕ) (all : List Lit) → bit_at (length bytes) v nodes rest ≡ Ok (l, behind) → all ≡ bits ++ l ∷ [] → StandsAt bytes (in_bits v params pairs count all) behind
  bit_read l behind all e is =
      subst (λ (ls : List Lit). StandsAt bytes (in_bits v params pairs count ls) behind) (sym is)
      (stands_bit bytes fits v params pairs count bits rest (l, behind) stands more (subst (λ (n : ℕ). bit_at (length bytes) v n rest ≡ Ok (l, behind)) are e))

  pub bit_refused : (e : PackErr) → bit_at (length bytes) v nodes rest ≡ Err e → IsPackFault bytes e
  bit_refused e is =
      field_refused bytes (in_bits v params pairs count bits) rest (λ l. in_bits v params pairs count (bits ++ l ∷ [])) _ e stands (subst (λ (n : ℕ). bit_at (length bytes) v n rest ≡ Err e) are is) (rw (lt-ltb (length bits) count more) refl)

-- the reader stands behind all that a part has
pub all_read : (bytes : List ℕ) (front : ℕ → Front) (count size read : ℕ) (rest : List ℕ) → StandsAt bytes (front count) rest → size ≤ count → size ≡ read → count ≤ read → StandsAt bytes (front size) rest
all_read bytes front count size read rest stands within is past = let same : count ≡ size = omega arith in subst (λ (n : ℕ). StandsAt bytes (front n) rest) same stands

-- the bytes are those of one of the versions
pub by_version : (v : Version) (pack : PackValue) (bytes : List ℕ) → bytes ≡ bytes_of v pack → (bytes ≡ bytes_of One pack) ⊎ (bytes ≡ bytes_of Two pack)
by_version v pack bytes is = search rules

module _ (bytes : List ℕ) (params : List PackParam) (g : Aig) (bits : List Lit) (kinds : g.kinds ≡ replicate (length params) Parameter) where
  sources : length g.kinds ≡ length params
  sources = ap length kinds ∙ length-replicate (length params) Parameter

  pub is_pack : (v : Version) (rest : List ℕ) → StandsAt bytes (in_bits v params g.pairs (length bits) bits) rest → IsPack params g bits
  is_pack v rest stands = grind (arith, sources)

  pub is_file : (v : Version) → StandsAt bytes (in_bits v params g.pairs (length bits) bits) [] → IsPackFile bytes (record { params = params; graph = g; bits = bits })
  is_file v stands = search (rules, is_pack, sources, by_version, append-nil)

-- bytes follow the last bit
pub trailing : (bytes : List ℕ) (v : Version) (params : List PackParam) (pairs : List Pair) (bits : List Lit) (rest : List ℕ) → StandsAt bytes (in_bits v params pairs (length bits) bits) rest → 1 ≤ length rest
    → IsPackFault bytes (refused.Trailing (offset (length bytes) rest))
trailing bytes v params pairs bits [] stands some = absurd (omega arith)
trailing bytes v params pairs bits (b ∷ rest) stands some = search (rules, le-ltb)
