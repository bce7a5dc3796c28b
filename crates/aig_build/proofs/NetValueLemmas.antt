-- Whatever values fit the graph, the literal of each net has the value that evaluating the flat circuit in its order gives the net; and each net has a
-- literal of the graph, before a cover is made and after it.
use Rattle.aig_build.proofs.Common.{◌≡◌, ℕ, zero, suc, ◌+◌, ◌*◌, ◌<◌, ◌≤◌, Bool, false, List, [], ◌∷◌, length, map, replicate, get_or, Option, Some, None, refl, sym, ap, ap₂, ◌∙◌, subst, inl, inr, arith, slice_set, slice_get, unwrap_or, option_map, option_and_then, All-nil, All-cons, All-head, All-tail, All-get_or, All-set, All-replicate, none-some, same_Some, slice_get_within, slice_get-map, get_or_from_slice_get, In, In-get, at_within, get_left, get_right, RowValue, CoverValue, cover_value, ModelValue, LibraryValue, IsWellFormedBody, IsWellFormed, FlatNet, Input, Latch, Cover, FlatCoverValue, FlatValue, input_values, body_at, IsThere, IsWithinBounds, cover_behind, net_value, gate_value, evaluated, flat_values, Param, Kind, Lit, Pair, AreNormal, Answer, value_of, Extends, AreBase, Makes, value_of-even, value_of-more, values_from, values_old, cover_made, input_names, source_kinds, IsSourceLiteral, an_input, a_latch, source_values, NetLitsValue, no_lit, net_lit, net_lits, Built, gate_made, with_gate, walked, drop, drop-cons, slice_get_read, set_length, Aig, IsLit, first_and, with_pairs, length-Extends, cover_of, with_cover, behind_made, gate_of, order_of, IsHeld, HoldsNets, length-map, length-replicate, length-append, map-set, All}
use Rattle.netlist.specs.declared.command.Body.{Body}
use Rattle.netlist.specs.declared.command.Body.TheVariants.{Cover as CoverBody}
use Rattle.netlist.specs.declared.command.Command.{Command}
use Rattle.netlist.proofs.NameLemmas.{all_members}
use Rattle.netlist.specs.Places.{cover_in}
use Rattle.netlist.specs.Evaluation as evaluation
use Rattle.aig_build.proofs.BalancedLemmas.{IsBelow, AreBelow, AreBelow-more}
use Rattle.aig_build.proofs.CoverLemmas.{values_at, HaveWidth, Makes-cover}
use Rattle.aig_build.proofs.SignalLemmas.{AreSourced, IsBehind, behind_at, gate_is, walked-grows}

-- the cover behind a flat one has rows of its width
body_rows : (o : Option Body) (cover : CoverValue) → option_and_then cover_in o ≡ Some cover → ((b : Body) → o ≡ Some b → IsWellFormedBody b) → (row : RowValue) → In cover.rows row → length row.cells ≡ length cover.inputs
body_rows (Some (CoverBody c)) cover e formed = let same : c ≡ cover = same_Some c cover e in subst (λ (y : CoverValue). (row : RowValue) → In y.rows row → length row.cells ≡ length y.inputs) same (formed (CoverBody c) refl)
body_rows o cover e formed = absurd (none-some cover e)

command_formed : (o : Option Command) (b : Body) → option_map (λ (c : Command). c.body) o ≡ Some b → ((c : Command) → o ≡ Some c → IsWellFormedBody c.body) → IsWellFormedBody b
command_formed None b e formed = absurd (none-some b e)
command_formed (Some c) b e formed = subst IsWellFormedBody (same_Some c.body b e) (formed c refl)

model_rows : (o : Option ModelValue) (i : ℕ) (cover : CoverValue) → option_and_then (λ (m : ModelValue). option_and_then cover_in (body_at m i)) o ≡ Some cover
    → ((m : ModelValue) → o ≡ Some m → (c : Command) → In m.commands c → IsWellFormedBody c.body) → (row : RowValue) → In cover.rows row → length row.cells ≡ length cover.inputs
model_rows None i cover e formed = absurd (none-some cover e)
model_rows (Some m) i cover e formed = body_rows (body_at m i) cover e (λ b f. command_formed (slice_get m.commands i) b f (λ c g. formed m refl c (In-get m.commands i c g)))

pub behind_rows : (library : LibraryValue) (c : FlatCoverValue) (cover : CoverValue) → IsWellFormed library → cover_behind library c ≡ Some cover → (row : RowValue) → In cover.rows row → length row.cells ≡ length cover.inputs
behind_rows library c cover formed e = model_rows (slice_get library.models c.model) c.command cover e (λ m f k i. (formed.each m (In-get library.models c.model m f)).commands k i)

-- and over the literals of its nets
pub behind_width : (library : LibraryValue) (flat : FlatValue) → IsWellFormed library → IsWithinBounds library flat → (k : ℕ) (c : FlatCoverValue) (cover : CoverValue) (lits : List Lit) → slice_get flat.covers k ≡ Some c
    → cover_behind library c ≡ Some cover → length lits ≡ length c.inputs → HaveWidth lits cover.rows
behind_width library flat formed bounds k c cover lits at behind n =
    all_members (λ (row : RowValue). length row.cells ≡ length lits) cover.rows (λ row i. behind_rows library c cover formed behind row i ∙ bounds.reads k c cover at behind ∙ sym n)

zero_value : (first : ℕ) (vs : List Bool) (ps : List Pair) → 1 ≤ first → AreBase first vs → value_of (values_from vs ps) 0 ≡ false
zero_value first vs ps some base = let n : length vs ≡ first = base.count in value_of-even (values_from vs ps) 0 0 refl ∙ values_old vs ps 0 (omega arith) ∙ base.constant

map-replicate : {A B : Type 0} (f : A → B) (n : ℕ) (x : A) (y : B) → f x ≡ y → map f (replicate n x) ≡ replicate n y
map-replicate f zero x y e = refl
map-replicate f (suc n) x y e = ap₂ (λ z zs. z ∷ zs) e (map-replicate f n x y e)

-- what is there of some literals, the constant 0 standing for the others
at_or_zero : (f : Lit → Bool) (o : Option Lit) → f no_lit ≡ false → f (unwrap_or o no_lit) ≡ unwrap_or (option_map f o) false
at_or_zero f None e = e
at_or_zero f (Some lit) e = refl

pub below_or_zero : (first : ℕ) (ps : List Pair) (lits : List Lit) (k : ℕ) (o : Option Lit) → 1 ≤ first → slice_get lits k ≡ o → AreBelow first ps lits → IsBelow first ps (unwrap_or o no_lit)
below_or_zero first ps lits k None some e below = omega arith
below_or_zero first ps lits k (Some lit) some e below = subst (IsBelow first ps) (get_or_from_slice_get lits k lit lit e) (All-get_or (IsBelow first ps) lits k lit (slice_get_within lits k lit e) below)

module _ (library : LibraryValue) (flat : FlatValue) (params : List Param) (formed : IsWellFormed library) (bounds : IsWithinBounds library flat) where
  abbrev pub first : ℕ
  first = 1 + length (source_kinds flat params)

  -- the sources: the inputs and the latches
  pub source_count : length (source_kinds flat params) ≡ length (input_names flat params) + length flat.latches
  source_count = omega (arith, length-append {A = Kind}, length-append {A = List ℕ}, length-replicate {A = Kind}, length-map params (λ (q : Param). q.name))

  -- a source's literal is one of every graph over the sources
  pub source_below : (net : FlatNet) (lit : ℕ) (ps : List Pair) → IsThere flat net → IsSourceLiteral flat params net lit → lit < 2 * (first + length ps)
  source_below net lit ps there (an_input i place name e g h l) = omega (arith, source_count, slice_get_within (input_names flat params) place name h)
  source_below net lit ps there (a_latch j e l) = omega (arith, subst (IsThere flat) e there, source_count)

  pub net_below : (b : Built) → AreSourced flat params b.nets → AreBelow first b.pairs (b.nets).covers → (net : FlatNet) → IsThere flat net → IsBelow first b.pairs (net_lit b.nets net)
  net_below b sourced below (Input i) there = source_below (Input i) (net_lit b.nets (Input i)).0 b.pairs there (sourced.inputs i there)
  net_below b sourced below (Latch j) there = source_below (Latch j) (net_lit b.nets (Latch j)).0 b.pairs there (sourced.latches j)
  net_below b sourced below (Cover k) there = below_or_zero first b.pairs (b.nets).covers k (slice_get (b.nets).covers k) (omega arith) refl below

  pub nets_below : (b : Built) → AreSourced flat params b.nets → AreBelow first b.pairs (b.nets).covers → (nets : List FlatNet) → ((net : FlatNet) → In nets net → IsThere flat net) → AreBelow first b.pairs (net_lits b.nets nets)
  nets_below b sourced below [] there = All-nil (IsBelow first b.pairs)
  nets_below b sourced below (net ∷ nets) there = grind (arith, first, net_below, nets_below b sourced below nets (λ n i. there n (inr i)))

  module _ (x : List ℕ → Bool) (s : List Bool) (states : length s ≡ length flat.latches) where
    abbrev pub xs : List Bool
    xs = input_values flat x

    abbrev pub given : List Bool
    given = source_values flat params x s

    abbrev pub base : List Bool
    base = false ∷ given

    are_base : AreBase first base
    are_base =
        let a : length given ≡ length (map x (input_names flat params)) + length s = length-append (map x (input_names flat params)) s in
        let b : length (map x (input_names flat params)) ≡ length (input_names flat params) = length-map (input_names flat params) x in
        let n : length (source_kinds flat params) ≡ length (input_names flat params) + length flat.latches = source_count in
        record { count = omega arith; constant = refl }

    place_value : (ps : List Pair) (lit place : ℕ) (b : Bool) → lit ≡ 2 * (1 + place) → slice_get given place ≡ Some b → value_of (values_from base ps) lit ≡ b
    place_value ps lit place b e at =
        let w : place < length given = slice_get_within given place b at in
        value_of-even (values_from base ps) lit (suc place) (omega arith) ∙ values_old base ps (suc place) (omega arith) ∙ get_or_from_slice_get given place b false at

    source_value : (ps : List Pair) (values : List Bool) (net : FlatNet) (lit : ℕ) → IsThere flat net → IsSourceLiteral flat params net lit → value_of (values_from base ps) lit ≡ net_value xs s values net
    source_value ps values net lit there (an_input i place name e g h l) =
        let at : slice_get given place ≡ Some (x name) = get_left (map x (input_names flat params)) s place (x name) (slice_get-map x (input_names flat params) place ∙ ap (option_map x) h) in
        let value : net_value xs s values (Input i) ≡ x name = ap (λ o. unwrap_or o false) (slice_get-map x flat.inputs i ∙ ap (option_map x) g) in
        place_value ps lit place (x name) l at ∙ sym value ∙ ap (net_value xs s values) (sym e)
    source_value ps values net lit there (a_latch j e l) =
        let w : j < length flat.latches = subst (IsThere flat) e there in
        let b = at_within s j (omega arith) in
        let n : length (map x (input_names flat params)) ≡ length (input_names flat params) = length-map (input_names flat params) x in
        let at : slice_get given (length (input_names flat params) + j) ≡ Some b.0 = subst (λ m. slice_get given (m + j) ≡ Some b.0) n (get_right (map x (input_names flat params)) s j b.0 b.1) in
        let value : net_value xs s values (Latch j) ≡ b.0 = ap (λ o. unwrap_or o false) b.1 in
        place_value ps lit (length (input_names flat params) + j) b.0 l at ∙ sym value ∙ ap (net_value xs s values) (sym e)

    -- the literals of the covers so far have the values of evaluating so far
    abbrev pub lit_value : List Pair → Lit → Bool
    lit_value ps lit = value_of (values_from base ps) lit.0

    pub record IsRight (b : Built) (values : List Bool) : Type 0 where
      pub normal : AreNormal first b.pairs
      pub sourced : AreSourced flat params b.nets
      pub below : AreBelow first b.pairs (b.nets).covers
      pub agree : map (lit_value b.pairs) (b.nets).covers ≡ values

    pub net_right : (b : Built) (values : List Bool) → IsRight b values → (net : FlatNet) → IsThere flat net → lit_value b.pairs (net_lit b.nets net) ≡ net_value xs s values net
    net_right b values right (Input i) there = source_value b.pairs values (Input i) (net_lit b.nets (Input i)).0 there ((right.sourced).inputs i there)
    net_right b values right (Latch j) there = source_value b.pairs values (Latch j) (net_lit b.nets (Latch j)).0 there ((right.sourced).latches j)
    net_right b values right (Cover k) there =
        at_or_zero (lit_value b.pairs) (slice_get (b.nets).covers k) (zero_value first base b.pairs (omega arith) are_base)
        ∙ ap (λ o. unwrap_or o false) (sym (slice_get-map (lit_value b.pairs) (b.nets).covers k)) ∙ ap (λ vs. unwrap_or (slice_get vs k) false) right.agree

    nets_right : (b : Built) (values : List Bool) → IsRight b values → (nets : List FlatNet) → ((net : FlatNet) → In nets net → IsThere flat net) → values_at (net_lits b.nets nets) (values_from base b.pairs) ≡ map (net_value xs s values) nets
    nets_right b values right [] there = refl
    nets_right b values right (net ∷ nets) there = ap₂ (λ (v : Bool) (vs : List Bool). v ∷ vs) (net_right b values right net (there net (inl refl))) (nets_right b values right nets (λ n i. there n (inr i)))

    -- more nodes change no value
    kept : (ps qs : List Pair) (lits : List Lit) → Extends ps qs → AreBelow first ps lits → map (lit_value qs) lits ≡ map (lit_value ps) lits
    kept ps qs [] e below = refl
    kept ps qs (lit ∷ lits) e below =
        let l : lit.0 < 2 * (first + length ps) = All-head (IsBelow first ps) lit lits below in
        let n : length base ≡ first = are_base.count in
        ap₂ (λ (v : Bool) (vs : List Bool). v ∷ vs) (value_of-more base ps qs lit.0 e (omega arith)) (kept ps qs lits e (All-tail (IsBelow first ps) lit lits below))

    gate_right : (b : Built) (values : List Bool) (k : ℕ) → k < length flat.covers → IsRight b values
        → IsRight (with_gate b k (gate_made library first b (slice_get flat.covers k))) (slice_set values k (gate_value library (slice_get flat.covers k) xs s values))
    gate_right b values k l right =
        let i : IsBehind library flat params bounds k = behind_at library flat params bounds k l in
        let lits : List Lit = net_lits b.nets (i.c).inputs in
        let there : (net : FlatNet) → In (i.c).inputs net → IsThere flat net = λ net j. bounds.cover_nets k i.c net i.at j in
        let below : AreBelow first b.pairs lits = nets_below b right.sourced right.below (i.c).inputs there in
        let made : Answer = cover_made first b.pairs i.cover lits in
        let m : Makes first b.pairs (λ vs. cover_value i.cover (values_at lits vs)) made =
        Makes-cover first b.pairs i.cover lits right.normal (omega arith) below (behind_width library flat formed bounds k i.c i.cover lits i.at i.behind (length-map (i.c).inputs (net_lit b.nets))) in
        let value : value_of (values_from base made.pairs) made.lit ≡ gate_value library (slice_get flat.covers k) xs s values =
        m.value base are_base ∙ ap (cover_value i.cover) (nets_right b values right (i.c).inputs there)
        ∙ sym (ap (λ o. gate_value library o xs s values) i.at ∙ ap (λ o. evaluation.value_of o (map (net_value xs s values) (i.c).inputs)) i.behind) in
        subst (λ (a : Answer). IsRight (with_gate b k a) (slice_set values k (gate_value library (slice_get flat.covers k) xs s values))) (sym (gate_is library flat params bounds b k i)) (record {
          normal = m.normal;
          sourced = record { inputs = (right.sourced).inputs; latches = (right.sourced).latches };
          below = All-set (IsBelow first made.pairs) (b.nets).covers k (record { 0 = made.lit }) m.below (AreBelow-more first b.pairs made.pairs (b.nets).covers m.grows right.below);
          agree = map-set (lit_value made.pairs) (b.nets).covers k (record { 0 = made.lit })
              ∙ ap₂ (λ (vs : List Bool) (v : Bool). slice_set vs k v) (kept b.pairs made.pairs (b.nets).covers m.grows right.below ∙ right.agree) value;
        })

    -- and so it is along an order
    pub walked_right : (ks : List ℕ) (b : Built) (values : List Bool) → ((k : ℕ) → In ks k → k < length flat.covers) → IsRight b values → IsRight (walked library flat first b ks) (evaluated library flat xs s ks values)
    walked_right [] b values there right = right
    walked_right (k ∷ ks) b values there right =
        walked_right ks (with_gate b k (gate_made library first b (slice_get flat.covers k))) (slice_set values k (gate_value library (slice_get flat.covers k) xs s values)) (λ j i. there j (inr i))
        (gate_right b values k (there k (inl refl)) right)

    pub start_right : (nets : NetLitsValue) → AreSourced flat params nets → nets.covers ≡ replicate (length flat.covers) no_lit → IsRight (record { pairs = []; nets = nets }) (replicate (length flat.covers) false)
    start_right nets sourced none = record {
      normal = record { each = λ i p e. absurd (none-some p e); once = λ i j p e f. absurd (none-some p e) };
      sourced = sourced;
      below = subst (AreBelow first []) (sym none) (All-replicate (IsBelow first []) (length flat.covers) no_lit (omega arith));
      agree = ap (map (lit_value [])) none ∙ map-replicate (lit_value []) (length flat.covers) no_lit false (zero_value first base [] (omega arith) are_base);
    }

    -- the literal of each net after the whole order
    pub flat_right : (nets : NetLitsValue) → AreSourced flat params nets → nets.covers ≡ replicate (length flat.covers) no_lit → IsRight (walked library flat first (record { pairs = []; nets = nets }) flat.order) (flat_values library flat xs s)
    flat_right nets sourced none = walked_right flat.order (record { pairs = []; nets = nets }) (replicate (length flat.covers) false) (λ k i. bounds.order_there k i) (start_right nets sourced none)

module _ (flat : FlatValue) (g : Aig) (nets : NetLitsValue) (holds : HoldsNets flat g nets) where
  pub held : (net : FlatNet) → IsThere flat net → IsHeld nets net
  held (Input i) there = let n : length nets.inputs ≡ length flat.inputs = holds.inputs in let l : i < length flat.inputs = there in omega arith
  held (Latch j) there = let n : nets.latches + length flat.latches ≤ first_and g = holds.latches in let s = holds.small in let l : j < length flat.latches = there in omega (arith, holds.small)
  held (Cover k) there = let n : length nets.covers ≡ length flat.covers = holds.covers in let l : k < length flat.covers = there in omega arith

  pub held_lit : (net : FlatNet) → IsThere flat net → IsLit g (net_lit nets net).0
  held_lit (Input i) there = below_or_zero (first_and g) g.pairs nets.inputs i (slice_get nets.inputs i) (omega arith) refl holds.input_lits
  held_lit (Latch j) there = let n : nets.latches + length flat.latches ≤ first_and g = holds.latches in let l : j < length flat.latches = there in omega arith
  held_lit (Cover k) there = below_or_zero (first_and g) g.pairs nets.covers k (slice_get nets.covers k) (omega arith) refl holds.cover_lits

  pub held_lits : (ns : List FlatNet) → ((net : FlatNet) → In ns net → IsThere flat net) → All (λ (lit : Lit). IsLit g lit.0) (net_lits nets ns)
  held_lits [] there = All-nil (λ (lit : Lit). IsLit g lit.0)
  held_lits (net ∷ ns) there = All-cons (λ (lit : Lit). IsLit g lit.0) (net_lit nets net) (net_lits nets ns) (held_lit net (there net (inl refl))) (held_lits ns (λ n i. there n (inr i)))

pub holds_next : (flat : FlatValue) (g new : Aig) (nets : NetLitsValue) (ps : List Pair) (k : ℕ) (lit : Lit) → HoldsNets flat g nets → Extends g.pairs ps → new ≡ with_pairs g ps → IsLit new lit.0 → HoldsNets flat new (with_cover nets k lit)
holds_next flat g new nets ps k lit holds grows same is =
    subst (λ (h : Aig). HoldsNets flat h (with_cover nets k lit)) (sym same) (record {
      inputs = holds.inputs;
      covers = set_length nets.covers k lit ∙ holds.covers;
      latches = holds.latches;
      small = holds.small;
      input_lits = AreBelow-more (first_and g) g.pairs ps nets.inputs grows holds.input_lits;
      cover_lits = All-set (IsBelow (first_and g) ps) nets.covers k lit (subst (λ (h : Aig). IsLit h lit.0) same is) (AreBelow-more (first_and g) g.pairs ps nets.covers grows holds.cover_lits);
    })

-- the flat cover that is read at a place
pub cover_read : (flat : FlatValue) (items : List FlatCoverValue) (k : ℕ) (c : FlatCoverValue) → items ≡ flat.covers → c ≡ get_or items k c → k < length flat.covers → slice_get flat.covers k ≡ Some c
cover_read flat items k c same is there = slice_get_read flat.covers (length flat.covers) k c refl there (subst (λ xs. c ≡ get_or xs k c) same is)

pub gate_at : (library : LibraryValue) (flat : FlatValue) (g : Aig) (nets : NetLitsValue) (k : ℕ) (items : List FlatCoverValue) (c : FlatCoverValue) (cover : CoverValue) (lits : List Lit) → items ≡ flat.covers → c ≡ get_or items k c → k < length flat.covers
    → cover_behind library c ≡ Some cover → lits ≡ net_lits nets c.inputs → gate_of library flat g nets k ≡ cover_of g cover lits
gate_at library flat g nets k items c cover lits read is there behind same = grind (arith, cover_read)

-- one cover has no more nodes than what is left of an order
pub order_gate_length : (library : LibraryValue) (flat : FlatValue) (g : Aig) (nets : NetLitsValue) (order : List ℕ) (i d : ℕ) → i < length order
    → length (gate_of library flat g nets (get_or order i d)).pairs ≤ length (order_of library flat g nets (drop i order)).pairs
order_gate_length library flat g nets order i d l =
    let k : ℕ = get_or order i d in
    let made : Answer = gate_of library flat g nets k in
    let b : Built = with_gate (record { pairs = g.pairs; nets = nets }) k made in
    subst (λ ks. length made.pairs ≤ length (order_of library flat g nets ks).pairs) (sym (drop-cons order i d l))
    (length-Extends made.pairs (walked library flat (first_and g) b (drop (suc i) order)).pairs (walked-grows library flat (first_and g) b (drop (suc i) order)))
