-- The nodes of products, rows and covers are those that the functions give, and no others; so the signals made again at every use are one list of nodes
-- and literals.
use Rattle.aig_build.proofs.Common.{◌≡◌, ℕ, zero, suc, ◌≤◌, cond, List, [], ◌∷◌, length, refl, sym, ap, ◌∙◌, arith, RowValue, CoverValue, Lit, Pair, complement, Answer, product_of, front_half, back_half, balanced_and, row_literals, Literals, row_made, rows_made, cover_made, ◌+◌, ◌*◌, Some, subst, slice_get, same_Some, LibraryValue, FlatNet, Input, Latch, Cover, FlatCoverValue, FlatValue, cover_behind, AreApart, apart_once, Param}
use Rattle.aig_build.specs.CoverNodes.{IsBalanced, none as no_literal, one as one_literal, halves, AreRows, no_row, a_row, IsCoverMade}
use Rattle.aig_build.proofs.BalancedLemmas.{balanced_and-halves, front_half-shorter, back_half-shorter}
use Rattle.aig_build.specs.NetlistGraph.{input_names, source_kinds, IsSourceLiteral, an_input, a_latch, Makes, a_source, a_cover, MakesAll, none, more, HasOneGraph}

-- the balanced AND, for lists that are no longer than n
balanced_within : (first n : ℕ) (pairs : List Pair) (lits : List Lit) → length lits ≤ n → IsBalanced first pairs lits (balanced_and first pairs lits)
balanced_within first n pairs [] few = no_literal refl refl
balanced_within first n pairs (a ∷ []) few = one_literal a refl refl
balanced_within first zero pairs (a ∷ b ∷ rest) few = absurd (omega arith)
balanced_within first (suc n) pairs (a ∷ b ∷ rest) few =
    let lits : List Lit = a ∷ b ∷ rest in
    let two : 2 ≤ length lits = omega arith in
    let front : Answer = balanced_and first pairs (front_half lits) in
    halves front _ two (balanced_within first n pairs (front_half lits) (front_half-shorter lits n two few)) (balanced_within first n front.pairs (back_half lits) (back_half-shorter lits n two few))
    (balanced_and-halves first pairs lits two)

pub balanced_is : (first : ℕ) (pairs : List Pair) (lits : List Lit) → IsBalanced first pairs lits (balanced_and first pairs lits)
balanced_is first pairs lits = balanced_within first (length lits) pairs lits (omega arith)

pub balanced_only : (first : ℕ) {pairs : List Pair} {lits : List Lit} {made : Answer} → IsBalanced first pairs lits made → made ≡ balanced_and first pairs lits
balanced_only first {pairs} (no_literal e m) = m ∙ ap (balanced_and first pairs) (sym e)
balanced_only first {pairs} (one_literal lit e m) = m ∙ ap (balanced_and first pairs) (sym e)
balanced_only first {pairs} {lits} (halves front back two f b m) = grind (arith, first, balanced_and-halves, balanced_only first f, balanced_only first b)

rows_are : (first : ℕ) (inputs : List Lit) (pairs : List Pair) (rows : List RowValue) → AreRows first inputs pairs rows (rows_made first pairs rows inputs)
rows_are first inputs pairs [] = no_row refl refl
rows_are first inputs pairs (row ∷ rows) =
    let this : Answer = row_made first pairs row.cells inputs in
    a_row row rows this (rows_made first this.pairs rows inputs) refl (balanced_is first pairs (row_literals row.cells inputs)) (rows_are first inputs this.pairs rows) refl

rows_only : (first : ℕ) (inputs : List Lit) {pairs : List Pair} {rows : List RowValue} {made : Literals} → AreRows first inputs pairs rows made → made ≡ rows_made first pairs rows inputs
rows_only first inputs {pairs} (no_row e m) = m ∙ ap (λ (rs : List RowValue). rows_made first pairs rs inputs) (sym e)
rows_only first inputs {pairs} (a_row row rest this others e b r m) = grind (arith, first, balanced_only, rows_only first inputs r)

pub cover_is : (first : ℕ) (pairs : List Pair) (cover : CoverValue) (inputs : List Lit) → IsCoverMade first pairs cover inputs (cover_made first pairs cover inputs)
cover_is first pairs cover inputs =
    let rows : Literals = rows_made first pairs cover.rows inputs in
    record { rows = rows; are_rows = rows_are first inputs pairs cover.rows; no_row = balanced_and first rows.pairs rows.lits; is_balanced = balanced_is first rows.pairs rows.lits; is = refl }

pub cover_only : (first : ℕ) (pairs : List Pair) (cover : CoverValue) (inputs : List Lit) (made : Answer) → IsCoverMade first pairs cover inputs made → made ≡ cover_made first pairs cover inputs
cover_only first pairs cover inputs made c = grind (arith, cond, balanced_only, first, rows_only)

module _ (library : LibraryValue) (flat : FlatValue) (params : List Param) (apart : AreApart (input_names flat params)) where
  abbrev first : ℕ
  first = 1 + length (source_kinds flat params)

  source_only : {net : FlatNet} {a b : ℕ} → IsSourceLiteral flat params net a → IsSourceLiteral flat params net b → a ≡ b
  source_only (an_input i p name e g h l) (an_input j q other f k m n) = grind (arith, same_Some, apart_once)
  source_only (an_input i p name e g h l) (a_latch j f n) = let nets : Input i ≡ Latch j = sym e ∙ f in absurd (cc)
  source_only (a_latch i e l) (an_input j q other f k m n) = let nets : Latch i ≡ Input j = sym e ∙ f in absurd (cc)
  source_only (a_latch i e l) (a_latch j f n) = grind arith

  no_cover : {net : FlatNet} {a : ℕ} → IsSourceLiteral flat params net a → (k : ℕ) → net ≡ Cover k → ⊥
  no_cover (an_input i p name e g h l) k q = let nets : Input i ≡ Cover k = sym e ∙ q in absurd (cc)
  no_cover (a_latch i e l) k q = let nets : Latch i ≡ Cover k = sym e ∙ q in absurd (cc)

  mutual
    makes_only : {ps : List Pair} {net : FlatNet} {a b : Answer} → Makes library flat params ps net a → Makes library flat params ps net b → a ≡ b
    makes_only {ps} (a_source l s e) (a_source m t f) = e ∙ ap (λ (x : ℕ). let r : Answer = record { pairs = ps; lit = x } in r) (source_only s t) ∙ sym f
    makes_only (a_source l s e) (a_cover k c cover inputs q at behind all f) = absurd (no_cover s k q)
    makes_only (a_cover k c cover inputs q at behind all f) (a_source l s e) = absurd (no_cover s k q)
    makes_only {ps} {net} {a} {b} (a_cover k c cover inputs q at behind all e) (a_cover j d other lits r there beyond every f) =
        let nets : Cover k ≡ Cover j = sym q ∙ r in
        let same : k ≡ j = cc in
        let flats : c ≡ d = same_Some c d (sym at ∙ ap (slice_get flat.covers) same ∙ there) in
        let covers : cover ≡ other = same_Some cover other (sym behind ∙ ap (cover_behind library) flats ∙ beyond) in
        let made : inputs ≡ lits = all_only all (subst (λ (x : FlatCoverValue). MakesAll library flat params ps x.inputs lits) (sym flats) every) in
        cover_only first inputs.pairs cover inputs.lits a e ∙ ap (λ (x : CoverValue). cover_made first inputs.pairs x inputs.lits) covers
        ∙ ap (λ (x : Literals). cover_made first x.pairs other x.lits) made ∙ sym (cover_only first lits.pairs other lits.lits b f)

    all_only : {ps : List Pair} {nets : List FlatNet} {a b : Literals} → MakesAll library flat params ps nets a → MakesAll library flat params ps nets b → a ≡ b
    all_only (none q e) (none r f) = e ∙ sym f
    all_only (none q e) (more net rest this others r one all f) = let no : [] ≡ net ∷ rest = sym q ∙ r in absurd (cc)
    all_only (more net rest this others r one all f) (none q e) = let no : [] ≡ net ∷ rest = sym q ∙ r in absurd (cc)
    all_only {ps} (more net rest this others q one all e) (more net' rest' that rest_made r two every f) =
        let lists : net ∷ rest ≡ net' ∷ rest' = sym q ∙ r in
        let heads : net ≡ net' = cc in
        let tails : rest ≡ rest' = cc in
        let first : this ≡ that = makes_only one (subst (λ x. Makes library flat params ps x that) (sym heads) two) in
        let moved : MakesAll library flat params this.pairs rest rest_made =
        subst (λ (x : Answer). MakesAll library flat params x.pairs rest rest_made) (sym first) (subst (λ x. MakesAll library flat params that.pairs x rest_made) (sym tails) every) in
        let behind : others ≡ rest_made = all_only all moved in
        e ∙ ap (λ (x : Literals). record { pairs = x.pairs; lits = record { 0 = this.lit } ∷ x.lits }) behind
        ∙ ap (λ (x : Answer). record { pairs = rest_made.pairs; lits = record { 0 = x.lit } ∷ rest_made.lits }) first ∙ sym f

  pub one_graph : HasOneGraph library flat params
  one_graph = record { only = λ made other m o. all_only m o }
