use Rattle.aiger_io.proofs.Lemmas.{◌≡◌, ap, ℕ, ◌+◌, List, Ok, Err, length, map, Bor, sym, ◌∙◌, subst, OrMemory-map, passed_on, named_circuit, named_behind, IsLibraryIn, item_count, refusal_of, no_symbols, symbols_from, and_then, behind_is}
use Rattle.aiger_io.proofs.read_text.library_with_symbols.Goals as goal

pub returns : goal.returns
returns c =
    let rows : List (List ℕ) = map (λ (r : Bor (List ℕ)). r.now) c.args.rows.now in
    let said : symbols_from c.args.header.now (item_count c.args.header.now + 2) (no_symbols c.args.header.now) rows ≡ Ok c.in_ok-said.said =
    subst (λ n. symbols_from c.args.header.now (n + 2) (no_symbols c.args.header.now) rows ≡ Ok c.in_ok-said.said) c.requires.count c.in_ok-said.ensures.symbols in
    subst (λ r. IsLibraryIn r c.in_ok-made.made) (sym (behind_is c.args.header.now c.args.items.now rows c.in_ok-said.said said)) c.in_ok-made.ensures

pub returns-in_err-said : goal.returns-in_err-said
returns-in_err-said c =
    let rows : List (List ℕ) = map (λ (r : Bor (List ℕ)). r.now) c.args.rows.now in
    passed_on c.from_residual.result c.in_err-said.field-0.0 _ _ c.from_residual.ensures.1
    (OrMemory-map refusal_of (λ e. symbols_from c.args.header.now (length c.args.items.now + 2) (no_symbols c.args.header.now) rows ≡ Err e) (λ e. named_behind c.args.header.now c.args.items.now rows ≡ Err e) c.in_err-said.field-0.0
    (λ e is. ap (and_then (named_circuit c.args.header.now c.args.items.now)) (subst (λ n. symbols_from c.args.header.now (n + 2) (no_symbols c.args.header.now) rows ≡ Err e) c.requires.count is)) c.in_err-said.ensures.symbols)

pub returns-in_err-made : goal.returns-in_err-made
returns-in_err-made c =
    let rows : List (List ℕ) = map (λ (r : Bor (List ℕ)). r.now) c.args.rows.now in
    let said : symbols_from c.args.header.now (item_count c.args.header.now + 2) (no_symbols c.args.header.now) rows ≡ Ok c.in_ok-said.said =
    subst (λ n. symbols_from c.args.header.now (n + 2) (no_symbols c.args.header.now) rows ≡ Ok c.in_ok-said.said) c.requires.count c.in_ok-said.ensures.symbols in
    passed_on c.from_residual-in_err-made.result c.in_err-made.field-0.0 _ _ c.from_residual-in_err-made.ensures.1
    (OrMemory-map refusal_of (λ e. named_circuit c.args.header.now c.args.items.now c.in_ok-said.said ≡ Err e) (λ e. named_behind c.args.header.now c.args.items.now rows ≡ Err e) c.in_err-made.field-0.0
    (λ e is. behind_is c.args.header.now c.args.items.now rows c.in_ok-said.said said ∙ is) c.in_err-made.ensures)
