use Rattle.aiger_io.proofs.Lemmas.{◌≡◌, [], ℕ, List, Err, length, map, drop, Bor, sym, ap, ◌∙◌, subst, arith, OrMemory-map, passed_on, named_behind, circuit_under, IsLibraryIn, refusal_of, Header, Item, Ok, item_count, items_from, under_is}
use Rattle.aiger_io.proofs.read_text.library_under.Goals as goal

-- the lines after the items give what all of them give
cut_same : (h : Header) (items found : List Item) (rows behind : List (List ℕ)) (n : ℕ) → found ≡ items → items_from h [] rows ≡ Ok items → length items ≡ item_count h → behind ≡ drop n rows → n ≡ length items → named_behind h found behind ≡ circuit_under rows h
cut_same h items found rows behind n same is count cut e = ap (λ i. named_behind h i behind) same ∙ ap (named_behind h items) (cut ∙ ap (λ m. drop m rows) e) ∙ sym (under_is h items rows is count)

pub returns : goal.returns
returns c =
    let rows : List (List ℕ) = map (λ (r : Bor (List ℕ)). r.now) c.args.rows.now in
    let same = cut_same c.args.header.now c.in_ok-items.items.items _ rows _ c.len.result c.deref.ensures.value c.in_ok-items.ensures.items c.in_ok-items.ensures.count c.rows_behind.ensures.rows (omega arith) in
    subst (λ r. IsLibraryIn r c.in_ok-made.made) same c.in_ok-made.ensures

pub returns-in_err-made : goal.returns-in_err-made
returns-in_err-made c =
    let rows : List (List ℕ) = map (λ (r : Bor (List ℕ)). r.now) c.args.rows.now in
    let same = cut_same c.args.header.now c.in_ok-items.items.items _ rows _ c.len.result c.deref.ensures.value c.in_ok-items.ensures.items c.in_ok-items.ensures.count c.rows_behind.ensures.rows (omega arith) in
    passed_on c.from_residual-in_err-made.result c.in_err-made.field-0.0 _ _ c.from_residual-in_err-made.ensures.1
    (OrMemory-map refusal_of (λ e. named_behind c.args.header.now c.deref.result.now (map (λ (r : Bor (List ℕ)). r.now) c.rows_behind.result.now) ≡ Err e) (λ e. circuit_under rows c.args.header.now ≡ Err e) c.in_err-made.field-0.0
    (λ e is. sym same ∙ is) c.in_err-made.ensures)
