use Rattle.aiger_io.proofs.Lemmas.{◌≡◌, ℕ, List, map, Bor, Some, sym, ◌∙◌, ap, option_map, capped_item, item_of, kind_at, words_of, item_good, item_out}
use Rattle.aiger_io.proofs.item_line.read_item.Goals as goal

pub returns : goal.returns
returns c =
    let words : map (λ (w : Bor (List ℕ)). w.now) c.deref.result.now ≡ words_of c.args.row.now = ap (map (λ (w : Bor (List ℕ)). w.now)) c.deref.ensures.value ∙ c.in_ok-words.ensures in
    let read : Some c.in-Some.item ≡ option_map capped_item (item_of (kind_at c.args.header.now c.args.place) (words_of c.args.row.now)) =
    c.in-Some.ensures ∙ ap (λ k. option_map capped_item (item_of k (map (λ (w : Bor (List ℕ)). w.now) c.deref.result.now))) c.kind_of_place.ensures ∙ ap (λ ws. option_map capped_item (item_of (kind_at c.args.header.now c.args.place) ws)) words in
    item_good c.args.header.now.variables c.requires.small c.args.place (item_of (kind_at c.args.header.now c.args.place) (words_of c.args.row.now)) c.in-Some.item read (sym c.if-not-in_range.ensures)

pub returns-then-not-in_range : goal.returns-then-not-in_range
returns-then-not-in_range c =
    let words : map (λ (w : Bor (List ℕ)). w.now) c.deref.result.now ≡ words_of c.args.row.now = ap (map (λ (w : Bor (List ℕ)). w.now)) c.deref.ensures.value ∙ c.in_ok-words.ensures in
    let read : Some c.in-Some.item ≡ option_map capped_item (item_of (kind_at c.args.header.now c.args.place) (words_of c.args.row.now)) =
    c.in-Some.ensures ∙ ap (λ k. option_map capped_item (item_of k (map (λ (w : Bor (List ℕ)). w.now) c.deref.result.now))) c.kind_of_place.ensures ∙ ap (λ ws. option_map capped_item (item_of (kind_at c.args.header.now c.args.place) ws)) words in
    item_out c.args.header.now.variables c.requires.small c.args.place (item_of (kind_at c.args.header.now c.args.place) (words_of c.args.row.now)) c.in-Some.item read (sym c.if-not-in_range.ensures)
