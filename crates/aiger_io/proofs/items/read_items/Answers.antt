use Rattle.aiger_io.proofs.Lemmas.{◌≡◌, ◌<◌, ◌≤◌, ℕ, ◌+◌, List, [], ◌∷◌, ◌++◌, Err, length, map, drop, get_or, Bor, sym, ap, ◌∙◌, arith, length-append, OrMemory-map, passed_on, length-map, drop_past, item_at, items_from, refusal_of, Malformed, Item, items_full, items_end, items_next_at, items_stop_at, no_row, read_here}
use Rattle.aiger_io.proofs.items.read_items.Goals as goal

pub returns-then-count-len-clause-items : goal.returns-then-count-len-clause-items
returns-then-count-len-clause-items c =
    sym c.loop-row.invariant.so_far ∙ items_full c.args.header.now c.loop-row.items.items (drop c.loop-row.row-index (map (λ (r : Bor (List ℕ)). r.now) c.args.rows.now)) (let f : c.count-count.result ≤ c.len.result = c.if-count-len.true in omega arith)

pub returns-in_err-item-clause-items : goal.returns-in_err-item-clause-items
returns-in_err-item-clause-items c =
    let rows : List (List ℕ) = map (λ (r : Bor (List ℕ)). r.now) c.args.rows.now in
    let here = read_here (items_from c.args.header.now c.loop-row.items.items) c.args.rows.now c.loop-row.row-index _ c.loop-row-test.true c.loop-row.invariant.so_far in
    passed_on c.from_residual.result c.in_err-item.field-0.0 _ _ c.from_residual.ensures.1
    (OrMemory-map refusal_of (λ e. item_at c.args.header.now c.len-in-loop-row.result (get_or c.args.rows.now c.loop-row.row-index no_row).now ≡ Err e) (λ e. items_from c.args.header.now [] rows ≡ Err e) c.in_err-item.field-0.0
    (λ e is. sym here ∙ items_stop_at c.args.header.now c.loop-row.items.items (get_or c.args.rows.now c.loop-row.row-index no_row).now (drop (c.loop-row.row-index + 1) rows) c.len-in-loop-row.result (omega arith) (let f : c.len.result < c.count-count.result = c.if-count-len.false in omega arith) e is) c.in_err-item.ensures)

pub loop-row-preserved : goal.loop-row-preserved
loop-row-preserved c =
    let rows : List (List ℕ) = map (λ (r : Bor (List ℕ)). r.now) c.args.rows.now in
    let here = read_here (items_from c.args.header.now c.loop-row.items.items) c.args.rows.now c.loop-row.row-index _ c.loop-row-test.true c.loop-row.invariant.so_far in
    let f : c.len.result < c.count-count.result = c.if-count-len.false in
    let n : length c.push.new.self.items ≡ length (c.loop-row.items.items ++ c.in_ok-item.item ∷ []) = ap (λ (l : List Item). length l) c.in_ok-push.ensures.items in
    record {
      count = omega (arith, length-append c.loop-row.items.items (c.in_ok-item.item ∷ []));
      within = omega (arith, length-append c.loop-row.items.items (c.in_ok-item.item ∷ []));
      so_far = ap (λ l. items_from c.args.header.now l (drop (c.loop-row.row-index + 1) rows)) c.in_ok-push.ensures.items
          ∙ sym (items_next_at c.args.header.now c.loop-row.items.items (get_or c.args.rows.now c.loop-row.row-index no_row).now (drop (c.loop-row.row-index + 1) rows) c.len-in-loop-row.result (omega arith) (omega arith) c.in_ok-item.item c.in_ok-item.ensures) ∙ here;
    }

pub returns-then-count-len-2-clause-items : goal.returns-then-count-len-2-clause-items
returns-then-count-len-2-clause-items c =
    sym c.loop-row.invariant.so_far ∙ items_full c.args.header.now c.loop-row.items.items (drop c.loop-row.row-index (map (λ (r : Bor (List ℕ)). r.now) c.args.rows.now)) (let f : c.count-count.result ≤ c.len-2.result = c.if-count-len-2.true in omega arith)

pub returns-clause-items : goal.returns-clause-items
returns-clause-items c =
    let rows : List (List ℕ) = map (λ (r : Bor (List ℕ)). r.now) c.args.rows.now in
    let f : c.len-2.result < c.count-count.result = c.if-count-len-2.false in
    let past : length rows ≤ c.loop-row.row-index = (let n : length rows ≡ length c.args.rows.now = length-map c.args.rows.now (λ (r : Bor (List ℕ)). r.now) in omega arith) in
    let same : length c.loop-row.items.items ≡ c.len-3.result = omega arith in
    sym c.loop-row.invariant.so_far ∙ ap (items_from c.args.header.now c.loop-row.items.items) (drop_past rows c.loop-row.row-index past) ∙ items_end c.args.header.now c.loop-row.items.items (omega arith)
    ∙ ap (λ n. Err (Malformed (n + 2))) same
