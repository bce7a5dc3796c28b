use Rattle.aiger_io.proofs.Lemmas.{◌≡◌, ◌≤◌, ℕ, ◌+◌, List, true, false, Some, Ok, Err, length, map, drop, get_or, codes, Bor, sym, ◌∙◌, subst, arith, bytes_eq, OrMemory-map, passed_on, symbol_value, refusal_of, no_symbols, symbol_of, symbol_at, symbols_from, no_row, read_here, symbols_end, symbols_next, symbols_stop, symbol_read, symbol_bad, symbol_more}
use Rattle.aiger_io.proofs.symbols.read_symbols.Goals as goal

pub returns-then-eq-clause-symbols : goal.returns-then-eq-clause-symbols
returns-then-eq-clause-symbols c =
    let row : List ℕ = (get_or c.args.rows.now c.loop-row.row-index no_row).now in
    let here = read_here (symbols_from c.args.header.now c.loop-row.number c.loop-row.said) c.args.rows.now c.loop-row.row-index _ c.loop-row-test.true c.loop-row.invariant.so_far in
    let t : bytes_eq row (codes "c") ≡ true = subst (λ w. bytes_eq row w ≡ true) c.as_slice.ensures (sym c.if-eq.ensures) in
    sym here ∙ symbols_end c.args.header.now c.loop-row.number c.loop-row.said row (drop (c.loop-row.row-index + 1) (map (λ (r : Bor (List ℕ)). r.now) c.args.rows.now)) t

pub returns-in_default-clause-symbols : goal.returns-in_default-clause-symbols
returns-in_default-clause-symbols c =
    let row : List ℕ = (get_or c.args.rows.now c.loop-row.row-index no_row).now in
    let here = read_here (symbols_from c.args.header.now c.loop-row.number c.loop-row.said) c.args.rows.now c.loop-row.row-index _ c.loop-row-test.true c.loop-row.invariant.so_far in
    let f : bytes_eq row (codes "c") ≡ false = subst (λ w. bytes_eq row w ≡ false) c.as_slice.ensures (sym c.if-eq.ensures) in
    sym here ∙ symbols_stop c.args.header.now c.loop-row.number c.loop-row.said row (drop (c.loop-row.row-index + 1) (map (λ (r : Bor (List ℕ)). r.now) c.args.rows.now)) _ f
    (symbol_bad c.args.header.now c.requires.few c.loop-row.number c.loop-row.said (symbol_of row) c.in_default.ensures)

pub returns-in_err-add-clause-symbols : goal.returns-in_err-add-clause-symbols
returns-in_err-add-clause-symbols c =
    let rows : List (List ℕ) = map (λ (r : Bor (List ℕ)). r.now) c.args.rows.now in
    let row : List ℕ = (get_or c.args.rows.now c.loop-row.row-index no_row).now in
    let here = read_here (symbols_from c.args.header.now c.loop-row.number c.loop-row.said) c.args.rows.now c.loop-row.row-index _ c.loop-row-test.true c.loop-row.invariant.so_far in
    let f : bytes_eq row (codes "c") ≡ false = subst (λ w. bytes_eq row w ≡ false) c.as_slice.ensures (sym c.if-eq.ensures) in
    passed_on c.from_residual-in_err-add.result c.in_err-add.field-0.0 _ _ c.from_residual-in_err-add.ensures.1
    (OrMemory-map refusal_of (λ e. symbol_at c.args.header.now c.loop-row.number c.loop-row.said (Some (symbol_value c.in-Some.s)) ≡ Err e) (λ e. symbols_from c.args.header.now c.args.line (no_symbols c.args.header.now) rows ≡ Err e) c.in_err-add.field-0.0
    (λ e is. sym here ∙ symbols_stop c.args.header.now c.loop-row.number c.loop-row.said row (drop (c.loop-row.row-index + 1) (map (λ (r : Bor (List ℕ)). r.now) c.args.rows.now)) e f
    (symbol_read c.args.header.now c.requires.few c.loop-row.number c.loop-row.said (symbol_of row) (symbol_value c.in-Some.s) c.in-Some.ensures ∙ is)) c.in_err-add.ensures)

pub loop-row-preserved : goal.loop-row-preserved
loop-row-preserved c =
    let row : List ℕ = (get_or c.args.rows.now c.loop-row.row-index no_row).now in
    let here = read_here (symbols_from c.args.header.now c.loop-row.number c.loop-row.said) c.args.rows.now c.loop-row.row-index _ c.loop-row-test.true c.loop-row.invariant.so_far in
    let f : bytes_eq row (codes "c") ≡ false = subst (λ w. bytes_eq row w ≡ false) c.as_slice.ensures (sym c.if-eq.ensures) in
    let is : symbol_at c.args.header.now c.loop-row.number c.loop-row.said (symbol_of row) ≡ Ok c.add.new.said =
    symbol_read c.args.header.now c.requires.few c.loop-row.number c.loop-row.said (symbol_of row) (symbol_value c.in-Some.s) c.in-Some.ensures ∙ c.in_ok-add.ensures in
    let more = symbol_more c.args.header.now c.loop-row.number c.loop-row.said c.add.new.said (symbol_of row) is in
    let p : length c.add.new.said.places ≡ length c.loop-row.said.places + 1 = more.places in
    record {
      number = (let a : c.loop-row.number ≡ c.args.line + c.loop-row.row-index = c.loop-row.invariant.number in omega arith);
      places = (let a : length c.loop-row.said.places ≤ c.loop-row.row-index = c.loop-row.invariant.places in omega arith);
      size = more.names ∙ c.loop-row.invariant.size;
      so_far = sym (symbols_next c.args.header.now c.loop-row.number c.loop-row.said row (drop (c.loop-row.row-index + 1) (map (λ (r : Bor (List ℕ)). r.now) c.args.rows.now)) c.add.new.said f is) ∙ here;
    }
