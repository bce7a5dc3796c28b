use Rattle.aiger_io.proofs.Lemmas.{◌≡◌, ℕ, List, Err, map, drop, Bor, ◌∙◌, ap, OrMemory-map, passed_on, drop_get, capped_result, header_of, header_in, refusal_of, header_got, header_error}
use Rattle.aiger_io.proofs.header.read_header.Goals as goal

pub returns-clause-read : goal.returns-clause-read
returns-clause-read c =
    let rows : List (List ℕ) = map (λ (r : Bor (List ℕ)). r.now) c.args.rows.now in
    header_got rows (map (λ (w : Bor (List ℕ)). w.now) c.deref.result.now) c.row_at.result.now (drop 1 rows) (drop_get rows 0 c.row_at.result.now c.row_at.ensures)
    (ap (map (λ (w : Bor (List ℕ)). w.now)) c.deref.ensures.value ∙ c.in_ok-words.ensures) c.in_ok-header.header c.in_ok-header.ensures

pub returns-in_err-header-clause-read : goal.returns-in_err-header-clause-read
returns-in_err-header-clause-read c =
    let rows : List (List ℕ) = map (λ (r : Bor (List ℕ)). r.now) c.args.rows.now in
    let words : List (List ℕ) = map (λ (w : Bor (List ℕ)). w.now) c.deref.result.now in
    passed_on c.from_residual-in_err-header.result c.in_err-header.field-0.0 _ _ c.from_residual-in_err-header.ensures.1
    (OrMemory-map refusal_of (λ e. capped_result (header_of words) ≡ Err e) (λ e. header_in rows ≡ Err e) c.in_err-header.field-0.0
    (λ e is. header_error rows words c.row_at.result.now (drop 1 rows) (drop_get rows 0 c.row_at.result.now c.row_at.ensures)
    (ap (map (λ (w : Bor (List ℕ)). w.now)) c.deref.ensures.value ∙ c.in_ok-words.ensures) e is) c.in_err-header.ensures)
