use Rattle.aiger_io.proofs.Lemmas.{◌≡◌, ℕ, ◌≤◌, List, Err, length, map, drop, Bor, sym, ap, ◌∙◌, subst, arith, length-drop, lines, OrMemory, IsHeaderOf, circuit_under, circuit_of, IsLibraryIn, header_in, refusal_of, OrMemory-map, passed_err, Header, and_then, lines_few, text_is}
use Rattle.aiger_io.proofs.read_text.library_of_text.Goals as goal

-- the lines after the header give what the text gives
text_same : (text : List ℕ) (rows behind : List (List ℕ)) (header : Header) → rows ≡ lines text → IsHeaderOf rows header → behind ≡ drop 1 (lines text) → length text ≤ 67108864 → circuit_under behind header ≡ circuit_of text
text_same text rows behind header are is cut small =
    ap (λ r. circuit_under r header) cut ∙ sym (text_is (lines text) header (subst (λ r. IsHeaderOf r header) are is) (omega (arith, length-drop 1 (lines text), lines_few text)))

pub returns-clause-library : goal.returns-clause-library
returns-clause-library c =
    let rows_are : map (λ (r : Bor (List ℕ)). r.now) c.deref.result.now ≡ lines c.args.text.now = ap (map (λ (r : Bor (List ℕ)). r.now)) c.deref.ensures.value ∙ c.in_ok-rows.ensures.lines in
    let behind : map (λ (r : Bor (List ℕ)). r.now) c.rows_behind.result.now ≡ drop 1 (lines c.args.text.now) =
    c.rows_behind.ensures.rows ∙ ap (drop 1) (ap (map (λ (r : Bor (List ℕ)). r.now)) c.deref-2.ensures.value ∙ c.in_ok-rows.ensures.lines) in
    let same = text_same c.args.text.now _ _ c.in_ok-header.header rows_are c.in_ok-header.ensures.read behind c.requires in
    subst (λ r. IsLibraryIn r c.in_ok-made.made) same c.in_ok-made.ensures

pub returns-in_err-header-clause-refusal : goal.returns-in_err-header-clause-refusal
returns-in_err-header-clause-refusal c =
    let rows_are : map (λ (r : Bor (List ℕ)). r.now) c.deref.result.now ≡ lines c.args.text.now = ap (map (λ (r : Bor (List ℕ)). r.now)) c.deref.ensures.value ∙ c.in_ok-rows.ensures.lines in
    passed_err c.from_residual-in_err-header.result c.in_err-header.field-0.0 (OrMemory refusal_of (λ e. circuit_of c.args.text.now ≡ Err e)) c.from_residual-in_err-header.ensures.1
    (OrMemory-map refusal_of (λ e. header_in (map (λ (r : Bor (List ℕ)). r.now) c.deref.result.now) ≡ Err e) (λ e. circuit_of c.args.text.now ≡ Err e) c.in_err-header.field-0.0
    (λ e is. ap (and_then (circuit_under (drop 1 (lines c.args.text.now)))) (ap header_in (sym rows_are) ∙ is)) c.in_err-header.ensures.read)

pub returns-in_err-made-clause-refusal : goal.returns-in_err-made-clause-refusal
returns-in_err-made-clause-refusal c =
    let rows_are : map (λ (r : Bor (List ℕ)). r.now) c.deref.result.now ≡ lines c.args.text.now = ap (map (λ (r : Bor (List ℕ)). r.now)) c.deref.ensures.value ∙ c.in_ok-rows.ensures.lines in
    let behind : map (λ (r : Bor (List ℕ)). r.now) c.rows_behind.result.now ≡ drop 1 (lines c.args.text.now) =
    c.rows_behind.ensures.rows ∙ ap (drop 1) (ap (map (λ (r : Bor (List ℕ)). r.now)) c.deref-2.ensures.value ∙ c.in_ok-rows.ensures.lines) in
    let same = text_same c.args.text.now _ _ c.in_ok-header.header rows_are c.in_ok-header.ensures.read behind c.requires in
    passed_err c.from_residual-in_err-made.result c.in_err-made.field-0.0 (OrMemory refusal_of (λ e. circuit_of c.args.text.now ≡ Err e)) c.from_residual-in_err-made.ensures.1
    (OrMemory-map refusal_of (λ e. circuit_under (map (λ (r : Bor (List ℕ)). r.now) c.rows_behind.result.now) c.in_ok-header.header ≡ Err e) (λ e. circuit_of c.args.text.now ≡ Err e) c.in_err-made.field-0.0
    (λ e is. sym same ∙ is) c.in_err-made.ensures)
