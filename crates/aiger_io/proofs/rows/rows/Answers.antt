use Rattle.aiger_io.proofs.Lemmas.{◌≡◌, ◌<◌, ◌≤◌, ℕ, ◌+◌, List, [], ◌∷◌, ◌++◌, length, map, drop, Bor, refl, sym, ap, ◌∙◌, arith, length-append, lines_of_parts, eqb-true, length-map, row_next, row_last, row_none, row_at, row_pushed, parts_few, not_empty}
use Rattle.aiger_io.proofs.rows.rows.Goals as goal
use Rattle.aiger_io.proofs.rows.rows.Goals.{then-i-len+in_ok-push, else-i-len+then-not-is_empty+in_ok-push-2, else-i-len+else-not-is_empty}

pub returns-clause-few : goal.returns-clause-few
returns-clause-few c = omega (arith, parts_few c.in_ok-parts.parts.items c.args.text.now c.in_ok-parts.ensures, ap (λ (l : List (Bor (List ℕ))). length l) c.deref-part-items.ensures.value)

pub loop-i-preserved : goal.loop-i-preserved
loop-i-preserved c =
    let parts : List (List ℕ) = map (λ (r : Bor (List ℕ)). r.now) c.deref-part-items.result.now in
    let size : length parts ≡ length c.deref-part-items.result.now = length-map c.deref-part-items.result.now (λ (r : Bor (List ℕ)). r.now) in
    let same : length c.deref-part-items.result.now ≡ length c.in_ok-parts.parts.items = ap (λ (l : List (Bor (List ℕ))). length l) c.deref-part-items.ensures.value in
    elim c.if-i-len.branch [
      | then-i-len+in_ok-push w ↦ rw w.rows-is (record {
        count = omega (arith, ap (λ (l : List (Bor (List ℕ))). length l) w.in_ok-push.ensures.items, length-append c.loop-i.rows.items (w.without_return.result ∷ []));
        so_far = ap (λ m. m ++ lines_of_parts (drop (c.loop-i.i + 1) parts)) (row_pushed c.loop-i.rows.items w.push.new.self.items w.without_return.result _ w.in_ok-push.ensures.items w.without_return.ensures)
            ∙ row_next parts (map (λ (r : Bor (List ℕ)). r.now) c.loop-i.rows.items) _ c.loop-i.i _ (row_at c.deref-part-items.result.now c.loop-i.i _ c.loop-i-test.true) c.loop-i.invariant.so_far
            (let f : c.loop-i.i + 1 < c.len.result = w.if-i-len.true in omega arith);
      })
      | else-i-len+then-not-is_empty+in_ok-push-2 w ↦ rw w.rows-is (record {
        count = omega (arith, ap (λ (l : List (Bor (List ℕ))). length l) w.in_ok-push-2.ensures.items);
        so_far = ap (λ m. m ++ lines_of_parts (drop (c.loop-i.i + 1) parts)) (row_pushed c.loop-i.rows.items w.push-then-not-is_empty.new.self.items _ _ w.in_ok-push-2.ensures.items refl)
            ∙ row_last parts (map (λ (r : Bor (List ℕ)). r.now) c.loop-i.rows.items) _ c.loop-i.i _ (row_at c.deref-part-items.result.now c.loop-i.i _ c.loop-i-test.true) c.loop-i.invariant.so_far
            (let f : c.len.result ≤ c.loop-i.i + 1 = w.if-i-len.false in omega arith) (not_empty _ (sym w.is_empty.ensures ∙ w.if-not-is_empty.true));
      })
      | else-i-len+else-not-is_empty w ↦ rw w.rows-is (record {
        count = omega arith;
        so_far = row_none parts (map (λ (r : Bor (List ℕ)). r.now) c.loop-i.rows.items) _ c.loop-i.i _ (row_at c.deref-part-items.result.now c.loop-i.i _ c.loop-i-test.true) c.loop-i.invariant.so_far
            (let f : c.len.result ≤ c.loop-i.i + 1 = w.if-i-len.false in omega arith) (eqb-true _ 0 (sym w.is_empty.ensures ∙ w.if-not-is_empty.false));
      })
    ]
