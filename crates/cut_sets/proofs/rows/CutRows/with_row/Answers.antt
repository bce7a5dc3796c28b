use Rattle.cut_sets.proofs.Lemmas.{◌≡◌, ◌∙◌, ap, sym, List, ℕ, length, vec_len, sum_by, arith, parts_of, ◌++◌, ◌∷◌, [], row_push, row_view}
use Rattle.cut_sets.proofs.rows.CutRows.with_row.Goals as goal

pub push_cuts-requires-clause-room : goal.push_cuts-requires-clause-room
push_cuts-requires-clause-room c =
    let sum : sum_by length c.args.self ≡ length (parts_of c.self.inside.starts.items c.self.inside.leaves.items) = sym (ap (λ (t : List (List (List ℕ))). sum_by length t) c.self.view_is) ∙ c.self.invariant.sum in omega (arith, c.requires)

pub invariant_of-result : goal.invariant_of-result
invariant_of-result c =
    let n : vec_len c.push_cuts.new.signatures ≡ length c.push_cuts.new.signatures.items = c.push_cuts.new.signatures.ok.0 in
    let sum : sum_by length c.args.self ≡ length (parts_of c.self.inside.starts.items c.self.inside.leaves.items) = sym (ap (λ (t : List (List (List ℕ))). sum_by length t) c.self.view_is) ∙ c.self.invariant.sum in
    rw (c.in_ok-push.ensures.items)
    (row_push c.self.inside.leaves.items c.self.inside.starts.items c.self.inside.signatures.items c.self.inside.rows.items c.push_cuts.new.leaves.items c.push_cuts.new.starts.items c.push_cuts.new.signatures.items c.args.cuts.now c.len.result
    c.self.invariant c.in_ok-push_cuts.ensures.flat c.in_ok-push_cuts.ensures.cuts (c.len.ensures ∙ n) (omega (arith, c.requires)))

pub returns : goal.returns
returns c =
    let n : vec_len c.push_cuts.new.signatures ≡ length c.push_cuts.new.signatures.items = c.push_cuts.new.signatures.ok.0 in
    rw (c.in_ok-push.ensures.items)
    (row_view c.self.inside.leaves.items c.self.inside.starts.items c.self.inside.signatures.items c.self.inside.rows.items c.push_cuts.new.leaves.items c.push_cuts.new.starts.items c.push_cuts.new.signatures.items c.args.cuts.now c.len.result
    c.self.invariant c.in_ok-push_cuts.ensures.flat c.in_ok-push_cuts.ensures.cuts (c.len.ensures ∙ n) ∙ ap (λ (t : List (List (List ℕ))). t ++ c.args.cuts.now ∷ []) c.self.view_is)
