use Rattle.cut_sets.proofs.Lemmas.{◌≡◌, ◌++◌, ◌*◌, ◌+◌, ◌<◌, ◌≤◌, ◌∙◌, ap, length, vec_len, arith, length-append, parts_of, IsShort, MOST_LEAVES, MOST_CUTS, few_leaves, flat_push, pushed_parts}
use Rattle.cut_sets.proofs.rows.push_cut.Goals as goal

pub overflow_cast-len : goal.overflow_cast-len
overflow_cast-len c =
    let n : vec_len c.extend_from_slice.new.self ≡ length c.extend_from_slice.new.self.items = c.extend_from_slice.new.self.ok.0 in
    let e : length c.extend_from_slice.new.self.items ≡ length c.args.leaves.now.items + length c.leaves.result.now = ap length c.in_ok-extend_from_slice.ensures.items ∙ length-append c.args.leaves.now.items c.leaves.result.now in
    let few : length c.leaves.result.now ≤ MOST_LEAVES = omega (arith, ap length c.leaves.ensures.leaves, c.leaves.ensures.few) in
    let all : length c.args.leaves.now.items ≤ MOST_LEAVES * length (parts_of c.args.starts.now.items c.args.leaves.now.items) = few_leaves c.args.leaves.now.items c.args.starts.now.items c.args.signatures.now.items c.requires.flat in
    let room : length (parts_of c.args.starts.now.items c.args.leaves.now.items) < MOST_CUTS = c.requires.room in
    omega (arith, c.len.ensures)

pub returns-clause-flat : goal.returns-clause-flat
returns-clause-flat c =
    let n : vec_len c.extend_from_slice.new.self ≡ length c.extend_from_slice.new.self.items = c.extend_from_slice.new.self.ok.0 in
    let e : c.extend_from_slice.new.self.items ≡ c.args.leaves.now.items ++ c.args.cut.now = c.in_ok-extend_from_slice.ensures.items ∙ ap (λ t. c.args.leaves.now.items ++ t) c.leaves.ensures.leaves in
    let short : IsShort c.args.cut.now = record { ascending = c.leaves.ensures.ascending; few = c.leaves.ensures.few } in
    rw (e, c.in_ok-push.ensures.items, c.in_ok-push-2.ensures.items)
    (flat_push c.args.leaves.now.items c.args.starts.now.items c.args.signatures.now.items c.args.cut.now c.len.result c.signature.result c.requires.flat short (c.len.ensures ∙ (n ∙ ap length e)) c.signature.ensures)

pub returns-clause-cuts : goal.returns-clause-cuts
returns-clause-cuts c =
    let n : vec_len c.extend_from_slice.new.self ≡ length c.extend_from_slice.new.self.items = c.extend_from_slice.new.self.ok.0 in
    let e : c.extend_from_slice.new.self.items ≡ c.args.leaves.now.items ++ c.args.cut.now = c.in_ok-extend_from_slice.ensures.items ∙ ap (λ t. c.args.leaves.now.items ++ t) c.leaves.ensures.leaves in
    rw (e, c.in_ok-push.ensures.items)
    (pushed_parts c.args.leaves.now.items c.args.starts.now.items c.args.signatures.now.items c.args.cut.now c.len.result c.requires.flat (c.len.ensures ∙ (n ∙ ap length e)))
