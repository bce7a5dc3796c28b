use Rattle.cut_sets.proofs.Lemmas.{◌≡◌, ◌<◌, ◌+◌, ◌∙◌, ap, sym, length, vec_len, arith, get_or_read, parts_of, row_at, parts_of-past, starts-bounds, row_length}
use Rattle.cut_sets.proofs.rows.CutRows.count.Goals as goal

pub returns-then-n-len : goal.returns-then-n-len
returns-then-n-len c =
    let len : vec_len c.self.inside.rows ≡ length c.self.inside.rows.items = c.self.inside.rows.ok.0 in
    ap length (sym (parts_of-past c.self.inside.rows.items (parts_of c.self.inside.starts.items c.self.inside.leaves.items) c.args.n (omega (arith, c.len.ensures, c.if-n-len.true)))) ∙ ap (λ t. length (row_at t c.args.n)) c.self.view_is

pub overflow_sub-result : goal.overflow_sub-result
overflow_sub-result c =
    let len : vec_len c.self.inside.rows ≡ length c.self.inside.rows.items = c.self.inside.rows.ok.0 in
    let l : c.args.n + 1 < length c.self.inside.rows.items = omega (arith, c.len.ensures, c.if-n-len.false) in
    let end = get_or_read c.self.inside.rows.items (c.args.n + 1) c.index.result.now l c.index.ensures 0 in
    let start = get_or_read c.self.inside.rows.items c.args.n c.index-2.result.now (omega (arith, l)) c.index-2.ensures 0 in
    omega (arith, end, start, (starts-bounds (length (parts_of c.self.inside.starts.items c.self.inside.leaves.items)) c.self.inside.rows.items c.args.n c.self.invariant.rows_to l).0)

pub returns : goal.returns
returns c =
    let len : vec_len c.self.inside.rows ≡ length c.self.inside.rows.items = c.self.inside.rows.ok.0 in
    let l : c.args.n + 1 < length c.self.inside.rows.items = omega (arith, c.len.ensures, c.if-n-len.false) in
    let end = get_or_read c.self.inside.rows.items (c.args.n + 1) c.index.result.now l c.index.ensures 0 in
    let start = get_or_read c.self.inside.rows.items c.args.n c.index-2.result.now (omega (arith, l)) c.index-2.ensures 0 in
    let row = row_length c.self.inside.rows.items (parts_of c.self.inside.starts.items c.self.inside.leaves.items) c.args.n c.self.invariant.rows_to l in
    omega (arith, end, start, row, ap (λ t. length (row_at t c.args.n)) c.self.view_is)
