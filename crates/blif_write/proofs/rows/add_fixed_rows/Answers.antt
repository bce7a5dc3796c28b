use Rattle.blif_write.proofs.Lemmas.{ℕ, ◌≡◌, ap, arith, ◌∙◌, ◌^◌, cond, [], Bool, flat_map, range_with_len, added_as, added_none, added_next, row_line, line_text, digit_cells, fixed_row_text, fixed_rows_are}
use Rattle.blif_write.proofs.rows.add_fixed_rows.Goals as goal

pub loop-v-init : goal.loop-v-init
loop-v-init g c = added_none g.O.Sink.seen c.args.writer.now

pub loop-v-preserved : goal.loop-v-preserved
loop-v-preserved g c = added_next (fixed_row_text c.args.config.now c.args.base c.args.leaves) 0 c.loop-v.v c.loop-v.v (omega arith) c.loop-v.invariant (added_as (ap (λ (b : Bool). cond b (line_text (row_line (digit_cells c.args.leaves c.loop-v.v))) []) c.bit_at.ensures) c.add_fixed_row_if.ensures)

pub returns : goal.returns
returns g c =
    let all : c.loop-v.v ≡ 2 ^ c.args.leaves = omega arith in
    added_as (ap (λ (n : ℕ). flat_map (fixed_row_text c.args.config.now c.args.base c.args.leaves) (range_with_len 0 n)) all ∙ fixed_rows_are c.args.config.now c.args.base c.args.leaves) c.loop-v.invariant
