use Rattle.blif_write.proofs.Lemmas.{ℕ, ◌≡◌, ap, arith, ◌∙◌, ◌^◌, flat_map, range_with_len, added_as, added_none, added_next, tunable_row_text, tunable_rows_are}
use Rattle.blif_write.proofs.rows.add_tunable_rows.Goals as goal

pub loop-v-init : goal.loop-v-init
loop-v-init g c = added_none g.O.Sink.seen c.args.writer.now

pub loop-v-preserved : goal.loop-v-preserved
loop-v-preserved g c = added_next (tunable_row_text c.args.leaves) 0 c.loop-v.v c.loop-v.v (omega arith) c.loop-v.invariant c.add_tunable_row.ensures

pub returns : goal.returns
returns g c =
    let all : c.loop-v.v ≡ 2 ^ c.args.leaves = omega arith in
    added_as (ap (λ (n : ℕ). flat_map (tunable_row_text c.args.leaves) (range_with_len 0 n)) all ∙ tunable_rows_are c.args.leaves) c.loop-v.invariant
