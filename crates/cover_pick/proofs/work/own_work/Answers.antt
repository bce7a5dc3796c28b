use Rattle.cover_pick.proofs.Lemmas.{arith, ◌≤◌, ◌*◌, ◌+◌, ◌^◌, node_count, work_small}
use Rattle.cover_pick.proofs.work.own_work.Goals as goal

pub overflow_add-lut : goal.overflow_add-lut
overflow_add-lut c = omega (arith, c.requires.node, c.requires.small)

pub overflow_add-result : goal.overflow_add-result
overflow_add-result c = omega (arith, c.in_ok-own.ensures.few, c.requires.small)

pub overflow_mul-result : goal.overflow_mul-result
overflow_mul-result c = let a : c.table_bits.result * (1 + c.in_ok-own.own) ≤ 2 ^ 37 = work_small c.table_bits.result c.in_ok-own.own (node_count c.args.graph.now) c.table_bits.ensures.few c.in_ok-own.ensures.few c.requires.small in omega arith

pub returns-clause-few : goal.returns-clause-few
returns-clause-few c = work_small c.table_bits.result c.in_ok-own.own (node_count c.args.graph.now) c.table_bits.ensures.few c.in_ok-own.ensures.few c.requires.small
