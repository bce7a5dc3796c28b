use Rattle.cut_enum.proofs.LimitLemmas.{limit_once, limit_excludes, limit_answer}
use Rattle.cut_enum.proofs.TableOnceLemmas.{table_once}
use Rattle.cut_enum.proofs.table.enumerate.Goals as goal

pub returns-clause-once : goal.returns-clause-once
returns-clause-once c e f a b = limit_once c.args.graph.now c.args.k e f a b

pub returns-clause-excluded : goal.returns-clause-excluded
returns-clause-excluded c e rows a are = limit_excludes c.args.graph.now c.args.k e rows a are

pub returns-clause-limit : goal.returns-clause-limit
returns-clause-limit c e is = limit_answer c.args.graph.now c.args.k c.enumerate_with.result e c.enumerate_with.ensures.ok c.enumerate_with.ensures.err is

pub returns-clause-one_table : goal.returns-clause-one_table
returns-clause-one_table c rows more a b = table_once c.args.graph.now c.args.k rows more a b
