use Rattle.cover_pick.proofs.Lemmas.{arith, ◌∙◌, ◌+◌, subst, sym, List, Bool, [], AreMet, work_met}
use Rattle.cover_pick.proofs.work.limit_work.Goals as goal

pub returns-then-own-shared-gt-MOST_WORK-clause-past : goal.returns-then-own-shared-gt-MOST_WORK-clause-past
returns-then-own-shared-gt-MOST_WORK-clause-past c = record {
  work = c.in_ok-own.own + c.count_met-shared.result;
  is = work_met c.args.graph.now c.args.once.now c.args.luts.now c.deref_mut.result.now c.in_ok-own.own c.count_met-shared.result c.requires.once
      (subst (λ (ms : List Bool). AreMet c.args.graph.now c.args.once.now c.args.luts.now [] ms) (sym (c.deref_mut.ensures.value ∙ c.into_met-met.ensures)) c.in_ok-own.ensures.met) c.in_ok-own.ensures.own c.count_met-shared.ensures.count;
  past = omega arith;
}

pub returns-clause-within : goal.returns-clause-within
returns-clause-within c = record {
  work = c.in_ok-own.own + c.count_met-shared.result;
  is = work_met c.args.graph.now c.args.once.now c.args.luts.now c.deref_mut.result.now c.in_ok-own.own c.count_met-shared.result c.requires.once
      (subst (λ (ms : List Bool). AreMet c.args.graph.now c.args.once.now c.args.luts.now [] ms) (sym (c.deref_mut.ensures.value ∙ c.into_met-met.ensures)) c.in_ok-own.ensures.met) c.in_ok-own.ensures.own c.count_met-shared.ensures.count;
  within = omega arith;
}
