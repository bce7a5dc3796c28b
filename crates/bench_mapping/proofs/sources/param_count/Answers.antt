use Rattle.bench_mapping.proofs.Common.{◌≡◌, ℕ, ◌+◌, ◌-◌, List, [], ◌∷◌, Some, drop, ap, ◌∙◌, subst, arith, get_or_from_slice_get, slice_get_within, Regular, Parameter, param_count}
use Rattle.std.specs.List.{slice_get}
use Rattle.std.proofs.lemmas.List.{drop_more, drop_all}
use Rattle.aig_core.specs.declared.lit.Kind.{Kind}
use Rattle.bench_mapping.proofs.sources.param_count.Goals as goal

count_first : (k : Kind) (ks : List Kind) → param_count (k ∷ ks) ≡ param_count (k ∷ []) + param_count ks
count_first Regular ks = omega arith
count_first Parameter ks = omega arith

count_next : (kinds : List Kind) (i : ℕ) (k : Kind) (count one total : ℕ) → slice_get kinds i ≡ Some k → one ≡ param_count (k ∷ []) → count + param_count (drop i kinds) ≡ total → count + one + param_count (drop (i + 1) kinds) ≡ total
count_next kinds i k count one total at is e =
    let d : drop i kinds ≡ k ∷ drop (i + 1) kinds = drop_more kinds i k (slice_get_within kinds i k at) ∙ ap (λ x. x ∷ drop (i + 1) kinds) (get_or_from_slice_get kinds i k k at) in
    let f : param_count (drop i kinds) ≡ param_count (k ∷ []) + param_count (drop (i + 1) kinds) = ap (λ (ks : List Kind). param_count ks) d ∙ count_first k (drop (i + 1) kinds) in
    omega arith

pub loop-i-preserved : goal.loop-i-preserved
loop-i-preserved c =
    let kinds : List Kind = c.args.graph.now.kinds in
    let at : slice_get kinds c.loop-i.i ≡ Some c.kind.result = subst (λ j. slice_get kinds j ≡ Some c.kind.result) (let e : c.loop-i.i + 1 - 1 ≡ c.loop-i.i = omega arith in e) c.kind.ensures in
    record {
      rest = count_next kinds c.loop-i.i c.kind.result c.loop-i.count c.params_of-count.result (param_count kinds) at c.params_of-count.ensures.value c.loop-i.invariant.rest;
      few = omega (arith, c.params_of-count.ensures.few, c.loop-i.invariant.few);
    }

pub returns : goal.returns
returns c =
    let kinds : List Kind = c.args.graph.now.kinds in
    let e : param_count (drop c.loop-i.i kinds) ≡ 0 = ap (λ (ks : List Kind). param_count ks) (drop_all c.loop-i.i kinds (omega arith)) in
    omega (arith, c.loop-i.invariant.rest)
