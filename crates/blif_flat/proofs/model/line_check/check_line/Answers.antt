use Rattle.blif_flat.proofs.Lemmas.{◌≡◌, ◌∙◌, subst, ap, both_ways, SubcktValue, IsModelOf, passed_on, recursive_err, child_err, child_ok}
use Rattle.blif_flat.proofs.model.line_check.check_line.Goals as goal

pub returns-then-is_on_path-clause-err : goal.returns-then-is_on_path-clause-err
returns-then-is_on_path-clause-err c =
    let name : c.subckt.inside.model ≡ c.args.subckt.now.model = ap (λ (s : SubcktValue). s.model) c.subckt.view_is in
    let found : IsModelOf c.args.models.now.list.now c.args.subckt.now.model c.in-Some.n = subst (λ x. IsModelOf c.args.models.now.list.now x c.in-Some.n) (c.bytes.ensures ∙ name) (c.in-Some.ensures.model c.args.models.now.list.now c.requires.index) in
    recursive_err c.args.models.now.list.now c.requires.names c.args.walk.now.path c.args.model.now c.args.line c.args.subckt.now c.in-Some.n found c.subckt.inside.model c.in_ok-recursive_model-in-Some.field-0
    (c.is_on_path.ensures.0 c.if-is_on_path.true) name c.in_ok-recursive_model-in-Some.ensures

pub returns-in_ok-check_child-in-Some-clause-ok : goal.returns-in_ok-check_child-in-Some-clause-ok
returns-in_ok-check_child-in-Some-clause-ok c =
    let name : c.subckt.inside.model ≡ c.args.subckt.now.model = ap (λ (s : SubcktValue). s.model) c.subckt.view_is in
    let found : IsModelOf c.args.models.now.list.now c.args.subckt.now.model c.in-Some.n = subst (λ x. IsModelOf c.args.models.now.list.now x c.in-Some.n) (c.bytes.ensures ∙ name) (c.in-Some.ensures.model c.args.models.now.list.now c.requires.index) in
    child_ok c.args.models.now.list.now c.requires.names c.args.walk.now.path c.args.model.now c.args.line c.args.subckt.now c.in-Some.n found (λ i. both_ways _ c.if-is_on_path.false (c.is_on_path.ensures.1 i)) c.in_ok-check_child-in-Some.ensures.ok

pub returns-in_err-check_child-in-Some-clause-err : goal.returns-in_err-check_child-in-Some-clause-err
returns-in_err-check_child-in-Some-clause-err c =
    let name : c.subckt.inside.model ≡ c.args.subckt.now.model = ap (λ (s : SubcktValue). s.model) c.subckt.view_is in
    let found : IsModelOf c.args.models.now.list.now c.args.subckt.now.model c.in-Some.n = subst (λ x. IsModelOf c.args.models.now.list.now x c.in-Some.n) (c.bytes.ensures ∙ name) (c.in-Some.ensures.model c.args.models.now.list.now c.requires.index) in
    passed_on c.from_residual-in_err-check_child-in-Some.result c.in_err-check_child-in-Some.field-0.0 _ _ c.from_residual-in_err-check_child-in-Some.ensures.1
    (child_err c.args.models.now.list.now c.requires.names c.args.walk.now.path c.args.model.now c.args.line c.args.subckt.now c.in-Some.n found (λ i. both_ways _ c.if-is_on_path.false (c.is_on_path.ensures.1 i)) c.in_err-check_child-in-Some.field-0.0 c.in_err-check_child-in-Some.ensures.err)
