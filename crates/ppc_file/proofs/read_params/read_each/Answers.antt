use Rattle.ppc_file.proofs.Lemmas.{◌<◌, length, ap, ◌∙◌, arith, length-append, [], ◌∷◌, ◌++◌, List, ℕ, sym, map-append, PackParam, names_of_params, in_params, refused_on, param_new, param_read, param_refused, all_read}
use Rattle.ppc_file.proofs.read_params.read_each.Goals as goal

pub push_param-requires : goal.push_param-requires
push_param-requires c =
    let below : length c.loop.params.items < c.args.count = omega (arith, c.loop.invariant.count, c.loop-test.true) in
    param_new c.args.file.now (λ i. omega (arith, c.type_inv.file i)) c.args.version c.args.count c.loop.params.items c.loop.names c.loop.rest.now c.loop.invariant.stands c.loop.invariant.names below
    (record { name = c.in_ok-found.found.name.now; init = c.in_ok-found.found.init }) c.in_ok-found.behind.now c.in_ok-found.ensures

pub returns-in_err-found-clause-fault : goal.returns-in_err-found-clause-fault
returns-in_err-found-clause-fault c =
    let below : length c.loop.params.items < c.args.count = omega (arith, c.loop.invariant.count, c.loop-test.true) in
    refused_on c.args.file.now c.from_residual.result c.in_err-found.field-0.0 c.from_residual.ensures.1
    (param_refused c.args.file.now (λ i. omega (arith, c.type_inv.file i)) c.args.version c.args.count c.loop.params.items c.loop.names c.loop.rest.now c.loop.invariant.stands c.loop.invariant.names below _ c.in_err-found.ensures)

pub loop-preserved : goal.loop-preserved
loop-preserved c =
    let below : length c.loop.params.items < c.args.count = omega (arith, c.loop.invariant.count, c.loop-test.true) in
    let p : PackParam = record { name = c.in_ok-found.found.name.now; init = c.in_ok-found.found.init } in
    record {
      stands = param_read c.args.file.now (λ i. omega (arith, c.type_inv.file i)) c.args.version c.args.count c.loop.params.items c.loop.names c.loop.rest.now c.loop.invariant.stands c.loop.invariant.names below
          p c.in_ok-found.behind.now c.push_param.new.params.items c.in_ok-found.ensures c.in_ok-push_param.ensures.params;
      names = c.in_ok-push_param.ensures.names ∙ ap (λ (ns : List (List ℕ)). ns ++ p.name ∷ []) c.loop.invariant.names
          ∙ sym (ap names_of_params c.in_ok-push_param.ensures.params ∙ map-append (λ (r : PackParam). r.name) c.loop.params.items (p ∷ []));
      count = ap length c.in_ok-push_param.ensures.params ∙ omega (arith, c.loop.invariant.count, length-append c.loop.params.items (p ∷ []));
    }

pub returns-clause-stands : goal.returns-clause-stands
returns-clause-stands c = all_read c.args.file.now (λ n. in_params c.args.version n c.loop.params.items) c.args.count _ c.loop.counter c.loop.rest.now c.loop.invariant.stands c.loop.invariant.stands.sound.0.within c.loop.invariant.count (omega (arith, c.loop-test.false))
