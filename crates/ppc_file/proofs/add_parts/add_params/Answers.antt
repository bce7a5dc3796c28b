use Rattle.ppc_file.proofs.Lemmas.{◌≤◌, length, sym, ap, subst, arith, flat_map, In-get_or, PackParam, MOST_NAME_BYTES, param_bytes, added_more}
use Rattle.list_laws.proofs.Items.{drop_at}
use Rattle.ppc_file.proofs.add_parts.add_params.Goals as goal

pub add_param-requires : goal.add_param-requires
add_param-requires g c =
    subst (λ (p : PackParam). length p.name ≤ MOST_NAME_BYTES) (sym c.param-item.is)
    (c.requires.short _ (In-get_or c.args.params.now c.loop-param.param-index c.param-item.result (omega arith)))

pub loop-param-preserved : goal.loop-param-preserved
loop-param-preserved g c = added_more c.loop-param.invariant _ _
    (ap (flat_map (param_bytes c.args.version)) (drop_at c.args.params.now c.loop-param.param-index c.param-item.result (omega arith) c.param-item.is)) c.add_param.ensures
