use Rattle.cert_check.proofs.Lemmas.{ap, ◌∙◌, PathValue, added_as, added_twice, path_line}
use Rattle.cert_check.proofs.written.add_path.Goals as goal

pub returns : goal.returns
returns g c = added_as (path_line c.args.path.now c.deref.result.now (c.deref.ensures.value ∙ ap (λ (p : PathValue). p.nodes) c.path.view_is)) (added_twice c.add_text.ensures (added_twice c.add_numbers.ensures c.add_byte.ensures))
