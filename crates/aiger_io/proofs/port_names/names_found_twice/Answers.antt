use Rattle.aiger_io.proofs.Common.{[], ap, ◌∙◌, twice_from, seen_from}
use Rattle.aiger_io.proofs.PortLemmas.{all_found}
use Rattle.aiger_io.proofs.port_names.names_found_twice.Goals as goal

pub returns : goal.returns
returns c = all_found c.args.inputs.now c.args.outputs.now c.add_twice-2.new.found (
    c.in_ok-add_twice-2.ensures.found
    ∙ ap (λ s. twice_from s c.add_twice.new.found c.args.outputs.now) (c.in_ok-add_twice.ensures.seen ∙ ap (λ s. seen_from s c.args.inputs.now) c.new-seen.ensures)
    ∙ ap (λ f. twice_from (seen_from [] c.args.inputs.now) f c.args.outputs.now) (c.in_ok-add_twice.ensures.found ∙ ap (λ s. twice_from s c.new-found.result c.args.inputs.now) c.new-seen.ensures ∙ ap (λ f. twice_from [] f c.args.inputs.now) c.new-found.ensures))
