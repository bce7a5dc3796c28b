use Rattle.gen_case.proofs.Lemmas.{List, ℕ, ◌++◌, ap, ◌∙◌, text_of, lines_behind}
use Rattle.gen_case.specs.Netlist.{head_lines, all_partials, all_adders, all_outputs, end_lines, netlist_lines}
use Rattle.gen_case.proofs.generate.netlist_text.Goals as goal

pub returns : goal.returns
unfolding netlist_lines
returns c =
    let n : ℕ = c.args.n in
    let ends = lines_behind (all_outputs n) end_lines _ _ _ c.in_ok-add_outputs.ensures c.in_ok-add_end.ensures in
    let adders = lines_behind (all_adders n) (all_outputs n ++ end_lines) _ _ _ c.in_ok-add_adders.ensures ends in
    let partials = lines_behind (all_partials n) (all_adders n ++ (all_outputs n ++ end_lines)) _ _ _ c.in_ok-add_partials.ensures adders in
    let whole = lines_behind (head_lines n) (all_partials n ++ (all_adders n ++ (all_outputs n ++ end_lines))) _ _ _ c.in_ok-add_head.ensures partials in
    whole ∙ ap (λ (t : List ℕ). t ++ text_of (netlist_lines n)) c.new-text.ensures.bytes
