use Rattle.gen_case.proofs.Lemmas.{List, ℕ, ◌++◌, codes, line_text, inputs_line, outputs_line, behind}
use Rattle.gen_case.proofs.head.add_head.Goals as goal

pub returns : goal.returns
returns c =
    let inputs : List ℕ = line_text (inputs_line c.args.n) in
    let outputs : List ℕ = line_text (outputs_line c.args.n) in
    let last : List ℕ = codes ".names zero\n" in
    behind (codes ".model mul\n") (inputs ++ (outputs ++ last)) _ _ _ c.in_ok-push_str.ensures.bytes
    (behind inputs (outputs ++ last) _ _ _ c.in_ok-add_inputs.ensures (behind outputs last _ _ _ c.in_ok-add_outputs.ensures c.in_ok-push_str-2.ensures.bytes))
