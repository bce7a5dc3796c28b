use Rattle.aiger_io.proofs.Common.{◌≡◌, ℕ, ap, ◌+◌, ◌++◌, ◌∙◌, arith, replicate, most_underscores, most-append}
use Rattle.aiger_io.proofs.own_name.mark.Goals as goal

pub returns : goal.returns
returns c =
    let same : c.most_of-2.result ≡ most_underscores (c.args.inputs.now ++ c.args.outputs.now) = omega (arith, most-append c.args.inputs.now c.args.outputs.now) in
    c.in_ok-mark.ensures ∙ ap (λ (n : ℕ). replicate (1 + n) 95) same
