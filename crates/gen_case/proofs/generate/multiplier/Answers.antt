use Rattle.std.proofs.Common.{ℕ, ap, ◌∙◌}
use Rattle.std.specs.Global.{Vec}
use Rattle.gen_case.proofs.SizeLemmas.{case_short}
use Rattle.gen_case.proofs.generate.multiplier.Goals as goal

pub returns-clause-short : goal.returns-clause-short
returns-clause-short c =
    case_short c.args.n c.args.seed _ _ _ c.requires.high
    (ap (λ (v : Vec ℕ). v.items) c.into_bytes.ensures.value ∙ c.in_ok-netlist.ensures)
    (ap (λ (v : Vec ℕ). v.items) c.into_bytes-2.ensures.value ∙ c.in_ok-params.ensures)
    (ap (λ (v : Vec ℕ). v.items) c.into_bytes-3.ensures.value ∙ c.in_ok-script.ensures)
