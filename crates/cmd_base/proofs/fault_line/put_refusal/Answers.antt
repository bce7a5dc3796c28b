use Rattle.cmd_base.proofs.Common.{List, ℕ, ◌++◌, codes, append_assoc, put_twice, put_stopped, put_as, details_words, spaced, head_line}
use Rattle.cmd_base.proofs.fault_line.put_refusal.Goals as goal

pub returns-in_err-put_head : goal.returns-in_err-put_head
returns-in_err-put_head g c =
    let details : List ℕ = spaced (details_words c.args.refusal.now.details) in
    put_stopped _ (details ++ codes "\n") c.from_residual.result c.from_residual.ensures.1 c.in_err-put_head.ensures

pub returns-in_err-put_told : goal.returns-in_err-put_told
returns-in_err-put_told g c =
    let front : List ℕ = head_line c.args.name.now c.args.refusal.now.code c.args.refusal.now.word in
    let details : List ℕ = spaced (details_words c.args.refusal.now.details) in
    put_as (append_assoc front details (codes "\n"))
    (put_stopped _ (codes "\n") c.from_residual-in_err-put_told.result c.from_residual-in_err-put_told.ensures.1 (put_twice _ c.in_ok-put_head.ensures c.in_err-put_told.ensures))

pub returns : goal.returns
returns g c = put_twice c.put_all.result c.in_ok-put_head.ensures (put_twice {more = codes "\n"} c.put_all.result c.in_ok-put_told.ensures c.put_all.ensures)
