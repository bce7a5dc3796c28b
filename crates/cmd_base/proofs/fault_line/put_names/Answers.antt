use Rattle.cmd_base.proofs.Common.{◌≡◌, ℕ, suc, ◌+◌, List, ◌++◌, Ok, ap, sym, ◌∙◌, take, drop, append_assoc, arith, take_all, put_none, put_twice, put_stopped, put_as, spaced}
use Rattle.cmd_base.proofs.PutLemmas.{blank_and, spaced_split, spaced_more}
use Rattle.cmd_base.proofs.fault_line.put_names.Goals as goal

pub loop-name-init : goal.loop-name-init
loop-name-init g c = put_none (g.E.Sink.seen c.args.err.now)

pub returns-in_err-put_all : goal.returns-in_err-put_all
returns-in_err-put_all g c =
    let names = c.args.names.now in
    let i = c.loop-name.name-index in
    let front = spaced (take i names) in
    let rest = spaced (drop (suc i) names) in
    let split : spaced names ≡ front ++ (blank_and c.bytes.result.now ++ rest) =
    spaced_split names i c.name-item.result (omega arith) ∙ ap (λ (t : List ℕ). front ++ (blank_and t ++ rest)) (sym (c.bytes.ensures ∙ c.name-item.is)) in
    put_as (append_assoc front (blank_and c.bytes.result.now) rest ∙ sym split)
    (put_stopped _ rest c.from_residual.result c.from_residual.ensures.1 (put_twice {more = blank_and c.bytes.result.now} _ c.loop-name.invariant c.in_err-put_all.ensures))

pub loop-name-preserved : goal.loop-name-preserved
loop-name-preserved g c =
    let names = c.args.names.now in
    let i = c.loop-name.name-index in
    let front = spaced (take i names) in
    let more : spaced (take (i + 1) names) ≡ front ++ blank_and c.bytes.result.now =
    spaced_more names i c.name-item.result (omega arith) ∙ ap (λ (t : List ℕ). front ++ blank_and t) (sym (c.bytes.ensures ∙ c.name-item.is)) in
    put_as (sym more) (put_twice {more = blank_and c.bytes.result.now} (Ok tt) c.loop-name.invariant c.in_ok-put_all.ensures)

pub returns : goal.returns
returns g c = put_as (ap spaced (take_all c.loop-name.name-index c.args.names.now (omega arith))) c.loop-name.invariant
