use Rattle.cmd_run.proofs.Common.{ℕ, List, [], ◌++◌, Ok, ◌∙◌, append_assoc, machine_header}
use Rattle.tl_io.proofs.PutLemmas.{put_none, put_twice, put_stopped, put_as}
use Rattle.cmd_run.proofs.gen_command.job.put_lines.Goals as goal

pub returns-in_err-put : goal.returns-in_err-put
returns-in_err-put g c =
    let rest : List ℕ = machine_header c.args.machine.now ++ (c.args.last.now ++ []) in
    put_stopped _ rest c.from_residual.result c.from_residual.ensures.1 (put_as c.as_bytes.ensures.value c.in_err-put.ensures)

pub returns-in_err-header : goal.returns-in_err-header
returns-in_err-header g c =
    let rest : List ℕ = c.args.last.now ++ [] in
    put_as (append_assoc c.args.first.now (machine_header c.args.machine.now) rest)
    (put_stopped _ rest c.from_residual-in_err-header.result c.from_residual-in_err-header.ensures.1 (put_twice _ (put_as c.as_bytes.ensures.value c.in_ok-put.ensures) c.in_err-header.ensures.put))

pub returns-in_err-put-2 : goal.returns-in_err-put-2
returns-in_err-put-2 g c =
    let first : List ℕ = c.args.first.now in
    let header : List ℕ = machine_header c.args.machine.now in
    let last : List ℕ = c.args.last.now in
    put_as (append_assoc (first ++ header) last [] ∙ append_assoc first header (last ++ []))
    (put_stopped _ [] c.from_residual-in_err-put-2.result c.from_residual-in_err-put-2.ensures.1
    (put_twice _ (put_twice (Ok tt) (put_as c.as_bytes.ensures.value c.in_ok-put.ensures) c.in_ok-header.ensures.put) (put_as c.as_bytes-2.ensures.value c.in_err-put-2.ensures)))

pub returns : goal.returns
returns g c =
    put_twice (Ok tt) (put_as c.as_bytes.ensures.value c.in_ok-put.ensures)
    (put_twice (Ok tt) c.in_ok-header.ensures.put (put_twice (Ok tt) (put_as c.as_bytes-2.ensures.value c.in_ok-put-2.ensures) (put_none _)))
