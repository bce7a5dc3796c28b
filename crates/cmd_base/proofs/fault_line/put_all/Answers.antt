use Rattle.cmd_base.proofs.Common.{ℕ, suc, List, [], Bor, Ok, drop, sym, ap, ◌∙◌, append_assoc, arith, take_all, put_none, put_twice, put_stopped, put_as}
use Rattle.cmd_base.proofs.PutLemmas.{texts, texts_more, texts_split}
use Rattle.cmd_base.proofs.fault_line.put_all.Goals as goal

abbrev none : Bor (List ℕ)
none = record { ref_ptr = (0, 0); now = [] }

pub loop-piece-init : goal.loop-piece-init
loop-piece-init g c = put_none (g.S.Sink.seen c.args.sink.now)

pub returns-in_err-put : goal.returns-in_err-put
returns-in_err-put g c =
    let rest : List ℕ = texts (drop (suc c.loop-piece.piece-index) c.args.pieces.now) in
    put_as (append_assoc _ _ rest ∙ sym (texts_split c.args.pieces.now c.loop-piece.piece-index none (omega arith)))
    (put_stopped _ rest c.from_residual.result c.from_residual.ensures.1 (put_twice _ c.loop-piece.invariant c.in_err-put.ensures))

pub loop-piece-preserved : goal.loop-piece-preserved
loop-piece-preserved g c = put_as (sym (texts_more c.args.pieces.now c.loop-piece.piece-index none (omega arith))) (put_twice (Ok tt) c.loop-piece.invariant c.in_ok-put.ensures)

pub returns : goal.returns
returns g c = put_as (ap texts (take_all c.loop-piece.piece-index c.args.pieces.now (omega arith))) c.loop-piece.invariant
