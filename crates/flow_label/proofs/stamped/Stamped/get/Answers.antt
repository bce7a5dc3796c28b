use Rattle.flow_label.proofs.Lemmas.{◌≡◌, ◌<◌, ◌≤◌, arith, sym, ap, ◌∙◌, length, get_or, vec_len, get_or_read, value_here, value_none}
use Rattle.flow_label.proofs.stamped.Stamped.get.Goals as goal
use Rattle.flow_label.proofs.stamped.Stamped.get.Goals.{else-i-len-via-then-i-len+else-index-self, else-i-len-via-else-i-len}

pub returns-then-index-self : goal.returns-then-index-self
returns-then-index-self c =
    let k : vec_len c.self.inside.stamps ≡ length c.self.inside.stamps.items = c.self.inside.stamps.ok.0 in
    let n : c.len.result ≡ vec_len c.self.inside.stamps = c.len.ensures in
    let l : c.args.i < length c.self.inside.stamps.items = (let t : c.args.i < c.len.result = c.if-i-len.true in omega arith) in
    let size : length c.self.inside.stamps.items ≡ length c.self.inside.values.items = c.self.invariant.size in
    let s : c.index.result.now ≡ get_or c.self.inside.stamps.items c.args.i 0 = get_or_read c.self.inside.stamps.items c.args.i c.index.result.now l c.index.ensures 0 in
    let v : c.index-then-index-self.result.now ≡ get_or c.self.inside.values.items c.args.i 0 = get_or_read c.self.inside.values.items c.args.i c.index-then-index-self.result.now (omega arith) c.index-then-index-self.ensures 0 in
    v ∙ (sym (value_here c.self.inside.present c.self.inside.stamps.items c.self.inside.values.items c.args.i size l (sym s ∙ c.if-index-self.true)) ∙ ap (λ xs. get_or xs c.args.i 0) c.self.view_is)

pub returns : goal.returns
returns c =
    sym (sym (ap (λ xs. get_or xs c.args.i 0) c.self.view_is) ∙ value_none c.self.inside.present c.self.inside.stamps.items c.self.inside.values.items c.args.i
    (λ l e. elim c.else-i-len.branch [
      | else-i-len-via-then-i-len+else-index-self w ↦ w.if-index-self.false (get_or_read c.self.inside.stamps.items c.args.i w.index.result.now l w.index.ensures 0 ∙ e)
      | else-i-len-via-else-i-len w ↦ (let f : c.len.result ≤ c.args.i = w.if-i-len.false in absurd (omega (arith, c.len.ensures, c.self.inside.stamps.ok.0)))
    ]))
