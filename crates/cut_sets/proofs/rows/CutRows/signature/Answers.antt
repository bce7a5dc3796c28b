use Rattle.cut_sets.proofs.Lemmas.{◌≡◌, ◌+◌, ◌<◌, ◌∙◌, ap, length, vec_len, arith, get_or, get_or_read, cut_read}
use Rattle.cut_sets.proofs.rows.CutRows.signature.Goals as goal

pub place_of-requires-clause-inside : goal.place_of-requires-clause-inside
place_of-requires-clause-inside c =
    let read = cut_read c.self.inside.leaves.items c.self.inside.starts.items c.self.inside.signatures.items c.self.inside.rows.items c.args.self.now c.args.n c.args.i c.self.invariant c.self.view_is c.requires in
    rw (c.deref.ensures.value) read.row_in

pub index-requires : goal.index-requires
index-requires c =
    let read = cut_read c.self.inside.leaves.items c.self.inside.starts.items c.self.inside.signatures.items c.self.inside.rows.items c.args.self.now c.args.n c.args.i c.self.invariant c.self.view_is c.requires in
    let n : vec_len c.self.inside.signatures ≡ length c.self.inside.signatures.items = c.self.inside.signatures.ok.0 in
    omega (arith, read.signature_in, c.place_of.ensures, ap (λ t. get_or t c.args.n 0) c.deref.ensures.value)

pub returns : goal.returns
returns c =
    let read = cut_read c.self.inside.leaves.items c.self.inside.starts.items c.self.inside.signatures.items c.self.inside.rows.items c.args.self.now c.args.n c.args.i c.self.invariant c.self.view_is c.requires in
    let p : c.place_of.result ≡ get_or c.self.inside.rows.items c.args.n 0 + c.args.i = c.place_of.ensures ∙ ap (λ t. get_or t c.args.n 0 + c.args.i) c.deref.ensures.value in
    let l : c.place_of.result < length c.self.inside.signatures.items = omega (arith, read.signature_in, p) in
    get_or_read c.self.inside.signatures.items c.place_of.result c.index.result.now l c.index.ensures 0 ∙ (ap (λ m. get_or c.self.inside.signatures.items m 0) p ∙ read.signature_is)
