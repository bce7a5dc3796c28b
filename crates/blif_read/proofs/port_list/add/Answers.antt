use Rattle.blif_read.proofs.Common.{◌≡◌, ◌∙◌, ap, cond, Bool, true, false, Some, None, DuplicatePort, has}
use Rattle.blif_read.proofs.TextLemmas.{has_from}
use Rattle.blif_read.proofs.port_list.add.Goals as goal

pub returns-then-is_some : goal.returns-then-is_some
returns-then-is_some c =
    let found : has c.args.names.now.items c.args.name ≡ true = has_from c.args.names.now.items c.args.index.now c.args.name c.bytes.result.now c.place.result c.is_some.result c.requires c.bytes.ensures c.place.ensures c.is_some.ensures ∙ c.if-is_some.true in
    ap (λ (b : Bool). cond b (Some (DuplicatePort c.args.number c.args.name)) None) found

pub returns : goal.returns
returns c =
    let none : has c.args.names.now.items c.args.name ≡ false = has_from c.args.names.now.items c.args.index.now c.args.name c.bytes.result.now c.place.result c.is_some.result c.requires c.bytes.ensures c.place.ensures c.is_some.ensures ∙ c.if-is_some.false in
    let pushed = c.in_ok-push.ensures.items in
    let added = c.in_ok-add.ensures.ok in
    let alike = c.bytes-2.ensures in
    (none, pushed, (cc))
