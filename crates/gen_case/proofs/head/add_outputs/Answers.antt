use Rattle.gen_case.proofs.Lemmas.{◌*◌, codes, Product, bus_names, line_added}
use Rattle.gen_case.proofs.head.add_outputs.Goals as goal

pub returns : goal.returns
returns c =
    line_added (codes ".outputs") (bus_names Product (2 * c.args.n)) _ _ _ _ c.in_ok-push_str.ensures.bytes c.in_ok-add_bus.ensures c.in_ok-push_str-2.ensures.bytes
