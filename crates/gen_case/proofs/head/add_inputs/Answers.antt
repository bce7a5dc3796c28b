use Rattle.gen_case.proofs.Lemmas.{◌++◌, codes, Data, Coefficient, bus_names, line_added, words_joined}
use Rattle.gen_case.proofs.head.add_inputs.Goals as goal

pub returns : goal.returns
returns c =
    let names = words_joined (bus_names Data c.args.n) (bus_names Coefficient c.args.n) _ _ _ c.in_ok-add_bus.ensures c.in_ok-add_bus-2.ensures in
    line_added (codes ".inputs") (bus_names Data c.args.n ++ bus_names Coefficient c.args.n) _ _ _ _ c.in_ok-push_str.ensures.bytes names c.in_ok-push_str-2.ensures.bytes
