use Rattle.cmd_stations.proofs.Lemmas.{◌∙◌, refl, ap, sym, subst, inr, Shape, IsPlayable, source_params, pack_param_names, pack_inits, pack_bits, tables_play}
use Rattle.bit_fun.proofs.PackLemmas.{params_len as pack_params}
use Rattle.cmd_stations.proofs.WrittenTableLemmas.{tables_written}
use Rattle.cmd_stations.proofs.mapping.tabulate.Goals as goal

pub functions-requires-clause-count : goal.functions-requires-clause-count
functions-requires-clause-count c = source_params c.args.source.now c.args.graph.now c.requires.tables.is_graph.kinds

pub functions-requires-clause-light : goal.functions-requires-clause-light
functions-requires-clause-light c = record { supply = c.requires.tables.chosen.supply; light = c.requires.tables.chosen.light }

pub returns-clause-made : goal.returns-clause-made
returns-clause-made c =
    let source = c.args.source.now in
    let graph = c.args.graph.now in
    let pack = c.in_ok-pack.pack in
    let tables = c.requires.tables in
    let playable = subst (λ (s : Shape). IsPlayable c.args.template s) c.source_shape-shape.ensures.value (c.source_shape-shape.ensures.playable c.args.template tables) in
    record {
      tunable = record {
        graph = graph;
        roots = tables.roots;
        is_graph = tables.is_graph;
        one_graph = tables.one_graph;
        pack_is = c.in_ok-pack.ensures.pack;
        configurations = c.in_ok-pack.ensures.conf;
        tables = tables_play source c.requires.read graph c.requires.normal c.args.template tables pack c.in_ok-pack.ensures.pack c.in_ok-pack.ensures.conf playable;
      };
      names = pack_param_names graph c.args.template.luts source.params.list pack c.in_ok-pack.ensures.pack;
      inits = pack_inits graph c.args.template.luts source.params.list pack c.in_ok-pack.ensures.pack;
      bits = pack_bits source graph c.args.template pack tables c.in_ok-pack.ensures.pack;
      params = pack_params graph c.args.template.luts source.params.list pack c.in_ok-pack.ensures.pack ∙ ap (λ (s : Shape). s.params) (sym c.source_shape-shape.ensures.value);
      shape = c.source_shape-shape.ensures.value;
      playable = c.source_shape-shape.ensures.playable c.args.template tables;
      written = tables_written source c.requires.read graph c.args.template tables c.requires.nodes playable;
      file = record { is_pack = c.in_ok-pack.ensures.kept; normal = c.in_ok-pack.ensures.normal; spelled = inr refl };
    }
