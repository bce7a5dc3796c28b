use Rattle.cmd_stations.proofs.Lemmas.{◌≡◌, ◌∙◌, ◌+◌, List, length, ap, sym, subst, arith, roots_of, Kind, Shape, HasShape, Source, width_of, shape_of, three_count, shape_is, source_shape, outputs_among, next_among, next_count}
use Rattle.cmd_stations.proofs.mapping.source_shape.Goals as goal

pub returns-clause-playable : goal.returns-clause-playable
returns-clause-playable c t h =
    let source = c.args.source.now in
    let params : c.len-params.result ≡ length source.params.list = c.len-params.ensures ∙ c.source.inside.0.1.0.list.ok.0 ∙ ap (λ (s : Source). length s.params.list) c.source.view_is in
    let latches : c.len-latches.result ≡ length source.netlist.flat.latches = c.len-latches.ensures ∙ c.source.inside.0.0.0.1.0.latches.ok.0 ∙ ap (λ (s : Source). length s.netlist.flat.latches) c.source.view_is in
    let count : c.sources-sources.result ≡ length c.args.graph.now.kinds = c.sources-sources.ensures.count in
    let three : length c.args.graph.now.kinds ≡ width_of source + length source.params.list + length source.netlist.flat.latches = ap (λ (ks : List Kind). length ks) c.requires ∙ three_count (width_of source) (length source.params.list) (length source.netlist.flat.latches) in
    let width : c.new.result.regular ≡ width_of source = ap (λ (s : Shape). s.regular) c.new.ensures.value ∙ (omega arith) in
    let same : c.new.result ≡ shape_of source =
    shape_is source c.new.result width (ap (λ (s : Shape). s.params) c.new.ensures.value ∙ params) (ap (λ (s : Shape). s.latches) c.new.ensures.value ∙ latches) in
    c.new.ensures.playable c.args.graph.now h.k (roots_of h.roots) t (subst (λ (s : Shape). HasShape c.args.graph.now s) (sym same) (source_shape source c.args.graph.now c.requires)) h.least.mapping
    (outputs_among source c.args.graph.now t h) (next_among source c.args.graph.now t h) (next_count source c.args.graph.now t h ∙ ap (λ (s : Shape). s.latches) (sym same))
