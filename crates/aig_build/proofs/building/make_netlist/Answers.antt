use Rattle.aig_build.proofs.Lemmas.{◌≡◌, ◌<◌, List, Err, length, ap, ap₂, ◌∙◌, sym, subst, subst₂, rules, FlatValue, Param, Aig, with_pairs, RootsValue, roots_of, AreRoots, ℕ, NetLitsValue, Built, start_nets, source_aig, order_of, root_lits, HoldsNets, held}
use Rattle.aig_core.specs.declared.graph.AigErr.TheVariants.{Full}
use Rattle.aig_build.proofs.NetlistLemmas.{output_there, latch_there, are_roots, start_holds, too_many, is_graph, has_cycles}
use Rattle.aig_build.proofs.building.make_netlist.Goals as goal

pub make_covers-requires-clause-holds : goal.make_covers-requires-clause-holds
make_covers-requires-clause-holds c =
    subst₂ (HoldsNets c.args.flat.now) (sym c.in_ok-graph.ensures) (sym c.in_ok-nets.ensures) (start_holds c.args.library.now c.args.flat.now c.args.params.now.list c.args.most c.requires.formed c.requires.bounds c.requires.params)

pub returns-in_err-make_covers-clause-full : goal.returns-in_err-make_covers-clause-full
returns-in_err-make_covers-clause-full c =
    let flat : FlatValue = c.args.flat.now in
    let params : List Param = c.args.params.now.list in
    let most : ℕ = c.args.most in
    let full : c.from_residual-in_err-make_covers.result ≡ Err Full → c.in_ok-graph.graph.max < length (order_of c.args.library.now flat c.in_ok-graph.graph c.in_ok-nets.nets flat.order).pairs = search rules in
    let at_start : c.from_residual-in_err-make_covers.result ≡ Err Full → most < length (order_of c.args.library.now flat (source_aig flat params most) (start_nets flat params) flat.order).pairs =
    λ h. subst₂ (λ (g : Aig) (n : NetLitsValue). g.max < length (order_of c.args.library.now flat g n flat.order).pairs) c.in_ok-graph.ensures c.in_ok-nets.ensures (full h) in
    λ h. too_many c.args.library.now flat params most c.requires.formed c.requires.bounds c.requires.params c.requires.values (at_start h)

pub roots-requires-clause-outputs : goal.roots-requires-clause-outputs
roots-requires-clause-outputs c port i =
    held c.args.flat.now c.make_covers.new.graph c.make_covers.new.nets c.in_ok-make_covers.ensures.holds port.net (output_there c.args.library.now c.args.flat.now c.requires.bounds port i)

pub roots-requires-clause-latches : goal.roots-requires-clause-latches
roots-requires-clause-latches c latch i =
    held c.args.flat.now c.make_covers.new.graph c.make_covers.new.nets c.in_ok-make_covers.ensures.holds latch.input (latch_there c.args.library.now c.args.flat.now c.requires.bounds latch i)

pub returns-clause-graph : goal.returns-clause-graph
returns-clause-graph c =
    let flat : FlatValue = c.args.flat.now in
    let params : List Param = c.args.params.now.list in
    let most : ℕ = c.args.most in
    let walk : Aig → NetLitsValue → Built = λ g n. order_of c.args.library.now flat g n flat.order in
    let same : c.make_covers.new.graph ≡ with_pairs (source_aig flat params most) (order_of c.args.library.now flat (source_aig flat params most) (start_nets flat params) flat.order).pairs =
    c.in_ok-make_covers.ensures.pairs ∙ ap₂ (λ (g : Aig) (n : NetLitsValue). with_pairs g (walk g n).pairs) c.in_ok-graph.ensures c.in_ok-nets.ensures in
    let nets : c.make_covers.new.nets ≡ (order_of c.args.library.now flat (source_aig flat params most) (start_nets flat params) flat.order).nets =
    c.in_ok-make_covers.ensures.nets ∙ ap₂ (λ (g : Aig) (n : NetLitsValue). (walk g n).nets) c.in_ok-graph.ensures c.in_ok-nets.ensures in
    is_graph c.args.library.now flat params most c.requires.formed c.requires.bounds c.requires.params c.requires.values c.make_covers.new.graph c.in_ok-roots.roots same (c.in_ok-roots.ensures ∙ ap (root_lits flat) nets)

pub returns-clause-lits : goal.returns-clause-lits
returns-clause-lits c =
    subst (λ (r : RootsValue). AreRoots c.make_covers.new.graph (roots_of r)) (sym c.in_ok-roots.ensures)
    (are_roots c.args.library.now c.args.flat.now c.requires.bounds c.make_covers.new.graph c.make_covers.new.nets c.in_ok-make_covers.ensures.holds)

pub returns-clause-cycles : goal.returns-clause-cycles
returns-clause-cycles c =
    let flat : FlatValue = c.args.flat.now in
    let params : List Param = c.args.params.now.list in
    let most : ℕ = c.args.most in
    let walk : Aig → NetLitsValue → Built = λ g n. order_of c.args.library.now flat g n flat.order in
    let same : c.make_covers.new.graph ≡ with_pairs (source_aig flat params most) (order_of c.args.library.now flat (source_aig flat params most) (start_nets flat params) flat.order).pairs =
    c.in_ok-make_covers.ensures.pairs ∙ ap₂ (λ (g : Aig) (n : NetLitsValue). with_pairs g (walk g n).pairs) c.in_ok-graph.ensures c.in_ok-nets.ensures in
    let nets : c.make_covers.new.nets ≡ (order_of c.args.library.now flat (source_aig flat params most) (start_nets flat params) flat.order).nets =
    c.in_ok-make_covers.ensures.nets ∙ ap₂ (λ (g : Aig) (n : NetLitsValue). (walk g n).nets) c.in_ok-graph.ensures c.in_ok-nets.ensures in
    has_cycles c.args.library.now flat params most c.requires.formed c.requires.bounds c.requires.params c.requires.cycles c.make_covers.new.graph c.in_ok-roots.roots same (c.in_ok-roots.ensures ∙ ap (root_lits flat) nets)
