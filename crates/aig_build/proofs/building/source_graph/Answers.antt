use Rattle.aig_build.proofs.Lemmas.{◌≡◌, ◌+◌, ◌-◌, ◌≤◌, ℕ, List, [], ◌++◌, IfOk, length, replicate, vec_len, ap, ◌∙◌, subst, arith, FlatValue, Param, ParamsValue, param_names, regular_names, Kind, Regular, Parameter, input_names, source_kinds, NetLitsValue, length-map, length-append, length-replicate, start_latches, few_regular}
use Rattle.aig_build.proofs.building.source_graph.Goals as goal

pub overflow_sub-regular : goal.overflow_sub-regular
overflow_sub-regular c =
    let flat : FlatValue = c.args.flat.now in
    let params : List Param = c.args.params.now.list in
    let l : c.first_latch.result ≡ 1 + length (input_names flat params) = c.first_latch.ensures ∙ ap (λ (n : NetLitsValue). n.latches) c.requires.start ∙ start_latches flat params c.requires.once c.requires.params in
    omega arith

pub overflow_sub-regular-2 : goal.overflow_sub-regular-2
overflow_sub-regular-2 c =
    let flat : FlatValue = c.args.flat.now in
    let params : List Param = c.args.params.now.list in
    let l : c.first_latch.result ≡ 1 + length (input_names flat params) = c.first_latch.ensures ∙ ap (λ (n : NetLitsValue). n.latches) c.requires.start ∙ start_latches flat params c.requires.once c.requires.params in
    let p : c.len-params.result ≡ length params = c.len-params.ensures ∙ c.params.inside.list.ok.0 ∙ ap (λ (ps : ParamsValue). length ps.list) c.params.view_is in
    let b : length (param_names params) ≡ length params = length-map params (λ (q : Param). q.name) in
    omega (arith, length-append (regular_names flat params) (param_names params))

pub keyed-requires : goal.keyed-requires
keyed-requires c =
    let flat : FlatValue = c.args.flat.now in
    let params : List Param = c.args.params.now.list in
    let l : c.first_latch.result ≡ 1 + length (input_names flat params) = c.first_latch.ensures ∙ ap (λ (n : NetLitsValue). n.latches) c.requires.start ∙ start_latches flat params c.requires.once c.requires.params in
    let p : c.len-params.result ≡ length params = c.len-params.ensures ∙ c.params.inside.list.ok.0 ∙ ap (λ (ps : ParamsValue). length ps.list) c.params.view_is in
    let s : c.len.result ≡ length flat.latches = c.len.ensures ∙ c.flat.inside.latches.ok.0 ∙ ap (λ (f : FlatValue). length f.latches) c.flat.view_is in
    let b : length (param_names params) ≡ length params = length-map params (λ (q : Param). q.name) in
    let r : ℕ = c.first_latch.result - 1 - c.len-params.result in
    let rs : List Kind = replicate r Regular in
    let ps : List Kind = replicate c.len-params.result Parameter in
    let ls : List Kind = replicate c.len.result Regular in
    let n : vec_len c.in_ok-kinds.kinds ≡ length (rs ++ (ps ++ ls)) = c.in_ok-kinds.kinds.ok.0 ∙ ap length c.in_ok-kinds.ensures in
    let few : length params ≤ 65535 = c.requires.params.named.few in
    let most : length (regular_names flat params) ≤ length flat.inputs = few_regular flat params c.requires.once c.requires.params in
    omega (arith, length-append (regular_names flat params) (param_names params), c.requires.few, c.requires.few_latches, c.requires.most, length-append {A = Kind}, length-replicate {A = Kind})

pub returns : goal.returns
returns c =
    let flat : FlatValue = c.args.flat.now in
    let params : List Param = c.args.params.now.list in
    let l : c.first_latch.result ≡ 1 + length (input_names flat params) = c.first_latch.ensures ∙ ap (λ (n : NetLitsValue). n.latches) c.requires.start ∙ start_latches flat params c.requires.once c.requires.params in
    let p : c.len-params.result ≡ length params = c.len-params.ensures ∙ c.params.inside.list.ok.0 ∙ ap (λ (ps : ParamsValue). length ps.list) c.params.view_is in
    let s : c.len.result ≡ length flat.latches = c.len.ensures ∙ c.flat.inside.latches.ok.0 ∙ ap (λ (f : FlatValue). length f.latches) c.flat.view_is in
    let b : length (param_names params) ≡ length params = length-map params (λ (q : Param). q.name) in
    let r : c.first_latch.result - 1 - c.len-params.result ≡ length (regular_names flat params) = omega (arith, length-append (regular_names flat params) (param_names params)) in
    let e : c.in_ok-kinds.kinds.items ≡ source_kinds flat params =
    c.in_ok-kinds.ensures
    ∙ ap (λ (n : ℕ). replicate n Regular ++ (replicate c.len-params.result Parameter ++ replicate c.len.result Regular)) r
    ∙ ap (λ (n : ℕ). replicate (length (regular_names flat params)) Regular ++ (replicate n Parameter ++ replicate c.len.result Regular)) p
    ∙ ap (λ (n : ℕ). replicate (length (regular_names flat params)) Regular ++ (replicate (length params) Parameter ++ replicate n Regular)) s in
    subst (λ (ks : List Kind). IfOk c.keyed.result (λ g. g ≡ record { kinds = ks; pairs = []; max = c.args.most })) e c.keyed.ensures
