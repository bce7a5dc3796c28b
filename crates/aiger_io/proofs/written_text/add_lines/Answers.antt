use Rattle.aiger_io.proofs.Common.{◌≡◌, ℕ, ◌+◌, ◌-◌, List, length, ap, ◌∙◌, arith, flat_map, RootsValue, Lit, FlatValue, FlatLatch, added_as, added_twice, line_text, latch_item, output_item, numbered_text, header_words, item_text}
use Rattle.aiger_io.proofs.written_text.add_lines.Goals as goal

pub add_latches-requires-clause-few : goal.add_latches-requires-clause-few
add_latches-requires-clause-few g c =
    let e : length c.deref.result.now ≡ length c.args.flat.now.latches = ap (λ (l : List FlatLatch). length l) (c.deref.ensures.value ∙ ap (λ (f : FlatValue). f.latches) c.flat.view_is) in omega arith

pub returns : goal.returns
returns g c =
    let latches : c.deref.result.now ≡ c.args.flat.now.latches = c.deref.ensures.value ∙ ap (λ (f : FlatValue). f.latches) c.flat.view_is in
    let next : c.deref-2.result.now ≡ c.args.roots.now.next = c.deref-2.ensures.value ∙ ap (λ (r : RootsValue). r.next) c.roots.view_is in
    let outputs : c.deref-3.result.now ≡ c.args.roots.now.outputs = c.deref-3.ensures.value ∙ ap (λ (r : RootsValue). r.outputs) c.roots.view_is in
    let l : c.len-2.result ≡ length c.args.flat.now.latches = (let e : length c.flat.inside.latches.items ≡ length c.args.flat.now.latches = ap (λ (f : FlatValue). length f.latches) c.flat.view_is in omega arith) in
    let o : c.len-3.result ≡ length c.args.roots.now.outputs = (let e : length c.roots.inside.outputs.items ≡ length c.args.roots.now.outputs = ap (λ (r : RootsValue). length r.outputs) c.roots.view_is in omega arith) in
    let v : c.len.result - 1 ≡ c.args.inputs + length c.args.flat.now.latches + length c.args.graph.now.pairs = omega arith in
    let a : c.len-4.result - 1 - c.sources.result ≡ length c.args.graph.now.pairs = omega arith in
    added_twice
    (added_as (
    ap (λ (n : ℕ). line_text (header_words (record { variables = n; inputs = c.args.inputs; latches = c.len-2.result; outputs = c.len-3.result; ands = c.len-4.result - 1 - c.sources.result }))) v
    ∙ ap (λ (n : ℕ). line_text (header_words (record { variables = c.args.inputs + length c.args.flat.now.latches + length c.args.graph.now.pairs; inputs = c.args.inputs; latches = n; outputs = c.len-3.result; ands = c.len-4.result - 1 - c.sources.result }))) l
    ∙ ap (λ (n : ℕ). line_text (header_words (record { variables = c.args.inputs + length c.args.flat.now.latches + length c.args.graph.now.pairs; inputs = c.args.inputs; latches = length c.args.flat.now.latches; outputs = n; ands = c.len-4.result - 1 - c.sources.result }))) o
    ∙ ap (λ (n : ℕ). line_text (header_words (record { variables = c.args.inputs + length c.args.flat.now.latches + length c.args.graph.now.pairs; inputs = c.args.inputs; latches = length c.args.flat.now.latches; outputs = length c.args.roots.now.outputs; ands = n }))) a)
    c.add_header.ensures)
    (added_twice c.add_inputs.ensures
    (added_twice
    (added_as (
    ap (λ (ls : List FlatLatch). numbered_text (λ k latch. item_text (latch_item c.args.inputs c.deref-2.result.now k latch)) 0 ls) latches
    ∙ ap (λ (ns : List Lit). numbered_text (λ k latch. item_text (latch_item c.args.inputs ns k latch)) 0 c.args.flat.now.latches) next)
    c.add_latches.ensures)
    (added_twice (added_as (ap (flat_map (λ (l : Lit). item_text (output_item l))) outputs) c.add_outputs.ensures) c.add_gates.ensures)))
