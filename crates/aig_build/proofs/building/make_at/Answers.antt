use Rattle.aig_build.proofs.Lemmas.{◌≡◌, ◌≤◌, List, Some, length, refl, rules, sym, ap, ◌∙◌, subst, arith, slice_get, length-map, In, FlatNet, FlatCoverValue, FlatValue, Lit, Aig, IsLit, first_and, Answer, with_pairs, cover_of, NetLitsValue, net_lit, net_lits, with_cover, gate_of, HoldsNets, All, full_weaker, cover_made-grows, behind_width, held, held_lits, holds_next, cover_read, gate_at}
use Rattle.aig_build.proofs.building.make_at.Goals as goal

pub fill-requires : goal.fill-requires
fill-requires c net i =
    let flat : FlatValue = c.args.flat.now in
    let fc : FlatCoverValue = c.index-flat_cover.result.now in
    let at : slice_get flat.covers c.args.k ≡ Some fc = cover_read flat c.flat.inside.covers.items c.args.k fc (ap (λ (f : FlatValue). f.covers) c.flat.view_is) c.index-flat_cover.ensures c.requires.there in
    let same : c.deref.result.now ≡ fc.inputs = c.deref.ensures.value ∙ ap (λ (x : FlatCoverValue). x.inputs) c.flat_cover.view_is in
    held flat c.args.graph.now c.args.nets.now c.requires.holds net (c.requires.bounds.cover_nets c.args.k fc net at (subst (λ (ns : List FlatNet). In ns net) same i))

pub cover-requires : goal.cover-requires
cover-requires c =
    let flat : FlatValue = c.args.flat.now in
    let fc : FlatCoverValue = c.index-flat_cover.result.now in
    c.requires.bounds.behind c.args.k fc (cover_read flat c.flat.inside.covers.items c.args.k fc (ap (λ (f : FlatValue). f.covers) c.flat.view_is) c.index-flat_cover.ensures c.requires.there)

pub make_into-requires-clause-members : goal.make_into-requires-clause-members
make_into-requires-clause-members c =
    let flat : FlatValue = c.args.flat.now in
    let nets : NetLitsValue = c.args.nets.now in
    let g : Aig = c.args.graph.now in
    let fc : FlatCoverValue = c.index-flat_cover.result.now in
    let at : slice_get flat.covers c.args.k ≡ Some fc = cover_read flat c.flat.inside.covers.items c.args.k fc (ap (λ (f : FlatValue). f.covers) c.flat.view_is) c.index-flat_cover.ensures c.requires.there in
    let lits : c.deref-2.result.now ≡ net_lits nets fc.inputs =
    c.deref-2.ensures.value ∙ c.in_ok-fill.ensures ∙ ap (net_lits nets) (c.deref.ensures.value ∙ ap (λ (x : FlatCoverValue). x.inputs) c.flat_cover.view_is) in
    subst (λ (ls : List Lit). All (λ (lit : Lit). IsLit g lit.0) ls) (sym lits) (held_lits flat g nets c.requires.holds fc.inputs (λ net i. c.requires.bounds.cover_nets c.args.k fc net at i))

pub make_into-requires-clause-cells : goal.make_into-requires-clause-cells
make_into-requires-clause-cells c =
    let flat : FlatValue = c.args.flat.now in
    let nets : NetLitsValue = c.args.nets.now in
    let fc : FlatCoverValue = c.index-flat_cover.result.now in
    let at : slice_get flat.covers c.args.k ≡ Some fc = cover_read flat c.flat.inside.covers.items c.args.k fc (ap (λ (f : FlatValue). f.covers) c.flat.view_is) c.index-flat_cover.ensures c.requires.there in
    let lits : c.deref-2.result.now ≡ net_lits nets fc.inputs =
    c.deref-2.ensures.value ∙ c.in_ok-fill.ensures ∙ ap (net_lits nets) (c.deref.ensures.value ∙ ap (λ (x : FlatCoverValue). x.inputs) c.flat_cover.view_is) in
    behind_width c.args.library.now flat c.requires.formed c.requires.bounds c.args.k fc c.cover.result.now c.deref-2.result.now at c.cover.ensures (ap length lits ∙ length-map fc.inputs (net_lit nets))

pub returns-in_err-lit-clause-full : goal.returns-in_err-lit-clause-full
returns-in_err-lit-clause-full c =
    let flat : FlatValue = c.args.flat.now in
    let nets : NetLitsValue = c.args.nets.now in
    let g : Aig = c.args.graph.now in
    let fc : FlatCoverValue = c.index-flat_cover.result.now in
    let lits : c.deref-2.result.now ≡ net_lits nets fc.inputs =
    c.deref-2.ensures.value ∙ c.in_ok-fill.ensures ∙ ap (net_lits nets) (c.deref.ensures.value ∙ ap (λ (x : FlatCoverValue). x.inputs) c.flat_cover.view_is) in
    let made = gate_at c.args.library.now flat g nets c.args.k c.flat.inside.covers.items fc c.cover.result.now _ (ap (λ (f : FlatValue). f.covers) c.flat.view_is) c.index-flat_cover.ensures c.requires.there c.cover.ensures lits in
    let l : length (cover_of g c.cover.result.now c.deref-2.result.now).pairs ≤ length (gate_of c.args.library.now flat g nets c.args.k).pairs = rw made (omega arith) in
    full_weaker g.max g.max _ _ refl l (search rules)

pub returns-clause-pairs : goal.returns-clause-pairs
returns-clause-pairs c =
    let flat : FlatValue = c.args.flat.now in
    let nets : NetLitsValue = c.args.nets.now in
    let g : Aig = c.args.graph.now in
    let fc : FlatCoverValue = c.index-flat_cover.result.now in
    let lits : c.deref-2.result.now ≡ net_lits nets fc.inputs =
    c.deref-2.ensures.value ∙ c.in_ok-fill.ensures ∙ ap (net_lits nets) (c.deref.ensures.value ∙ ap (λ (x : FlatCoverValue). x.inputs) c.flat_cover.view_is) in
    let made = gate_at c.args.library.now flat g nets c.args.k c.flat.inside.covers.items fc c.cover.result.now _ (ap (λ (f : FlatValue). f.covers) c.flat.view_is) c.index-flat_cover.ensures c.requires.there c.cover.ensures lits in
    c.in_ok-lit.ensures.pairs ∙ ap (λ (a : Answer). with_pairs g a.pairs) (sym made)

pub returns-clause-nets : goal.returns-clause-nets
returns-clause-nets c =
    let flat : FlatValue = c.args.flat.now in
    let nets : NetLitsValue = c.args.nets.now in
    let g : Aig = c.args.graph.now in
    let fc : FlatCoverValue = c.index-flat_cover.result.now in
    let lits : c.deref-2.result.now ≡ net_lits nets fc.inputs =
    c.deref-2.ensures.value ∙ c.in_ok-fill.ensures ∙ ap (net_lits nets) (c.deref.ensures.value ∙ ap (λ (x : FlatCoverValue). x.inputs) c.flat_cover.view_is) in
    let made = gate_at c.args.library.now flat g nets c.args.k c.flat.inside.covers.items fc c.cover.result.now _ (ap (λ (f : FlatValue). f.covers) c.flat.view_is) c.index-flat_cover.ensures c.requires.there c.cover.ensures lits in
    c.set_cover.ensures ∙ ap (λ n. with_cover nets c.args.k (record { 0 = n })) (c.in_ok-lit.ensures.lit ∙ ap (λ (a : Answer). a.lit) (sym made))

pub returns-clause-holds : goal.returns-clause-holds
returns-clause-holds c =
    let g : Aig = c.args.graph.now in
    let nets : NetLitsValue = c.args.nets.now in
    subst (λ (ns : NetLitsValue). HoldsNets c.args.flat.now c.make_into.new.graph ns) (sym c.set_cover.ensures)
    (holds_next c.args.flat.now g c.make_into.new.graph nets (cover_of g c.cover.result.now c.deref-2.result.now).pairs c.args.k c.in_ok-lit.lit c.requires.holds
    (cover_made-grows (first_and g) g.pairs c.cover.result.now c.deref-2.result.now) c.in_ok-lit.ensures.pairs c.in_ok-lit.ensures.is_lit)
