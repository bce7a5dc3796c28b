use Rattle.blif_flat.proofs.Common.{◌≡◌, ◌≤◌, map, sym, ap, ◌∙◌, subst, LibraryValue, paths_of, AreEmptyNets, distinct_names, starts_from, slot_count, most_weight}
use Rattle.blif_flat.proofs.Connections.NetStartLemmas.{few_slots, nets_made}
use Rattle.blif_flat.proofs.circuit.nets.make_nets.Goals as goal

pub row_starts-requires : goal.row_starts-requires
row_starts-requires c =
    let names : c.deref-2.result.now ≡ map distinct_names c.args.library.now.models =
    c.deref-2.ensures.value ∙ c.in_ok-names.ensures ∙ ap (map distinct_names) (c.deref.ensures.value ∙ ap (λ (l : LibraryValue). l.models) c.library.view_is) in
    subst (λ ns. slot_count ns c.args.instances.now ≤ most_weight) (sym names) (few_slots c.args.library.now c.requires.light c.args.instances.now c.requires.instances)

pub returns : goal.returns
returns c =
    let names : c.in_ok-names.names.items ≡ map distinct_names c.args.library.now.models = c.in_ok-names.ensures ∙ ap (map distinct_names) (c.deref.ensures.value ∙ ap (λ (l : LibraryValue). l.models) c.library.view_is) in
    let same : c.deref-2.result.now ≡ c.in_ok-names.names.items = c.deref-2.ensures.value in
    let starts : c.in_ok-starts.starts.items ≡ starts_from c.in_ok-names.names.items 0 c.args.instances.now = c.in_ok-starts.ensures.0 ∙ ap (λ ns. starts_from ns 0 c.args.instances.now) same in
    let count : c.in_ok-starts.count ≡ slot_count c.in_ok-names.names.items c.args.instances.now = c.in_ok-starts.ensures.1 ∙ ap (λ ns. slot_count ns c.args.instances.now) same in
    subst (AreEmptyNets c.args.library.now (paths_of c.args.instances.now)) (sym c.new.ensures)
    (nets_made c.args.library.now c.requires.light c.args.instances.now c.requires.instances c.in_ok-names.names.items c.in_ok-starts.starts.items c.in_ok-slots.slots.items c.in_ok-starts.count names starts count c.in_ok-slots.ensures)
