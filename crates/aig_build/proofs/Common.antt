-- What the proofs of this crate cite of other crates, and its own definitions, passed on from one place.
pub use Rattle.std.proofs.Common.{sym, subst, ◌≡◌, ℕ, zero, suc, min, max, List, [], ◌∷◌, ◌++◌, length, refl, ap, ◌∙◌, ◌+◌, ◌*◌, ◌<◌, ◌≤◌, Bool, true, false, ◌&&◌, arith, length-append, All, not, ◌||◌, cond, map, drop, get_or, append-nil, append_assoc, add-one, drop-cons, Some, inl, inr, replicate, Option, None, ap₂, slice_set, codes, reverse, subst₂, filter, rules, take, Err, ◌-◌, IfOk, vec_len}
pub use Rattle.std.proofs.lemmas.List.{take-append-drop, length-take, length-drop, length-map, length-replicate, map-set, map-append}
pub use Rattle.std.proofs.lemmas.List.Elements.{All-head, All-tail, All-take, All-drop, All-weaker, All-nil, All-cons, All-append, All-push, All-set, All-get_or, All-replicate, All-from_get_or}
pub use Rattle.std.proofs.lemmas.Option.{slice_get_read, none-some, same_Some, slice_get_within, slice_get-map, get_or_from_slice_get, unwrap_or-slice_get}
pub use Rattle.std.specs.Option.{option_map, option_and_then}
pub use Rattle.std.specs.Prelude.{slice_get, unwrap_or, IsSome}
pub use Rattle.aig_build.specs.Words.{Aig, AreNormal, IsLit, first_and, complement, Answer, product_of, and_of, with_pairs, RootsValue, lits_of, roots_of, AreRoots, value_of, FitsGraph, Kind, Regular, Parameter, Lit, Pair, RowValue, CoverValue, allows, matches, some_row, cover_value, cover_behind, net_value, gate_value, evaluated, flat_values, FlatCoverValue, FlatValue, LibraryValue, ModelValue, Cell, Zero, One, Any, FlatLatch, FlatNet, Input, Latch, Cover, OutPort, param_names, regular_names, AreParameters, ParamsValue, Param}
pub use Rattle.aig_core.proofs.GrowthLemmas.{Extends, Extends-trans, and_again, and_grows, Extends-refl, length-Extends}
pub use Rattle.aig_core.proofs.ProductLemmas.{AreBase, Makes, Makes-and, Makes-literal, Makes-one, value_of-more, product, Makes-complement, Makes-weaker, value_of-complement, complement-below, value_of-even}
pub use Rattle.aig_core.proofs.ValueLemmas.{values_from, values_of, values_old}
pub use Rattle.depth_first.specs.DepthFirst.{PostsAll, Posts, skips, posts, none, more}
pub use Rattle.list_laws.proofs.Apart.{AreApart, apart_once, joined_apart, filtered_apart}
pub use Rattle.list_laws.proofs.Items.{member_at}
pub use Rattle.list_laws.proofs.Members.{In-get, In-append, place_in, from_map, In-left, In-right, In-map, In-filter, In-get_or}
pub use Rattle.list_laws.proofs.Places.{drop_past, set_length, at_within, get_left, set_here, set_other, same_or, replicate_at, same_list}
pub use Rattle.list_laws.proofs.TwoLists.{get_right}
pub use Rattle.list_laws.specs.Members.{In}
pub use Rattle.netlist.specs.Bounds.{IsThere, IsWithinBounds}
pub use Rattle.netlist.specs.Flat.{cover_numbers, reads_at, inputs_at}
pub use Rattle.netlist.specs.FlatCycle.{input_values, flat_outputs, flat_next, HasCycles, IsFlatCycle, flat_machine}
pub use Rattle.netlist.specs.Circuits.{body_at, has_name}
pub use Rattle.netlist.specs.WellFormed.{IsWellFormedBody, IsWellFormed}
pub use Rattle.aig_build.specs.CoverGraph.{row_literals, Literals, flipped, cell_literals}
pub use Rattle.aig_build.specs.CoverMade.{balanced, balanced_and, row_made, rows_made, rows_onto, cover_made, cover_of}
pub use Rattle.aig_build.specs.CoverNodes.{front_half, back_half, IsCoverMade}
pub use Rattle.aig_build.specs.NetlistCycle.{source_values, literal_values, IsGraphCycle, graph_machine, HasSourceCycles}
pub use Rattle.aig_build.specs.NetlistGraph.{input_names, source_kinds, IsSourceLiteral, an_input, a_latch, MakesAll, IsGraphOf, root_nets, HasTooManyNodes}
pub use Rattle.aig_build.specs.Walked.{NetLitsValue, net_lit, net_lits, with_cover, Built, behind_made, gate_made, with_gate, walked, gate_of, order_of, IsHeld, HoldsNets, no_lit, marks_of, regular_lits, regular_next, start_nets, source_aig, root_lits, marked, index_behind, with_param_lits}
