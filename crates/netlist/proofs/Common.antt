-- What the proofs of this crate cite of other crates, and its own definitions, passed on from one place.
pub use Rattle.std.proofs.Common.{◌≡◌, ℕ, zero, suc, ◌+◌, ◌<◌, ◌≤◌, max, Bool, true, false, cond, not, eqb, ◌⊎◌, List, [], ◌∷◌, ◌++◌, map, reverse, length, get_or, replicate, is_some, if◌then◌else◌, IsTrue, slice_get, slice_set, Some, None, codes, All, filter, Option, option_map, option_and_then, bytes_eq, unwrap_or, sym, refl, ap, ◌∙◌, subst, ap₂, subst₂, inl, inr, append_assoc, arith, rules}
pub use Rattle.std.proofs.lemmas.Bool.{both_ways, cases_Bool, or_cases, cond-true, cond-false, and_parts, and_from, not-true, false≢true, or_left, not_from_false, or_right, false_from_ne_true, eq-eqb, eqb-true}
pub use Rattle.std.proofs.lemmas.List.{length-map, length-replicate, length-append, reverse-reverse, length-set}
pub use Rattle.std.proofs.lemmas.Option.{none-some, same_Some, option_and_then_some, slice_get_within, slice_get-map, slice_get-get_or}
pub use lib.Pointwise.{bytes_decides}
pub use Rattle.depth_first.proofs.PostLemmas.{nodes_done, nodes_from, step_stands}
pub use Rattle.depth_first.specs.Order.{IsAfter}
pub use Rattle.list_laws.proofs.Apart.{apart_once, AreApart, joined_apart, apart_short, filtered_apart}
pub use Rattle.list_laws.proofs.Choice.{choose}
pub use Rattle.list_laws.proofs.Members.{In-right, In-get, In-left, In-append, place_in, In-map, In-filter, in_filter}
pub use Rattle.list_laws.proofs.Places.{at_within, set_here, set_other, get_end, same_list, mapped_at}
pub use Rattle.list_laws.proofs.Reversed.{reversed_in}
pub use Rattle.list_laws.proofs.TwoLists.{item_there}
pub use Rattle.list_laws.specs.Members.{In}
pub use Rattle.netlist.specs.{Latch, LatchValue, LatchAt, Net, input_net, latch_net, cover_net, Drives, IsClock, Place, is_latch, FlatOrder, IsSound, own_of, has_name, listed, controls, ModelValue, Path, body_at, CoverAt, FlatNet, an_input, a_latch, a_cover, IsNetOf, AreNetsOf, cover_numbers, IsFlat, reads_at, inputs_at, IsFlatCover, same_place, latch_at, OutPort, FlatLatch, flat_roots, IsFlatLatch, flat_machine, Cover, Body, Subckt, Command, Connection, subckts_of, model_named, model_at, is_input, is_output, Driver, by_input, IsDriver, input, latch, cover, output, by_latch, by_cover, by_subckt, cover_at, with_cover, covers_among, reads_in, reads_of, ConnectionAt, IsMainInput, main_input, latch_output, cover_output, from_inside, from_outside, input_actual, model_output, AreNets, Ordered, is_cover, IsDriven, ReadsCover, Depends, direct, through, latch_covers, all_latch_covers, roots_of, LoopWalk, leads, Repeat, Meets, met, goes, MeetsAll, inputs_of, AreOnce, model_names, placed, Ends, ends, input_ports, IsNumbered, TellsClocks, IsControl, some_latch, no_latch, with_control_net, most_underscores, PostsAll, HasOneFlat, own_places, InFlatOrder, InFlatOrderUnder, flat, latch_in, Zero, cover_value, IsRead, cover_input, Fits, HasOneCycle}
pub use Rattle.netlist.specs.CoverValue.{CoverValue}
pub use Rattle.netlist.specs.Flat.{Places, underscores}
pub use Rattle.netlist.specs.FlatCoverValue.{FlatCoverValue}
pub use Rattle.netlist.specs.FlatValue.{FlatValue}
pub use Rattle.netlist.specs.LibraryValue.{LibraryValue}
pub use Rattle.netlist.specs.Places.{none, more}
pub use Rattle.netlist.specs.Runs.{AreLatches, inits_of, init_state, state_of, next_state, next_states}
pub use Rattle.netlist.specs.SubcktValue.{SubcktValue}
pub use Rattle.machine.specs.Machine.{reading, GivesCycle, GivesRun, stops, steps, IsRun}
pub use Rattle.machine.proofs.RefineLemmas.{refines_by, gives_runs}
