-- The lemmas that answers cite, passed on from one place.
pub use Rattle.aig_build.proofs.Common.{◌≡◌, ◌≤◌, ◌∙◌, ap, arith, drop, length, List, refl, rules, take, All-drop, Lit, Aig, first_and, and_of, Answer, with_pairs, back_half, front_half, balanced_and, Some, sym, subst, slice_get, length-map, In, FlatNet, FlatCoverValue, FlatValue, IsLit, cover_of, NetLitsValue, net_lit, net_lits, with_cover, gate_of, HoldsNets, All, ℕ, get_or, In-get_or, Built, order_of, ◌<◌, Err, ap₂, subst₂, Param, RootsValue, roots_of, AreRoots, start_nets, source_aig, root_lits, ◌+◌, ◌-◌, [], ◌++◌, IfOk, replicate, vec_len, ParamsValue, param_names, regular_names, Kind, Regular, Parameter, input_names, source_kinds, length-append, length-replicate, Literals, rows_made, length-Extends, RowValue, Extends, row_made, rows_onto, false, regular_next}
pub use Rattle.aig_build.proofs.BalancedLemmas.{AreBelow, AreBelow-more, balanced-grows, balanced_and-back_length, balanced_and-front_length, full_weaker, halved, IsBelow, IsLit-more}
pub use Rattle.aig_build.proofs.CoverLemmas.{cover_made-grows, rows_alone, rows_done, AreLits-more, AreLits-next, row_made-grows, rows_onto-next, rows_onto-row_length, with_pairs-again}
pub use Rattle.aig_build.proofs.NetValueLemmas.{behind_width, held, held_lits, holds_next, cover_read, gate_at, order_gate_length}
pub use Rattle.aig_build.proofs.SourceLemmas.{start_latches, few_regular, length-marked, length-regular, regular_next-le}
