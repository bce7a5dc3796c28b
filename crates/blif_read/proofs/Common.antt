-- What the proofs of this crate cite of other crates, and its own definitions, passed on from one place.
pub use Rattle.std.proofs.Common.{◌≡◌, ℕ, Bool, List, [], ◌∷◌, ◌++◌, refl, ap, ◌∙◌, inl, inr, ◌⊎◌, ◌-◌, ◌<◌, eqb, length, map, get_or, codes, Some, None, sym, subst, arith, true, Result, Ok, append_assoc, Err, Option, ◌+◌, false, ◌||◌, cond, ltb, take, drop, bytes_eq, length-append, ◌^◌, is_some, MatchResult, IfOk, ◌≤◌, rules}
pub use Rattle.std.proofs.lemmas.Bool.{cond-false, ne_eqb, cond-true, lt-ltb, eq-eqb, and_from, or_from, not_from_false, false_from_ne_true, both_ways, and_parts, or_cases, or_parts, not-true, eqb-true, eqb-false}
pub use Rattle.std.proofs.lemmas.List.{append-nil, length-take-le, length_push, length-map, drop_more, map_push, take-append-drop, drop_all, get_or-take}
pub use Rattle.std.proofs.lemmas.Option.{none-some, same_Some}
pub use Rattle.std.proofs.lemmas.Slice.Eq.{bytes_eq-Decides}
pub use Rattle.std.specs.Option.{option_map}
pub use Rattle.blif_read.specs.Words.{In, RowValue, CoverValue, matches, cover_value, Ports, input_ports, output_ports, clock_ports, ModelValue, LibraryValue, ports_of, SubcktValue, formals, Cell, Zero, One, Any, Body, Cover, Command, Connection, bit_of, LineValue, token_bytes, words_line, AreLinesIn, lines_of, AreOnce, TextErr, BlifErr, DuplicateModel, NoModel, BadConnection, DuplicatePort, BadLatch, LatchKind, Keyword, Model, Inputs, Outputs, Clock, Names, End, Plain, Unknown}
pub use Rattle.std.specs.List.{position, position_or_len, slice_get}
pub use Rattle.std.specs.Vec.Iter.{into_iter_items}
pub use Rattle.list_laws.proofs.Apart.{pushed_apart, not_in_both}
pub use Rattle.list_laws.proofs.Choice.{none_else, none_both, some_then, some_else}
pub use Rattle.list_laws.proofs.Members.{In-place, In-append, In-left, In-right, from_map}
pub use Rattle.netlist.specs.ShortPorts.{HasShortPorts}
pub use Rattle.netlist.specs.declared.command.Body.TheVariants.{Latch, Subckt}
pub use Rattle.tl_fault.proofs.PassedOn.{passed_on}
pub use Rattle.tl_fault.specs.OrMemory.{OrMemory}
pub use Rattle.tl_text.proofs.NameSetLemmas.{has_in, place_some}
pub use Rattle.blif_read.specs.Context.{row_of, RowRead, Context, CoverPlace, first_value, row_place, place_after, open_after, models_after, ports_after, context_of, cells_of, row_with, cell_of, put_cell}
pub use Rattle.blif_read.specs.Denotes.{connection_token, IsConnection, IsSubckt, port_names, names_in, IsCoverLine, AreCommands, IsModel, AreModels, Denotes}
pub use Rattle.blif_read.specs.Latches.{IsLatch, plain, with_init, with_control, whole, Controls, nil, net, Starts, one, zero_}
pub use Rattle.blif_read.specs.LineFault.{has, model_fault, ports_fault, fault_by, end_fault, line_fault, mixed_fault, row_read_fault, or_later, row_fault, init_fault, latch_fault, connection_of, connections_fault, subckt_fault, split_at, names_fault, repeats_formal, with_formal, kind_fault}
pub use Rattle.blif_read.specs.ReadFault.{first_fault, has_model, statements_fault, blif_err, lines_fault, read_fault}
pub use Rattle.blif_read.specs.Reading.{inside_fault, State, ModelRead, with_command, flushed, ended, context, with_ports, ports_read, body_read, next_by, or_fault, steps, library_at_end, finished, lines_read, text_read, fresh, CoverRead, start, cover_of, with_row, latch_of, subckt_of, next, library_read, value_so_far, first_word, with_cover, place_of_cover, with_row_words, control_of, init_of, put_pair, pairs_of, model_after, fault_of}
pub use Rattle.blif_read.specs.Refusals.{refusal_of}
pub use Rattle.blif_read.specs.Rows.{IsRow, alone, behind, AreRows, none, more, cell_character, output_token}
pub use Rattle.blif_read.specs.Size.{name_size, names_size, pairs_size, control_size, body_size, commands_size, model_size, models_size, library_size}
pub use Rattle.blif_read.specs.Statement.{StatementValue, arguments_of, keyword_of, statement_at, statement_of, statements}
