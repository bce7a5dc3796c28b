-- What the proofs of this crate cite of other crates, and its own definitions, passed on from one place.
pub use Rattle.std.proofs.Common.{◌≡◌, ℕ, Bool, true, false, List, [], ◌∷◌, None, Some, Ok, zero, suc, ◌/◌, ◌+◌, ◌-◌, ◌^◌, ◌<◌, refl, ap, subst, ◌∙◌, arith, inl, inr, ◌*◌, ◌≤◌, if◌then◌else◌, not, ◌++◌, length, take, drop, get_or, map, sym, eq-eqb, le-leb, ◌⊎◌, ◌==◌, eqb-true, slice_set, Option, append-nil, append_assoc, Result, Err, OnOk, OnErr, set, is_ok, rules}
pub use Rattle.std.proofs.lemmas.Bool.{cases_eq, ne_eqb, lt-leb, both_ways}
pub use Rattle.std.proofs.lemmas.List.{length-take, map-append, length-append, map-set, length-set, length-map, length-drop, take-append-le, drop-append-le, take-append-drop, drop-drop, drop-set-lt, drop_all, drop_more}
pub use Rattle.std.proofs.lemmas.List.Edits.{length-remove, get_or-remove_below}
pub use Rattle.std.proofs.lemmas.Option.{none-some, same_Some, slice_get_within}
pub use Rattle.std.proofs.lemmas.Result.{MatchResult-weaker, err_from_is_err_and}
pub use Rattle.std.specs.List.{slice_get, remove}
pub use Rattle.list_laws.proofs.Choice.{choose}
pub use Rattle.list_laws.proofs.Members.{In-map, In-left, In-right, In-append, In-get, In-get_or}
pub use Rattle.list_laws.proofs.Places.{set_here, set_other, same_or, set_length}
pub use Rattle.list_laws.specs.Members.{In}
pub use Rattle.tl_io.specs.Content.{extended}
pub use Rattle.tl_io.specs.Port.{PortSeen, Accepts, Fails, Writes}
pub use Rattle.tl_io.specs.Writes.{AreAscending, AreBitsOf, written, writes_from, address_of}
pub use Rattle.tl_io.specs.declared.Write.{Write}
pub use Rattle.port_bank.specs.Bank.{BankSeen, all_ports, Called, Replaced, Retired, Answers, bank_width}
pub use Rattle.port_bank.specs.Image.{image, Holds, ShowsRegions, first_of}
pub use Rattle.port_bank.specs.Moves.{MovesWithCause, KeepsPlaces, LosesPlace, IsLeft}
pub use Rattle.port_bank.specs.Regions.{width, region_of, region, outside, is_outside}
pub use Rattle.port_bank.specs.Seen.{in_parts, bank_seen}
pub use Rattle.port_bank.specs.Send.{Sends, start, accepted, replaced, Loses, Plays, with_port, Reaches}
pub use Rattle.port_bank.specs.Steps.{from_region, AreInOrder, Breaks, Fills, FailsToFill, Mends, FailsToMend, Steps, FailsToStep}
