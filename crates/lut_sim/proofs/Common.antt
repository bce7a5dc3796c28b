-- What the proofs of this crate cite of other crates, and its own definitions, passed on from one place.
pub use Rattle.std.proofs.Common.{◌≡◌, ℕ, zero, suc, ◌+◌, ◌*◌, ◌/◌, ◌%◌, ◌<◌, ◌≤◌, Bool, true, false, eqb, List, [], ◌∷◌, length, get_or, map, refl, sym, ap, ◌∙◌, subst, inl, inr, arith, ◌⊎◌, ◌-◌, ◌^◌, slice_set, take, ◌&&◌, ◌||◌, leb, ltb, ◌++◌, append-nil, append_assoc, get_or-set_same, get_or-set_other, IsTrue, drop, rules}
pub use Rattle.std.proofs.Math.ListN.{length-set}
pub use Rattle.std.proofs.lemmas.Bool.{cases_Bool, and_parts, and_from, eq-eqb, eqb-true, or_cases, leb-true, leb-false, ltb-true, false≢true}
pub use Rattle.std.proofs.lemmas.List.{take_more_set, take_all, length-map}
pub use Rattle.aig_core.specs.Roots.{lits_of}
pub use Rattle.aig_core.specs.declared.lit.Lit.{Lit}
pub use Rattle.cover_pick.specs.Mapping.{AscendByLit, HasLut, IsMapping, IsTableOf, source, free, node, IsPlain, bits_of}
pub use Rattle.cover_pick.specs.Template.{TemplateValue}
pub use Rattle.cover_pick.specs.declared.lut.Lut.{Lut}
pub use Rattle.list_laws.proofs.Choice.{choose, choose_one}
pub use Rattle.list_laws.proofs.Members.{map_agree, In-get_or, In-map}
pub use Rattle.list_laws.specs.Digits.{number}
pub use Rattle.list_laws.specs.Members.{In}
pub use Rattle.lut_sim.specs.Cycle.{address, FitsTables, IsOnlyTableCycle, leaf_values}
pub use Rattle.lut_sim.specs.Steps.{HasRoom, value_in, with_table, with_tables, IsTableInRoom, filled, with_sources, HaveSources}
pub use Rattle.lut_sim.specs.Playable.{IsPlayable, HasValue}
pub use Rattle.lut_sim.specs.Sources.{is_regular, is_plain, last_source, source_value}
pub use Rattle.lut_sim.specs.declared.shape.Shape.{Shape}
