-- What the proofs of this crate cite of other crates, and its own definitions, passed on from one place.
pub use Rattle.std.proofs.Common.{◌≡◌, ℕ, ◌<◌, zero, suc, List, [], ◌∷◌, take, length, refl, ap, arith, ◌++◌, ◌∙◌, subst, Some, ◌-◌, Bool, true, false, sym, ◌+◌, eqb, inl, inr, ◌≤◌, ltb, leb, map, drop, vec_capacity, lit<, replicate}
pub use Rattle.std.proofs.lemmas.Bool.{eqb-true, eqb-false, ltb-false, leb-false}
pub use Rattle.std.proofs.lemmas.Option.{none-some, same_Some}
pub use Rattle.std.proofs.raw_atomic.Walks.{proved, leaves, proved_at}
pub use Rattle.std.specs.Prelude.{slice_index_or, slice_set, Option, None, is_some, slice_get, if◌then◌else◌}
pub use Rattle.std_alloc.proofs.BoxSteps.Steps.{box_out, box_in}
pub use Rattle.std_alloc.specs.Box.Ownership.{box_owns}
pub use Rattle.std_heap.proofs.Handle.{heap_val, heap_Tells}
pub use Rattle.std_heap.specs.contracts.GlobalAllocator.TheImpl.{ghosts}
pub use lib.Dec.{T}
pub use Rattle.core.proofs.alloc.Calls.{Al, handle_tells, Goes-blank}
pub use Rattle.core.proofs.atomic.Steps.{fm}
pub use Rattle.core.proofs.cell.Inside.{Good}
pub use Rattle.list_laws.proofs.Places.{set_length}
pub use Rattle.pace_core.proofs.KeepLemmas.{only_wanted, config_right, made_keeps, writes_turn, asked_behind, asked_keeps}
pub use Rattle.pace_core.specs.Backlog.{BacklogValue, AreTurns}
pub use Rattle.ppc_pack.specs.Pack.{PackValue, IsConf}
pub use Rattle.spec_core.specs.Specialiser.{SpecialiserValue}
pub use Rattle.spec_core.specs.Touched.{IsWithinTouched}
pub use Rattle.tl_io.specs.Assigns.{AreAssigned}
pub use Rattle.tl_io.specs.declared.Assign.{Assign}
pub use Rattle.tl_io.specs.declared.Write.{Write}
pub use base.Fml.{ftrue, flft, fsep}
pub use base.Logic.{ent, emp, never, fst∗, SProp, id⊢}
pub use contract.Monad.{fact, fact_i}
pub use contract.Running.{tables}
pub use denote.Builtin.{unit, RawPtr}
pub use denote.Exit.{no}
pub use denote.Memory.{lone}
pub use denote.Param.{layout, param, bounded}
pub use denote.Param.Laws.{Laws, param_laws}
pub use denote.RattleType.{RattleType, Valss, owns}
pub use denote.RawPtr.{Ptr, block_ptr, null_ptr, ptr_val, in_a_block}
pub use denote.Signature.{Slot, plain, types_at}
pub use denote.Steps.{nothing, heard, only}
pub use denote.Struct.Owning.{shape}
pub use denote.Struct.Struct.{Struct, within}
pub use denote.Triple.Call.{calls_at_last, calls_at}
pub use denote.Triple.Entry.{alive}
pub use denote.Triple.Spec.{triple_of}
pub use denote.Triple.Walked.{walk_of, Stays, stay_dropped}
pub use mir.MapTy.{inst_fn}
pub use mir.Syntax.{impl, tnil, dnil, a_type, dcons}
pub use mir.Val.{Val, vstruct, vcons, vnil, of_list, vptr, has_ty, WT}
pub use prog.Wp.{WpFn}
pub use seplogic.Ra.Ura.{Ura}
pub use types.ByLocal.{alloc_all, pass_all, free_all, look_at, sets, get, get_in, lands_last, env, lands_as}
pub use types.Kit.{Item, Goal, Seq, ‵, raw, ◌⊛◌, ◌$◌, ◌∵◌, !, qed, by, keep, split, fjoin, use0, fsplit, suffices, use1, move, rewrite}
pub use types.Logic.{Logic, sem}
pub use types.Part.{agg, sub, whole}
pub use types.Run.{lit, no_more, and_then, returns, enter, stop, fld, of_opd, first, blocks, exec}
pub use Rattle.tlut_host.specs.Copied.{bit_write, copied_by, copied, copied_plain}
pub use Rattle.tlut_host.specs.Kept.{IsKept, param_names}
pub use Rattle.tlut_host.specs.Owned.{heap, owns_boxed, held_by, held_by_paced}
pub use Rattle.tlut_host.specs.Paced.{PacedValue, IsPacing, IsRequest, IsCatchUp, IsAsk, IsTick}
pub use Rattle.tlut_host.specs.Settings.{settings_status, assign_of}
pub use Rattle.tlut_host.specs.declared.setting.BitWrite.{BitWrite}
