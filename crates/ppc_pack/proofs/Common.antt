-- What the proofs of this crate cite of other crates, and its own definitions, passed on from one place.
pub use Rattle.std.proofs.Common.{◌≡◌, Bool, List, length, map, refl, ap, ◌∙◌, ℕ, zero, suc, ◌+◌, ◌-◌, ◌<◌, ◌≤◌, true, false, ◌&&◌, eqb, [], ◌∷◌, Some, sym, subst, inl, inr, arith, replicate, take}
pub use Rattle.std.proofs.lemmas.List.{length-replicate}
pub use Rattle.aig_core.specs.Roots.{lits_of}
pub use Rattle.aig_core.specs.Value.{value_of, HasOneFit, node_value, FitsGraph}
pub use Rattle.aig_core.specs.declared.lit.Kind.TheVariants.{Parameter}
pub use Rattle.ppc_pack.specs.Pack.{PackValue, IsPack, HasOneConf, IsConf, inits_of}
