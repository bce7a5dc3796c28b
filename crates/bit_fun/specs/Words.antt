-- The words of other crates that the definitions say, passed on from one place.
pub use Rattle.aig_core.specs.Aig.{Aig, IsNode, first_and, node_count, pair_of, IsSource, AreNormal, IsNormal}
pub use Rattle.aig_core.specs.And.{Answer, product_of, with_pairs, complement, and_in_order, and_of, found_or_new, is_pair}
pub use Rattle.aig_core.specs.Value.{in_phase, value_of, FitsGraph, node_value, xor}
pub use Rattle.aig_core.specs.declared.lit.Kind.{Kind}
pub use Rattle.aig_core.specs.declared.lit.Kind.TheVariants.{Parameter, Regular}
pub use Rattle.aig_core.specs.declared.lit.Lit.{Lit}
pub use Rattle.aig_core.specs.declared.lit.Pair.{Pair}
pub use Rattle.cover_pick.specs.Cone.{is_stop}
pub use Rattle.cover_pick.specs.Mapping.{IsMapping, bits_of, HaveBases, IsTableOf, free, node, source}
pub use Rattle.cover_pick.specs.Work.{IsInner, IsFree, free_constant, free_parameter, free_product, AreOwn, IsTableWork, IsOwnWork, AreShared, IsWork, once_by, IsLight, IsMakeable, Path, here as path_here, left as path_left, right as path_right}
pub use Rattle.cover_pick.specs.Free.{mark_of, AreFree}
pub use Rattle.cover_pick.specs.declared.lut.Lut.{Lut}
pub use Rattle.cut_sets.specs.Cuts.{Blocks, CanBeLeaf, constant, constant as blocks_constant, fan_ins, member, parameter, parameter as blocks_parameter}
pub use Rattle.depth_first.specs.DepthFirst.{Posts, PostsAll, Way, leads, more, nodes_of, none, posts, skips, stops}
pub use Rattle.depth_first.specs.Edges.{successors, AreNodes, ways_from, ways_of}
pub use Rattle.list_laws.specs.Digits.{digit, bit_value, number}
pub use Rattle.list_laws.specs.Members.{In}
pub use Rattle.list_laws.specs.Order.{IsAscending}
pub use Rattle.lut_sim.specs.declared.shape.Shape.{Shape}
pub use Rattle.param_list.specs.declared.params.Param.{Param}
pub use Rattle.ppc_pack.specs.Pack.{PackValue, IsConf, IsPack}
pub use Rattle.ppc_pack.specs.declared.pack.PackParam.{PackParam}
