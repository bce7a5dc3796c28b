-- What the proofs of this crate cite of other crates, and its own definitions, passed on from one place.
pub use Rattle.std.proofs.Common.{◌≡◌, ℕ, ◌+◌, ◌<◌, true, false, List, [], ◌∷◌, length, drop, get_or, Option, Some, None, refl, ap, ◌∙◌, suc, ◌-◌, ◌≤◌, ◌++◌, take, reverse, sym, subst, subst₂, append_assoc, length-append, take-append-drop, inl, inr, arith, ◌⊎◌, zero, Result, Ok, Err, ◌↔◌, IsTrue, eqb, eqb-true, eq-eqb, rules}
pub use Rattle.std.proofs.Math.Seq.{take-append_seam, drop-append_seam, take-length}
pub use Rattle.std.proofs.lemmas.Bool.{true≢false, false≢true, false_from_ne_true}
pub use Rattle.std.proofs.lemmas.List.{length-drop, length-reverse, reverse-append, take_more}
pub use Rattle.std.proofs.lemmas.Option.{slice_get-get_or, none-some, same_Some, slice_get_within}
pub use Rattle.std.specs.Prelude.{is_some, slice_get, slice_set, IfOk, OnOk, OnErr}
pub use Rattle.list_laws.proofs.Places.{drop_get, at_within, set_other, set_length, set_here, same_or, drop_past, past_end}
pub use Rattle.list_laws.specs.Members.{In}
pub use Rattle.depth_first.specs.DepthFirst.{first, later, MeetsAll, PostsAll, more, Way, leads, stops, nodes_of, Meets, goes, repeats, halts, met, stop, Posts, skips, posts, Ending, none}
pub use Rattle.depth_first.specs.Edges.{ways_from, successors, ways_of, AreNodes}
pub use Rattle.depth_first.specs.Frames.{FramesValue, path_of, entered, first_of, others_of, advanced, finished, without_begun, renewed, forgotten, renewed_since, taken_back, AreMarks, AreKept, HasGrown, AreForgettable, has_path_mark, onward}
pub use Rattle.depth_first.specs.Order.{IsSettled, IsAfter, LeadsInto}
pub use Rattle.depth_first.specs.Reach.{Reaches, here, through, IsReached, AddsReached}
pub use Rattle.depth_first.specs.Steps.{AreLeft, Followed, passes, stops_at, enters, hits, skips_over, seen, IsEdgeWithin, IsGoing, Stepped, left_of, frames_work, new_work, walk_work, MeetsLeft, PostsLeft, EntersLeft, ArePassed, IsLater, Ran, CanVisit}
pub use Rattle.depth_first.specs.Walk.{WalkValue, Visited, VisitedAll, ending_of, leads_to, from_node}
pub use Rattle.depth_first.specs.declared.edge.Edge.{Edge}
pub use Rattle.depth_first.specs.declared.edge.Edge.TheVariants.{Node, Stop, Pass}
pub use Rattle.depth_first.specs.declared.edge.End.{End}
pub use Rattle.depth_first.specs.declared.frames.Frame.{Frame}
pub use Rattle.depth_first.specs.declared.frames.Mark.{Mark}
pub use Rattle.depth_first.specs.declared.frames.Mark.TheVariants.{New, OnPath, Done}
