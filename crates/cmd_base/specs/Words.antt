-- The words of other crates that the definitions say, passed on from one place.
pub use Rattle.tl_io.specs.Causes.{Rose}
pub use Rattle.tl_io.specs.Content.{extended}
pub use Rattle.tl_io.specs.Sink.{SinkSeen}
pub use Rattle.tl_fault.specs.RefusalValue.{RefusalValue}
pub use Rattle.tl_fault.specs.Refusals.{details_words, spaced, is_limit}
pub use Rattle.tl_io.specs.Shelf.{Files, ShelfSeen, with_file, emptied}
