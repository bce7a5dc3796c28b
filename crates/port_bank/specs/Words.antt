-- The words of other crates that the definitions say, passed on from one place.
pub use Rattle.tl_io.specs.Port.{PortSeen, Accepts, Fails}
pub use Rattle.tl_io.specs.declared.Write.{Write}
pub use Rattle.tl_io.specs.Writes.{written, writes_from}
pub use Rattle.list_laws.specs.Members.{In}
