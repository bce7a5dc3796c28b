-- What public clauses say of the stations: the texts of a source circuit, and what is made of it,
pub mod Words
pub mod Texts
pub mod SourceCircuit
pub mod Mapped
pub mod Source
-- of a script and of a pack,
pub mod Script
pub mod Packs
-- what the LUTs, their bits and the written netlists mean,
pub mod Tunable
pub mod Written
-- and what events do to a machine and to its host, and put.
pub mod Machine
pub mod Host
pub mod Playing
-- A walk that several commands have.
pub mod WritingWalk
-- What only bodies are compared with.
pub mod Stops
pub mod FileWrites
pub mod Tables
