-- What public clauses say.
pub mod CertificateValue
pub mod Valid
pub mod Faults
pub mod CertText
pub mod WrittenText
pub mod Refusals
-- What only bodies are compared with.
pub mod Stamps
