mod Common
mod ProveLemmas
mod GraphWalkLemmas
mod CertWalkLemmas
mod AuditLemmas
