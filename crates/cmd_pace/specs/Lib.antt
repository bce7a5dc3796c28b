-- What public clauses say: of the words,
-- of the job and how it ends,
pub mod Words
pub mod Job
-- of what a job that is done shows,
pub mod Headline
-- and of the walk.
pub mod Verdict
-- What only bodies are compared with.
pub mod Ready
