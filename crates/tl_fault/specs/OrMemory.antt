-- What a clause says of an error that may be want of memory.
use Rattle.std.specs.Prelude.{Option, Some, None}

-- nothing is owed where there is no refusal
abbrev pub Unless : {R : Type 0} → Option R → Type 0 → Type 0
Unless None P = Unit {0}
Unless (Some refusal) P = P

-- the error is want of memory, which may always come, or this is said of it
abbrev pub OrMemory : {E R : Type 0} → (E → Option R) → (E → Type 0) → E → Type 0
OrMemory refusal_of P e = Unless (refusal_of e) (P e)
