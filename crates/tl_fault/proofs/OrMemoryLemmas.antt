-- What is said of an error that may be want of memory, and more that follows from it.
use Rattle.std.proofs.Common.{◌≡◌, Option, Some, None, subst}
use Rattle.tl_fault.specs.OrMemory.{Unless, OrMemory}

pub Unless-of : {R P : Type 0} (refusal : Option R) → P → Unless refusal P
Unless-of None p = tt
Unless-of (Some r) p = p

pub Unless-map : {R : Type 0} (refusal : Option R) (P Q : Type 0) → (P → Q) → Unless refusal P → Unless refusal Q
Unless-map None P Q f h = tt
Unless-map (Some r) P Q f h = f h

pub OrMemory-map : {E R : Type 0} (refusal_of : E → Option R) (P Q : E → Type 0) (e : E) → ((r : E) → P r → Q r) → OrMemory refusal_of P e → OrMemory refusal_of Q e
OrMemory-map refusal_of P Q e f h = Unless-map (refusal_of e) (P e) (Q e) (f e) h

-- a refusal isn't want of memory, so what is said of it holds
pub or_memory : {E R : Type 0} (refusal_of : E → Option R) (P : E → Type 0) (e : E) (r : R) → OrMemory refusal_of P e → refusal_of e ≡ Some r → P e
or_memory refusal_of P e r said is = subst (λ o. Unless o (P e)) is said
