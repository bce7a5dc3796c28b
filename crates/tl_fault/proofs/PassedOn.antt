-- What holds of the error that a `?` passes on holds of the result.
use Rattle.std.proofs.Common.{◌≡◌, sym, subst}
use Rattle.std.specs.Prelude.{Result, Ok, Err, IsErrAnd, IfErr, MatchResult}

pub passed_on : {T E : Type 0} (r : Result T E) (e : E) (P : T → Type 0) (Q : E → Type 0) → IsErrAnd r (λ y. y ≡ e) → Q e → MatchResult r P Q
passed_on (Ok x) e P Q is q = absurd is
passed_on (Err y) e P Q is q = subst Q (sym is) q

-- and of the error alone
pub passed_err : {T E : Type 0} (r : Result T E) (e : E) (P : E → Type 0) → IsErrAnd r (λ y. y ≡ e) → P e → IfErr r P
passed_err (Ok x) e P is p = tt
passed_err (Err y) e P is p = subst P (sym is) p
