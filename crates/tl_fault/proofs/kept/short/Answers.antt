use Rattle.std.proofs.Common.{◌≡◌, ◌∙◌, ap, ℕ, List, ◌++◌, length, take}
use Rattle.std.proofs.Math.Seq.{take-append_seam}
use Rattle.tl_fault.proofs.kept.short.Goals as goal

-- bytes in front of others
front : (bytes copied rest : List ℕ) → copied ≡ bytes → take (length bytes) (copied ++ rest) ≡ bytes
front bytes copied rest e = ap (λ (xs : List ℕ). take (length bytes) (xs ++ rest)) e ∙ take-append_seam bytes rest

pub returns-clause-value : goal.returns-clause-value
returns-clause-value c = front c.args.bytes.now c.copy_from_slice.new.self _ c.copy_from_slice.ensures.after
