use Rattle.cut_sets.proofs.Common.{◌≡◌, ◌∙◌, ℕ, ◌≤◌, List, [], ◌∷◌, ap, sym, subst, length, take, get_or, refl, arith, IsAscending, signature_of, take-take}
use Rattle.cut_sets.proofs.flat.FlatCut.of_first.Goals as goal

six_are : (ns : List ℕ) → 6 ≤ length ns → get_or ns 0 0 ∷ get_or ns 1 0 ∷ get_or ns 2 0 ∷ get_or ns 3 0 ∷ get_or ns 4 0 ∷ get_or ns 5 0 ∷ [] ≡ take 6 ns
six_are (a ∷ b ∷ c ∷ d ∷ e ∷ f ∷ ns) l = refl
six_are ns l = absurd (omega arith)

-- the first of six numbers of a list are its first
first_of_six : (ns : List ℕ) (len : ℕ) → 6 ≤ length ns → len ≤ 6 → take len (get_or ns 0 0 ∷ get_or ns 1 0 ∷ get_or ns 2 0 ∷ get_or ns 3 0 ∷ get_or ns 4 0 ∷ get_or ns 5 0 ∷ []) ≡ take len ns
first_of_six ns len l few = ap (λ t. take len t) (six_are ns l) ∙ take-take len 6 ns few

pub invariant_of-result : goal.invariant_of-result
invariant_of-result c =
    let first = first_of_six c.args.numbers.now c.args.len c.in-len6-up.len_at_least c.requires.few in
    record {
      few = c.requires.few;
      ascending = subst IsAscending (sym first) c.requires.ascending;
      signed = c.requires.signed ∙ ap signature_of (sym first);
    }

pub returns-in-len6-up : goal.returns-in-len6-up
returns-in-len6-up c = first_of_six c.args.numbers.now c.args.len c.in-len6-up.len_at_least c.requires.few
