-- The cuts at some places, and the least of their flows.
use Rattle.bounded_cuts.proofs.Common.{◌≡◌, ℕ, ◌+◌, ◌<◌, ◌≤◌, min, Bool, true, false, cond, if◌then◌else◌, List, [], ◌∷◌, ◌++◌, length, map, get_or, take, ap, ◌∙◌, arith, height, MOST_FLOW, Candidate, candidate_at, cuts_at, cuts_of, cut_flow, ltb, nat_lt, take_more, map-append, ltb-true, ltb-false, choose, least_flow, cuts_within}
use Rattle.bounded_cuts.proofs.TakingLemmas.{cut_at}

pub map_next : (candidates : List Candidate) (taken : List ℕ) (i : ℕ) (x : Candidate) → i < length taken → get_or taken i 0 < length candidates → cuts_at candidates (take (i + 1) taken) ≡ cuts_at candidates (take i taken) ++ (get_or candidates (get_or taken i 0) x).cut ∷ []
map_next candidates taken i x l inside =
    ap (map (candidate_at (cuts_of candidates))) (take_more taken i 0 l) ∙ map-append (candidate_at (cuts_of candidates)) (take i taken) (get_or taken i 0 ∷ [])
    ∙ ap (λ (d : List ℕ). cuts_at candidates (take i taken) ++ d ∷ []) (cut_at candidates (get_or taken i 0) x inside)

-- the least flow of one cut more
pub least_push : (flows : List ℕ) (cs : List (List ℕ)) (c : List ℕ) → least_flow flows (cs ++ c ∷ []) ≡ min (least_flow flows cs) (cut_flow flows c)
least_push flows [] c = omega arith
least_push flows (d ∷ cs) c = omega (arith, least_push flows cs c)

pub least_capped : (flows : List ℕ) (cs : List (List ℕ)) → least_flow flows cs ≤ MOST_FLOW
least_capped flows [] = omega arith
least_capped flows (c ∷ cs) = omega (arith, least_capped flows cs)

pub least_low_push : (label : ℕ → ℕ) (most : ℕ) (lows : List ℕ) (cs : List (List ℕ)) (c : List ℕ) → least_flow lows (cuts_within label most (cs ++ c ∷ [])) ≡ min (least_flow lows (cuts_within label most cs)) (if nat_lt most (height label c) then MOST_FLOW else cut_flow lows c)
least_low_push label most lows [] c = grind arith
least_low_push label most lows (d ∷ cs) c = grind (arith, ltb, nat_lt, cond, least_low_push label most lows cs c)

pub low_value : (label h n low : ℕ) → (label < h → n ≡ MOST_FLOW) → (h ≤ label → n ≡ low) → n ≡ (if nat_lt label h then MOST_FLOW else low)
low_value label h n low high other = choose (λ (x : ℕ). n ≡ x) (nat_lt label h) MOST_FLOW low (λ e. high (ltb-true label h e)) (λ e. other (ltb-false label h e))
