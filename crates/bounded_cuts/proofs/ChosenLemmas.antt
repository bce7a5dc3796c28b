-- What a taking rests on: the candidates of a node are cuts of it, and cost what they are priced.
use Rattle.bounded_cuts.proofs.Common.{◌≡◌, ℕ, ◌<◌, List, length, [], sym, ap, ◌∙◌, arith, length-map, In, In-get_or, label_at, IsAnd, IsCut, Candidate, candidate_at, cuts_at, cuts_of, pricing, ArePriced, CanTake, Worth, Wanted, AreCandidates, AreMade, CanMake, low_in}
use Rattle.bounded_cuts.proofs.CutLemmas.{candidate_cut}
use Rattle.bounded_cuts.proofs.MakingLemmas.{rows_cut}

module _ (w : Wanted) (n : ℕ) (rows : List (List (List ℕ))) (worths : List Worth) (can : CanMake w) (made : AreMade w n rows worths) (and : IsAnd w.graph.now n) (candidates : List Candidate) (are : AreCandidates w.graph.now w.k (label_at w.labels.now) (low_in w.lows.now n) rows n (cuts_of candidates)) where
  pub chosen_cut : (c : List ℕ) → In (cuts_of candidates) c → IsCut w.graph.now w.k n c
  chosen_cut = candidate_cut w.graph.now w.k (label_at w.labels.now) (low_in w.lows.now n) rows n (cuts_of candidates) can.normal (rows_cut w n rows worths can made) (can.lows.cut n and) are

  pub can_take : ArePriced (pricing w.labels.now w.favoured.now worths) candidates → CanTake (pricing w.labels.now w.favoured.now worths) (label_at w.labels.now n) candidates
  can_take priced =
      let cut : (i : ℕ) → i < length candidates → IsCut w.graph.now w.k n (candidate_at (cuts_of candidates) i) =
      (λ i l. chosen_cut _ (In-get_or (cuts_of candidates) i [] (omega (arith, length-map candidates (λ (d : Candidate). d.cut))))) in
      record {
        priced = priced;
        ascending = λ i l. (cut i l).ascending;
        label_is_least = λ i l. can.labels.least n (candidate_at (cuts_of candidates) i) and (cut i l);
      }

-- the cuts at some places, said of equal lists
pub cuts_seen : (seen candidates : List Candidate) (places taken : List ℕ) (set : List (List ℕ)) → seen ≡ candidates → places ≡ taken → set ≡ cuts_at candidates taken → cuts_at seen places ≡ set
cuts_seen seen candidates places taken set e et is = ap (λ (l : List Candidate). cuts_at l places) e ∙ ap (cuts_at candidates) et ∙ sym is
