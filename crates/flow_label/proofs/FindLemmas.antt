-- A search from one end after another.
use Rattle.flow_label.proofs.Common.{◌≡◌, ℕ, ◌+◌, ◌-◌, ◌*◌, ◌<◌, ◌≤◌, Bool, true, false, List, [], ◌∷◌, ◌++◌, length, get_or, refl, sym, subst, inl, inr, arith, In, In-place, apart_short, SiteValue, net_of, IsNet, IsEnd, IsOpen, AreEnds, AreLinks, owner_in, IsHandedOn, AreMet, IsFound, IsBlocked, IsSearching, HasMet}
use Rattle.flow_label.proofs.SearchLemmas.{IsAfter, goes_on, comes_last, comes_end, end_node, met_extends, met_short}
use Rattle.flow_label.proofs.HandLemmas.{found_last}

-- a list of length 0
pub none_left : (xs : List ℕ) → length xs ≡ 0 → xs ≡ []
none_left [] e = refl
none_left (x ∷ xs) e = absurd (omega arith)

module _ (site : SiteValue) (owners starts : List ℕ) (links : AreLinks site owners starts) (is : IsNet (net_of site)) where
  -- an end is met
  module _ (seen queue backs passed stack : List ℕ) (m : ℕ) (k : IsSearching (net_of site) (owner_in site owners) seen queue backs passed []) (none : stack ≡ []) (end : IsEnd (net_of site) m)
      (e : Bool) (seen' queue' backs' stack' : List ℕ) (step : HasMet (net_of site) (owner_in site owners) m 0 seen queue backs stack seen' queue' backs' stack' e) where
    searching_all : IsSearching (net_of site) (owner_in site owners) seen queue backs passed ([] ++ stack)
    searching_all = subst (λ x. IsSearching (net_of site) (owner_in site owners) seen queue backs passed x) (sym none) k

    after : e ≡ false → IsAfter (net_of site) (owner_in site owners) m queue seen' queue' backs' passed ([] ++ stack')
    after f = goes_on (net_of site) (owner_in site owners) [] stack seen queue backs passed m 0 searching_all (λ l. end_node (net_of site) is m end l) (λ l. comes_end (net_of site) (owner_in site owners) queue m end) e seen' queue' backs' stack' step f

    pub end_found : e ≡ true → IsFound site owners queue' backs'
    end_found f = found_last site owners starts links queue queue' backs'
        (comes_last (net_of site) (owner_in site owners) [] stack seen queue backs passed m 0 searching_all (λ l. end_node (net_of site) is m end l) (λ l. comes_end (net_of site) (owner_in site owners) queue m end) e seen' queue' backs' stack' step f)

    pub end_met : (passed' : List ℕ) → passed' ≡ passed → e ≡ false → IsSearching (net_of site) (owner_in site owners) seen' queue' backs' passed' stack'
    end_met passed' p f = subst (λ x. IsSearching (net_of site) (owner_in site owners) seen' queue' backs' x stack') (sym p) (after f).searching

    pub end_there : e ≡ false → IsOpen (net_of site) m → In queue' m
    end_there f reached = (after f).there reached

    pub end_kept : (u : ℕ) → In queue u → In queue' u
    end_kept = (met_extends (net_of site) (owner_in site owners) m 0 e seen queue backs stack seen' queue' backs' stack' step).kept

  -- one place less waits, or more nodes were met
  pub search_smaller : (queue backs queue' backs' : List ℕ) (stack left stack' : ℕ) → AreMet (net_of site) (owner_in site owners) queue backs → AreMet (net_of site) (owner_in site owners) queue' backs' → ((u : ℕ) → In queue u → In queue' u)
      → left + 1 ≡ stack → stack' + length queue ≡ left + length queue' → 2 * (site.node - length queue') + stack' < 2 * (site.node - length queue) + stack
  search_smaller queue backs queue' backs' stack left stack' was met kept less more =
      omega (arith, apart_short queue queue' was.once kept, met_short (net_of site) (owner_in site owners) queue' backs' met)

-- all ends were met, and all that was met was handed on
pub blocked : (site : SiteValue) (owners seen queue backs passed ends : List ℕ) (n : ℕ) → IsSearching (net_of site) (owner_in site owners) seen queue backs passed [] → AreEnds (net_of site) ends → ((j : ℕ) → j < n → IsOpen (net_of site) (get_or ends j 0) → In queue (get_or ends j 0)) → length ends ≤ n
    → IsBlocked site owners queue backs passed
blocked site owners seen queue backs passed ends n k are begun all = record {
  met = k.met;
  ends = λ u e reached. let r = In-place ends u (are.all u e) in let l : r.0 < length ends = r.1 in subst (λ x. In queue x) r.2 (begun r.0 (omega arith) (subst (λ x. IsOpen (net_of site) x) (sym r.2) reached));
  handed = λ u i. let r = In-place queue u i in elim (k.handed r.0 r.1) [ inl b ↦ absurd b | inr h ↦ subst (λ x. IsHandedOn (net_of site) (owner_in site owners) queue x) r.2 h ];
  passed_are = k.passed_are;
}
