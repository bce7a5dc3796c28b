-- Flows and candidates of a node rest on the rows of the nodes below it alone, so they stay when a row is appended.
use Rattle.bounded_cuts.proofs.Common.{◌≡◌, ℕ, zero, suc, ◌/◌, ◌<◌, ◌≤◌, max, Bool, if◌then◌else◌, nat_lt, List, [], ◌∷◌, ◌++◌, refl, sym, ap, subst, ◌∙◌, arith, div-le_self, choose_one, MOST_FLOW, AreCapped, row_at, Aig, AreNormal, IsNormal, first_and, node_normal, Scope, AreCandidates, HandsOn, free, source, node, allowed_row, flows_below, least_flow, node_flow, IsTaken}
use Rattle.bounded_cuts.proofs.SetLemmas.{least_capped}

-- rows that agree below a node
abbrev pub AgreeBelow : List (List (List ℕ)) → List (List (List ℕ)) → ℕ → Type 0
AgreeBelow rows more n = (m : ℕ) → m < n → row_at more m ≡ row_at rows m

pub flows_agree : (g : Aig) (scope : Scope) (label : ℕ → ℕ) (rows more : List (List (List ℕ))) (counts : ℕ → ℕ) (n : ℕ) → AgreeBelow rows more n → flows_below g scope label more counts n ≡ flows_below g scope label rows counts n
flows_agree g scope label rows more counts zero same = refl
flows_agree g scope label rows more counts (suc n) same = grind (arith, nat_lt, flows_agree g scope label rows more counts n (λ m l. same m (omega arith)))

-- no flow is greater than the most
node_capped : (g : Aig) (scope : Scope) (label : ℕ → ℕ) (rows : List (List (List ℕ))) (counts : ℕ → ℕ) (flows : List ℕ) (n : ℕ) → node_flow g scope label rows counts flows n ≤ MOST_FLOW
node_capped g scope label rows counts flows n = grind (arith, choose_one, nat_lt, div-le_self, least_capped)

capped_push : (xs : List ℕ) (y : ℕ) → AreCapped xs → y ≤ MOST_FLOW → AreCapped (xs ++ y ∷ [])
capped_push [] y h l zero = l
capped_push [] y h l (suc m) = h m
capped_push (x ∷ xs) y h l zero = h zero
capped_push (x ∷ xs) y h l (suc m) = capped_push xs y (λ j. h (suc j)) l m

pub flows_capped : (g : Aig) (scope : Scope) (label : ℕ → ℕ) (rows : List (List (List ℕ))) (counts : ℕ → ℕ) (n : ℕ) → AreCapped (flows_below g scope label rows counts n)
flows_capped g scope label rows counts zero = λ m. omega arith
flows_capped g scope label rows counts (suc n) = capped_push (flows_below g scope label rows counts n) (node_flow g scope label rows counts (flows_below g scope label rows counts n) n) (flows_capped g scope label rows counts n) (node_capped g scope label rows counts (flows_below g scope label rows counts n) n)

hands_agree : (g : Aig) (rows more : List (List (List ℕ))) (m : ℕ) (front : List (List ℕ)) → row_at more m ≡ row_at rows m → HandsOn g rows m front → HandsOn g more m front
hands_agree g rows more m front e (free b is) = free b is
hands_agree g rows more m front e (source s is) = source s is
hands_agree g rows more m front e (node a live is) = node a live (is ∙ ap (λ (row : List (List ℕ)). (m ∷ []) ∷ row) (sym e))

pub candidates_agree : (g : Aig) (k : ℕ) (label : ℕ → ℕ) (low : List ℕ) (rows more : List (List (List ℕ))) (n : ℕ) (cs : List (List ℕ)) → AreNormal (first_and g) g.pairs → AgreeBelow rows more n → AreCandidates g k label low rows n cs → AreCandidates g k label low more n cs
candidates_agree g k label low rows more n cs normal same are = grind (arith, node_normal, hands_agree)

-- a set over equal flows
pub taken_as : (k : ℕ) (label : ℕ → ℕ) (r : ℕ) (flows lows more_flows more_lows : List ℕ) (favoured : ℕ → Bool) (cs set more : List (List ℕ)) → flows ≡ more_flows → lows ≡ more_lows → set ≡ more → IsTaken k label r flows lows favoured cs set → IsTaken k label r more_flows more_lows favoured cs more
taken_as k label r flows lows more_flows more_lows favoured cs set more e el es is = grind arith
