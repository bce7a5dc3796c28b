-- A worked example: the product of an input and an exclusive or of two others, which needs two LUTs of two leaves on a way.
--
-- The sources are the inputs 1, 2 and 3. Nodes 4 and 5 are the products of the exclusive or of inputs 1 and 2, node 6 is its
-- complement, and node 7 is the product of input 3 and the exclusive or.
use Rattle.cert_check.proofs.Common.{◌≡◌, ◌≢◌, ℕ, zero, suc, ◌+◌, ◌<◌, ◌≤◌, Bool, true, ◌||◌, not, eqb, leb, List, [], ◌∷◌, Some, refl, sym, subst, inl, inr, arith, slice_get, list_all, list_any, and_parts, or_cases, or_left, or_right, not-true, eqb-true, leb-true, eq-eqb, both_ways, none-some, same_Some, slice_get_within, Aig, Regular, Pair, In, PathValue, StepValue, CertificateValue, IsFanIn, first, second, IsPath, claim_of, IsJustified, node, complemented, IsReached, IsValid, MayStand, IsFault, IsLowerBound, PathCount, Shared, NotReached, ◌-◌, ◌/◌, ◌⊎◌, PathsFault, None, codes, WordsLine, says_claim, says_path, said_of, malformed_line, IsCertText, DepthFault, take, fan_in_cases}
use Rattle.cert_check.proofs.LeastLemmas.{valid_bound}
use Rattle.cert_check.proofs.StepLemmas.{get_taken}

abbrev pair : ℕ → ℕ → Pair
pair a b = record { x = record { 0 = a }; y = record { 0 = b } }

abbrev pub circuit : Aig
circuit = record { kinds = Regular ∷ Regular ∷ Regular ∷ []; pairs = pair 2 5 ∷ pair 3 4 ∷ pair 9 11 ∷ pair 6 13 ∷ []; max = 4 }

abbrev path : ℕ → List ℕ → PathValue
path line nodes = record { line = line; nodes = nodes }

-- node 6 is no less deep than 1, and node 7 than 2: its three paths share node 6 alone
abbrev lower : StepValue
lower = record { line = 2; node = 6; claim = 1; paths = path 3 (1 ∷ 4 ∷ 6 ∷ []) ∷ [] }

abbrev upper : StepValue
upper = record { line = 4; node = 7; claim = 2; paths = path 5 (3 ∷ 7 ∷ []) ∷ path 6 (1 ∷ 4 ∷ 6 ∷ 7 ∷ []) ∷ path 7 (2 ∷ 5 ∷ 6 ∷ 7 ∷ []) ∷ [] }

abbrev pub certificate : CertificateValue
certificate = record { depth = 2; steps = lower ∷ upper ∷ [] }

edge : (m n : ℕ) (p : Pair) → 4 ≤ n → slice_get circuit.pairs (n - 4) ≡ Some p → (m ≡ p.x.0 / 2) ⊎ (m ≡ p.y.0 / 2) → IsFanIn circuit m n
edge m n p l e (inl f) = first p (record { above = l; is = e }) f
edge m n p l e (inr f) = second p (record { above = l; is = e }) f

path_lower : IsPath circuit 6 (1 ∷ 4 ∷ 6 ∷ [])
path_lower = (record { above = omega arith; is = refl }, (edge 1 4 (pair 2 5) (omega arith) refl (inl refl), (edge 4 6 (pair 9 11) (omega arith) refl (inl refl), refl)))

path_three : IsPath circuit 7 (3 ∷ 7 ∷ [])
path_three = (record { above = omega arith; is = refl }, (edge 3 7 (pair 6 13) (omega arith) refl (inl refl), refl))

path_one : IsPath circuit 7 (1 ∷ 4 ∷ 6 ∷ 7 ∷ [])
path_one = (path_lower.0, (path_lower.1.0, (path_lower.1.1.0, (edge 6 7 (pair 6 13) (omega arith) refl (inr refl), refl))))

path_two : IsPath circuit 7 (2 ∷ 5 ∷ 6 ∷ 7 ∷ [])
path_two = (record { above = omega arith; is = refl }, (edge 2 5 (pair 3 4) (omega arith) refl (inr refl), (edge 5 6 (pair 9 11) (omega arith) refl (inr refl), (path_one.1.1.1.0, refl))))

-- a path that leaves out a node is none
no_path : IsPath circuit 6 (1 ∷ 6 ∷ []) → ⊥
no_path p = elim (fan_in_cases circuit 1 6 (pair 9 11) (record { above = omega arith; is = refl }) p.1.0) [ inl e ↦ (let q : 1 ≡ 4 = e in cc) | inr e ↦ (let q : 1 ≡ 5 = e in cc) ]

-- which nodes two lists share, by a test
abbrev has : List ℕ → ℕ → Bool
has ms m = list_any (λ x. eqb x m) ms

has_member : (ms : List ℕ) (m : ℕ) → In ms m → has ms m ≡ true
has_member [] m i = absurd i
has_member (x ∷ xs) m (inl e) = or_left (eqb x m) (list_any (λ y. eqb y m) xs) (eq-eqb x m (sym e))
has_member (x ∷ xs) m (inr i) = or_right (eqb x m) (list_any (λ y. eqb y m) xs) (has_member xs m i)

abbrev may_share : (ℕ → ℕ) → StepValue → List ℕ → ℕ → Bool
may_share claim s ms m = not (has ms m) || (eqb m s.node || leb s.claim (claim m + 1))

one_shares : (claim : ℕ → ℕ) (s : StepValue) (ms : List ℕ) (m : ℕ) → may_share claim s ms m ≡ true → In ms m → m ≢ s.node → s.claim ≤ claim m + 1
one_shares claim s ms m t i other = elim (or_cases (not (has ms m)) (eqb m s.node || leb s.claim (claim m + 1)) t) [
  | inl a ↦ absurd (both_ways (has ms m) (not-true (has ms m) a) (has_member ms m i))
  | inr b ↦ elim (or_cases (eqb m s.node) (leb s.claim (claim m + 1)) b) [ inl e ↦ absurd (other (eqb-true m s.node e)) | inr l ↦ leb-true s.claim (claim m + 1) l ]
]

-- a node may stand behind paths, by a test, and so each of some nodes
may : (claim : ℕ → ℕ) (s : StepValue) (earlier : List PathValue) (m : ℕ) → list_all (λ (p : PathValue). may_share claim s p.nodes m) earlier ≡ true → MayStand claim s earlier m
may claim s [] m t p i j other = absurd i
may claim s (q ∷ qs) m t p (inl e) j other = one_shares claim s q.nodes m (and_parts _ _ t).0 (subst (λ (r : PathValue). In r.nodes m) e j) other
may claim s (q ∷ qs) m t p (inr i) j other = may claim s qs m (and_parts (may_share claim s q.nodes m) _ t).1 p i j other

all_may : (claim : ℕ → ℕ) (s : StepValue) (earlier : List PathValue) (ms : List ℕ) → list_all (λ m. list_all (λ (p : PathValue). may_share claim s p.nodes m) earlier) ms ≡ true → (m : ℕ) → In ms m → MayStand claim s earlier m
all_may claim s earlier [] t m i = absurd i
all_may claim s earlier (n ∷ ns) t m (inl e) = subst (MayStand claim s earlier) (sym e) (may claim s earlier n (and_parts _ _ t).0)
all_may claim s earlier (n ∷ ns) t m (inr i) = all_may claim s earlier ns (and_parts (list_all (λ (p : PathValue). may_share claim s p.nodes n) earlier) _ t).1 m i

apart : (i j m : ℕ) (p q : PathValue) → i < j → slice_get upper.paths i ≡ Some p → slice_get upper.paths j ≡ Some q → In p.nodes m → In q.nodes m → m ≢ 7 → 2 ≤ claim_of certificate.steps m + 1
apart i zero m p q l e f a b other = absurd (omega arith)
apart i (suc zero) m p q l e f a b other =
    let same : path 6 (1 ∷ 4 ∷ 6 ∷ 7 ∷ []) ≡ q = same_Some _ q f in
    all_may (claim_of certificate.steps) upper (take 1 upper.paths) (1 ∷ 4 ∷ 6 ∷ 7 ∷ []) refl m (subst (λ (r : PathValue). In r.nodes m) (sym same) b) p (get_taken upper.paths i 1 p l e) a other
apart i (suc (suc zero)) m p q l e f a b other =
    let same : path 7 (2 ∷ 5 ∷ 6 ∷ 7 ∷ []) ≡ q = same_Some _ q f in
    all_may (claim_of certificate.steps) upper (take 2 upper.paths) (2 ∷ 5 ∷ 6 ∷ 7 ∷ []) refl m (subst (λ (r : PathValue). In r.nodes m) (sym same) b) p (get_taken upper.paths i 2 p l e) a other
apart i (suc (suc (suc j))) m p q l e f a b other = absurd (none-some q f)

upper_paths : (p : PathValue) → In upper.paths p → IsPath circuit 7 p.nodes
upper_paths p (inl e) = rw e path_three
upper_paths p (inr (inl e)) = rw e path_one
upper_paths p (inr (inr (inl e))) = rw e path_two
upper_paths p (inr (inr (inr x))) = absurd x

upper_shown : IsJustified circuit 2 (claim_of certificate.steps) upper
upper_shown = record { count = refl; paths = upper_paths; apart = apart }

lower_shown : IsJustified circuit 2 (claim_of certificate.steps) lower
lower_shown = record {
  count = refl;
  paths = λ p i. elim i [ inl e ↦ rw e path_lower | inr x ↦ absurd x ];
  apart = λ i j m p q l e f a b other. absurd (let one : j < 1 = slice_get_within lower.paths j q f in omega arith);
}

-- The certificate is valid for the root 14, the literal of node 7, so no cover by tables of two leaves has a depth below 2.
pub valid : IsValid circuit (14 ∷ []) 2 certificate
valid = record {
  ascending = (λ n i. elim i [ inl e ↦ (let q : n ≡ 7 = e in omega arith) | inr x ↦ absurd x ], (λ n i. absurd i, tt));
  nodes = λ s i. elim i [ inl e ↦ rw e (omega arith, omega arith) | inr j ↦ elim j [ inl e ↦ rw e (omega arith, omega arith) | inr x ↦ absurd x ] ];
  justified = λ s i. elim i [ inl e ↦ rw e lower_shown | inr j ↦ elim j [ inl e ↦ rw e upper_shown | inr x ↦ absurd x ] ];
  reached = inr (inl (node (omega arith, omega arith) (omega arith)));
}

pub bound : IsLowerBound circuit 2 (14 ∷ []) 2
bound = valid_bound circuit (14 ∷ []) 2 certificate valid

-- Without the claim of node 6 the third path, in line 7, may not share it with the second one.
abbrev unclaimed : CertificateValue
unclaimed = record { depth = 2; steps = upper ∷ [] }

abbrev before_third : List PathValue
before_third = path 5 (3 ∷ 7 ∷ []) ∷ path 6 (1 ∷ 4 ∷ 6 ∷ 7 ∷ []) ∷ []

shared_node : MayStand (claim_of []) upper before_third 6 → ⊥
shared_node may = let l : 2 ≤ 0 + 1 = may (path 6 (1 ∷ 4 ∷ 6 ∷ 7 ∷ [])) (inr (inl refl)) (inr (inr (inl refl))) (λ e. let q : 6 ≡ 7 = e in omega arith) in omega arith

third_fault : (R : Type 0) → PathsFault circuit (claim_of []) upper before_third (path 7 (2 ∷ 5 ∷ 6 ∷ 7 ∷ []) ∷ []) R (Shared 7 6)
third_fault R = let stands = may (claim_of []) upper before_third in inr (path_two, inr (stands 2 refl, inr (stands 5 refl, inl (shared_node, refl))))

second_fault : (R : Type 0) → PathsFault circuit (claim_of []) upper (path 5 (3 ∷ 7 ∷ []) ∷ []) (path 6 (1 ∷ 4 ∷ 6 ∷ 7 ∷ []) ∷ path 7 (2 ∷ 5 ∷ 6 ∷ 7 ∷ []) ∷ []) R (Shared 7 6)
second_fault R =
    let stands = may (claim_of []) upper (path 5 (3 ∷ 7 ∷ []) ∷ []) in
    inr (path_one, inr (stands 1 refl, inr (stands 4 refl, inr (stands 6 refl, inr (stands 7 refl, third_fault R)))))

pub shared : IsFault circuit (14 ∷ []) 2 unclaimed (Shared 7 6)
shared =
    inr (
      record { and = (omega arith, omega arith); above = λ t i. absurd i },
      inr (refl, inr (path_three, inr (may (claim_of []) upper [] 3 refl, inr (may (claim_of []) upper [] 7 refl, second_fault (DepthFault circuit (14 ∷ []) unclaimed (Shared 7 6)))))),
    )

-- two paths are too few for a claim of 2
pub too_few : IsFault circuit (14 ∷ []) 2 (record { depth = 2; steps = record { line = 4; node = 7; claim = 2; paths = path 5 (3 ∷ 7 ∷ []) ∷ path 6 (1 ∷ 4 ∷ 6 ∷ 7 ∷ []) ∷ [] } ∷ [] }) (PathCount 4)
too_few = inr (record { and = (omega arith, omega arith); above = λ t i. absurd i }, inl ((λ e. let q : 2 ≡ 3 = e in omega arith), refl))

-- no root needs a depth that isn't claimed, and a root that is the complement of an input needs the depth 1
not_needed : IsReached circuit (14 ∷ []) (claim_of []) 3 → ⊥
not_needed (inl e) = cc
not_needed (inr (inl (node and l))) = let q : 3 ≤ 0 = l in omega arith
not_needed (inr (inl (complemented e s odd))) = cc
not_needed (inr (inr x)) = x

pub not_reached : IsFault circuit (14 ∷ []) 2 (record { depth = 3; steps = [] }) NotReached
not_reached = inl (not_needed, refl)

pub complement_needs : IsReached circuit (3 ∷ []) (claim_of []) 1
complement_needs = inr (inl (complemented refl (record { above = omega arith; is = refl }) refl))

claim_is_said : said_of (codes "claim" ∷ codes "6" ∷ codes "1" ∷ []) ≡ Some (says_claim 6 1)
claim_is_said = refl

path_is_said : said_of (codes "path" ∷ codes "1" ∷ codes "4" ∷ codes "4294967295" ∷ []) ≡ Some (says_path (1 ∷ 4 ∷ 4294967295 ∷ []))
path_is_said = refl

-- a claim of 0, a path of one node, a number that begins with 0, and one that is too great
no_claim : said_of (codes "claim" ∷ codes "6" ∷ codes "0" ∷ []) ≡ None
no_claim = refl

one_node : said_of (codes "path" ∷ codes "1" ∷ []) ≡ None
one_node = refl

leading_zero : said_of (codes "depth" ∷ codes "01" ∷ []) ≡ None
leading_zero = refl

too_great : said_of (codes "depth" ∷ codes "4294967296" ∷ []) ≡ None
too_great = refl

-- A text and its certificate. A line that is a comment has no part in it, but counts.
abbrev read : CertificateValue
read = record { depth = 1; steps = record { line = 3; node = 4; claim = 1; paths = record { line = 4; nodes = 1 ∷ 4 ∷ [] } ∷ [] } ∷ [] }

pub text : IsCertText (codes "depth 1\n# why\nclaim 4 1\npath 1 4\n") read
text = record {
  lines = record { number = 1; tokens = record { start = 0; end = 5 } ∷ record { start = 6; end = 7 } ∷ [] }
      ∷ record { number = 3; tokens = record { start = 14; end = 19 } ∷ record { start = 20; end = 21 } ∷ record { start = 22; end = 23 } ∷ [] }
      ∷ record { number = 4; tokens = record { start = 24; end = 28 } ∷ record { start = 29; end = 30 } ∷ record { start = 31; end = 32 } ∷ [] } ∷ [];
  lines_are = refl;
  are = (refl, (refl, refl, (refl, refl, tt)));
}

-- Without a line the first one is missing.
nothing : malformed_line [] ≡ Some 1
nothing = refl

-- A path behind the depth belongs to no step, and the depth stands once.
abbrev line : ℕ → List (List ℕ) → WordsLine
line number words = record { number = number; words = words }

stray_path : malformed_line (line 1 (codes "depth" ∷ codes "1" ∷ []) ∷ line 3 (codes "path" ∷ codes "1" ∷ codes "4" ∷ []) ∷ []) ≡ Some 3
stray_path = refl

depth_again : malformed_line (line 1 (codes "depth" ∷ codes "1" ∷ []) ∷ line 2 (codes "claim" ∷ codes "4" ∷ codes "1" ∷ []) ∷ line 3 (codes "depth" ∷ codes "1" ∷ []) ∷ []) ≡ Some 3
depth_again = refl

claim_first : malformed_line (line 2 (codes "claim" ∷ codes "4" ∷ codes "1" ∷ []) ∷ []) ≡ Some 2
claim_first = refl
