-- Worked examples: which nodes a certificate claims.
--
-- The sources are the inputs 1 and 2. Nodes 3 and 4 are two products of them, for the roots 6 and 8, and each has the depth 1.
use Rattle.flow_cert.proofs.Common.{◌≡◌, ℕ, ◌/◌, ◌<◌, List, [], ◌∷◌, length, refl, sym, ap, ◌∙◌, inl, inr, arith, slice_get_within, Aig, Regular, Pair, label_at, StepValue, CertificateValue, node, complemented, IsFirstToNeed, IsShared, IsNeeded, root, shared, HasStep, AreNeeded}
use Rattle.flow_cert.proofs.TargetLemmas.{first_once}

abbrev pair : ℕ → ℕ → Pair
pair a b = record { x = record { 0 = a }; y = record { 0 = b } }

abbrev circuit : Aig
circuit = record { kinds = Regular ∷ Regular ∷ []; pairs = pair 2 4 ∷ pair 3 4 ∷ []; max = 2 }

abbrev label : ℕ → ℕ
label = label_at (0 ∷ 0 ∷ 0 ∷ 1 ∷ 1 ∷ [])

abbrev one_path : ℕ → List ℕ → StepValue
one_path n nodes = record { line = 0; node = n; claim = 1; paths = record { line = 0; nodes = nodes } ∷ [] }

abbrev certificate : List StepValue → CertificateValue
certificate steps = record { depth = 1; steps = steps }

-- Both roots need the depth, and node 3 is that of the first one.
first_root : IsFirstToNeed circuit label 1 (6 ∷ 8 ∷ []) 6
first_root = inl (node (omega arith, omega arith) (omega arith), refl)

-- a step with one path shares no nodes
unshared : (s : StepValue) (m : ℕ) → length s.paths ≡ 1 → IsShared s m → ⊥
unshared s m one h = let j : h.j < length s.paths = slice_get_within s.paths h.j h.q h.second in let o : h.i < h.j = h.order in absurd (omega arith)

-- So node 3 alone is claimed,
there : (m : ℕ) → IsNeeded circuit (6 ∷ 8 ∷ []) label (certificate (one_path 3 (1 ∷ 3 ∷ []) ∷ [])) m → HasStep (one_path 3 (1 ∷ 3 ∷ []) ∷ []) m
there m (root l p f and e) =
    let at : l ≡ 6 = first_once circuit label 1 (6 ∷ 8 ∷ []) l 6 f first_root in
    record { step = one_path 3 (1 ∷ 3 ∷ []); there = inl refl; is = sym (e ∙ ap (λ x. x / 2) at) }
there m (shared t i n h) = elim i [ inl e ↦ absurd (unshared t m (ap (λ (s : StepValue). length s.paths) e) h) | inr x ↦ absurd x ]

pub one_root : AreNeeded circuit (6 ∷ 8 ∷ []) label (certificate (one_path 3 (1 ∷ 3 ∷ []) ∷ []))
one_root = record {
  only = λ s i. elim i [
    | inl e ↦ root 6 (omega arith) first_root (omega arith, omega arith) (ap (λ (t : StepValue). t.node) e)
    | inr x ↦ absurd x
  ];
  all = there;
}

-- and a claim of node 4 beside it isn't needed.
abbrev both : List StepValue
both = one_path 3 (1 ∷ 3 ∷ []) ∷ one_path 4 (1 ∷ 4 ∷ []) ∷ []

pub no_other_root : IsNeeded circuit (6 ∷ 8 ∷ []) label (certificate both) 4 → ⊥
no_other_root (root l p f and e) =
    let at : l ≡ 6 = first_once circuit label 1 (6 ∷ 8 ∷ []) l 6 f first_root in
    let three : 4 ≡ 3 = e ∙ ap (λ x. x / 2) at in
    absurd (omega arith)
no_other_root (shared t i n h) = elim i [
  | inl e ↦ unshared t 4 (ap (λ (s : StepValue). length s.paths) e) h
  | inr j ↦ elim j [ inl e ↦ unshared t 4 (ap (λ (s : StepValue). length s.paths) e) h | inr x ↦ absurd x ]
]

-- Where the first root that needs the depth is the complement of input 1, nothing is claimed.
complement_first : IsFirstToNeed circuit label 1 (3 ∷ 6 ∷ []) 3
complement_first = inl (complemented refl (record { above = omega arith; is = refl }) refl, refl)

none_there : (m : ℕ) → IsNeeded circuit (3 ∷ 6 ∷ []) label (certificate []) m → ⊥
none_there m (root l p f and e) =
    let at : l ≡ 3 = first_once circuit label 1 (3 ∷ 6 ∷ []) l 3 f complement_first in
    let half : l / 2 ≡ 1 = ap (λ x. x / 2) at in
    absurd (omega (arith, and.0))
none_there m (shared t i n h) = absurd i

pub no_claim : AreNeeded circuit (3 ∷ 6 ∷ []) label (certificate [])
no_claim = record { only = λ s i. absurd i; all = λ m n. absurd (none_there m n) }

-- Two of three paths to a node 7 share the nodes 6 and 7, so the claim of node 6 is needed where that of node 7 is.
abbrev upper : StepValue
upper = record { line = 0; node = 7; claim = 2; paths = record { line = 0; nodes = 3 ∷ 7 ∷ [] } ∷ record { line = 0; nodes = 1 ∷ 4 ∷ 6 ∷ 7 ∷ [] } ∷ record { line = 0; nodes = 2 ∷ 5 ∷ 6 ∷ 7 ∷ [] } ∷ [] }

shares_six : IsShared upper 6
shares_six = record {
  i = 1;
  j = 2;
  p = record { line = 0; nodes = 1 ∷ 4 ∷ 6 ∷ 7 ∷ [] };
  q = record { line = 0; nodes = 2 ∷ 5 ∷ 6 ∷ 7 ∷ [] };
  order = omega arith;
  first = refl;
  second = refl;
  in_first = inr (inr (inl refl));
  in_second = inr (inr (inl refl));
  below = omega arith;
}

pub needs_six : (g : Aig) (roots : List ℕ) (label : ℕ → ℕ) (depth : ℕ) → IsNeeded g roots label (record { depth = depth; steps = upper ∷ [] }) 7 → IsNeeded g roots label (record { depth = depth; steps = upper ∷ [] }) 6
needs_six g roots label depth n = shared upper (inl refl) n shares_six
