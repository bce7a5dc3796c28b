-- Worked examples of the definitions: a diamond, a loop and a stop.
use Rattle.depth_first.proofs.Common.{◌≡◌, ℕ, zero, suc, List, [], ◌∷◌, Some, refl, inl, inr, arith, In, Node, Stop, Pass, Way, leads, stops, nodes_of, repeats, halts, Meets, met, goes, MeetsAll, stop, first, later, Posts, skips, posts, PostsAll, more, Reaches, here, through, ways_of}

-- edges that are passed over aren't seen
seen_ways : ways_of {S = ℕ} (Pass ∷ Node 3 ∷ Stop 7 ∷ Pass ∷ Node 2 ∷ []) ≡ leads 3 ∷ stops 7 ∷ leads 2 ∷ []
seen_ways = refl

seen_nodes : nodes_of {N = ℕ} {S = ℕ} (leads 3 ∷ stops 7 ∷ leads 2 ∷ []) ≡ 3 ∷ 2 ∷ []
seen_nodes = refl

-- a diamond: 0 leads to 1 and 2, and both of these lead to 3
abbrev diamond : ℕ → List (Way ℕ ℕ)
diamond zero = leads 1 ∷ leads 2 ∷ []
diamond (suc zero) = leads 3 ∷ []
diamond (suc (suc zero)) = leads 3 ∷ []
diamond (suc (suc (suc n))) = []

abbrev below : ℕ → List ℕ
below n = nodes_of (diamond n)

-- its postorder, the last first, is 0, 2, 1, 3
bottom_posts : Posts below [] 3 (3 ∷ [])
bottom_posts = posts [] (λ i. i) (PostsAll.none refl refl) refl

left_posts : Posts below [] 1 (1 ∷ 3 ∷ [])
left_posts = posts (3 ∷ []) (λ i. i) (more 3 [] (3 ∷ []) refl bottom_posts (PostsAll.none refl refl)) refl

right_new : In {A = ℕ} (1 ∷ 3 ∷ []) 2 → ⊥
right_new i = elim i [ inl e ↦ omega arith | inr j ↦ elim j [ inl e ↦ omega arith | inr k ↦ k ] ]

right_posts : Posts below (1 ∷ 3 ∷ []) 2 (2 ∷ 1 ∷ 3 ∷ [])
right_posts = posts (1 ∷ 3 ∷ []) right_new (more 3 [] (1 ∷ 3 ∷ []) refl (skips (inr (inl refl)) refl) (PostsAll.none refl refl)) refl

diamond_posts : Posts below [] 0 (0 ∷ 2 ∷ 1 ∷ 3 ∷ [])
diamond_posts = posts (2 ∷ 1 ∷ 3 ∷ []) (λ i. i) (more 1 (2 ∷ []) (1 ∷ 3 ∷ []) refl left_posts (more 2 [] (2 ∷ 1 ∷ 3 ∷ []) refl right_posts (PostsAll.none refl refl))) refl

diamond_reaches : Reaches below 0 3
diamond_reaches = through 2 (inr (inl refl)) (through 3 (inl refl) (here refl))

-- a loop: 0 leads to 1, and 1 to 0; it is found at 0, behind 0 and 1
abbrev ring : ℕ → List (Way ℕ ℕ)
ring zero = leads 1 ∷ []
ring (suc n) = leads 0 ∷ []

off_zero : In {A = ℕ} (0 ∷ []) 1 → ⊥
off_zero i = elim i [ inl e ↦ omega arith | inr j ↦ j ]

ring_meets : Meets ring [] 0 (Some (repeats 0 (1 ∷ 0 ∷ [])))
ring_meets = goes (λ i. i) (first 1 [] (repeats 0 (1 ∷ 0 ∷ [])) refl (goes off_zero (first 0 [] (repeats 0 (1 ∷ 0 ∷ [])) refl (met (inr (inl refl)) refl) refl)) refl)

-- a stop: 0 leads to 1, which leads on to nothing, and then has the stop 9
abbrev dead_end : ℕ → List (Way ℕ ℕ)
dead_end zero = leads 1 ∷ stops 9 ∷ leads 1 ∷ []
dead_end (suc n) = []

dead_end_meets : Meets dead_end [] 0 (Some (halts 9 (0 ∷ [])))
dead_end_meets = goes (λ i. i) (later 1 (stops 9 ∷ leads 1 ∷ []) refl (goes off_zero (MeetsAll.none refl refl)) (stop 9 (leads 1 ∷ []) refl refl))
