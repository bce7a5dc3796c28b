-- Depth-first walks: what one without memory ends at first, the postorder, and what one does that passes over the nodes that were entered before.
use Rattle.std.specs.Prelude.{◌≡◌, List, [], ◌∷◌, Option, Some, None}
use Rattle.list_laws.specs.Members.{In}

-- where an edge leads: to a node, or nowhere, and it ends the walk
pub data Way (N S : Type 0) : Type 0 where
  leads : N → Way N S
  stops : S → Way N S

-- what ends a walk early: a node that is met again on the current path, or a stop, with that path, the last node first
pub data Ending (N S : Type 0) : Type 0 where
  repeats : N → List N → Ending N S
  halts : S → List N → Ending N S

-- the nodes that edges lead to
abbrev pub nodes_of : {N S : Type 0} → List (Way N S) → List N
nodes_of [] = []
nodes_of (leads n ∷ ws) = n ∷ nodes_of ws
nodes_of (stops s ∷ ws) = nodes_of ws

-- the walk from a node, and along several edges in turn, comes to its first end or to none
mutual
  pub data Meets {N S : Type 0} (ways : N → List (Way N S)) : List N → N → Option (Ending N S) → Type 0 where
    met : {path : List N} {n : N} {result : Option (Ending N S)} → In path n → result ≡ Some (repeats n path) → Meets ways path n result
    goes : {path : List N} {n : N} {result : Option (Ending N S)} → ¬ (In path n) → MeetsAll ways (n ∷ path) (ways n) result → Meets ways path n result

  pub data MeetsAll {N S : Type 0} (ways : N → List (Way N S)) : List N → List (Way N S) → Option (Ending N S) → Type 0 where
    none : {path : List N} {ws : List (Way N S)} {result : Option (Ending N S)} → ws ≡ [] → result ≡ None → MeetsAll ways path ws result
    stop : {path : List N} {ws : List (Way N S)} {result : Option (Ending N S)} (s : S) (rest : List (Way N S)) → ws ≡ stops s ∷ rest → result ≡ Some (halts s path) → MeetsAll ways path ws result
    first : {path : List N} {ws : List (Way N S)} {result : Option (Ending N S)} (n : N) (rest : List (Way N S)) (end : Ending N S) → ws ≡ leads n ∷ rest → Meets ways path n (Some end) → result ≡ Some end → MeetsAll ways path ws result
    later : {path : List N} {ws : List (Way N S)} {result : Option (Ending N S)} (n : N) (rest : List (Way N S)) → ws ≡ leads n ∷ rest → Meets ways path n None → MeetsAll ways path rest result → MeetsAll ways path ws result

-- the postorder, the last first: what a visit of a node, or of several left to right, makes of the nodes that are done
mutual
  pub data Posts {N : Type 0} (next : N → List N) : List N → N → List N → Type 0 where
    skips : {done : List N} {n : N} {result : List N} → In done n → result ≡ done → Posts next done n result
    posts : {done : List N} {n : N} {result : List N} (below : List N) → ¬ (In done n) → PostsAll next done (next n) below → result ≡ n ∷ below → Posts next done n result

  pub data PostsAll {N : Type 0} (next : N → List N) : List N → List N → List N → Type 0 where
    none : {done ns result : List N} → ns ≡ [] → result ≡ done → PostsAll next done ns result
    more : {done ns result : List N} (n : N) (rest below : List N) → ns ≡ n ∷ rest → Posts next done n below → PostsAll next below rest result → PostsAll next done ns result

-- what a walk that passes over nodes that were entered before does: it comes to an end, or it has entered these nodes, the last first
pub data WalkOutcome (N S : Type 0) : Type 0 where
  ends_at : Ending N S → WalkOutcome N S
  goes_through : List N → WalkOutcome N S

pub data Enters {N S : Type 0} (ways : N → List (Way N S)) : List N → List N → List (Way N S) → WalkOutcome N S → Type 0 where
  ended : {path before : List N} {ws : List (Way N S)} {result : WalkOutcome N S} → ws ≡ [] → result ≡ goes_through before → Enters ways path before ws result
  stopped_at : {path before : List N} {ws : List (Way N S)} {result : WalkOutcome N S} (s : S) (rest : List (Way N S)) → ws ≡ stops s ∷ rest → result ≡ ends_at (halts s path) → Enters ways path before ws result
  back : {path before : List N} {ws : List (Way N S)} {result : WalkOutcome N S} (n : N) (rest : List (Way N S)) → ws ≡ leads n ∷ rest → In path n → result ≡ ends_at (repeats n path) → Enters ways path before ws result
  again : {path before : List N} {ws : List (Way N S)} {result : WalkOutcome N S} (n : N) (rest : List (Way N S)) → ws ≡ leads n ∷ rest → ¬ (In path n) → In before n → Enters ways path before rest result → Enters ways path before ws result
  inside : {path before : List N} {ws : List (Way N S)} {result : WalkOutcome N S} (n : N) (rest : List (Way N S)) (end : Ending N S) → ws ≡ leads n ∷ rest → ¬ (In path n) → ¬ (In before n)
      → Enters ways (n ∷ path) (n ∷ before) (ways n) (ends_at end) → result ≡ ends_at end → Enters ways path before ws result
  onward : {path before : List N} {ws : List (Way N S)} {result : WalkOutcome N S} (n : N) (rest : List (Way N S)) (after : List N) → ws ≡ leads n ∷ rest → ¬ (In path n) → ¬ (In before n)
      → Enters ways (n ∷ path) (n ∷ before) (ways n) (goes_through after) → Enters ways path after rest result → Enters ways path before ws result
