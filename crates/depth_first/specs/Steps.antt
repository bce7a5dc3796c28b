-- The steps of a walk over a graph's edges.
use Rattle.std.specs.Prelude.{◌≡◌, ℕ, zero, suc, ◌+◌, ◌<◌, ◌⊎◌, List, [], ◌∷◌, length, drop, Option, Some, None, slice_get}
use Rattle.list_laws.specs.Members.{In}
use Rattle.depth_first.specs.declared.edge.Edge.{Edge}
use Rattle.depth_first.specs.declared.edge.Edge.TheVariants.{Node, Stop, Pass}
use Rattle.depth_first.specs.declared.edge.End.{End}
use Rattle.depth_first.specs.declared.edge.End.TheVariants.{Loop, Stop as stopped}
use Rattle.depth_first.specs.declared.frames.Frame.{Frame}
use Rattle.depth_first.specs.declared.frames.Mark.{Mark}
use Rattle.depth_first.specs.declared.frames.Mark.TheVariants.{New, OnPath, Done}
use Rattle.depth_first.specs.DepthFirst.{Way, Ending, nodes_of, MeetsAll, PostsAll, WalkOutcome, ends_at, goes_through, Enters}
use Rattle.depth_first.specs.Order.{LeadsInto, IsSettled}
use Rattle.depth_first.specs.Edges.{AreNodes, ways_of, ways_from, successors}
use Rattle.depth_first.specs.Walk.{WalkValue, ending_of, leads_to}
use Rattle.depth_first.specs.Frames.{FramesValue, path_of, entered, AreMarks}

-- an edge leads nowhere, or to a node below the count
abbrev pub IsEdgeWithin : {S : Type 0} → Edge S → ℕ → Type 0
IsEdgeWithin (Node n) count = n < count
IsEdgeWithin (Stop s) count = Unit {0}
IsEdgeWithin Pass count = Unit {0}

-- an edge is followed: one to a new node enters it, one to the path or to a stop ends the walk, and others are passed
pub data Followed {S : Type 0} (w : FramesValue) (edge : Edge S) (v : FramesValue) (found : Option (End S)) : Type 0 where
  passes : edge ≡ Pass → v ≡ w → found ≡ None → Followed w edge v found
  stops_at : (s : S) → edge ≡ Stop s → v ≡ w → found ≡ Some (stopped s) → Followed w edge v found
  enters : (n : ℕ) → edge ≡ Node n → slice_get w.marks n ≡ Some New → v ≡ entered w n → found ≡ None → Followed w edge v found
  hits : (n : ℕ) → edge ≡ Node n → slice_get w.marks n ≡ Some OnPath → v ≡ w → found ≡ Some (Loop n) → Followed w edge v found
  skips_over : (n : ℕ) → edge ≡ Node n → slice_get w.marks n ≡ Some Done → v ≡ w → found ≡ None → Followed w edge v found

-- what a frame has still to follow
abbrev pub left_of : {S : Type 0} → (ℕ → List (Edge S)) → Frame → List (Edge S)
left_of edges f = drop f.place (edges f.node)

-- the work that is left: of the frames, and of the nodes that are new
abbrev pub frames_work : {S : Type 0} → (ℕ → List (Edge S)) → List Frame → ℕ
frames_work edges [] = 0
frames_work edges (f ∷ fs) = 1 + length (left_of edges f) + frames_work edges fs

abbrev pub mark_work : Mark → ℕ → ℕ
mark_work New n = 1 + n
mark_work OnPath n = 0
mark_work Done n = 0

abbrev pub new_work : {S : Type 0} → (ℕ → List (Edge S)) → List Mark → ℕ
new_work edges [] = 0
new_work edges (m ∷ ms) = mark_work m (length (edges zero)) + new_work (λ n. edges (suc n)) ms

abbrev pub walk_work : {S : Type 0} → (ℕ → List (Edge S)) → FramesValue → ℕ
walk_work edges w = new_work edges w.marks + frames_work edges w.stack

-- what the rest of the walk comes to, where the frames' nodes are begun
abbrev pub MeetsLeft : {S : Type 0} → (ℕ → List (Edge S)) → List Frame → Option (Ending ℕ S) → Type 0
MeetsLeft edges [] result = result ≡ None
MeetsLeft {S} edges (f ∷ fs) result =
    ((end : Ending ℕ S) × (MeetsAll (ways_from edges) (f.node ∷ path_of fs) (ways_of (left_of edges f)) (Some end) × (result ≡ Some end)))
    ⊎ (MeetsAll (ways_from edges) (f.node ∷ path_of fs) (ways_of (left_of edges f)) None × MeetsLeft edges fs result)

-- the order that the rest of the walk makes
abbrev pub PostsLeft : {S : Type 0} → (ℕ → List (Edge S)) → List ℕ → List Frame → List ℕ → Type 0
PostsLeft edges done [] result = result ≡ done
PostsLeft edges done (f ∷ fs) result =
    (below : List ℕ) × (PostsAll (successors edges) done (nodes_of (ways_of (left_of edges f))) below × PostsLeft edges (f.node ∷ below) fs result)

-- what the rest of the walk does, where it passes over the nodes that were entered before
abbrev pub EntersLeft : {S : Type 0} → (ℕ → List (Edge S)) → List ℕ → List Frame → WalkOutcome ℕ S → Type 0
EntersLeft edges before [] result = result ≡ goes_through before
EntersLeft {S} edges before (f ∷ fs) result =
    ((end : Ending ℕ S) × (Enters (ways_from edges) (f.node ∷ path_of fs) before (ways_of (left_of edges f)) (ends_at end) × (result ≡ ends_at end)))
    ⊎ ((after : List ℕ) × (Enters (ways_from edges) (f.node ∷ path_of fs) before (ways_of (left_of edges f)) (goes_through after) × EntersLeft edges after fs result))

-- each way on from a frame's node leads to a node that is done, or to the next one on the path, or is still to follow
abbrev pub ArePassed : {S : Type 0} → (ℕ → List (Edge S)) → List ℕ → List ℕ → List Frame → Type 0
ArePassed edges order above [] = Unit {0}
ArePassed {S} edges order above (f ∷ fs) =
    ((way : Way ℕ S) → In (ways_from edges f.node) way → LeadsInto above way ⊎ In (ways_of (left_of edges f)) way) × ArePassed edges order (f.node ∷ order) fs

-- the state of a walk over these edges
pub record IsGoing {S : Type 0} (edges : ℕ → List (Edge S)) (IsNode : ℕ → Type 0) (w : FramesValue) : Type 0 where
  pub marks : AreMarks w.marks w.begun w.order (path_of w.stack)
  pub settled : IsSettled (ways_from edges) w.order
  pub nodes : (n : ℕ) → In (path_of w.stack) n → IsNode n
  pub passed : ArePassed edges w.order w.order w.stack

-- visits can begin: each node has a mark, the marks fit, the nodes that are done are settled, and no path is left
pub record CanVisit {S : Type 0} (edges : ℕ → List (Edge S)) (IsNode : ℕ → Type 0) (w : FramesValue) : Type 0 where
  pub nodes : AreNodes IsNode (successors edges) (length w.marks)
  pub marks : AreMarks w.marks w.begun w.order (path_of w.stack)
  pub settled : IsSettled (ways_from edges) w.order
  pub empty : w.stack ≡ []

-- v stands later in the walk than w
pub record IsLater {S : Type 0} (edges : ℕ → List (Edge S)) (IsNode : ℕ → Type 0) (w v : FramesValue) : Type 0 where
  pub long : length v.marks ≡ length w.marks
  pub going : IsGoing edges IsNode v
  pub meets : (result : Option (Ending ℕ S)) → MeetsLeft edges v.stack result → MeetsLeft edges w.stack result
  pub posts : (result : List ℕ) → PostsLeft edges v.order v.stack result → PostsLeft edges w.order w.stack result
  pub enters : (result : WalkOutcome ℕ S) → EntersLeft edges v.begun v.stack result → EntersLeft edges w.begun w.stack result

-- the walk came to an end
pub record IsAtEnd {S : Type 0} (edges : ℕ → List (Edge S)) (w v : FramesValue) (end : End S) : Type 0 where
  pub meets : MeetsLeft edges w.stack (Some (ending_of (path_of v.stack) end))
  pub enters : EntersLeft edges w.begun w.stack (ends_at (ending_of (path_of v.stack) end))

-- one step of the walk
pub record IsStep {S : Type 0} (edges : ℕ → List (Edge S)) (IsNode : ℕ → Type 0) (w v : FramesValue) : Type 0 where
  pub later : IsLater edges IsNode w v
  pub fewer : walk_work edges v < walk_work edges w

abbrev pub Stepped : {S : Type 0} → (ℕ → List (Edge S)) → (ℕ → Type 0) → FramesValue → FramesValue → Option (End S) → Type 0
Stepped edges IsNode w v None = IsStep edges IsNode w v
Stepped edges IsNode w v (Some end) = IsAtEnd edges w v end

-- the walk to the end of its stack
pub record IsThrough {S : Type 0} (edges : ℕ → List (Edge S)) (IsNode : ℕ → Type 0) (w v : FramesValue) : Type 0 where
  pub later : IsLater edges IsNode w v
  pub empty : v.stack ≡ []

abbrev pub Ran : {S : Type 0} → (ℕ → List (Edge S)) → (ℕ → Type 0) → FramesValue → FramesValue → Option (End S) → Type 0
Ran edges IsNode w v None = IsThrough edges IsNode w v
Ran edges IsNode w v (Some end) = IsAtEnd edges w v end

-- what the state of a walk is seen as
abbrev pub seen : FramesValue → WalkValue
seen w = record { count = length w.marks; begun = w.begun; order = w.order; path = path_of w.stack }

-- between two of several starts: these are left
pub record AreLeft {S : Type 0} (edges : ℕ → List (Edge S)) (w v : WalkValue) (starts left : List ℕ) : Type 0 where
  pub count : v.count ≡ w.count
  pub path : v.path ≡ []
  pub settled : IsSettled (ways_from edges) v.order
  pub meets : (result : Option (Ending ℕ S)) → MeetsAll (ways_from edges) [] (leads_to left) result → MeetsAll (ways_from edges) [] (leads_to starts) result
  pub posts : (result : List ℕ) → PostsAll (successors edges) v.order left result → PostsAll (successors edges) w.order starts result
