-- What a walk meets again leads to itself, so a sound library has no loop; and a walk has one result.
use Rattle.blif_flat.proofs.Common.{◌≡◌, List, [], ◌∷◌, ◌++◌, Option, Some, refl, sym, ◌∙◌, subst, inl, inr, none-some, In, ℕ, ap, ap₂, same_Some, LibraryValue, Place, reads_of, roots_of, LoopWalk, IsSound, Repeat, Meets, met, goes, MeetsAll, ModelValue, Path, Net, is_cover, is_latch, FlatOrder, same_nets, same_first, same_rest, reaches_depends, HasCover, read_cover, start_cover, Reaches, at_once, one_more, order_once, not_empty}
use Rattle.netlist.specs.DepthFirst.{none, first, later}

module _ {N : Type 0} (next : N → List N) where
  module _ (P : N → Type 0) (closed : (n m : N) → P n → In (next n) m → P m) where
    -- a node that leads to itself
    pub record IsCyclic : Type 0 where
      pub node : N
      pub is : P node
      pub cyclic : Reaches next node node

    mutual
      node_cyclic : {path : List N} {n : N} {result : Option (Repeat N)} → Meets next path n result → (repeat : Repeat N) → result ≡ Some repeat → P n → ((m : N) → In path m → Reaches next m n) → IsCyclic
      node_cyclic {path} {n} (met i q) repeat e p h = record { node = n; is = p; cyclic = h n i }
      node_cyclic {path} {n} (goes off w) repeat e p h = nodes_cyclic w repeat e (λ k j. closed n k p j) (λ k j m i. elim i as (λ _. Reaches next m k) [
        | inl s ↦ subst (λ x. Reaches next x k) (sym s) (at_once j)
        | inr o ↦ one_more next (h m o) k j
      ])

      nodes_cyclic : {path ns : List N} {result : Option (Repeat N)} → MeetsAll next path ns result → (repeat : Repeat N) → result ≡ Some repeat → ((n : N) → In ns n → P n)
          → ((n : N) → In ns n → (m : N) → In path m → Reaches next m n) → IsCyclic
      nodes_cyclic (none a q) repeat e p h = absurd (none-some repeat (sym q ∙ e))
      nodes_cyclic (first n rest own a w q) repeat e p h = let i = subst (λ l. In l n) (sym a) (inl refl) in node_cyclic w own refl (p n i) (h n i)
      nodes_cyclic (later n rest a w ws) repeat e p h = nodes_cyclic ws repeat e (λ m i. p m (subst (λ l. In l m) (sym a) (inr i))) (λ m i. h m (subst (λ l. In l m) (sym a) (inr i)))

    pub meets_cyclic : (ns : List N) (repeat : Repeat N) → MeetsAll next [] ns (Some repeat) → ((n : N) → In ns n → P n) → IsCyclic
    meets_cyclic ns repeat w p = nodes_cyclic w repeat refl p (λ n i m j. absurd j)

  -- another walk from the same list, at the same node
  node_again : {path ns : List N} {result : Option (Repeat N)} (n m : N) (rest others : List N) → ns ≡ n ∷ rest → ns ≡ m ∷ others → Meets next path m result → Meets next path n result
  node_again {path} {ns} {result} n m rest others a b w = subst (λ x. Meets next path x result) (same_first m n others rest b a) w

  rest_again : {path ns : List N} {result : Option (Repeat N)} (n m : N) (rest others : List N) → ns ≡ n ∷ rest → ns ≡ m ∷ others → MeetsAll next path others result → MeetsAll next path rest result
  rest_again {path} {ns} {result} n m rest others a b w = subst (λ x. MeetsAll next path x result) (same_rest m n others rest b a) w

  mutual
    node_once : {path : List N} {n : N} {result other : Option (Repeat N)} → Meets next path n result → Meets next path n other → result ≡ other
    node_once (met i q) (met j r) = q ∙ sym r
    node_once (met i q) (goes off v) = absurd (off i)
    node_once (goes off w) (met j r) = absurd (off j)
    node_once (goes off w) (goes on v) = meets_once w v

    pub meets_once : {path ns : List N} {result other : Option (Repeat N)} → MeetsAll next path ns result → MeetsAll next path ns other → result ≡ other
    meets_once (none a q) (none b r) = q ∙ sym r
    meets_once (none a q) (first m others c b v r) = absurd (not_empty m others a b)
    meets_once (none a q) (later m others b v vs) = absurd (not_empty m others a b)
    meets_once (first n rest c a w q) (none b r) = absurd (not_empty n rest b a)
    meets_once (later n rest a w ws) (none b r) = absurd (not_empty n rest b a)
    meets_once (first n rest c a w q) (first m others d b v r) = q ∙ node_once w (node_again n m rest others a b v) ∙ sym r
    meets_once (first n rest c a w q) (later m others b v vs) = absurd (none-some c (sym (node_once w (node_again n m rest others a b v))))
    meets_once (later n rest a w ws) (first m others d b v r) = absurd (none-some d (node_once w (node_again n m rest others a b v)))
    meets_once (later n rest a w ws) (later m others b v vs) = meets_once ws (rest_again n m rest others a b vs)

-- no F10
pub sound-loops : (library : LibraryValue) → IsSound library → (repeat : Repeat Place) → LoopWalk library (Some repeat) → ⊥
sound-loops library sound repeat w =
    let r = meets_cyclic (reads_of library w.net) (HasCover library) (read_cover library w.net w.nets) (roots_of library w.net w.main w.latches ++ w.covers) repeat w.meets (start_cover library w) in
    sound.no_loop r.node (reaches_depends library w.net w.nets (read_cover library w.net w.nets) r.is r.cyclic)

-- Flat order is one, and so the walk of the covers has one result.
module _ (library : LibraryValue) where
  abbrev start_of : (Path → List ℕ → Option Net) → ModelValue → List Place → List Place → List Place
  start_of net main latches covers = roots_of library net main latches ++ covers

  module _ (result other : Option (Repeat Place)) (w : LoopWalk library result) (v : LoopWalk library other) where
    same_main : v.main ≡ w.main
    same_main = same_Some v.main w.main (sym v.at ∙ w.at)

    same_start : start_of v.net v.main v.latches v.covers ≡ start_of v.net w.main w.latches w.covers
    same_start = ap (λ m. start_of v.net m v.latches v.covers) same_main ∙ ap₂ (λ (l c : List Place). start_of v.net w.main l c)
        (order_once library is_latch (subst (λ m. FlatOrder library is_latch [] m v.latches) same_main v.latches_are) w.latches_are)
        (order_once library is_cover (subst (λ m. FlatOrder library is_cover [] m v.covers) same_main v.covers_are) w.covers_are)

    other_meets : MeetsAll (reads_of library w.net) [] (start_of w.net w.main w.latches w.covers) other
    other_meets = subst (λ net. MeetsAll (reads_of library net) [] (start_of net w.main w.latches w.covers) other) (same_nets library v.net w.net v.nets w.nets)
        (subst (λ l. MeetsAll (reads_of library v.net) [] l other) same_start v.meets)

    pub loop_once : result ≡ other
    loop_once = meets_once (reads_of library w.net) w.meets other_meets
