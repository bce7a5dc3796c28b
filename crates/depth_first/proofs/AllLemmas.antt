-- Several starts in turn.
use Rattle.depth_first.proofs.Common.{◌≡◌, ℕ, ◌+◌, ◌<◌, true, false, List, [], ◌∷◌, length, drop, get_or, Option, Some, None, refl, ap, ◌∙◌, is_some, true≢false, false≢true, slice_get-get_or, drop_get, Edge, End, first, later, MeetsAll, PostsAll, more, IsSettled, ways_from, successors, WalkValue, Visited, VisitedAll, ending_of, leads_to, AreLeft}
use Rattle.depth_first.proofs.DepthLemmas.{settled_after}
use Rattle.depth_first.proofs.PostLemmas.{adds_all}

pub drop_next : (xs : List ℕ) (i d : ℕ) → i < length xs → drop i xs ≡ get_or xs i d ∷ drop (i + 1) xs
drop_next xs i d l = drop_get xs i (get_or xs i d) (slice_get-get_or xs i d l)

module _ {S : Type 0} (edges : ℕ → List (Edge S)) (w : WalkValue) (starts : List ℕ) where
  pub left_none : IsSettled (ways_from edges) w.order → w.path ≡ [] → AreLeft edges w w starts starts
  left_none settled path = record { count = refl; path = path; settled = settled; meets = λ r h. h; posts = λ r h. h }

  pub left_step : (v u : WalkValue) (left rest : List ℕ) (n : ℕ) (found : Option (End S)) → is_some found ≡ false → left ≡ n ∷ rest → u.count ≡ v.count
      → AreLeft edges w v starts left → Visited edges v u n found → AreLeft edges w u starts rest
  left_step v u left rest n (Some c) t e q l d = absurd (true≢false t)
  left_step v u left rest n None t e q l d = record {
    count = q ∙ l.count;
    path = d.path;
    settled = d.settled;
    meets = λ r h. l.meets r (later n (leads_to rest) (ap leads_to e) d.meets h);
    posts = λ r h. l.posts r (more n rest u.order e d.posts h);
  }

  pub left_found : (v u : WalkValue) (left rest : List ℕ) (n : ℕ) (found : Option (End S)) → is_some found ≡ true → left ≡ n ∷ rest
      → AreLeft edges w v starts left → Visited edges v u n found → VisitedAll edges w u starts found
  left_found v u left rest n None t e l d = absurd (false≢true t)
  left_found v u left rest n (Some c) t e l d =
      record { meets = l.meets (Some (ending_of u.path c)) (first n (leads_to rest) (ending_of u.path c) (ap leads_to e) d.meets refl) }

  pub left_end : (v : WalkValue) (left : List ℕ) → left ≡ [] → AreLeft edges w v starts left → VisitedAll edges w v starts None
  left_end v left e l =
      let order : PostsAll (successors edges) w.order starts v.order = l.posts v.order (PostsAll.none e refl) in
      let after = settled_after (ways_from edges) v.order l.settled in record {
        path = l.path;
        settled = l.settled;
        after = after;
        meets = l.meets None (MeetsAll.none (ap leads_to e) refl);
        posts = order;
        reached = adds_all (successors edges) order after;
      }
