use Rattle.cover_pick.proofs.Lemmas.{◌≡◌, ◌<◌, ◌≤◌, ◌+◌, ◌^◌, ◌∙◌, ◌∷◌, ℕ, List, drop, length, get_or, ap, sym, arith, drop_more, count_at, count_each, times_in, one_if, one_more, one_size, times_cons, times_head}
use Rattle.cover_pick.proofs.uses.count_leaves.Goals as goal

pub count_one-requires-clause-room : goal.count_one-requires-clause-room
count_one-requires-clause-room c =
    let leaves : List ℕ = c.args.leaves.now in
    let m : ℕ = get_or leaves c.loop-m.m-index 0 in
    let inside : get_or leaves c.loop-m.m-index 0 < length c.args.counts.now = c.requires.inside c.loop-m.m-index (omega arith) in
    let room : count_at c.loop-m.counts m + times_in m (drop c.loop-m.m-index leaves) < 2 ^ 32 = c.loop-m.invariant.room m (omega arith) in
    let head : 1 ≤ times_in m (drop c.loop-m.m-index leaves) = times_head leaves c.loop-m.m-index (omega arith) in
    omega arith

pub loop-m-preserved : goal.loop-m-preserved
loop-m-preserved c =
    let leaves : List ℕ = c.args.leaves.now in
    let i : ℕ = c.loop-m.m-index in
    let x : ℕ = get_or leaves c.loop-m.m-index 0 in
    let next : drop c.loop-m.m-index leaves ≡ get_or leaves c.loop-m.m-index 0 ∷ drop (c.loop-m.m-index + 1) leaves = drop_more leaves c.loop-m.m-index 0 (omega arith) in
    let size : length c.loop-m.counts ≡ length c.args.counts.now = c.loop-m.invariant.size in
    let inside : x < length c.args.counts.now = c.requires.inside c.loop-m.m-index (omega arith) in
    record {
      rest = ap (λ s. count_each s (drop (c.loop-m.m-index + 1) leaves)) c.count_one.ensures ∙ (ap (λ ms. count_each c.loop-m.counts ms) (sym next) ∙ c.loop-m.invariant.rest);
      size = ap (λ s. length s) c.count_one.ensures ∙ (one_size c.loop-m.counts x ∙ size);
      room = λ m l.
          let room : count_at c.loop-m.counts m + times_in m (drop c.loop-m.m-index leaves) < 2 ^ 32 = c.loop-m.invariant.room m l in
          let all : times_in m (drop c.loop-m.m-index leaves) ≡ one_if x m + times_in m (drop (c.loop-m.m-index + 1) leaves) = ap (λ ms. times_in m ms) next ∙ times_cons m x (drop (c.loop-m.m-index + 1) leaves) in
          let more : count_at c.count_one.new.counts m ≡ count_at c.loop-m.counts m + one_if x m = ap (λ s. count_at s m) c.count_one.ensures ∙ one_more c.loop-m.counts x m (omega arith) in
          omega arith;
    }
