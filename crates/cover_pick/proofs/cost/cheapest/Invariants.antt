use Rattle.cover_pick.proofs.Common.{◌≡◌, ℕ, List, Option, None, drop, row_at, label_at, IsOffer, cut_cost, cheapest}
use Rattle.cover_pick.proofs.cost.cheapest.Given as goal

abbrev pub invariant-loop-i : goal.invariant-loop-i
invariant-loop-i l =
    (o : Option (List ℕ)) × IsOffer (cut_cost l.flows l.reqs) (row_at l.rows l.n) l.best o
    × (cheapest (cut_cost l.flows l.reqs) (label_at l.labels) l.r o (drop l.i (row_at l.rows l.n)) ≡ cheapest (cut_cost l.flows l.reqs) (label_at l.labels) l.r None (row_at l.rows l.n))
