use Rattle.bounded_cuts.proofs.Common.{◌≡◌, ◌+◌, ◌/◌, ℕ, List, length, sym, subst, ◌∙◌, ap, arith, length-map, HasTaken, LeastHeight, Candidate, cuts_of}
use Rattle.bounded_cuts.proofs.PlaceLemmas.{nothing_taken, placed}
use Rattle.bounded_cuts.proofs.places.take_three.Goals as goal

pub returns-clause-placed : goal.returns-clause-placed
returns-clause-placed c p can =
    let cands = c.args.candidates.now in
    let cs = cuts_of cands in
    let r : ℕ = c.args.label in
    let none = nothing_taken cs c.args.looked.now c.args.taken.now.items (length cands) (sym (length-map cands (λ (d : Candidate). d.cut))) c.requires.looked c.requires.taken in
    let low = subst (λ (t : List ℕ). HasTaken LeastHeight p r cs (c.most_places-most.result / 2) t c.take.new.looked c.take.new.taken.items) c.requires.taken (c.in_ok-take.ensures.taken p can none) in
    let short = c.in_ok-take-2.ensures.taken p can low.taking in
    let rest = c.in_ok-take-3.ensures.taken p can short.taking in
    let lens : c.len.result ≡ length c.take.new.taken.items = grind arith in
    placed p c.args.k r cs c.take.new.looked c.take-2.new.looked c.take-3.new.looked c.take.new.taken.items c.take-2.new.taken.items c.take-3.new.taken.items
    (c.most_places-most.result / 2) (c.len.result + c.most_places-most.result / 4) c.most_places-most.result
    (ap (λ (n : ℕ). n / 2) c.most_places-most.ensures.value) (ap (λ (n : ℕ). n + c.most_places-most.result / 4) lens ∙ ap (λ (n : ℕ). length c.take.new.taken.items + n / 4) c.most_places-most.ensures.value) c.most_places-most.ensures.value low short rest
