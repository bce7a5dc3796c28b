use Rattle.cut_enum.proofs.Lemmas.{ℕ, List, ap, ◌∙◌, arith, insert, put_there}
use Rattle.cut_enum.proofs.level.Level.put.Goals as goal

pub invariant_of-self-in-Some : goal.invariant_of-self-in-Some
invariant_of-self-in-Some c =
    (put_there c.self.inside.cuts.items c.args.self.now c.push.new.self.items c.self.inside.places.items c.insert_place.new.places.items c.args.cut c.in-Some.at c.len-last.result
    c.self.view_is c.self.invariant (omega (arith, c.len-last.ensures)) c.in_ok-push-in-Some.ensures.items
    (c.insert_place.ensures ∙ ap (λ (s : List ℕ). insert s c.in-Some.at c.len-last.result) c.in_ok-reserve-in-Some.ensures.items) c.in-Some.ensures.within c.in-Some.ensures.free).0

pub returns-in_ok-push-in-Some : goal.returns-in_ok-push-in-Some
returns-in_ok-push-in-Some c =
    (put_there c.self.inside.cuts.items c.args.self.now c.push.new.self.items c.self.inside.places.items c.insert_place.new.places.items c.args.cut c.in-Some.at c.len-last.result
    c.self.view_is c.self.invariant (omega (arith, c.len-last.ensures)) c.in_ok-push-in-Some.ensures.items
    (c.insert_place.ensures ∙ ap (λ (s : List ℕ). insert s c.in-Some.at c.len-last.result) c.in_ok-reserve-in-Some.ensures.items) c.in-Some.ensures.within c.in-Some.ensures.free).1
