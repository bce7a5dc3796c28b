use Rattle.tl_io.proofs.Common.{◌≡◌, ℕ, ◌-◌, List, [], ◌++◌, rules, length, take, drop, sym, ap, ◌∙◌, subst, append_assoc, append-nil, take-append-drop, drop_of_length-le, take_rest, Appends}
use Rattle.std.proofs.KnownBytes.{Appends-trans}
use Rattle.tl_io.proofs.inner_write.write_whole.Goals as goal

-- a front of the rest is done too
moves_front : (all done rest : List ℕ) (n : ℕ) → all ≡ done ++ rest → all ≡ (done ++ take n rest) ++ take (length rest - n) (drop n rest)
moves_front all done rest n e =
    e ∙ ap (λ l. done ++ l) (sym (take-append-drop n rest)) ∙ sym (append_assoc done (take n rest) (drop n rest)) ∙ ap (λ l. (done ++ take n rest) ++ l) (sym (take_rest rest n))

pub loop-rest-preserved : goal.loop-rest-preserved
loop-rest-preserved g c =
    let (done, split, appended) = c.loop-rest.invariant in
    let rest = c.loop-rest.rest.now in
    (done ++ take c.in-Ok.count rest, moves_front _ done rest c.in-Ok.count split, Appends-trans _ _ _ _ _ appended c.in-Ok.ensures.bytes)

pub returns-clause-ok : goal.returns-clause-ok
returns-clause-ok g c =
    let (done, split, appended) = c.loop-rest.invariant in
    let rest = c.loop-rest.rest.now in
    let empty : rest ≡ [] = drop_of_length-le rest {i = 0} (search rules) in
    subst (λ (t : List ℕ). Appends (g.W.Write.contents c.args.writer.now) (g.W.Write.contents c.loop-rest.writer) t) (sym (split ∙ ap (λ l. done ++ l) empty ∙ append-nil done)) appended
