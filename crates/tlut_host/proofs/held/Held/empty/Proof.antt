-- An empty pointer owns nothing.
use Rattle.tlut_host.proofs.Common.{◌≡◌, [], ◌∷◌, refl, lit<, None, proved, leaves, ftrue, SProp, emp, fact, fact_i, tables, null_ptr, nothing, alive, walk_of, Val, alloc_all, pass_all, free_all, look_at, sets, ‵, raw, ◌⊛◌, ◌$◌, ◌∵◌, !, qed, by, keep, split, fjoin, use0, agg, lit, no_more, and_then, returns, enter}
use Rattle.tlut_host.proofs.HeldValues.{held_val, Grip, grip_made}
use Rattle.tlut_host.specs.contracts.held.Held as held
use Rattle.tlut_host.specs.contracts.held.Held.empty.{ended, clauses}
use Rattle.tlut_host.specs.contracts.held.Held.empty.Key.{name as #self}
use Rattle.tlut_host.proofs.held.Held.empty.Statement.{statement}
use Rattle.tlut_host.proofs.held.Held.empty.Code as code

pub empty_spec : {M : Type 1} → statement M
empty_spec 𝓤 𝓛 𝓜 𝓡 wired =
    let H = 𝓛.H in let 𝓣 = tables 𝓤 H 𝓜 𝓡 𝓡.env in let c = clauses 𝓛 𝓜.mem 𝓡.returns in let fn = code.function in
    proved 𝓛 ended tt c 𝓜 𝓡 tt #self fn (code.unfolded 𝓤 H 𝓜 𝓡 wired) (λ κs. tt) (λ κs. tt) (λ κs qs bounds a gh are.
    let y : (walk_of 𝓛 ended tt c).Ghost = ((κs, qs, bounds, a, tt), gh) in let Post : Val → SProp 𝓤 = (walk_of 𝓛 ended tt c).post y in
    let r : (held.the_row).Denot = record { at = null_ptr; value = None } in
    qed 𝓛 ((raw (alive 𝓛 ended.signature κs qs) ⊛ ‵ ftrue) ∷ raw ((c κs a).requires gh) ∷ []) ∵ split ! $ keep ! (0 ∷ []) $
    enter ! 𝓣.C 𝓣.Λ fn [] Post $ alloc_all ! (λ l. pass_all ! refl tt $
    sets ! (agg ! (and_then ! (lit ! tt) (no_more !))) refl (tt, (record { fits = lit< tt }, tt)) $
    returns ! (look_at ! 0 refl) $ free_all ! refl $
    use0 𝓛 (raw (fact 𝓤 (r.value ≡ None))) (fact_i 𝓤 (r.value ≡ None) (emp 𝓤) refl) $ nothing ! $
    use0 𝓛 (‵ (Grip.own_val (null_ptr, tt) (held_val null_ptr ∷ []))) (grip_made 𝓛 null_ptr) $ fjoin ! $ nothing ! $
    keep ! (3 ∷ 0 ∷ 1 ∷ 2 ∷ []) $ by ! (leaves 𝓛 ended tt c y (held_val null_ptr) r tt tt)))
