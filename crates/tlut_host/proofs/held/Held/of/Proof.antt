-- A pointer owns what the parts of the box owned.
use Rattle.tlut_host.proofs.Common.{◌≡◌, List, [], ◌∷◌, ◌++◌, refl, sym, subst, Some, Goes-blank, proved_at, leaves, ghosts, held_by, SProp, ent, emp, id⊢, fact, fact_i, tables, RattleType, owns, block_ptr, types_at, nothing, alive, Stays, stay_dropped, walk_of, Val, vptr, WpFn, alloc_all, pass_all, free_all, look_at, get, get_in, sets, ‵, raw, ◌⊛◌, ◌$◌, ◌∵◌, !, qed, by, keep, split, fsplit, fjoin, suffices, use0, use1, agg, sub, whole, stop, fld, of_opd, no_more, and_then, returns, enter}
use Rattle.std_heap.specs.contracts.Global as heap
use Rattle.std_heap.proofs.Global.TheLaws as heap_laws
use Rattle.tlut_host.proofs.Values.{both, loose_good, loose_out}
use Rattle.tlut_host.proofs.HeldValues.{slot_at, held_val, Grip, grip_made}
use Rattle.tlut_host.specs.contracts.host.NamedSpecialiser as state
use Rattle.tlut_host.specs.contracts.held.Held as held
use Rattle.tlut_host.specs.contracts.held.Held.of.{ended, clauses}
use Rattle.tlut_host.specs.contracts.held.Held.of.Key.{name as #self}
use Rattle.tlut_host.proofs.held.Held.of.Statement.{statement}
use Rattle.tlut_host.proofs.held.Held.of.Code as code

pub of_spec : {M : Type 1} → statement M
of_spec 𝓤 𝓛 𝓜 𝓡 wired =
    let H = 𝓛.H in let 𝓣 = tables 𝓤 H 𝓜 𝓡 𝓡.env in let c = clauses 𝓛 𝓜.mem 𝓡.returns in let fn = code.function in
    let R : RattleType = state.the_row in let Z : RattleType = heap.the_row in let LZ = heap_laws.the_row_laws in
    let hs : Stays ended.signature.params ended.kept = (stay_dropped (slot_at 0 ended.signature.params) ended.kept.0, tt) in
    proved_at 𝓛 ended hs c 𝓜 𝓡 (Goes-blank 𝓛 0 (slot_at 0 ended.signature.params) ended.kept.0 (λ κs x f. tt), tt) #self fn (code.unfolded 𝓤 H 𝓜 𝓡 wired) (λ z are.
    let v = z.0.3.0 in let Post : Val → SProp 𝓤 = (walk_of 𝓛 ended hs c).post z in let Run : List Val → SProp 𝓤 = λ ws. WpFn 𝓤 H 𝓣.C 𝓣.Λ fn ws Post in
    qed 𝓛 ((raw (alive 𝓛 ended.signature z.0.0 z.0.1) ⊛ ‵ (owns (types_at ended.signature.params z.0.0) z.0.3 z.0.4)) ∷ raw ((c z.0.0 z.0.3).requires z.1) ∷ []) ∵
    split ! $ keep ! (1 ∷ 0 ∷ []) $ fsplit ! $ loose_out R Z LZ ghosts ! v z.0.4.0 (λ b o h e ws fits.
    let w : Val = both (vptr b o) h in let typed = loose_good R Z LZ ghosts b o h fits in
    let r : (held.the_row).Denot = record { at = block_ptr b o; value = Some v.value } in
    -- [the box; the allocator; nothing; alive]
    keep ! (0 ∷ 3 ∷ []) $ use1 𝓛 (‵ (held_by (block_ptr b o) (Some v.value))) (id⊢ 𝓤 _) $
    use0 𝓛 (‵ (Grip.own_val (block_ptr b o, tt) (held_val (block_ptr b o) ∷ []))) (grip_made 𝓛 (block_ptr b o)) $ fjoin ! $
    suffices ! (Run (w ∷ [])) (subst (λ (us : List Val). ent 𝓤 (Run (w ∷ [])) (Run us)) (sym (λ i. ws i ++ [])) (id⊢ 𝓤 (Run (w ∷ [])))) $
    enter ! 𝓣.C 𝓣.Λ fn (w ∷ []) Post $ alloc_all ! (λ l. pass_all ! refl (typed, tt) $
    sets ! (of_opd ! (get_in ! (fld ! refl (stop !)) (sub ! 0 refl (whole !)))) refl (tt, tt) $
    sets ! (of_opd ! (get ! refl)) refl (tt, tt) $
    sets ! (agg ! (and_then ! (get ! refl) (no_more !))) refl (tt, (tt, tt)) $
    returns ! (look_at ! 0 refl) $ free_all ! refl $
    -- [the pointer; alive]
    use0 𝓛 (raw (fact 𝓤 (r.value ≡ Some v.value))) (fact_i 𝓤 (r.value ≡ Some v.value) (emp 𝓤) refl) $ nothing ! $ nothing ! $ fjoin ! $
    keep ! (3 ∷ 0 ∷ 2 ∷ 1 ∷ []) $ by ! (leaves 𝓛 ended hs c z (held_val (block_ptr b o)) r (tt, tt) (tt, tt)))))
