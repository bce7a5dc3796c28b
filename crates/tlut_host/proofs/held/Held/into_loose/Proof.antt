-- A pointer to a state is the parts of its box.
use Rattle.tlut_host.proofs.Common.{◌≡◌, List, [], ◌∷◌, ◌++◌, refl, sym, ap, ◌∙◌, subst, Some, is_some, Goes-blank, proved_at, leaves, box_owns, ghosts, heap_val, heap_Tells, SProp, ent, emp, id⊢, fact, fact_i, tables, RattleType, owns, Ptr, block_ptr, types_at, nothing, heard, alive, Stays, stay_dropped, walk_of, Val, vptr, WpFn, alloc_all, pass_all, free_all, look_at, get, get_in, sets, ‵, raw, ◌⊛◌, ◌$◌, ◌∵◌, !, qed, by, move, keep, split, fsplit, fjoin, suffices, use0, use1, rewrite, agg, sub, whole, stop, fld, of_opd, no_more, and_then, returns, enter}
use mathlib.Core.Bool.{true}
use Rattle.std_heap.specs.contracts.Global as heap
use Rattle.std_heap.proofs.Global.TheLaws as heap_laws
use Rattle.tlut_host.proofs.Values.{both, loose_in}
use Rattle.tlut_host.proofs.HeldValues.{slot_at, held_val, grip_told, held_full}
use Rattle.tlut_host.specs.contracts.host.NamedSpecialiser as state
use Rattle.tlut_host.specs.contracts.held.Held.into_loose.{ended, clauses}
use Rattle.tlut_host.specs.contracts.held.Held.into_loose.Key.{name as #self}
use Rattle.tlut_host.proofs.held.Held.into_loose.Statement.{statement}
use Rattle.tlut_host.proofs.held.Held.into_loose.Code as code

pub into_loose_spec : {M : Type 1} → statement M
into_loose_spec 𝓤 𝓛 𝓜 𝓡 wired =
    let H = 𝓛.H in let 𝓣 = tables 𝓤 H 𝓜 𝓡 𝓡.env in let c = clauses 𝓛 𝓜.mem 𝓡.returns in let fn = code.function in
    let R : RattleType = state.the_row in let Z : RattleType = heap.the_row in let LZ = heap_laws.the_row_laws in
    let s0 = slot_at 0 ended.signature.params in let s1 = slot_at 1 ended.signature.params in
    let hs : Stays ended.signature.params ended.kept = (stay_dropped s0 ended.kept.0, (stay_dropped s1 ended.kept.1.0, tt)) in
    proved_at 𝓛 ended hs c 𝓜 𝓡 (Goes-blank 𝓛 0 s0 ended.kept.0 (λ κs x f. tt), (Goes-blank 𝓛 0 s1 ended.kept.1.0 (λ κs x f. tt), tt)) #self fn (code.unfolded 𝓤 H 𝓜 𝓡 wired) (λ z are.
    let v = z.0.3.0 in let a = z.0.3.1.0 in let vs = z.0.4.0 in let us = z.0.4.1.0 in
    let Post : Val → SProp 𝓤 = (walk_of 𝓛 ended hs c).post z in let Run : List Val → SProp 𝓤 = λ ws. WpFn 𝓤 H 𝓣.C 𝓣.Λ fn ws Post in
    qed 𝓛 ((raw (alive 𝓛 ended.signature z.0.0 z.0.1) ⊛ ‵ (owns (types_at ended.signature.params z.0.0) z.0.3 z.0.4)) ∷ raw (fact 𝓤 (is_some v.value ≡ true)) ∷ []) ∵
    move ! (1 ∷ []) $ heard ! (is_some v.value ≡ true) (λ full. split ! $ move ! (1 ∷ []) $ fsplit ! $ fsplit ! $ keep ! (1 ∷ 2 ∷ 3 ∷ []) $
    -- [what the pointer owns; the allocator and nothing; alive]
    held_full R ! v.at v.value full (λ x b o ev at. move ! (1 ∷ []) $ fsplit ! $ keep ! (2 ∷ 0 ∷ 3 ∷ []) $
    let told : us ≡ heap_val ∷ [] = heap_Tells a us are.1.0 in
    let seen : vs ≡ held_val (block_ptr b o) ∷ [] = grip_told v.at vs are.0.0 ∙ ap (λ (p : Ptr). held_val p ∷ []) at in
    rewrite ! 1 (λ (ws : List Val). ‵ (Z.own_val a ws)) told refl $
    use1 𝓛 (‵ (box_owns (ghosts.dealloc_token a) R (block_ptr b o) x)) (id⊢ 𝓤 _) $
    loose_in R Z LZ ghosts ! b o heap_val a x $
    suffices ! (Run (held_val (block_ptr b o) ∷ heap_val ∷ [])) (subst (λ (ws : List Val). ent 𝓤 (Run (held_val (block_ptr b o) ∷ heap_val ∷ [])) (Run ws)) (sym (λ i. seen i ++ (told i ++ []))) (id⊢ 𝓤 (Run (held_val (block_ptr b o) ∷ heap_val ∷ [])))) $
    enter ! 𝓣.C 𝓣.Λ fn (held_val (block_ptr b o) ∷ heap_val ∷ []) Post $ alloc_all ! (λ l. pass_all ! refl ((tt, (tt, tt)), ((tt, ((tt, tt), tt)), tt)) $
    sets ! (of_opd ! (get_in ! (fld ! refl (stop !)) (sub ! 0 refl (whole !)))) refl (tt, tt) $
    sets ! (of_opd ! (get ! refl)) refl (tt, tt) $
    sets ! (agg ! (and_then ! (get ! refl) (and_then ! (get ! refl) (no_more !)))) refl (tt, (tt, (((tt, tt), tt), tt))) $
    returns ! (look_at ! 0 refl) $ free_all ! refl $
    use0 𝓛 (raw (fact 𝓤 (v.value ≡ Some x))) (fact_i 𝓤 (v.value ≡ Some x) (emp 𝓤) ev) $ nothing ! $ nothing ! $ fjoin ! $ nothing ! $ fjoin ! $
    keep ! (3 ∷ 0 ∷ 2 ∷ 1 ∷ []) $ by ! (leaves 𝓛 ended hs c z (both (vptr b o) heap_val) (record { at = block_ptr b o; alloc = a; value = x }) (tt, (tt, tt)) (tt, (tt, tt)))))))
