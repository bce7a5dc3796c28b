-- The machine value of a pointer that C keeps, and what it owns. Assumes `Logic`.
use Rattle.tlut_host.proofs.Common.{◌≡◌, List, [], ◌∷◌, ◌++◌, refl, ap, ◌∙◌, subst, Option, Some, None, is_some, T, ghosts, box_owns, heap, owns_boxed, ent, emp, never, fst∗, unit, lone, RattleType, Ptr, block_ptr, null_ptr, ptr_val, in_a_block, Slot, plain, shape, Struct, Val, vstruct, vcons, vnil, of_list, Ura, Item, Goal, Seq, ‵, Logic, sem}
use mathlib.Core.Bool.{Bool, true, not}
use Prim.Native.Nat.{ℕ, zero, suc}
use mir.Raw.{raw as bare}
use denote.Laws.{Is}
use denote.Shadow.{makes_shadow}
use Rattle.tlut_host.specs.contracts.held.Held as held

abbrev pub slot_at : {n : ℕ} → ℕ → List (Slot n) → Slot n
slot_at k [] = plain (λ _. unit)
slot_at zero (s ∷ ss) = s
slot_at (suc k) (s ∷ ss) = slot_at k ss

abbrev pub held_val : Ptr → Val
held_val p = vstruct (vcons (ptr_val p) vnil)

-- What the fields of such a struct own. Its name says nothing of it, so it is one for both.
abbrev pub Grip : RattleType
Grip = Struct (shape held.the_type)

pub grip_told : (p : Ptr) (vs : List Val) → Is Grip (p, tt) vs → vs ≡ held_val p ∷ []
grip_told p vs is = is.1.0 ∙ ap (λ (ws : List Val). vstruct (of_list (ws ++ [])) ∷ []) is.1.1.0

pub grip_made : {M : Type 1} {𝓤 : Ura M} (𝓛 : Logic 𝓤) (p : Ptr) → ent 𝓤 (emp 𝓤) (sem 𝓛 (Grip.own_val (p, tt) (held_val p ∷ [])))
grip_made 𝓛 p = makes_shadow 𝓛 (Grip.own_val (p, tt) (held_val p ∷ [])) (λ vss. (tt, (tt, tt))) ((ptr_val p ∷ [], tt), (refl, (refl, tt)))

module _ {M : Type 1} {𝓤 : Ura M} {𝓛 : Logic 𝓤} {K : Type 0} {Γ : List (Item 𝓤)} {G : Goal 𝓤 𝓛.H} where
  -- a pointer to something is at a block
  pub held_full : (R : RattleType) → K → (p : Ptr) (v : Option R.Denot) → is_some v ≡ true
      → ((x : R.Denot) (b o : ℕ) → v ≡ Some x → p ≡ block_ptr b o → Seq K 𝓛 (‵ (box_owns (ghosts.dealloc_token heap) R (block_ptr b o) x) ∷ Γ) G)
      → Seq K 𝓛 (‵ (owns_boxed R p v) ∷ Γ) G
  held_full R t p None e k = absurd (subst (λ (y : Bool). T (not y)) e tt)
  held_full R t p (Some x) e k =
      in_a_block t p (λ (q : Ptr). box_owns (ghosts.dealloc_token heap) R q x) (fst∗ 𝓤 (never 𝓤) (sem 𝓛 (ghosts.dealloc_token heap (bare (lone R.mir)) null_ptr))) (λ b o at. k x b o refl at)
