-- Where the walks of the clocks and of the data find no fault, every latch control has one main input as its net, and no clock net is data; at a sound library they find none.
use Rattle.netlist.proofs.Common.{◌≡◌, ℕ, List, [], Option, Some, None, refl, sym, ap, ◌∙◌, subst, inl, inr, none-some, same_Some, false, IsTrue, both_ways, cases_Bool, Latch, LatchValue, LatchAt, Net, input_net, latch_net, cover_net, Drives, IsClock, Place, is_latch, FlatOrder, IsSound, own_of, has_name, listed, controls, LibraryValue}
use Rattle.netlist.proofs.NetLemmas.{one_net}
use Rattle.netlist.proofs.OrderLemmas.{flat_all, order_exists}
use Rattle.netlist.proofs.PlaceLemmas.{place_of, one_latch, has_latch}
use Rattle.netlist.proofs.NameLemmas.{Decided, same_name, Member, find_member}

-- the name of an input's net
abbrev pub name_of : Net → List ℕ
name_of (input_net name) = name
name_of (latch_net path i) = []
name_of (cover_net path i) = []

-- Whether a net is a clock can be decided: the latches stand in a flat order.
module _ (library : LibraryValue) (sound : IsSound library) where
  -- the latch of a place is controlled by a main input
  record Controls (name : List ℕ) (p : Place) : Type 0 where
    latch : LatchValue
    at : LatchAt library p.path p.command latch
    control : List ℕ
    is : latch.control ≡ Some control
    drives : Drives library p.path control (input_net name)

  module _ (name : List ℕ) (p : Place) where
    same_control : (l : LatchValue) → LatchAt library p.path p.command l → (k : Controls name p) → l.control ≡ Some k.control
    same_control l a k = ap (λ (y : LatchValue). y.control) (one_latch library p.path p.command l k.latch a k.at) ∙ k.is

    by_control : (l : LatchValue) → LatchAt library p.path p.command l → (o : Option (List ℕ)) → l.control ≡ o → Decided (Controls name p)
    by_control l a None e = inr (λ k. none-some k.control (sym e ∙ same_control l a k))
    by_control l a (Some control) e =
        let r = sound.control_input p.path p.command l control a e in
        elim (same_name r.0 name) [
          | inl q ↦ inl (record { latch = l; at = a; control = control; is = e; drives = subst (λ y. Drives library p.path control (input_net y)) q r.1 })
          | inr o ↦ inr (λ k.
              let same : k.control ≡ control = same_Some k.control control (sym (same_control l a k) ∙ e) in
              o (ap name_of (one_net library sound.driven r.1 (subst (λ y. Drives library p.path y (input_net name)) same k.drives))))
        ]

    does_control : Decided (Controls name p)
    does_control = elim (has_latch library p.path p.command) [
      | inl l ↦ by_control l.0 l.1 (l.0).control refl
      | inr o ↦ inr (λ k. o (k.latch, k.at))
    ]

  no_clock : (name : List ℕ) → has_name (sound.main).clocks name ≡ false → (latches : List Place) → FlatOrder library is_latch [] sound.main latches → (Member (Controls name) latches → ⊥) → IsClock library name → ⊥
  no_clock name u latches f o (listed m at t) = both_ways (has_name (sound.main).clocks name) u (subst (λ y. IsTrue (has_name y.clocks name)) (same_Some m sound.main (sym at ∙ sound.at)) t)
  no_clock name u latches f o (controls path i l control a e t) = o (record {
    item = place_of path i;
    member = flat_all library is_latch sound.main latches sound.at f path a.model i (Latch l) a.at a.is refl;
    is = record { latch = l; at = a; control = control; is = e; drives = t };
  })

  pub is_clock : (name : List ℕ) → Decided (IsClock library name)
  is_clock name =
      let f = order_exists library (own_of is_latch) sound.driven.known sound.main (sound.driven.finite [] sound.main sound.at) [] sound.at in
      elim (cases_Bool (has_name (sound.main).clocks name)) [
        | inl t ↦ inl (listed sound.main sound.at t)
        | inr u ↦ (elim (find_member (Controls name) f.0 (does_control name)) [
          | inl g ↦ inl (controls (g.item).path (g.item).command (g.is).latch (g.is).control (g.is).at (g.is).is (g.is).drives)
          | inr o ↦ inr (λ c. no_clock name u f.0 f.1 o c)
        ])
      ]
