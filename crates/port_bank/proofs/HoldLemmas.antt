-- What a bank shows of a configuration while writes of it are left, and so what it holds at the end of a send.
use Rattle.port_bank.proofs.Common.{◌≡◌, ◌⊎◌, ℕ, ◌/◌, ◌<◌, ◌==◌, not, Bool, true, false, List, [], ◌∷◌, ◌++◌, map, Some, refl, ap, sym, ◌∙◌, subst, inl, inr, eqb-true, slice_set, slice_get, both_ways, map-append, slice_get_within, same_Some, In, choose, In-left, In-right, In-append, set_here, set_other, same_or, PortSeen, Write, region_of, region, is_outside, outside, BankSeen, Called, Replaced, Sends, start, accepted, replaced, image, ShowsRegions, address_of, AreBitsOf, written, arith, rules}
use Rattle.port_bank.proofs.RegionLemmas.{image_last, image_elsewhere, told_before, region_bits_are, address_in_region}

-- what is left after those of a region, and what was left before
outside_in : (w i : ℕ) (writes : List Write) (write : Write) → In (outside w i writes) write → In writes write
outside_in w i [] write h = absurd h
outside_in w i (x ∷ xs) write h =
    choose (λ t. In t write → (write ≡ x) ⊎ In xs write) (is_outside w i x) (x ∷ outside w i xs) (outside w i xs)
    (λ _ g. elim g [ inl e ↦ inl e | inr r ↦ inr (outside_in w i xs write r) ])
    (λ _ g. inr (outside_in w i xs write g)) h

inside : (b : Bool) (m n : ℕ) → not b ≡ false → (m == n) ≡ b → m ≡ n
inside true m n f e = eqb-true m n e
inside false m n f e = absurd (both_ways true f refl)

left_outside : (w i : ℕ) (writes : List Write) (address : ℕ) → (address / w ≡ i → ⊥) → In (map address_of writes) address → In (map address_of (outside w i writes)) address
left_outside w i [] address other h = absurd h
left_outside w i (x ∷ xs) address other (inl e) = grind (arith, inside)
left_outside w i (x ∷ xs) address other (inr r) = grind (arith, left_outside w i xs address other r)

-- at each address of a region its port shows the bit, or a write of it is left
pub record Pends (width : ℕ) (config : List Bool) (left : List Write) (bank : BankSeen) : Type 0 where
  pub shows : (i address : ℕ) (port : PortSeen) (log : List Write) (bit : Bool) → slice_get bank.serving i ≡ Some port → port.log ≡ Some log →
      address / width ≡ i → slice_get config address ≡ Some bit → (image log address ≡ Some bit) ⊎ In (map address_of left) address
  pub bits : AreBitsOf config left

-- a write that was left is left no more, or is at this address
passed_one : {P : Type 0} (write : Write) (left : List Write) (address : ℕ) → (address ≡ write.address → ⊥) → P ⊎ In (map address_of (write ∷ left)) address → P ⊎ In (map address_of left) address
passed_one write left address other (inl p) = inl p
passed_one write left address other (inr (inl e)) = absurd (other e)
passed_one write left address other (inr (inr r)) = inr r

pends_accepted : (w : ℕ) (config : List Bool) (write : Write) (left : List Write) (old new : BankSeen) → Pends w config (write ∷ left) old → Called (region_of w write) write true old new → Pends w config left new
pends_accepted w config write left old new p c = record {
  shows = λ j address port log bit here told place there.
      let i = region_of w write in
      let now : slice_get (slice_set old.serving i c.after) j ≡ Some port = sym (ap (λ (b : BankSeen). slice_get b.serving j) c.now) ∙ here in
      elim (same_or j i) [
        | inl e ↦
            let mine : slice_get (slice_set old.serving i c.after) i ≡ Some port = subst (λ k. slice_get (slice_set old.serving i c.after) k ≡ Some port) e now in
            let same : c.after ≡ port = same_Some c.after port (sym (set_here old.serving i c.after (slice_get_within old.serving i c.before c.was)) ∙ mine) in
            let t = told_before c.before.log (write ∷ []) log (sym c.answered.log ∙ (ap (λ (q : PortSeen). q.log) same ∙ told)) in
            elim (same_or address write.address) [
              | inl a ↦
                  inl (ap (λ l. image l address) t.2 ∙ (ap (image (t.0 ++ write ∷ [])) a ∙ (image_last t.0 write ∙ ap Some (same_Some write.bit bit (sym (p.bits.bits write (inl refl)) ∙ (ap (slice_get config) (sym a) ∙ there))))))
              | inr a ↦
                  elim (passed_one write left address a (p.shows i address c.before t.0 bit c.was t.1 (place ∙ e) there)) [
                    | inl s ↦ inl (ap (λ l. image l address) t.2 ∙ (image_elsewhere t.0 write address a ∙ s))
                    | inr r ↦ inr r
                  ]
            ]
        | inr o ↦
            passed_one write left address (λ a. o (sym place ∙ ap (λ b. b / w) a)) (p.shows j address port log bit (sym (set_other old.serving i j c.after o) ∙ now) told place there)
      ];
  bits = record { bits = λ x i. p.bits.bits x (inr i) };
}

pends_replaced : (w : ℕ) (config : List Bool) (write : Write) (left : List Write) (old mid new : BankSeen) → ((address : ℕ) (bit : Bool) → slice_get config address ≡ Some bit → 0 < w) →
    Pends w config (write ∷ left) old → Called (region_of w write) write false old mid → Replaced (region_of w write) mid new →
    Pends w config (region w config (region_of w write) ++ outside w (region_of w write) left) new
pends_replaced w config write left old mid new wide p c r =
    let here = region w config _ in
    let others = outside w _ left in
    record {
      shows = λ j address port log bit now told place there.
          let pending : In (map address_of here ++ map address_of others) address → In (map address_of (here ++ others)) address = λ h. subst (λ l. In l address) (sym (map-append address_of here others)) h in
          elim (same_or j _) [
            | inl e ↦ inr (pending (In-left (map address_of here) (map address_of others) address (address_in_region w _ config address bit (wide address bit there) (place ∙ e) there)))
            | inr o ↦
                let mids : slice_get mid.serving j ≡ Some port = sym (set_other mid.serving _ j r.spare o) ∙ (sym (ap (λ (b : BankSeen). slice_get b.serving j) r.now) ∙ now) in
                let olds : slice_get old.serving j ≡ Some port = sym (set_other old.serving _ j c.after o) ∙ (sym (ap (λ (b : BankSeen). slice_get b.serving j) c.now) ∙ mids) in
                elim (passed_one write left address (λ a. o (sym place ∙ ap (λ b. b / w) a)) (p.shows j address port log bit olds told place there)) [
                  | inl s ↦ inl s
                  | inr l ↦ inr (pending (In-right (map address_of here) (map address_of others) address (left_outside w _ left address (λ a. o (sym place ∙ a)) l)))
                ]
          ];
      bits = record {
        bits = λ x h. elim (In-append here others x h) [
          | inl a ↦ (region_bits_are w _ config).bits x a
          | inr b ↦ p.bits.bits x (inr (outside_in w _ left x b))
        ];
      };
    }

-- each answer keeps it
pub pends : {w : ℕ} {config : List Bool} {writes : List Write} {old : BankSeen} {answers : List Bool} {left : List Write} {new : BankSeen} →
    Sends w config writes old answers left new → ((address : ℕ) (bit : Bool) → slice_get config address ≡ Some bit → 0 < w) → Pends w config writes old → Pends w config left new
pends start wide p = p
pends {w} {config} (accepted {write = write} {left = left} {mid = mid} {new = new} s c) wide p = pends_accepted w config write left mid new (pends s wide p) c
pends {w} {config} (replaced {write = write} {left = left} {mid = mid} {next = next} {new = new} s c r) wide p = pends_replaced w config write left mid next new wide (pends s wide p) c r

pub holds_at_end : {w : ℕ} {config : List Bool} {bank : BankSeen} → Pends w config [] bank → ShowsRegions w config bank
holds_at_end p = record { shows = λ i address port log bit a b c d. elim (p.shows i address port log bit a b c d) [ inl s ↦ s | inr n ↦ absurd n ] }

-- a configuration with writes taken differs only at their addresses
pub written_or : (writes : List Write) (config : List Bool) (address : ℕ) → In (map address_of writes) address ⊎ (slice_get (written config writes) address ≡ slice_get config address)
written_or [] config address = inr refl
written_or (x ∷ xs) config address = search (rules, same_or, slice_set, set_other, written_or xs (slice_set config x.address x.bit) address)

pub pends_at_first : (w : ℕ) (before config : List Bool) (writes : List Write) (bank : BankSeen) → AreBitsOf config writes → ShowsRegions w before bank → config ≡ written before writes → Pends w config writes bank
pends_at_first w before config writes bank b h e = search (rules, written_or)
