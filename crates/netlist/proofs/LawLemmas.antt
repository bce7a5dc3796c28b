-- The values of nets and of covers, under values of the main inputs, the latches and the covers.
use Rattle.netlist.proofs.Common.{◌≡◌, ℕ, Bool, false, List, [], ◌∷◌, map, Option, Some, None, refl, ap, ap₂, inl, inr, In, sym, ◌∙◌, subst, ◌⊎◌, IsTrue, CoverValue, LibraryValue, cover_value, Path, Net, input_net, latch_net, cover_net, Place, cover_at, with_cover, covers_among, reads_in, reads_of, Connection, is_input, is_output, CoverAt, ConnectionAt, IsMainInput, Drives, main_input, latch_output, cover_output, from_inside, from_outside, IsClock, input_actual, model_output, IsRead, cover_input, same_place, Fits, AreNets, Ordered, IsSound, HasOneCycle, arith}
use Rattle.netlist.proofs.ControlLemmas.{is_clock}
use Rattle.netlist.proofs.NetLemmas.{nets, are_nets}
use Rattle.netlist.proofs.PlaceLemmas.{place_of, same_place-is, same_place-refl, cover_at-is, child_at}
use Rattle.netlist.proofs.NameLemmas.{Decided}
use Rattle.netlist.proofs.LoopLemmas.{covers_ordered, IsOfNet, of_net}
use Rattle.netlist.proofs.PostLemmas.{evaluated, evaluated-rule, rules_agree}

-- the value of a main input: 0 of a clock, and else what is given
abbrev pub input_value : {C : Type 0} → Bool → Decided C → Bool
input_value b (inl on) = false
input_value b (inr off) = b

-- the value of a net
abbrev pub net_value : (List ℕ → Bool) → (Path → ℕ → Bool) → (Place → Bool) → Option Net → Bool
net_value x s covers None = false
net_value x s covers (Some (input_net name)) = x name
net_value x s covers (Some (latch_net path i)) = s path i
net_value x s covers (Some (cover_net path i)) = covers (place_of path i)

-- the value of a cover, over the nets of its inputs
abbrev pub values_in : (List ℕ → Bool) → (Path → ℕ → Bool) → (List ℕ → Option Net) → (Place → Bool) → List (List ℕ) → List Bool
values_in x s net covers names = map (λ name. net_value x s covers (net name)) names

abbrev pub value_in : (List ℕ → Bool) → (Path → ℕ → Bool) → (List ℕ → Option Net) → Option CoverValue → (Place → Bool) → Bool
value_in x s net None covers = false
value_in x s net (Some c) covers = cover_value c (values_in x s net covers c.inputs)

abbrev pub value_at : LibraryValue → (Path → List ℕ → Option Net) → (List ℕ → Bool) → (Path → ℕ → Bool) → Place → (Place → Bool) → Bool
value_at library net x s p covers = value_in x s (net p.path) (cover_at library p) covers

pub in_rest : (o : Option Net) (places : List Place) (p : Place) → In places p → In (with_cover o places) p
in_rest (Some (cover_net path k)) places p i = inr i
in_rest o places p i = i

-- it depends on the covers that it reads alone
module _ (x : List ℕ → Bool) (s : Path → ℕ → Bool) (v w : Place → Bool) where
  net_local : (o : Option Net) (places : List Place) → ((p : Place) → In (with_cover o places) p → v p ≡ w p) → net_value x s v o ≡ net_value x s w o
  net_local (Some (cover_net path k)) places h = h (place_of path k) (inl refl)
  net_local o places h = refl

  names_local : (net : List ℕ → Option Net) (names : List (List ℕ)) → ((p : Place) → In (covers_among net names) p → v p ≡ w p) → values_in x s net v names ≡ values_in x s net w names
  names_local net [] h = refl
  names_local net (name ∷ names) h = grind (arith, ap₂, covers_among, in_rest, names_local net names (λ p i. h p (in_rest (net name) (covers_among net names) p i)))

  in_local : (net : List ℕ → Option Net) (o : Option CoverValue) → ((p : Place) → In (reads_in net o) p → v p ≡ w p) → value_in x s net o v ≡ value_in x s net o w
  in_local net None h = refl
  in_local net (Some c) h = ap (cover_value c) (names_local net c.inputs h)

  pub value_at-local : (library : LibraryValue) (net : Path → List ℕ → Option Net) (p : Place) → ((q : Place) → In (reads_of library net p) q → v q ≡ w q) → value_at library net x s p v ≡ value_at library net x s p w
  value_at-local library net p h = in_local (net p.path) (cover_at library p) h

-- The law of the cycle relation for sound libraries: a map that fits exists, and any two agree on every driven name.

-- the value of a cover of an instance
pub record IsCoverValue (library : LibraryValue) (value : Path → List ℕ → Bool) (path : Path) (i : ℕ) (b : Bool) : Type 0 where
  pub cover : CoverValue
  pub at : CoverAt library path i cover
  pub is : b ≡ value path cover.output

-- the value at a driver
abbrev pub IsDriverValue : LibraryValue → (Path → ℕ → Bool) → (Path → List ℕ → Bool) → Net → Bool → Type 0
IsDriverValue library s value (input_net name) b = b ≡ value [] name
IsDriverValue library s value (latch_net path i) b = b ≡ s path i
IsDriverValue library s value (cover_net path i) b = IsCoverValue library value path i b

module _ (library : LibraryValue) (x : List ℕ → Bool) (s : Path → ℕ → Bool) (value : Path → List ℕ → Bool) (fits : Fits library x s value) where
  pub driven_value : {path : Path} {name : List ℕ} {net : Net} → Drives library path name net → IsDriverValue library s value net (value path name)
  driven_value {path} {name} (main_input p m q) = subst (λ net. IsDriverValue library s value net (value path name)) (sym q) (ap (λ r. value r name) p)
  driven_value {path} {name} (latch_output i l a p q) = subst (λ net. IsDriverValue library s value net (value path name)) (sym q) (ap (value path) p ∙ fits.latches path i l a)
  driven_value {path} {name} (cover_output i c a p q) = subst (λ net. IsDriverValue library s value net (value path name)) (sym q) (record { cover = c; at = a; is = ap (value path) p })
  driven_value {path} {name} {net} (from_inside k pair a out p t) = subst (IsDriverValue library s value net) (sym (ap (value path) p ∙ fits.connections path k pair a)) (driven_value t)
  driven_value {path} {name} {net} (from_outside k outer pair a i p q t) = subst (IsDriverValue library s value net) (sym (ap₂ value p q ∙ sym (fits.connections outer k pair a))) (driven_value t)

module _ (library : LibraryValue) (net : Path → List ℕ → Option Net) (nets : AreNets library net) (clock : (name : List ℕ) → Decided (IsClock library name)) (ordered : Ordered library net)
    (x : List ℕ → Bool) (s : Path → ℕ → Bool) where
  abbrev given_inputs : List ℕ → Bool
  given_inputs name = input_value (x name) (clock name)

  abbrev covers : Place → Bool
  covers = evaluated same_place (value_at library net given_inputs s) ordered.order

  abbrev pub made : Path → List ℕ → Bool
  made path name = net_value given_inputs s covers (net path name)

  made-net : (path : Path) (name : List ℕ) (e : Net) → Drives library path name e → made path name ≡ net_value given_inputs s covers (Some e)
  made-net path name e t = ap (net_value given_inputs s covers) (nets.finds path name e t)

  made-cover : (path : Path) (i : ℕ) (c : CoverValue) → CoverAt library path i c → made path c.output ≡ cover_value c (map (made path) c.inputs)
  made-cover path i c a =
      made-net path c.output (cover_net path i) (cover_output i c a refl refl)
      ∙ evaluated-rule same_place same_place-is same_place-refl (reads_of library net) (value_at library net given_inputs s) (λ p v w. value_at-local given_inputs s v w library net p)
      ordered.order (place_of path i) ordered.after (ordered.all path i c a)
      ∙ ap (λ o. value_in given_inputs s (net path) o covers) (cover_at-is library path i c a)

  made-connection : ((path : Path) (k : ℕ) (pair : Connection) (at : ConnectionAt library path k pair) → IsTrue (is_input at.child pair.formal) ⊎ IsTrue (is_output at.child pair.formal))
      → (path : Path) (k : ℕ) (pair : Connection) → ConnectionAt library path k pair → made path pair.actual ≡ made (k ∷ path) pair.formal
  made-connection formals path k pair a = elim (formals path k pair a) [
    | inl i ↦ (let r = nets.reads path pair.actual (input_actual k pair a i refl) in
        made-net path pair.actual r.0 r.1 ∙ sym (made-net (k ∷ path) pair.formal r.0 (from_outside k path pair a i refl refl r.1)))
    | inr out ↦ (let r = nets.reads (k ∷ path) pair.formal (model_output a.child (child_at library path k pair a) out) in
        made-net path pair.actual r.0 (from_inside k pair a out refl r.1) ∙ sym (made-net (k ∷ path) pair.formal r.0 r.1))
  ]

  pub made-fits : ((path : Path) (k : ℕ) (pair : Connection) (at : ConnectionAt library path k pair) → IsTrue (is_input at.child pair.formal) ⊎ IsTrue (is_output at.child pair.formal)) → Fits library x s made
  made-fits formals = record {
    inputs = λ name m off. made-net [] name (input_net name) (main_input refl m refl) ∙ elim (clock name) as (λ d. input_value (x name) d ≡ x name) [ inl on ↦ absurd (off on) | inr o ↦ refl ];
    clocks = λ name m on. made-net [] name (input_net name) (main_input refl m refl) ∙ elim (clock name) as (λ d. input_value (x name) d ≡ false) [ inl o ↦ refl | inr off ↦ absurd (off on) ];
    covers = made-cover;
    latches = λ path i l a. made-net path l.output (latch_net path i) (latch_output i l a refl refl);
    connections = made-connection formals;
  }

-- the value of a cover's output
abbrev output_in : (List ℕ → Bool) → Option CoverValue → Bool
output_in value None = false
output_in value (Some c) = value c.output

abbrev outputs : LibraryValue → (Path → List ℕ → Bool) → Place → Bool
outputs library value p = output_in (value p.path) (cover_at library p)

module _ (library : LibraryValue) (net : Path → List ℕ → Option Net) (nets : AreNets library net) (clock : (name : List ℕ) → Decided (IsClock library name)) (ordered : Ordered library net)
    (x : List ℕ → Bool) (s : Path → ℕ → Bool) where
  abbrev inputs : List ℕ → Bool
  inputs name = input_value (x name) (clock name)

  main_value : (value : Path → List ℕ → Bool) → Fits library x s value → (name : List ℕ) → IsMainInput library name → value [] name ≡ inputs name
  main_value value f name m = elim (clock name) as (λ d. value [] name ≡ input_value (x name) d) [ inl on ↦ f.clocks name m on | inr off ↦ f.inputs name m off ]

  -- a map that fits has at each driven name the value of its net
  drives_value : (value : Path → List ℕ → Bool) → Fits library x s value → {path : Path} {name : List ℕ} (e : Net) → Drives library path name e
      → value path name ≡ net_value inputs s (outputs library value) (Some e)
  drives_value value f (input_net own) t = driven_value library x s value f t ∙ main_value value f own (of_net library t)
  drives_value value f (latch_net own i) t = driven_value library x s value f t
  drives_value value f (cover_net own i) t = let d = driven_value library x s value f t in d.is ∙ ap (output_in (value own)) (sym (cover_at-is library own i d.cover d.at))

  names_value : (value : Path → List ℕ → Bool) → Fits library x s value → (path : Path) (names : List (List ℕ)) → ((name : List ℕ) → In names name → IsRead library path name)
      → map (value path) names ≡ values_in inputs s (net path) (outputs library value) names
  names_value value f path [] h = refl
  names_value value f path (name ∷ names) h =
      let r = nets.reads path name (h name (inl refl)) in
      grind (arith, ap₂, drives_value, net_value, inputs, outputs, names_value value f path names (λ other i. h other (inr i)))

  -- so it gives each cover its value over the nets of its inputs
  outputs-rule : (value : Path → List ℕ → Bool) → Fits library x s value → (p : Place) → In ordered.order p → outputs library value p ≡ value_at library net inputs s p (outputs library value)
  outputs-rule value f p i =
      let c = (ordered.only p i).0 in
      let a = (ordered.only p i).1 in
      let e : cover_at library p ≡ Some c = cover_at-is library p.path p.command c a in
      ap (output_in (value p.path)) e ∙ f.covers p.path p.command c a
      ∙ ap (cover_value c) (names_value value f p.path c.inputs (λ name j. cover_input p.command c a j))
      ∙ ap (λ o. value_in inputs s (net p.path) o (outputs library value)) (sym e)

  net_agree : (v w : Place → Bool) → ((p : Place) → In ordered.order p → v p ≡ w p) → (e : Net) → IsOfNet library e → net_value inputs s v (Some e) ≡ net_value inputs s w (Some e)
  net_agree v w h (cover_net path k) c = h (place_of path k) (ordered.all path k c.0 c.1)
  net_agree v w h e c = refl

  pub fits_agree : (value other : Path → List ℕ → Bool) → Fits library x s value → Fits library x s other → (path : Path) (name : List ℕ) (e : Net) → Drives library path name e → value path name ≡ other path name
  fits_agree value other f g path name e t = drives_value value f e t
      ∙ net_agree (outputs library value) (outputs library other) (rules_agree same_place same_place-is same_place-refl (reads_of library net) (value_at library net inputs s)
      (λ p v w. value_at-local inputs s v w library net p) ordered.order (outputs library value) (outputs library other) ordered.after (outputs-rule value f) (outputs-rule other g)) e (of_net library t)
      ∙ sym (drives_value other g e t)

-- a map that fits exists, and any two agree on every driven name
pub sound_law : (library : LibraryValue) → IsSound library → HasOneCycle library
sound_law library sound =
    let is = are_nets library sound.driven in
    let ordered = covers_ordered library sound.driven sound.no_loop sound.main sound.at _ is in
    let clock = is_clock library sound in
    record {
      exists = λ x s. record { value = made library _ is clock ordered x s; fits = made-fits library _ is clock ordered x s sound.driven.formals };
      agree = λ x s. fits_agree library _ is clock ordered x s;
    }
