-- Where the walks of the clocks and of the data find no fault, every latch control has one main input as its net, and no clock net is data; at a sound library they find none.
use Rattle.blif_flat.proofs.Common.{IsControlNet, ◌≡◌, ◌⊎◌, ℕ, List, [], ◌∷◌, Option, Some, None, refl, sym, ap, ◌∙◌, subst, inl, inr, option_and_then, none-some, same_Some, option_and_then_some, In, In-right, ap₂, subst₂, ◌++◌, LibraryValue, CoverValue, one_net, flat_all, not_empty, same_first, same_rest, Latch, Cover, LatchValue, ModelValue, Body, Path, model_at, body_at, LatchAt, CoverAt, input_net, Drives, IsClock, IsDriven, Place, is_latch, FlatOrder, cover_in, latch_in, cover_at, latch_at, FlatErr, SecondClock, ClockNotInput, ClockAsData, Clocks, free, no_input, second, same, is_gate, data_of, ClockAmong, ClockData, outputs, here, data_inputs, IsData, cover_data, latch_data, IsSound, IsWritten, IsMetInput, ControlNext, ControlFault, not_input, another, arith, rules}
use Rattle.blif_flat.specs.ClockFaults.{stop, none, first, later}
use Rattle.netlist.proofs.PlaceLemmas.{place_of, one_latch}
use Rattle.blif_flat.proofs.Hierarchy.PlaceLemmas.{written_once}
use Rattle.netlist.proofs.ControlLemmas.{name_of}

module _ (library : LibraryValue) where
  same_control : (p : Place) (l m : LatchValue) → LatchAt library p.path p.command l → LatchAt library p.path p.command m → l.control ≡ m.control
  same_control p l m a b = ap (λ (y : LatchValue). y.control) (one_latch library p.path p.command l m a b)

  -- the control of the latch at a place has a main input as its net, and the one that was met
  abbrev IsUnder : Option (List ℕ) → Place → Type 0
  IsUnder net p = (l : LatchValue) (control : List ℕ) → LatchAt library p.path p.command l → l.control ≡ Some control → IsMetInput library p.path control None net

  -- one net for all latches of a list, the one that was met before if there was one
  record HaveControl (chosen : Option (List ℕ)) (places : List Place) : Type 0 where
    net : Option (List ℕ)
    keeps : (name : List ℕ) → chosen ≡ Some name → net ≡ Some name
    each : (p : Place) → In places p → IsUnder net p

  keeps_first : (chosen net : Option (List ℕ)) (name : List ℕ) → (chosen ≡ None) ⊎ (chosen ≡ Some name) → net ≡ Some name → (other : List ℕ) → chosen ≡ Some other → net ≡ Some other
  keeps_first chosen net name (inl e) q other f = absurd (none-some other (sym e ∙ f))
  keeps_first chosen net name (inr e) q other f = q ∙ sym e ∙ f

  with_place : (net : Option (List ℕ)) (p : Place) (rest places : List Place) → places ≡ p ∷ rest → IsUnder net p → ((q : Place) → In rest q → IsUnder net q) → (q : Place) → In places q → IsUnder net q
  with_place net p rest places a u h q i = elim (subst (λ l. In l q) a i) as (λ _. IsUnder net q) [ inl e ↦ subst (IsUnder net) (sym e) u | inr j ↦ h q j ]

  have_control : {chosen : Option (List ℕ)} {places : List Place} {result : Option FlatErr} → Clocks library chosen places result → result ≡ None → HaveControl chosen places
  have_control {chosen} {places} (stop a q) e = record { net = chosen; keeps = λ name f. f; each = λ p i. absurd (subst (λ l. In l p) a i) }
  have_control {chosen} {places} (free p rest l a at off c) e =
      let r = have_control c e in
      record { net = r.net; keeps = r.keeps; each = with_place r.net p rest places a (λ m own b too. absurd (none-some own (sym off ∙ same_control p l m at b ∙ too))) r.each }
  have_control (no_input p rest l control net text a at is t off w q) e = absurd (none-some (ClockNotInput text) (sym e ∙ q))
  have_control (second p rest l control name earlier a at is t f off q) e = absurd (none-some (SecondClock earlier name) (sym e ∙ q))
  have_control {chosen} {places} (same p rest l control name a at is t f c) e =
      let r = have_control c e in
      let met : r.net ≡ Some name = r.keeps name refl in
      record {
        net = r.net;
        keeps = keeps_first chosen r.net name f met;
        each = with_place r.net p rest places a (λ m own b too. record {
          name = name;
          drives = subst (λ y. Drives library p.path y (input_net name)) (same_Some control own (sym is ∙ same_control p l m at b ∙ too)) t;
          before = inl refl;
          after = met;
        }) r.each;
      }

  module _ (main : ModelValue) (at : model_at library [] ≡ Some main) (latches : List Place) (order : FlatOrder library is_latch [] main latches) (clocks : Clocks library None latches None) where
    controls_of : HaveControl None latches
    controls_of = have_control clocks refl

    under_net : (path : Path) (i : ℕ) (l : LatchValue) (control : List ℕ) → LatchAt library path i l → l.control ≡ Some control → IsMetInput library path control None controls_of.net
    under_net path i l control a is = controls_of.each (place_of path i) (flat_all library is_latch main latches at order path a.model i (Latch l) a.at a.is refl) l control a is

    -- no F8
    pub clocks-input : (path : Path) (i : ℕ) (l : LatchValue) (control : List ℕ) → LatchAt library path i l → l.control ≡ Some control → (name : List ℕ) × Drives library path control (input_net name)
    clocks-input path i l control a is = let r = under_net path i l control a is in (r.name, r.drives)

    -- no F7
    pub clocks-one : IsDriven library → (path other : Path) (i j : ℕ) (l r : LatchValue) (control second : List ℕ) (name last : List ℕ) → LatchAt library path i l → LatchAt library other j r → l.control ≡ Some control
        → r.control ≡ Some second → Drives library path control (input_net name) → Drives library other second (input_net last) → name ≡ last
    clocks-one driven path other i j l r control own name last a b is too t u =
        let x = under_net path i l control a is in
        let y = under_net other j r own b too in
        ap name_of (one_net library driven t x.drives) ∙ same_Some x.name y.name (sym x.after ∙ y.after) ∙ ap name_of (one_net library driven y.drives u)

  -- the net of no name of a list is a clock
  pub among_none : {path : Path} {names : List (List ℕ)} {result : Option FlatErr} → ClockAmong library path names result → result ≡ None
      → (name net : List ℕ) → In names name → Drives library path name (input_net net) → IsClock library net → ⊥
  among_none (none h q) e = h
  among_none (first before rest n net a b t c q) e = absurd (none-some (ClockAsData net) (sym e ∙ q))

  -- what a cover and a latch take as data
  pub cover-data : (path : Path) (i : ℕ) (c : CoverValue) → CoverAt library path i c → data_of library (place_of path i) ≡ c.inputs
  cover-data path i c a = rw (a.at, a.is) refl

  pub latch-data : (path : Path) (i : ℕ) (l : LatchValue) → LatchAt library path i l → data_of library (place_of path i) ≡ l.input ∷ []
  latch-data path i l a = rw (a.at, a.is) refl

  module _ (main : ModelValue) where
    all_clear : {places : List Place} {result : Option FlatErr} → ClockData library main places result → result ≡ None
        → ClockAmong library [] main.outputs None × ((p : Place) → In places p → ClockAmong library p.path (data_of library p) None)
    all_clear (outputs a c) e = (subst (ClockAmong library [] main.outputs) e c, (λ p i. absurd (subst (λ l. In l p) a i)))
    all_clear (here q rest fault a c f) e = absurd (none-some fault (sym e ∙ f))
    all_clear (later q rest a c d) e = let r = all_clear d e in (
      r.0,
      (λ p i. elim (subst (λ l. In l p) a i) as (λ _. ClockAmong library p.path (data_of library p) None) [
        | inl s ↦ subst (λ (y : Place). ClockAmong library y.path (data_of library y) None) (sym s) c
        | inr j ↦ r.1 p j
      ]),
    )

    -- no F9 at the outputs
    pub data-output : {places : List Place} → ClockData library main places None → (name net : List ℕ) → In main.outputs name → Drives library [] name (input_net net) → IsClock library net → ⊥
    data-output d = among_none (all_clear d refl).0 refl

    -- nor at the covers and latches
    module _ (at : model_at library [] ≡ Some main) (gates : List Place) (order : FlatOrder library is_gate [] main gates) (data_is : ClockData library main gates None) where
      pub data-clock : (path : Path) (name net : List ℕ) → IsData library path name → Drives library path name (input_net net) → IsClock library net → ⊥
      data-clock path name net (cover_data i c a j) =
          among_none ((all_clear data_is refl).1 (place_of path i) (flat_all library is_gate main gates at order path a.model i (Cover c) a.at a.is refl)) refl name net
          (subst (λ l. In l name) (sym (cover-data path i c a)) j)
      data-clock path name net (latch_data i l a e) =
          among_none ((all_clear data_is refl).1 (place_of path i) (flat_all library is_gate main gates at order path a.model i (Latch l) a.at a.is refl)) refl name net
          (subst (λ l. In l name) (sym (latch-data path i l a)) (inl e))

  -- what is found at a place stands there
  cover_body : (path : Path) (i : ℕ) (m : ModelValue) → model_at library path ≡ Some m → (b : Body) → body_at m i ≡ Some b → (c : CoverValue) → cover_in b ≡ Some c → CoverAt library path i c
  cover_body path i m at (Cover k) e c f = record { model = m; at = at; is = e ∙ ap (λ y. Some (Cover y)) (same_Some k c f) }
  cover_body path i m at b e c f = absurd (none-some c f)

  latch_body : (path : Path) (i : ℕ) (m : ModelValue) → model_at library path ≡ Some m → (b : Body) → body_at m i ≡ Some b → (l : LatchValue) → latch_in b ≡ Some l → LatchAt library path i l
  latch_body path i m at (Latch k) e l f = record { model = m; at = at; is = e ∙ ap (λ y. Some (Latch y)) (same_Some k l f) }
  latch_body path i m at b e l f = absurd (none-some l f)

  pub is_cover_at : (p : Place) (c : CoverValue) → cover_at library p ≡ Some c → CoverAt library p.path p.command c
  is_cover_at p c e = grind arith

  pub is_latch_at : (p : Place) (l : LatchValue) → latch_at library p ≡ Some l → LatchAt library p.path p.command l
  is_latch_at p l e = grind arith

  data_from : (p : Place) (name : List ℕ) (o : Option CoverValue) → cover_at library p ≡ o → (u : Option LatchValue) → latch_at library p ≡ u → In (data_inputs o u) name → IsData library p.path name
  data_from p name (Some c) e u f i = cover_data p.command c (is_cover_at p c e) i
  data_from p name None e (Some l) f (inl q) = latch_data p.command l (is_latch_at p l f) q
  data_from p name None e (Some l) f (inr i) = absurd i
  data_from p name None e None f i = absurd i

  -- a fault among names is one of them
  among_some : {path : Path} {names : List (List ℕ)} {result : Option FlatErr} (fault : FlatErr) → ClockAmong library path names result → result ≡ Some fault
      → ((name net : List ℕ) → In names name → Drives library path name (input_net net) → IsClock library net → ⊥) → ⊥
  among_some fault (none h q) e o = none-some fault (sym q ∙ e)
  among_some fault (first before rest name net a b t c q) e o = o name net (subst (λ l. In l name) (sym a) (In-right before (name ∷ rest) name (inl refl))) t c

  module _ (sound : IsSound library) where
    no_clock_fault : {first : Option (List ℕ)} {places : List Place} {result : Option FlatErr} (fault : FlatErr) → Clocks library first places result → result ≡ Some fault
        → ((name : List ℕ) → first ≡ Some name → IsControlNet library name) → ⊥
    no_clock_fault fault (stop a q) e met = none-some fault (sym q ∙ e)
    no_clock_fault fault (free p rest l a at off c) e met = no_clock_fault fault c e met
    no_clock_fault fault (no_input p rest l control net text a at is t off w q) e met =
        let r = sound.control_input p.path p.command l control at is in off r.0 (one_net library sound.driven t r.1)
    no_clock_fault fault (second p rest l control name earlier a at is t f off q) e met =
        let k = met earlier f in
        off (sound.one_control p.path k.path p.command k.command l k.latch control k.control name earlier at k.at is k.is t k.drives)
    no_clock_fault fault (same p rest l control name a at is t f c) e met = no_clock_fault fault c e (λ other q. subst (IsControlNet library) (same_Some name other q)
        (record { path = p.path; command = p.command; latch = l; control = control; at = at; is = is; drives = t }))

    -- no F7 and F8
    pub sound-clocks : (places : List Place) (fault : FlatErr) → Clocks library None places (Some fault) → ⊥
    sound-clocks places fault c = no_clock_fault fault c refl (λ name e. absurd (none-some name e))

    no_data_fault : (main : ModelValue) → model_at library [] ≡ Some main → {places : List Place} {result : Option FlatErr} (fault : FlatErr) → ClockData library main places result → result ≡ Some fault → ⊥
    no_data_fault main at fault (outputs a c) e = among_some fault c e (λ name net i. sound.no_clock_output name net (subst (λ (m : ModelValue). In m.outputs name) (same_Some main sound.main (sym at ∙ sound.at)) i))
    no_data_fault main at fault (here p rest own a c q) e = among_some own c refl (λ name net i. sound.no_clock_data p.path name net
        (data_from p name (cover_at library p) refl (latch_at library p) refl i))
    no_data_fault main at fault (later p rest a c d) e = no_data_fault main at fault d e

    -- no F9
    pub sound-data : (main : ModelValue) → model_at library [] ≡ Some main → (places : List Place) (fault : FlatErr) → ClockData library main places (Some fault) → ⊥
    sound-data main at places fault d = no_data_fault main at fault d refl

-- The walks of the clocks and of the data have one result each.
module _ (library : LibraryValue) (driven : IsDriven library) where
  -- the walk at a latch goes on or is refused
  data Step (chosen : Option (List ℕ)) (p : Place) (rest : List Place) (result : Option FlatErr) : Type 0 where
    goes_on : (l : LatchValue) (next : Option (List ℕ)) → LatchAt library p.path p.command l → ControlNext library p.path l.control chosen next → Clocks library next rest result → Step chosen p rest result
    is_refused : (l : LatchValue) (fault : FlatErr) → LatchAt library p.path p.command l → ControlFault library p.path l.control chosen fault → result ≡ Some fault → Step chosen p rest result

  moved : {chosen : Option (List ℕ)} {places : List Place} {result : Option FlatErr} (q p : Place) (others rest : List Place) → places ≡ q ∷ others → places ≡ p ∷ rest → Step chosen q others result → Step chosen p rest result
  moved {chosen} {places} {result} q p others rest a b s = subst₂ (λ (x : Place) (y : List Place). Step chosen x y result) (same_first q p others rest a b) (same_rest q p others rest a b) s

  step_of : {chosen : Option (List ℕ)} {places : List Place} {result : Option FlatErr} → Clocks library chosen places result → (p : Place) (rest : List Place) → places ≡ p ∷ rest → Step chosen p rest result
  step_of (stop a q) p rest e = absurd (not_empty p rest a e)
  step_of {chosen} (free q others l a at off c) p rest e = moved q p others rest a e (goes_on l chosen at (subst (λ o. ControlNext library q.path o chosen chosen) (sym off) refl) c)
  step_of {chosen} (no_input q others l control net text a at is t off w r) p rest e = moved q p others rest a e (is_refused l (ClockNotInput text) at
      (subst (λ o. ControlFault library q.path o chosen (ClockNotInput text)) (sym is) (not_input net text t off w refl)) r)
  step_of {chosen} (second q others l control name earlier a at is t f off r) p rest e = moved q p others rest a e (is_refused l (SecondClock earlier name) at
      (subst (λ o. ControlFault library q.path o chosen (SecondClock earlier name)) (sym is) (another name earlier t f off refl)) r)
  step_of {chosen} (same q others l control name a at is t f c) p rest e = moved q p others rest a e (goes_on l (Some name) at
      (subst (λ o. ControlNext library q.path o chosen (Some name)) (sym is) (record { name = name; drives = t; before = f; after = refl })) c)

  end_of : {chosen : Option (List ℕ)} {places : List Place} {result : Option FlatErr} → Clocks library chosen places result → places ≡ [] → result ≡ None
  end_of (stop a q) e = q
  end_of (free q others l a at off c) e = absurd (not_empty q others e a)
  end_of (no_input q others l control net text a at is t off w r) e = absurd (not_empty q others e a)
  end_of (second q others l control name earlier a at is t f off r) e = absurd (not_empty q others e a)
  end_of (same q others l control name a at is t f c) e = absurd (not_empty q others e a)

  abbrev Once : List Place → Type 0
  Once places = (chosen : Option (List ℕ)) (result other : Option FlatErr) → Clocks library chosen places result → Clocks library chosen places other → result ≡ other

  same_input : (path : Path) (control name other : List ℕ) → Drives library path control (input_net name) → Drives library path control (input_net other) → name ≡ other
  same_input path control name other t u = ap name_of (one_net library driven t u)

  next_once : (path : Path) (o chosen next other : Option (List ℕ)) → ControlNext library path o chosen next → ControlNext library path o chosen other → next ≡ other
  next_once path None chosen next other m n = m ∙ sym n
  next_once path (Some control) chosen next other m n = m.after ∙ ap Some (same_input path control m.name n.name m.drives n.drives) ∙ sym n.after

  fault_once : (path : Path) (o chosen : Option (List ℕ)) (fault other : FlatErr) → ControlFault library path o chosen fault → ControlFault library path o chosen other → fault ≡ other
  fault_once path None chosen fault other a b = absurd a
  fault_once path (Some control) chosen fault other (not_input net text t off w q) (not_input own last u on v r) = grind (arith, written_once, one_net)
  fault_once path (Some control) chosen fault other (not_input net text t off w q) (another name earlier u f on r) = absurd (off name (one_net library driven t u))
  fault_once path (Some control) chosen fault other (another name earlier t f off q) (not_input net text u on w r) = absurd (on name (one_net library driven u t))
  fault_once path (Some control) chosen fault other (another name earlier t f off q) (another last before u g on r) = grind (arith, ap₂, same_Some, same_input)

  next_or_fault : (path : Path) (o chosen next : Option (List ℕ)) (fault : FlatErr) → ControlNext library path o chosen next → ControlFault library path o chosen fault → ⊥
  next_or_fault path None chosen next fault m r = r
  next_or_fault path (Some control) chosen next fault m (not_input net text t off w q) = off m.name (one_net library driven t m.drives)
  next_or_fault path (Some control) chosen next fault m (another name earlier t f off q) = search (rules, none-some, same_input, same_Some)

  step_once : (rest : List Place) → Once rest → (chosen : Option (List ℕ)) (p : Place) (result other : Option FlatErr) → Step chosen p rest result → Step chosen p rest other → result ≡ other
  step_once rest once chosen p result other (goes_on l next a m c) (goes_on k last b n d) =
      once next result other c (subst (λ x. Clocks library x rest other) (next_once p.path l.control chosen last next (subst (λ o. ControlNext library p.path o chosen last) (same_control library p k l b a) n) m) d)
  step_once rest once chosen p result other (goes_on l next a m c) (is_refused k f b n q) = grind (arith, next_or_fault, same_control)
  step_once rest once chosen p result other (is_refused k f b n q) (goes_on l next a m c) = grind (arith, next_or_fault, same_control)
  step_once rest once chosen p result other (is_refused l f a m q) (is_refused k g b n r) = grind (arith, fault_once, same_control)

  pub clocks_once : (places : List Place) (chosen : Option (List ℕ)) (result other : Option FlatErr) → Clocks library chosen places result → Clocks library chosen places other → result ≡ other
  clocks_once [] chosen result other c k = end_of c refl ∙ sym (end_of k refl)
  clocks_once (p ∷ rest) chosen result other c k = step_once rest (clocks_once rest) chosen p result other (step_of c p rest refl) (step_of k p rest refl)

-- the first of a kind in a list is one
first_once : {A : Type 0} (P : A → Type 0) (before others : List A) (x y : A) (xs ys : List A) → before ++ x ∷ xs ≡ others ++ y ∷ ys
    → ((z : A) → In before z → P z → ⊥) → ((z : A) → In others z → P z → ⊥) → P x → P y → x ≡ y
first_once P [] [] x y xs ys e h k p q = same_first x y xs ys refl e
first_once P [] (z ∷ others) x y xs ys e h k p q = absurd (k z (inl refl) (subst P (same_first x z xs (others ++ y ∷ ys) refl e) p))
first_once P (z ∷ before) [] x y xs ys e h k p q = absurd (h z (inl refl) (subst P (sym (same_first z y (before ++ x ∷ xs) ys refl e)) q))
first_once P (z ∷ before) (w ∷ others) x y xs ys e h k p q = grind (arith, same_rest, first_once P before others x y xs ys (same_rest z w (before ++ x ∷ xs) (others ++ y ∷ ys) refl e) (λ v i. h v (inr i)) (λ v i. k v (inr i)) p q)

module _ (library : LibraryValue) (driven : IsDriven library) where
  -- the net of a name is a clock
  record HasClock (path : Path) (name : List ℕ) : Type 0 where
    net : List ℕ
    drives : Drives library path name (input_net net)
    clock : IsClock library net

  among_once : {path : Path} {names : List (List ℕ)} {result other : Option FlatErr} → ClockAmong library path names result → ClockAmong library path names other → result ≡ other
  among_once (none h q) (none k r) = q ∙ sym r
  among_once (none h q) (first before rest name net a b t c r) = absurd (h name net (subst (λ l. In l name) (sym a) (In-right before (name ∷ rest) name (inl refl))) t c)
  among_once (first before rest name net a b t c r) (none h q) = absurd (h name net (subst (λ l. In l name) (sym a) (In-right before (name ∷ rest) name (inl refl))) t c)
  among_once {path} (first before rest name net a b t c q) (first others end last own d f u g r) =
      let e : name ≡ last = first_once (HasClock path) before others name last rest end (sym a ∙ d) (λ y i h. among_none library b refl y h.net i h.drives h.clock)
      (λ y i h. among_none library f refl y h.net i h.drives h.clock) (record { net = net; drives = t; clock = c }) (record { net = own; drives = u; clock = g }) in
      q ∙ ap (λ y. Some (ClockAsData y)) (ap name_of (one_net library driven (subst (λ y. Drives library path y (input_net net)) e t) u)) ∙ sym r

  module _ (main : ModelValue) where
    again : (p q : Place) (result : Option FlatErr) → p ≡ q → ClockAmong library q.path (data_of library q) result → ClockAmong library p.path (data_of library p) result
    again p q result e c = subst (λ (y : Place). ClockAmong library y.path (data_of library y) result) (sym e) c

    pub data_once : {places : List Place} {result other : Option FlatErr} → ClockData library main places result → ClockData library main places other → result ≡ other
    data_once (outputs a c) (outputs b d) = among_once c d
    data_once (outputs a c) (here p rest fault b d r) = absurd (not_empty p rest a b)
    data_once (outputs a c) (later p rest b d ds) = absurd (not_empty p rest a b)
    data_once (here p rest fault b d r) (outputs a c) = absurd (not_empty p rest a b)
    data_once (later p rest b d ds) (outputs a c) = absurd (not_empty p rest a b)
    data_once (here p rest fault a c q) (here o others last b d r) = q ∙ among_once c (again p o (Some last) (same_first p o rest others a b) d) ∙ sym r
    data_once (here p rest fault a c q) (later o others b d ds) = absurd (none-some fault (sym (among_once c (again p o None (same_first p o rest others a b) d))))
    data_once (later p rest a c cs) (here o others last b d r) = absurd (none-some last (among_once c (again p o (Some last) (same_first p o rest others a b) d)))
    data_once {other = other} (later p rest a c cs) (later o others b d ds) = data_once cs (subst (λ l. ClockData library main l other) (sym (same_rest p o rest others a b)) ds)
