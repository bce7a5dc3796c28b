-- Each driven name has one net, where no name is driven twice and each connection has a driver.
use Rattle.netlist.proofs.Common.{◌≡◌, ℕ, not, List, [], ◌∷◌, Option, Some, None, refl, sym, ap, ap₂, ◌∙◌, subst, subst₂, inl, inr, IsTrue, both_ways, and_parts, not-true, none-some, same_Some, Connection, ModelValue, Path, placed, model_at, has_name, is_input, is_output, ConnectionAt, IsMainInput, Net, input_net, latch_net, cover_net, Drives, main_input, latch_output, cover_output, from_inside, from_outside, Driver, by_input, by_latch, by_cover, by_subckt, IsDriver, input, latch, cover, output, input_actual, model_output, Ends, ends, IsDriven, AreNets, LibraryValue, slice_get, cases_Bool, Body, Cover, Latch, Subckt, Command, body_at, subckts_of, model_named, SubcktValue}
use Rattle.netlist.proofs.PlaceLemmas.{child_at, child_placed, command_of, body_of}
use Rattle.netlist.proofs.NameLemmas.{Decided, same_name, Found, find, Member, find_member}

-- The drivers and the reads of an instance are those of its model's commands, and its ports.
-- Whether something drives a name within an instance can be decided.

-- a cover or a latch has this output
abbrev HasOutput : List ℕ → Body → Type 0
HasOutput name (Cover c) = name ≡ c.output
HasOutput name (Latch l) = name ≡ l.output
HasOutput name (Subckt s) = ⊥

has_output : (name : List ℕ) (b : Body) → Decided (HasOutput name b)
has_output name (Cover c) = same_name name c.output
has_output name (Latch l) = same_name name l.output
has_output name (Subckt s) = inr (λ e. e)

-- an output connection to a placed model, by its actual
record OutputOf (child : ModelValue) (name : List ℕ) (pair : Connection) : Type 0 where
  actual : name ≡ pair.actual
  formal : IsTrue (is_output child pair.formal)

output_of : (child : ModelValue) (name : List ℕ) (pair : Connection) → Decided (OutputOf child name pair)
output_of child name pair = elim (same_name name pair.actual) [
  | inl e ↦ (elim (cases_Bool (is_output child pair.formal)) [ inl t ↦ inl (record { actual = e; formal = t }) | inr f ↦ inr (λ p. both_ways (is_output child pair.formal) f p.formal) ])
  | inr o ↦ inr (λ p. o p.actual)
]

module _ (library : LibraryValue) where
  -- a subcircuit with such a connection
  record Connects (name : List ℕ) (s : SubcktValue) : Type 0 where
    child : ModelValue
    places : model_named library.models s.model ≡ Some child
    pair : Member (OutputOf child name) s.pairs

  connects_to : (name : List ℕ) (s : SubcktValue) (o : Option ModelValue) → model_named library.models s.model ≡ o → Decided (Connects name s)
  connects_to name s None e = inr (λ c. none-some c.child (sym e ∙ c.places))
  connects_to name s (Some child) e = elim (find_member (OutputOf child name) s.pairs (output_of child name)) [
    | inl f ↦ inl (record { child = child; places = e; pair = f })
    | inr o ↦ inr (λ c. o (subst (λ m. Member (OutputOf m name) s.pairs) (same_Some c.child child (sym c.places ∙ e)) c.pair))
  ]

  abbrev HasOwn : List ℕ → ModelValue → Type 0
  HasOwn name m = Found (λ i (c : Command). HasOutput name c.body) m.commands

  abbrev HasConnection : List ℕ → ModelValue → Type 0
  HasConnection name m = Found (λ k s. Connects name s) (subckts_of m.commands)

  abbrev HasDriver : Path → List ℕ → Type 0
  HasDriver path name = (driver : Driver) × IsDriver library path name driver

  module _ (path : Path) (name : List ℕ) where
    no_model : (driver : Driver) → model_at library path ≡ None → IsDriver library path name driver → ⊥
    no_model driver at (input k i q) = none-some k.model (sym at ∙ k.at)
    no_model driver at (latch i l k p q) = none-some k.model (sym at ∙ k.at)
    no_model driver at (cover i c k p q) = none-some k.model (sym at ∙ k.at)
    no_model driver at (output j pair k out p q) = none-some k.model (sym at ∙ k.at)

    module _ (m : ModelValue) (at : model_at library path ≡ Some m) where
      own_driver : (i : ℕ) (b : Body) → body_at m i ≡ Some b → HasOutput name b → HasDriver path name
      own_driver i (Cover c) e p = (by_cover i, cover i c (record { model = m; at = at; is = e }) p refl)
      own_driver i (Latch l) e p = (by_latch i, latch i l (record { model = m; at = at; is = e }) p refl)
      own_driver i (Subckt s) e p = absurd p

      outer_driver : (k : ℕ) (s : SubcktValue) → slice_get (subckts_of m.commands) k ≡ Some s → Connects name s → HasDriver path name
      outer_driver k s e c =
          let f = c.pair in
          (by_subckt k (f.item).formal, output k f.item (record { model = m; subckt = s; child = c.child; at = at; is = e; member = f.member; places = c.places }) (f.is).formal (f.is).actual refl)

      own_found : (i : ℕ) (b : Body) → body_at m i ≡ Some b → HasOutput name b → HasOwn name m
      own_found i b e p =
          let f = command_of (slice_get m.commands i) b e in
          record { index = i; item = f.0; at = f.1; is = subst (HasOutput name) (sym f.2) p }

      no_driver : (IsTrue (is_input m name) → ⊥) → (HasOwn name m → ⊥) → (HasConnection name m → ⊥) → (driver : Driver) → IsDriver library path name driver → ⊥
      no_driver a b c driver (input k i q) = a (subst (λ x. IsTrue (is_input x name)) (same_Some k.model m (sym k.at ∙ at)) i)
      no_driver a b c driver (latch i l k p q) = b (own_found i (Latch l) (subst (λ x. body_at x i ≡ Some (Latch l)) (same_Some k.model m (sym k.at ∙ at)) k.is) p)
      no_driver a b c driver (cover i r k p q) = b (own_found i (Cover r) (subst (λ x. body_at x i ≡ Some (Cover r)) (same_Some k.model m (sym k.at ∙ at)) k.is) p)
      no_driver a b c driver (output j pair k out p q) =
          c (record {
            index = j;
            item = k.subckt;
            at = subst (λ x. slice_get (subckts_of x.commands) j ≡ Some k.subckt) (same_Some k.model m (sym k.at ∙ at)) k.is;
            is = record { child = k.child; places = k.places; pair = record { item = pair; member = k.member; is = record { actual = p; formal = out } } };
          })

      in_model : Decided (HasDriver path name)
      in_model = elim (cases_Bool (is_input m name)) [
        | inl t ↦ inl (by_input, input (record { model = m; at = at }) t refl)
        | inr f ↦ (elim (find (λ i (c : Command). HasOutput name c.body) m.commands (λ i c. has_output name c.body)) [
          | inl g ↦ inl (own_driver g.index (g.item).body (body_of m g.index g.item g.at) g.is)
          | inr g ↦ (elim (find (λ k s. Connects name s) (subckts_of m.commands) (λ k s. connects_to name s (model_named library.models s.model) refl)) [
            | inl h ↦ inl (outer_driver h.index h.item h.at h.is)
            | inr h ↦ inr (λ d. no_driver (both_ways (is_input m name) f) g h d.0 d.1)
          ])
        ])
      ]

    in_instance : (o : Option ModelValue) → model_at library path ≡ o → Decided (HasDriver path name)
    in_instance None at = inr (λ d. no_model d.0 at d.1)
    in_instance (Some m) at = in_model m at

  pub has_driver : (path : Path) (name : List ℕ) → Decided ((driver : Driver) × IsDriver library path name driver)
  has_driver path name = in_instance path name (model_at library path) refl

-- an output is no input
not_both : (m : ModelValue) (name : List ℕ) → IsTrue (is_input m name) → IsTrue (is_output m name) → ⊥
not_both m name i o = both_ways (is_input m name) (not-true (is_input m name) (and_parts (not (is_input m name)) (has_name m.outputs name) o).0) i

module _ (library : LibraryValue) (driven : IsDriven library) where
  abbrev HasNet : Path → List ℕ → Type 0
  HasNet path name = (net : Net) × Drives library path name net

  -- an output isn't driven by being an input
  pub no_input : (path : Path) (k : ℕ) (pair : Connection) (a : ConnectionAt library path k pair) → IsTrue (is_output a.child pair.formal) → (driver : Driver) → IsDriver library (k ∷ path) pair.formal driver → driver ≡ by_input → ⊥
  no_input path k pair a out driver (input at i q) e = not_both a.child pair.formal (subst (λ m. IsTrue (is_input m pair.formal)) (same_Some at.model a.child (sym at.at ∙ child_at library path k pair a)) i) out
  no_input path k pair a out driver (latch i l at p q) e = cc
  no_input path k pair a out driver (cover i c at p q) e = cc
  no_input path k pair a out driver (output j r at o p q) e = cc

  -- the net of a driver that is no input, inwards as far as the hierarchy goes
  net_inside : (m : ModelValue) → Ends library m → (path : Path) → model_at library path ≡ Some m → (name : List ℕ) (driver : Driver) → IsDriver library path name driver → (driver ≡ by_input → ⊥) → HasNet path name
  net_inside m t path at name driver (input a i q) off = absurd (off q)
  net_inside m t path at name driver (latch i l a p q) off = (latch_net path i, latch_output i l a p refl)
  net_inside m t path at name driver (cover i c a p q) off = (cover_net path i, cover_output i c a p refl)
  net_inside m (ends t) path at name driver (output k pair a out p q) off =
      let r = driven.driven (k ∷ path) pair.formal (model_output a.child (child_at library path k pair a) out) in
      let here : placed library k m ≡ Some a.child = subst (λ x. placed library k x ≡ Some a.child) (same_Some a.model m (sym a.at ∙ at)) (child_placed library path k pair a) in
      let z = net_inside a.child (t k a.child here) (k ∷ path) (child_at library path k pair a) pair.formal r.0 r.1 (no_input path k pair a out r.0 r.1) in
      (z.0, from_inside k pair a out p z.1)

  outwards : {name : List ℕ} (k : ℕ) (outer : Path) (pair : Connection) (a : ConnectionAt library outer k pair) → IsTrue (is_input a.child pair.formal) → name ≡ pair.formal → HasNet outer pair.actual → HasNet (k ∷ outer) name
  outwards k outer pair a i q z = (z.0, from_outside k outer pair a i refl q z.1)

  -- the net of a driver; that of an input is found outwards
  pub net_of_driver : (path : Path) (name : List ℕ) (driver : Driver) → IsDriver library path name driver → (net : Net) × Drives library path name net
  net_of_driver path name driver (latch i l a p q) = (latch_net path i, latch_output i l a p refl)
  net_of_driver path name driver (cover i c a p q) = (cover_net path i, cover_output i c a p refl)
  net_of_driver path name driver (output k pair a out p q) =
      net_inside a.model (driven.finite path a.model a.at) path a.at name driver (output k pair a out p q) (λ e. cc)
  net_of_driver [] name driver (input a i q) = (input_net name, main_input refl (record { model = a.model; at = a.at; is = i }) refl)
  net_of_driver (k ∷ outer) name driver (input a i q) =
      let c = driven.connected outer k a.model name a.at i in
      let pair : Connection = c.0 in
      let b : ConnectionAt library outer k pair = c.1 in
      let e : pair.formal ≡ name = c.2 in
      let r = driven.driven outer pair.actual (input_actual k pair b (ap₂ is_input (sym (same_Some a.model b.child (sym a.at ∙ child_at library outer k pair b))) e ∙ i) refl) in
      outwards k outer pair b (ap₂ is_input (sym (same_Some a.model b.child (sym a.at ∙ child_at library outer k pair b))) e ∙ i) (sym e) (net_of_driver outer pair.actual r.0 r.1)

  -- where the net of an input comes from
  pub data Outside (path : Path) (name : List ℕ) (net : Net) : Type 0 where
    at_main : path ≡ [] → net ≡ input_net name → Outside path name net
    at_actual : (k : ℕ) (outer : Path) (pair : Connection) → ConnectionAt library outer k pair → path ≡ k ∷ outer → name ≡ pair.formal → Drives library outer pair.actual net → Outside path name net

  -- what a driver says of the net
  abbrev Through : Path → List ℕ → Net → Driver → Type 0
  Through path name net by_input = Outside path name net
  Through path name net (by_latch i) = net ≡ latch_net path i
  Through path name net (by_cover i) = net ≡ cover_net path i
  Through path name net (by_subckt k formal) = Drives library (k ∷ path) formal net

  main_driver : {path : Path} {name : List ℕ} → path ≡ [] → (main : IsMainInput library name) → IsDriver library path name by_input
  main_driver p main = input (record { model = main.model; at = ap (model_at library) p ∙ main.at }) main.is refl

  formal_driver : {path : Path} {name : List ℕ} (k : ℕ) (outer : Path) (pair : Connection) (a : ConnectionAt library outer k pair) → IsTrue (is_input a.child pair.formal) → path ≡ k ∷ outer → name ≡ pair.formal → IsDriver library path name by_input
  formal_driver k outer pair a i p q = input (record { model = a.child; at = ap (model_at library) p ∙ child_at library outer k pair a }) (ap (is_input a.child) q ∙ i) refl

  pub driver_of : {path : Path} {name : List ℕ} {net : Net} → Drives library path name net → (driver : Driver) × (IsDriver library path name driver) × (Through path name net driver)
  driver_of (main_input p main q) = (by_input, main_driver p main, at_main p q)
  driver_of (latch_output i l a p q) = (by_latch i, latch i l a p refl, q)
  driver_of (cover_output i c a p q) = (by_cover i, cover i c a p refl, q)
  driver_of (from_inside k pair a out p t) = (by_subckt k pair.formal, output k pair a out p refl, t)
  driver_of (from_outside k outer pair a i p q t) = (by_input, formal_driver k outer pair a i p q, at_actual k outer pair a p q t)

  -- any net of a name comes through the name's driver
  through : {path : Path} {name : List ℕ} {net : Net} (driver : Driver) → IsDriver library path name driver → Drives library path name net → Through path name net driver
  through {path} {name} {net} driver h t = let r = driver_of t in subst (Through path name net) (driven.once path name r.0 driver r.1 h) r.2

  pub one_net : {path : Path} {name : List ℕ} {net other : Net} → Drives library path name net → Drives library path name other → net ≡ other
  one_net (latch_output i l a p q) r = q ∙ sym (through (by_latch i) (latch i l a p refl) r)
  one_net (cover_output i c a p q) r = q ∙ sym (through (by_cover i) (cover i c a p refl) r)
  one_net (from_inside k pair a out p t) r = one_net t (through (by_subckt k pair.formal) (output k pair a out p refl) r)
  one_net (main_input p main q) r = elim (through by_input (main_driver p main) r) [
    | at_main p2 q2 ↦ q ∙ sym q2
    | at_actual k outer pair a p2 q2 t ↦ absurd (cc)
  ]
  one_net {path} {name} {net} {other} (from_outside k outer pair a i p q t) r = elim (through by_input (formal_driver k outer pair a i p q) r) [
    | at_main p2 q2 ↦ absurd (cc)
    | at_actual k2 outer2 pair2 a2 p2 q2 t2 ↦
        (let o : outer2 ≡ outer = cc in
        let j : k2 ≡ k = cc in
        let same : pair ≡ pair2 = driven.apart outer k pair pair2 a (subst₂ (λ (x : Path) (y : ℕ). ConnectionAt library x y pair2) o j a2) (sym q ∙ q2) in
        one_net t (subst₂ (λ (x : Path) (y : Connection). Drives library x y.actual other) o (sym same) t2))
  ]

  abbrev net_from : (path : Path) (name : List ℕ) → Decided (HasDriver library path name) → Option Net
  net_from path name (inl d) = Some (net_of_driver path name d.0 d.1).0
  net_from path name (inr o) = None

  -- the nets of all names
  abbrev pub nets : Path → List ℕ → Option Net
  nets path name = net_from path name (has_driver library path name)

  nets-drives : (path : Path) (name : List ℕ) (net : Net) (d : Decided (HasDriver library path name)) → net_from path name d ≡ Some net → Drives library path name net
  nets-drives path name net (inl d) q = subst (Drives library path name) (same_Some (net_of_driver path name d.0 d.1).0 net q) (net_of_driver path name d.0 d.1).1
  nets-drives path name net (inr o) q = absurd (none-some net q)

  nets-finds : (path : Path) (name : List ℕ) (net : Net) (d : Decided (HasDriver library path name)) → Drives library path name net → net_from path name d ≡ Some net
  nets-finds path name net (inl d) t = ap Some (one_net (net_of_driver path name d.0 d.1).1 t)
  nets-finds path name net (inr o) t = absurd (let r = driver_of t in o (r.0, r.1))

  pub are_nets : AreNets library nets
  are_nets = record {
    drives = λ path name net q. nets-drives path name net (has_driver library path name) q;
    finds = λ path name net t. nets-finds path name net (has_driver library path name) t;
    reads = λ path name r. let d = driven.driven path name r in net_of_driver path name d.0 d.1;
  }

module _ (library : LibraryValue) (net other : Path → List ℕ → Option Net) (nets : AreNets library net) (others : AreNets library other) where
  same_from : (path : Path) (name : List ℕ) (a b : Option Net) → net path name ≡ a → other path name ≡ b → a ≡ b
  same_from path name (Some e) b p q = sym (others.finds path name e (nets.drives path name e p)) ∙ q
  same_from path name None (Some e) p q = sym p ∙ nets.finds path name e (others.drives path name e q)
  same_from path name None None p q = refl

  pub same_nets : net ≡ other
  same_nets i path name = same_from path name (net path name) (other path name) refl refl i
