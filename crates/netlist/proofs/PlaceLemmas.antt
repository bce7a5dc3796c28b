-- Places, and what stands at them: a place has one cover or latch, and a connection leads to the model that it places.
use Rattle.netlist.proofs.Common.{◌≡◌, ℕ, true, eqb, ◌∷◌, Option, Some, None, refl, sym, ap, ap₂, ◌∙◌, inl, inr, bytes_eq, slice_get, option_map, option_and_then, and_parts, and_from, none-some, same_Some, option_and_then_some, bytes_decides, Body, Latch, Command, LatchValue, Connection, ModelValue, Path, body_at, subckts_of, model_named, placed, model_at, CoverAt, LatchAt, ConnectionAt, Place, same_place, latch_in, cover_at, latch_at, CoverValue, SubcktValue, LibraryValue, eqb-true, eq-eqb, arith}
use Rattle.netlist.proofs.NameLemmas.{Decided}

abbrev pub place_of : Path → ℕ → Place
place_of path i = record { path = path; command = i }

-- the test of places decides whether they are equal
pub same_place-is : (p q : Place) → same_place p q ≡ true → p ≡ q
same_place-is p q t = grind (arith, and_parts, bytes_eq, eqb, bytes_decides, eqb-true, ap₂, place_of)

pub same_place-refl : (p : Place) → same_place p p ≡ true
same_place-refl p = and_from (bytes_eq p.path p.path) (eqb p.command p.command) ((bytes_decides p.path p.path).1 refl) (eq-eqb p.command p.command refl)

-- the command of a body
pub command_of : (o : Option Command) (b : Body) → option_map (λ (c : Command). c.body) o ≡ Some b → (c : Command) × (o ≡ Some c) × (c.body ≡ b)
command_of None b e = absurd (none-some b e)
command_of (Some c) b e = (c, refl, same_Some c.body b e)

pub body_of : (m : ModelValue) (i : ℕ) (c : Command) → slice_get m.commands i ≡ Some c → body_at m i ≡ Some c.body
body_of m i c e = rw e refl

pub placed-is : (library : LibraryValue) (m : ModelValue) (k : ℕ) (s : SubcktValue) → slice_get (subckts_of m.commands) k ≡ Some s → placed library k m ≡ model_named library.models s.model
placed-is library m k s e = rw e refl

-- the latch of a place
pub latch_at-some : (library : LibraryValue) (p : Place) (l : LatchValue) → LatchAt library p.path p.command l → latch_at library p ≡ Some l
latch_at-some library p l a = rw (a.at, a.is) refl

latch_is : (b : Body) (l : LatchValue) → latch_in b ≡ Some l → b ≡ Latch l
latch_is (Latch k) l e = ap Latch (same_Some k l e)
latch_is b l e = absurd (none-some l e)

module _ (library : LibraryValue) where
  pub cover_at-is : (path : Path) (i : ℕ) (c : CoverValue) → CoverAt library path i c → cover_at library (place_of path i) ≡ Some c
  cover_at-is path i c a = rw (a.at, a.is) refl

  -- the instance of a connection's formal
  pub child_at : (path : Path) (k : ℕ) (pair : Connection) (a : ConnectionAt library path k pair) → model_at library (k ∷ path) ≡ Some a.child
  child_at path k pair a = rw (a.at, a.is) a.places

  pub child_placed : (path : Path) (k : ℕ) (pair : Connection) (a : ConnectionAt library path k pair) → placed library k a.model ≡ Some a.child
  child_placed path k pair a = rw (a.is) a.places

  -- an instance inside another one
  pub record Inside (outer : Path) (k : ℕ) (child : ModelValue) : Type 0 where
    pub model : ModelValue
    pub subckt : SubcktValue
    pub at : model_at library outer ≡ Some model
    pub is : slice_get (subckts_of model.commands) k ≡ Some subckt
    pub places : model_named library.models subckt.model ≡ Some child

  pub inside : (outer : Path) (k : ℕ) (child : ModelValue) → model_at library (k ∷ outer) ≡ Some child → Inside outer k child
  inside outer k child e = grind arith

  -- a place has one latch, and it can be found
  pub one_latch : (path : Path) (i : ℕ) (l r : LatchValue) → LatchAt library path i l → LatchAt library path i r → l ≡ r
  one_latch path i l r a b = same_Some l r (sym (latch_at-some library (place_of path i) l a) ∙ latch_at-some library (place_of path i) r b)

  latch_found : (path : Path) (i : ℕ) (o : Option LatchValue) → latch_at library (place_of path i) ≡ o → Decided ((l : LatchValue) × LatchAt library path i l)
  latch_found path i None e = inr (λ h. none-some h.0 (sym e ∙ latch_at-some library (place_of path i) h.0 h.1))
  latch_found path i (Some l) e = inl (
    l,
    option_and_then_some (λ (m : ModelValue). option_and_then latch_in (body_at m i)) (model_at library path) l e (λ m a b.
        option_and_then_some latch_in (body_at m i) l b (λ c d f. record { model = m; at = a; is = d ∙ ap Some (latch_is c l f) })),
  )

  pub has_latch : (path : Path) (i : ℕ) → Decided ((l : LatchValue) × LatchAt library path i l)
  has_latch path i = latch_found path i (latch_at library (place_of path i)) refl
