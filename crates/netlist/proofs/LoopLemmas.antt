-- Loops of covers: none depends on itself exactly where the walk meets none again, and then they have an order in which each comes after those that it reads.
use Rattle.netlist.proofs.Common.{◌≡◌, ℕ, List, [], ◌∷◌, Option, Some, None, refl, sym, ap, subst, inl, inr, ◌⊎◌, true, ◌++◌, In, both_ways, cases_Bool, false≢true, In-right, In-append, own_of, ModelValue, Body, Cover, LatchValue, Path, body_at, model_at, CoverAt, Net, IsMainInput, input_net, latch_net, cover_net, Drives, main_input, latch_output, cover_output, from_inside, from_outside, Place, same_place, cover_at, latch_at, is_cover, is_latch, FlatOrder, IsDriven, AreNets, with_cover, covers_among, reads_in, reads_of, ReadsCover, Depends, direct, through, Ordered, latch_covers, all_latch_covers, roots_of, LoopWalk, CoverValue, LibraryValue, arith}
use Rattle.netlist.proofs.OrderLemmas.{flat_all, order_exists, IsOfKind, flat_only}
use Rattle.netlist.proofs.PlaceLemmas.{cover_at-is, place_of, same_place-is, same_place-refl}
use Rattle.netlist.proofs.NameLemmas.{Decided, find_member}
use Rattle.netlist.proofs.MeetLemmas.{meets_none, meets_clean}
use Rattle.netlist.proofs.PostLemmas.{Reaches, at_once, further}

module _ (library : LibraryValue) (net : Path → List ℕ → Option Net) (nets : AreNets library net) where
  -- a name among several whose net is the cover's
  record IsAmong (path : Path) (names : List (List ℕ)) (q : Place) : Type 0 where
    name : List ℕ
    member : In names name
    is : net path name ≡ Some (cover_net q.path q.command)

  with_cases : (o : Option Net) (places : List Place) (q : Place) → In (with_cover o places) q → (o ≡ Some (cover_net q.path q.command)) ⊎ In places q
  with_cases (Some (cover_net own k)) places q (inl s) = inl (ap (λ (p : Place). Some (cover_net p.path p.command)) (sym s))
  with_cases (Some (cover_net own k)) places q (inr i) = inr i
  with_cases o places q i = inr i

  among : (path : Path) (names : List (List ℕ)) (q : Place) → In (covers_among (net path) names) q → IsAmong path names q
  among path [] q i = absurd i
  among path (name ∷ names) q i = elim (with_cases (net path name) (covers_among (net path) names) q i) [
    | inl e ↦ record { name = name; member = inl refl; is = e }
    | inr j ↦ (let a = among path names q j in record { name = a.name; member = inr a.member; is = a.is })
  ]

  reads_cover : (p q : Place) (c : CoverValue) → CoverAt library p.path p.command c → In (reads_of library net p) q → ReadsCover library p q
  reads_cover p q c a i = grind (arith, among, reads_in, cover_at-is, cover_net)

  -- covers read only covers, so what is reached is depended on
  module _ (cover_of : (p q : Place) → (c : CoverValue) × CoverAt library p.path p.command c → In (reads_of library net p) q → (d : CoverValue) × CoverAt library q.path q.command d) where
    pub reaches_depends : {p q : Place} → (c : CoverValue) × CoverAt library p.path p.command c → Reaches (reads_of library net) p q → Depends library p q
    reaches_depends {p} {q} h (at_once i) = direct (reads_cover p q h.0 h.1 i)
    reaches_depends {p} {q} h (further m i r) = through m (reads_cover p m h.0 h.1 i) (reaches_depends (cover_of p m h i) r)

-- whether a place stands in a list can be decided
one_place : (p q : Place) → Decided (p ≡ q)
one_place p q = elim (cases_Bool (same_place p q)) [
  | inl t ↦ inl (same_place-is p q t)
  | inr u ↦ inr (λ e. both_ways (same_place p q) u (subst (λ x. same_place p x ≡ true) e (same_place-refl p)))
]

pub has_cover_place : (ps : List Place) (p : Place) → In ps p ⊎ (In ps p → ⊥)
has_cover_place ps p = elim (find_member (λ q. q ≡ p) ps (λ q. one_place q p)) [
  | inl m ↦ inl (subst (In ps) m.is m.member)
  | inr o ↦ inr (λ i. o (record { item = p; member = i; is = refl }))
]

module _ (library : LibraryValue) where
  abbrev pub HasCover : Place → Type 0
  HasCover p = (c : CoverValue) × CoverAt library p.path p.command c

  -- the net of an input has a main input, and that of a cover has a cover
  abbrev pub IsOfNet : Net → Type 0
  IsOfNet (input_net name) = IsMainInput library name
  IsOfNet (latch_net path i) = Unit {0}
  IsOfNet (cover_net path i) = HasCover (place_of path i)

  pub of_net : {path : Path} {name : List ℕ} {e : Net} → Drives library path name e → IsOfNet e
  of_net (main_input p m q) = subst IsOfNet (sym q) m
  of_net (latch_output i l a p q) = subst IsOfNet (sym q) tt
  of_net (cover_output i c a p q) = subst IsOfNet (sym q) (c, a)
  of_net (from_inside k pair a out p t) = of_net t
  of_net (from_outside k outer pair a i p q t) = of_net t

  module _ (net : Path → List ℕ → Option Net) (nets : AreNets library net) where
    -- the covers among nets are covers, so those that are read are, and the roots
    among_covers : (path : Path) (names : List (List ℕ)) (q : Place) → In (covers_among (net path) names) q → HasCover q
    among_covers path names q i = let a = among library net nets path names q i in of_net (nets.drives path a.name (cover_net q.path q.command) a.is)

    in_covers : (path : Path) (o : Option CoverValue) (q : Place) → In (reads_in (net path) o) q → HasCover q
    in_covers path None q i = absurd i
    in_covers path (Some c) q i = among_covers path c.inputs q i

    pub read_cover : (p q : Place) → HasCover p → In (reads_of library net p) q → HasCover q
    read_cover p q h i = in_covers p.path (cover_at library p) q i

    at_latch : (path : Path) (o : Option LatchValue) (q : Place) → In (latch_covers (net path) o) q → HasCover q
    at_latch path None q i = absurd i
    at_latch path (Some l) q i = among_covers path (l.input ∷ []) q i

    at_latches : (latches : List Place) (q : Place) → In (all_latch_covers library net latches) q → HasCover q
    at_latches [] q i = absurd i
    at_latches (p ∷ latches) q i = elim (In-append (latch_covers (net p.path) (latch_at library p)) (all_latch_covers library net latches) q i) as (λ _. HasCover q) [
      | inl j ↦ at_latch p.path (latch_at library p) q j
      | inr j ↦ at_latches latches q j
    ]

    pub root_cover : (main : ModelValue) (latches : List Place) (q : Place) → In (roots_of library net main latches) q → HasCover q
    root_cover main latches q i = elim (In-append (covers_among (net []) main.outputs) (all_latch_covers library net latches) q i) as (λ _. HasCover q) [
      | inl j ↦ among_covers [] main.outputs q j
      | inr j ↦ at_latches latches q j
    ]

  body_cover : (p : Place) (m : ModelValue) → model_at library p.path ≡ Some m → (b : Body) → body_at m p.command ≡ Some b → is_cover b ≡ true → HasCover p
  body_cover p m at (Cover c) e t = (c, record { model = m; at = at; is = e })
  body_cover p m at b e t = absurd (false≢true t)

  pub kind_cover : (p : Place) → IsOfKind library is_cover p → HasCover p
  kind_cover p k = body_cover p k.model k.at k.body k.is k.kind_is

  -- each node at which the walk begins is a cover
  pub start_cover : {result : _} (w : LoopWalk library result) (p : Place) → In (roots_of library w.net w.main w.latches ++ w.covers) p → HasCover p
  start_cover w p i = elim (In-append (roots_of library w.net w.main w.latches) w.covers p i) as (λ _. HasCover p) [
    | inl j ↦ root_cover w.net w.nets w.main w.latches p j
    | inr j ↦ kind_cover p (flat_only library is_cover w.main w.covers w.at w.covers_are p j)
  ]

  pub walk_ordered : (w : LoopWalk library None) → Ordered library w.net
  walk_ordered w =
      let r = meets_none (reads_of library w.net) has_cover_place HasCover (read_cover w.net w.nets) (roots_of library w.net w.main w.latches ++ w.covers) w.meets (start_cover w) in
      record {
        order = r.order;
        after = r.after;
        all = λ path i c a. r.all (place_of path i) (In-right (roots_of library w.net w.main w.latches) w.covers (place_of path i)
            (flat_all library is_cover w.main w.covers w.at w.covers_are path a.model i (Cover c) a.at a.is refl));
        only = r.only;
      }

module _ (library : LibraryValue) (driven : IsDriven library) (no_loop : (p : Place) → Depends library p p → ⊥) (main : ModelValue) (at : model_at library [] ≡ Some main)
    (net : Path → List ℕ → Option Net) (nets : AreNets library net) where
  module _ (covers : List Place) (covers_are : FlatOrder library is_cover [] main covers) where
    stands : (p : Place) → HasCover library p → In covers p
    stands p h = flat_all library is_cover main covers at covers_are p.path h.1.model p.command (Cover h.0) h.1.at h.1.is refl

    cover_there : (p : Place) → In covers p → HasCover library p
    cover_there p i = kind_cover library p (flat_only library is_cover main covers at covers_are p i)

    starts_inside : (latches : List Place) (p : Place) → In (roots_of library net main latches ++ covers) p → In covers p
    starts_inside latches p i = elim (In-append (roots_of library net main latches) covers p i) as (λ _. In covers p) [
      | inl j ↦ stands p (root_cover library net nets main latches p j)
      | inr j ↦ j
    ]

    abbrev walk_through : (latches : List Place) → FlatOrder library is_latch [] main latches → LoopWalk library None
    walk_through latches latches_are = record {
      main = main;
      at = at;
      covers = covers;
      covers_are = covers_are;
      latches = latches;
      latches_are = latches_are;
      net = net;
      nets = nets;
      meets = meets_clean (reads_of library net) covers (λ p q i j. stands q (read_cover library net nets p q (cover_there p i) j))
          (λ p i r. no_loop p (reaches_depends library net nets (read_cover library net nets) (cover_there p i) r))
          (roots_of library net main latches ++ covers) (starts_inside latches);
    }

  pub covers_ordered : Ordered library net
  covers_ordered =
      let c = order_exists library (own_of is_cover) driven.known main (driven.finite [] main at) [] at in
      let l = order_exists library (own_of is_latch) driven.known main (driven.finite [] main at) [] at in
      walk_ordered library (walk_through c.0 c.1 l.0 l.1)
