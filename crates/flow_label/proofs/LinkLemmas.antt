-- A node without an owner, and one choice after another, give one more path.
use Rattle.flow_label.proofs.Common.{◌≡◌, ℕ, ◌+◌, ◌<◌, ◌≤◌, ◌∷◌, length, sym, ap, ◌∙◌, subst, inl, inr, ◌⊎◌, arith, cases_eq, In, FlowNet, IsInner, IsEnd, IsChoice, HasChosen, IsLinked, IsUpdated, rules, true, cond, eqb, [], get_or, refl, eqb-false, cases_Bool, first_and, node_count, IsAnd, IsNet, IsRoot, cases_lt, source_below, choose, SiteValue, net_of, is_inner, AreRouted, first_owner, owner_in, AreLinks, zeros, length-replicate, ◌-◌, List, ◌++◌, set, get_or-set_other, get_or-set_same, length-append, eqb-true, Regular, In-get_or, In-push, pushed_apart, AreMet, CanTurn}
use Rattle.flow_label.proofs.GraphLemmas.{live_pos, live_inside}
use Rattle.flow_label.proofs.StampLemmas.{zero_at}
use Rattle.flow_label.proofs.OnceLemmas.{once_places}

-- inner nodes and their choices are not the constant
pub inner_pos : (net : FlowNet) (a : ℕ) → IsInner net a → 0 < a
inner_pos net a i = let l : 1 + length net.graph.kinds ≤ a = i.and.0 in omega arith

pub choice_pos : (net : FlowNet) (a u : ℕ) → IsInner net a → IsChoice net a u → 0 < u
choice_pos net a u i (inl e) = let p : 0 < a = inner_pos net a i in omega arith
choice_pos net a u i (inr f) = live_pos net.graph net.label u f.1.live

-- a node without an owner is nobody's choice
pub take_up : (net : FlowNet) (owner chosen : ℕ → ℕ) (count u : ℕ) → IsLinked net 0 owner chosen count → 0 < net.node → owner u ≡ 0 → IsLinked net u owner chosen count
take_up net owner chosen count u k pos free = search (rules, inner_pos)

pub owned_kept : (owner owner' : ℕ → ℕ) (u a s : ℕ) → 0 < a → IsUpdated owner owner' u a → 0 < owner s → 0 < owner' s
owned_kept owner owner' u a s pos new p = search (rules, cases_eq)

-- The owner a of w chooses the loose node u in place of w, which is loose then.
module _ (net : FlowNet) (owner chosen owner' chosen' : ℕ → ℕ) (count u w a : ℕ) (k : IsLinked net u owner chosen count)
    (is : owner w ≡ a) (inner : IsInner net a) (choice : IsChoice net a u) (other : w ≡ u → ⊥)
    (new_owner : IsUpdated owner owner' u a) (new_chosen : IsUpdated chosen chosen' a u) where
  a_pos : 0 < a
  a_pos = inner_pos net a inner

  not_node : a ≡ net.node → ⊥
  not_node e = let l : a < net.node = inner.below in absurd (omega arith)

  chose : chosen a ≡ w
  chose = search (rules, not_node)

  choices : (b : ℕ) → IsInner net b → IsChoice net b (chosen' b)
  choices b i = elim (cases_eq b a) [
    | inl e ↦ subst (λ c. IsChoice net c (chosen' c)) (sym e) (subst (λ v. IsChoice net a v) (sym new_chosen.there) choice)
    | inr ne ↦ subst (λ v. IsChoice net b v) (sym (new_chosen.elsewhere b ne)) (k.choice b i)
  ]

  choices_apart : (b : ℕ) → IsInner net b → chosen' b ≡ w → ⊥
  choices_apart b i e = search (rules, cases_eq)

  owning : (b : ℕ) → IsInner net b → owner' (chosen' b) ≡ b
  owning b i = elim (cases_eq b a) [
    | inl q ↦ ap (λ c. owner' (chosen' c)) q ∙ (ap owner' new_chosen.there ∙ (new_owner.there ∙ sym q))
    | inr ne ↦ ap owner' (new_chosen.elsewhere b ne) ∙ (new_owner.elsewhere (chosen b) (k.apart b i) ∙ k.owns b i)
  ]

  keeps : (v : ℕ) → (v ≡ w → ⊥) → HasChosen net chosen (owner v) v → HasChosen net chosen' (owner v) v
  keeps v ne h = search (rules, chose)

  owned_still : (v : ℕ) → (v ≡ w → ⊥) → 0 < owner' v → ((owner' v ≡ net.node) × IsEnd net v) ⊎ HasChosen net chosen' (owner' v) v
  owned_still v ne p = search (rules, cases_eq, keeps)

  ends_still : (v : ℕ) → (v ≡ w → ⊥) → owner' v ≡ net.node → In k.ends v
  ends_still v ne e = search (rules, cases_eq, not_node)

  pub hand_on : IsLinked net w owner' chosen' count
  hand_on = record {
    none = new_owner.elsewhere 0 (λ e. let p : 0 < u = choice_pos net a u inner choice in absurd (omega arith)) ∙ k.none;
    full = λ b i. owned_kept owner owner' u a b a_pos new_owner (k.full b i);
    choice = choices;
    apart = choices_apart;
    owns = owning;
    owned = owned_still;
    ends = k.ends;
    all_ends = ends_still;
    count_ends = k.count_ends;
  }

-- The node chooses the loose node as the end of one more path.
module _ (net : FlowNet) (owner chosen owner' : ℕ → ℕ) (count u : ℕ) (k : IsLinked net u owner chosen count) (end : IsEnd net u) (node : 0 < net.node) (pos : 0 < u)
    (new_owner : IsUpdated owner owner' u net.node) where
  end_owned : (v : ℕ) → 0 < owner' v → ((owner' v ≡ net.node) × IsEnd net v) ⊎ HasChosen net chosen (owner' v) v
  end_owned v p = search (rules, cases_eq)

  pub take_end : IsLinked net 0 owner' chosen (count + 1)
  take_end = record {
    none = new_owner.elsewhere 0 (λ e. absurd (omega arith)) ∙ k.none;
    full = λ b i. owned_kept owner owner' u net.node b node new_owner (k.full b i);
    choice = k.choice;
    apart = λ a i e. let p : 0 < chosen a = choice_pos net a (chosen a) i (k.choice a i) in absurd (omega arith);
    owns = λ a i. new_owner.elsewhere (chosen a) (k.apart a i) ∙ k.owns a i;
    owned = λ v ne p. end_owned v p;
    ends = u ∷ k.ends;
    all_ends = λ v ne e. elim (cases_eq v u) [ inl q ↦ inl q | inr nu ↦ inr (k.all_ends v nu (sym (new_owner.elsewhere v nu) ∙ e)) ];
    count_ends = (let e : length k.ends ≡ count = k.count_ends in omega arith);
  }

first_is : (s : SiteValue) (n m : ℕ) → owner_in s (zeros n) m ≡ first_owner s m
first_is s n m = choose (λ x. x ≡ first_owner s m) (eqb (get_or (zeros n) m 0) 0) (first_owner s m) (get_or (zeros n) m 0) (λ _. refl) (λ e. absurd (eqb-false (get_or (zeros n) m 0) 0 e (zero_at n m)))

module _ (s : SiteValue) (n : ℕ) (and : IsAnd s.graph s.node) (sources : length s.graph.kinds ≤ s.floor) where
  low_first : (m : ℕ) → IsInner (net_of s) m → is_inner s m ≡ true
  low_first m i = grind arith

  first_low : (m : ℕ) → is_inner s m ≡ true → IsInner (net_of s) m
  first_low m e = grind arith

  inner_owner : (a : ℕ) → IsInner (net_of s) a → owner_in s (zeros n) a ≡ a
  inner_owner a i = first_is s n a ∙ ap (λ b. cond b a 0) (low_first a i)

  -- only inner nodes have an owner: themselves
  owned_itself : (u : ℕ) → 0 < owner_in s (zeros n) u → (owner_in s (zeros n) u ≡ u) × IsInner (net_of s) u
  owned_itself u p = search (rules, cases_Bool, first_is, cond, first_low)

  first_routed : AreRouted (net_of s) (owner_in s (zeros n)) (λ a. a) []
  first_routed = record {
    linked = record {
      none = elim (cases_Bool (is_inner s 0)) [
        | inl t ↦ first_is s n 0 ∙ ap (λ b. cond b 0 0) t
        | inr f ↦ first_is s n 0 ∙ ap (λ b. cond b 0 0) f
      ];
      full = λ a i. let e : owner_in s (zeros n) a ≡ a = inner_owner a i in let q : first_and s.graph ≤ a = i.and.0 in omega arith;
      choice = λ a i. inl refl;
      apart = λ a i e. let q : first_and s.graph ≤ a = i.and.0 in absurd (omega arith);
      owns = λ a i. inner_owner a i;
      owned = λ u ne p. let r = owned_itself u p in inr (subst (λ b. HasChosen (net_of s) (λ a. a) b u) (sym r.0) (record { inner = r.1; is = refl }));
      ends = [];
      all_ends = λ u ne e. let q : first_and s.graph ≤ s.node = and.0 in let r = owned_itself u (omega arith) in let l : u < s.node = r.1.below in let f : owner_in s (zeros n) u ≡ u = r.0 in absurd (omega arith);
      count_ends = refl;
    };
    begin = record { once = tt; root = λ s i. absurd i; owned = λ s i. absurd i };
  }

-- the links where no path runs
pub first_links : (s : SiteValue) (n : ℕ) → IsNet (net_of s) → n ≡ node_count s.graph → AreLinks s (zeros n) []
first_links s n is e = record { chosen = λ a. a; routed = first_routed s n is.and is.sources; size = length-replicate n 0 ∙ e }

-- a function with one new value
abbrev with_value : (ℕ → ℕ) → ℕ → ℕ → ℕ → ℕ
with_value f at v m = cond (eqb m at) v (f m)

value_updated : (f : ℕ → ℕ) (at v : ℕ) → IsUpdated f (with_value f at v) at v
value_updated f at v = search (rules, eqb, eqb-false, eqb-true)

pub owner_set : (s : SiteValue) (owners : List ℕ) (i v : ℕ) → i < length owners → 0 < v → IsUpdated (owner_in s owners) (owner_in s (set owners i v)) i v
owner_set s owners i v l pos = search (rules, eqb, eqb-true, get_or-set_same, cond, get_or-set_other)

-- In the middle of it: before the place j the owners are as they were, and the node at j is loose.
pub record IsTurning (net : FlowNet) (count : ℕ) (before : ℕ → ℕ) (queue : List ℕ) (from : ℕ) (owner : ℕ → ℕ) (j : ℕ) : Type 0 where
  pub chosen : ℕ → ℕ
  pub linked : IsLinked net (get_or queue j 0) owner chosen count
  pub place : j < length queue
  pub same : (i : ℕ) → i < j → owner (get_or queue i 0) ≡ before (get_or queue i 0)
  pub kept : (s : ℕ) → 0 < before s → 0 < owner s
  pub begun : (j ≡ from) ⊎ (0 < owner (get_or queue from 0))

module _ (net : FlowNet) (count : ℕ) (before : ℕ → ℕ) (queue backs : List ℕ) (from : ℕ) (s : AreMet net before queue backs) (place : from < length queue) where
  -- what the search found of the node that is to be owned next
  pub record IsNext (owner : ℕ → ℕ) (j : ℕ) : Type 0 where
    pub back : get_or backs j 0 - 1 < j
    pub inner : IsInner net (owner (get_or queue (get_or backs j 0 - 1) 0))
    pub choice : IsChoice net (owner (get_or queue (get_or backs j 0 - 1) 0)) (get_or queue j 0)

  pub next_turn : (owner : ℕ → ℕ) (j : ℕ) → IsTurning net count before queue from owner j → 0 < get_or backs j 0 → IsNext owner j
  next_turn owner j k pos =
      let w = s.whence j k.place in
      let lt : get_or backs j 0 - 1 < j = omega (arith, w.earlier) in
      let e : owner (get_or queue (get_or backs j 0 - 1) 0) ≡ before (get_or queue (get_or backs j 0 - 1) 0) = k.same (get_or backs j 0 - 1) lt in
      record { back = lt; inner = subst (λ a. IsInner net a) (sym e) (w.inner pos); choice = subst (λ a. IsChoice net a (get_or queue j 0)) (sym e) (w.choice pos) }

  begun_at : (owner owner' : ℕ → ℕ) (u a x : ℕ) → 0 < a → IsUpdated owner owner' u a → (x ≡ u) ⊎ (0 < owner x) → 0 < owner' x
  begun_at owner owner' u a x pos new (inl e) = let q : owner' x ≡ a = ap owner' e ∙ new.there in omega arith
  begun_at owner owner' u a x pos new (inr p) = owned_kept owner owner' u a x pos new p

  pub turned : (owner owner' : ℕ → ℕ) (j : ℕ) → IsTurning net count before queue from owner j → 0 < get_or backs j 0
      → IsUpdated owner owner' (get_or queue j 0) (owner (get_or queue (get_or backs j 0 - 1) 0))
      → IsTurning net count before queue from owner' (get_or backs j 0 - 1)
  turned owner owner' j k pos new_owner =
      let n : IsNext owner j = next_turn owner j k pos in
      let a : ℕ = owner (get_or queue (get_or backs j 0 - 1) 0) in
      let a_pos : 0 < a = inner_pos net a n.inner in
      let apart : (b : ℕ) → b < j → get_or queue b 0 ≡ _ → ⊥ = (λ b l e. once_places queue b j s.once l k.place e) in
      record {
        chosen = with_value k.chosen a _;
        linked = hand_on net owner k.chosen owner' (with_value k.chosen a _) count _ _ a k.linked refl n.inner n.choice (apart (get_or backs j 0 - 1) n.back) new_owner (value_updated k.chosen a _);
        place = omega arith;
        same = λ b l. new_owner.elsewhere (get_or queue b 0) (apart b (omega arith)) ∙ k.same b (omega arith);
        kept = λ x p. owned_kept owner owner' _ a x a_pos new_owner (k.kept x p);
        begun = inr (begun_at owner owner' _ a (get_or queue from 0) a_pos new_owner (elim k.begun [ inl e ↦ inl (ap (λ b. get_or queue b 0) (sym e)) | inr p ↦ inr p ]));
      }

  -- the first step: the node without an owner
  pub begin : (chosen : ℕ → ℕ) → IsLinked net 0 before chosen count → 0 < net.node → before (get_or queue from 0) ≡ 0 → IsTurning net count before queue from before from
  begin chosen k pos free = record {
    chosen = chosen;
    linked = take_up net before chosen count (get_or queue from 0) k pos free;
    place = place;
    same = λ i l. refl;
    kept = λ s p. p;
    begun = inl refl;
  }

  -- a node without an owner is linked
  free_root : (chosen : ℕ → ℕ) → IsLinked net 0 before chosen count → length net.graph.kinds ≤ net.floor → before (get_or queue from 0) ≡ 0 → IsRoot net (get_or queue from 0)
  free_root chosen k sources free =
      let q = s.nodes (get_or queue from 0) (In-get_or queue from 0 place) in
      elim (cases_lt net.floor (get_or queue from 0)) [
        | inr low ↦ record { live = q.1.live; below = low; linked = elim q.1.reached [ inl l ↦ absurd (omega arith) | inr e ↦ e ] }
        | inl above ↦ elim q.1.live [
          | inl source ↦ (let l : get_or queue from 0 < first_and net.graph = source_below net.graph Regular (get_or queue from 0) source in absurd (omega arith))
          | inr and ↦ (let p : 0 < before (get_or queue from 0) = k.full (get_or queue from 0) (record { and = and.0; above = above; below = q.0; low = q.2; live = and.1 }) in absurd (omega arith))
        ]
      ]

  -- the last step: the first node of the search is an end
  pub finish : (first owner owner' : ℕ → ℕ) (starts : List ℕ) (j : ℕ) (k : IsTurning net count before queue from owner j) → get_or backs j 0 ≡ 0 → 0 < net.node → count ≡ length starts → length net.graph.kinds ≤ net.floor
      → AreRouted net before first starts → before (get_or queue from 0) ≡ 0 → IsUpdated owner owner' (get_or queue j 0) net.node
      → AreRouted net owner' k.chosen (starts ++ get_or queue from 0 ∷ [])
  finish first owner owner' starts j k none pos e sources was free new =
      let u : ℕ = get_or queue j 0 in
      let x : ℕ = get_or queue from 0 in
      let u_pos : 0 < u = live_pos net.graph net.label u (s.nodes u (In-get_or queue j 0 k.place)).1.live in
      let len : length starts + 1 ≡ length (starts ++ x ∷ []) = (let a : length (starts ++ x ∷ []) ≡ length starts + 1 = length-append starts (x ∷ []) in omega arith) in
      let k2 : IsLinked net 0 owner' k.chosen (count + 1) = take_end net owner k.chosen owner' count u k.linked ((s.whence j k.place).end none) pos u_pos new in
      record {
        linked = subst (λ c. IsLinked net 0 owner' k.chosen c) (let f : count + 1 ≡ length (starts ++ x ∷ []) = omega arith in f) k2;
        begin = record {
          once = pushed_apart starts x was.begin.once (λ i. let p : 0 < before x = was.begin.owned x i in absurd (omega arith));
          root = λ y i. elim (In-push starts x y i) [
            | inl h ↦ was.begin.root y h
            | inr q ↦ subst (λ z. IsRoot net z) (sym q) (free_root first (subst (λ c. IsLinked net 0 before first c) (sym e) was.linked) sources free)
          ];
          owned = λ y i. elim (In-push starts x y i) [
            | inl h ↦ owned_kept owner owner' u net.node y pos new (k.kept y (was.begin.owned y h))
            | inr q ↦ subst (λ z. 0 < owner' z) (sym q) (begun_at owner owner' u net.node x pos new (elim k.begun [ inl f ↦ inl (ap (λ b. get_or queue b 0) (sym f)) | inr p ↦ inr p ]))
          ];
        };
      }

-- What the code reads on one step back is in range.
pub can_turn : (site : SiteValue) (count : ℕ) (before : ℕ → ℕ) (queue backs : List ℕ) (from : ℕ) → AreMet (net_of site) before queue backs → from < length queue → (owners : List ℕ) (j : ℕ)
    → IsTurning (net_of site) count before queue from (owner_in site owners) j → 0 < get_or backs j 0 → CanTurn site owners queue backs j
can_turn site count before queue backs from s place owners j k pos =
    let n = next_turn (net_of site) count before queue backs from s place (owner_in site owners) j k pos in
    record {
      back = n.back;
      node = live_inside site.graph (net_of site).label (get_or queue j 0) (s.nodes (get_or queue j 0) (In-get_or queue j 0 k.place)).1.live;
      chooser = inner_pos (net_of site) (owner_in site owners (get_or queue (get_or backs j 0 - 1) 0)) n.inner;
    }
