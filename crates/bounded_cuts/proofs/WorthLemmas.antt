-- What nodes count as leaves, said of their labels, their flows and which of them are favoured.
use Rattle.bounded_cuts.proofs.Common.{◌≡◌, ℕ, zero, suc, ◌+◌, ◌^◌, ◌<◌, ◌≤◌, Bool, if◌then◌else◌, List, [], ◌∷◌, ◌++◌, length, sum_by, refl, sym, ap, subst, ◌∙◌, inl, inr, arith, length-append, get_or_push, get_or_append_left, cases_lt, choose_one, In, In-map, MOST_FLOW, TABLE_PRICE, Candidate, cuts_of, flow_at, is_favoured, AreCapped, IsPriced, ArePriced, label_at, Worth, no_worth, worth_at, label_in, flow_in, low_flow_in, paid_in, flows_of, low_flows_of, pricing, AreBounded, IsWorth, AreWorths, IsPricedBy, ArePricedBy, map-append, height_same}
use Rattle.std.proofs.Math.ListN.{get_or-map}
use Rattle.std.proofs.Math.Path.{fun_ext}

flow_same : (ws : List Worth) (m : ℕ) → flow_at (flows_of ws) m ≡ flow_in ws m
flow_same ws m = get_or-map (λ (w : Worth). w.flow) ws m no_worth

low_flow_same : (ws : List Worth) (m : ℕ) → flow_at (low_flows_of ws) m ≡ low_flow_in ws m
low_flow_same ws m = get_or-map (λ (w : Worth). w.low_flow) ws m no_worth

-- equal numbers have equal sums
cost_same : (f h : ℕ → ℕ) (c : List ℕ) → ((m : ℕ) → f m ≡ h m) → TABLE_PRICE + (2 ^ length c + sum_by f c) ≡ TABLE_PRICE + (2 ^ length c + sum_by h c)
cost_same f h c same = ap (λ (e : ℕ → ℕ). TABLE_PRICE + (2 ^ length c + sum_by e c)) (fun_ext same)

module _ (labels : List ℕ) (favoured : List Bool) (n : ℕ) (ws : List Worth) (are : AreWorths labels favoured n ws) where
  pub bounded : AreCapped (flows_of ws) → AreCapped (low_flows_of ws) → AreBounded ws
  bounded capped low_capped =
      let flow : (m : ℕ) → flow_in ws m ≤ MOST_FLOW = (λ m. subst (λ (x : ℕ). x ≤ MOST_FLOW) (flow_same ws m) (capped m)) in
      record {
        labels = are.labels_small;
        flows = flow;
        low_flows = λ m. subst (λ (x : ℕ). x ≤ MOST_FLOW) (low_flow_same ws m) (low_capped m);
        paid = λ m. subst (λ (x : ℕ). x ≤ MOST_FLOW) (sym (are.paid_are m)) (choose_one (λ (x : ℕ). x ≤ MOST_FLOW) (is_favoured favoured m) 0 (flow_in ws m) (omega arith) (flow m));
      }

  -- a candidate whose leaves are below n
  priced_as : (c : Candidate) → ((m : ℕ) → In c.cut m → m < n) → IsPricedBy ws c → IsPriced (pricing labels favoured ws) c
  priced_as c below priced = record {
    height_is = priced.height_is ∙ height_same (label_in ws) (label_at labels) c.cut (λ m i. are.labels_are m (below m i));
    flow_is = priced.flow_is ∙ cost_same (flow_in ws) (flow_at (flows_of ws)) c.cut (λ m. sym (flow_same ws m));
    low_is = priced.low_is ∙ cost_same (low_flow_in ws) (flow_at (low_flows_of ws)) c.cut (λ m. sym (low_flow_same ws m));
    paid_is = priced.paid_is ∙ cost_same (paid_in ws) (λ m. if is_favoured favoured m then 0 else flow_at (flows_of ws) m) c.cut
        (λ m. are.paid_are m ∙ ap (λ (x : ℕ). if is_favoured favoured m then 0 else x) (sym (flow_same ws m)));
    small = priced.small;
  }

  pub all_priced_as : (all : List Candidate) → ((c : List ℕ) (m : ℕ) → In (cuts_of all) c → In c m → m < n) → ArePricedBy ws all → ArePriced (pricing labels favoured ws) all
  all_priced_as all below priced c i = priced_as c (λ m j. below c.cut m (In-map (λ (d : Candidate). d.cut) all c i) j) (priced c i)

-- what holds of each node's worth and of one more holds of each then
each_pushed : (P : ℕ → Worth → Type 0) (ws : List Worth) (w : Worth) → ((m : ℕ) → P m (worth_at ws m)) → P (length ws) w → (m : ℕ) → P m (worth_at (ws ++ w ∷ []) m)
each_pushed P [] w h new zero = new
each_pushed P [] w h new (suc m) = h (suc m)
each_pushed P (x ∷ ws) w h new zero = h zero
each_pushed P (x ∷ ws) w h new (suc m) = each_pushed (λ j. P (suc j)) ws w (λ j. h (suc j)) new m

module _ (labels : List ℕ) (favoured : List Bool) (n : ℕ) (ws : List Worth) (are : AreWorths labels favoured n ws) (flow low_flow : ℕ) (w : Worth) (is : IsWorth labels favoured n flow low_flow w) where
  worths_next : AreWorths labels favoured (n + 1) (ws ++ w ∷ [])
  worths_next = record {
    count = length-append ws (w ∷ []) ∙ ap (λ (x : ℕ). x + 1) are.count;
    labels_are = λ m l. elim (cases_lt m n) [
      | inl b ↦ ap (λ (v : Worth). v.label) (get_or_append_left ws (w ∷ []) no_worth m (subst (λ (x : ℕ). m < x) (sym are.count) b)) ∙ are.labels_are m b
      | inr b ↦ (let e : n ≡ m = omega arith in
          subst (λ (j : ℕ). label_in (ws ++ w ∷ []) j ≡ label_at labels j) e (ap (λ (v : Worth). v.label) (get_or_push ws w no_worth n are.count) ∙ is.label_is))
    ];
    labels_small = each_pushed (λ _ v. 1 + v.label < 2 ^ 32) ws w are.labels_small is.label_small;
    paid_are = each_pushed (λ m v. v.paid ≡ (if is_favoured favoured m then 0 else v.flow)) ws w are.paid_are
        (subst (λ (m : ℕ). w.paid ≡ (if is_favoured favoured m then 0 else w.flow)) (sym are.count) (is.paid_is ∙ ap (λ (x : ℕ). if is_favoured favoured n then 0 else x) (sym is.flow_is)));
  }

  -- said of what was pushed
  pub worths_pushed : (more : List Worth) → more ≡ ws ++ w ∷ [] → AreWorths labels favoured (n + 1) more
  worths_pushed more e = subst (AreWorths labels favoured (n + 1)) (sym e) worths_next

  pub flows_pushed : (more : List Worth) → more ≡ ws ++ w ∷ [] → flows_of more ≡ flows_of ws ++ flow ∷ []
  flows_pushed more e = ap flows_of e ∙ map-append (λ (v : Worth). v.flow) ws (w ∷ []) ∙ ap (λ (x : ℕ). flows_of ws ++ x ∷ []) is.flow_is

  pub low_flows_pushed : (more : List Worth) → more ≡ ws ++ w ∷ [] → low_flows_of more ≡ low_flows_of ws ++ low_flow ∷ []
  low_flows_pushed more e = ap low_flows_of e ∙ map-append (λ (v : Worth). v.low_flow) ws (w ∷ []) ∙ ap (λ (x : ℕ). low_flows_of ws ++ x ∷ []) is.low_flow_is

-- before the first node
pub no_worths : (labels : List ℕ) (favoured : List Bool) (ws : List Worth) → ws ≡ [] → AreWorths labels favoured 0 ws
no_worths labels favoured ws e = grind arith
