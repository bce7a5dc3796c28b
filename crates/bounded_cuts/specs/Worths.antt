-- What nodes count as leaves, and what cuts cost by that.
use Rattle.std.specs.Prelude.{◌≡◌, ℕ, ◌+◌, ◌^◌, ◌<◌, ◌≤◌, Bool, if◌then◌else◌, List, [], ◌∷◌, ◌++◌, length, map, sum_by, slice_index_or}
use Rattle.bounded_cuts.specs.Words.{In, height, label_at}
use Rattle.bounded_cuts.specs.declared.limits.TheConstants.{MOST_FLOW, TABLE_PRICE}
use Rattle.bounded_cuts.specs.declared.price.Candidate.{Candidate}
use Rattle.bounded_cuts.specs.declared.worths.Worth.{Worth}
use Rattle.bounded_cuts.specs.Taking.{is_favoured, HasSmallCosts, Pricing, cuts_of}

-- what a node past the last one counts
abbrev pub no_worth : Worth
no_worth = record { label = 0; flow = 0; low_flow = 0; paid = 0 }

abbrev pub worth_at : List Worth → ℕ → Worth
worth_at ws m = slice_index_or ws m no_worth

abbrev pub label_in : List Worth → ℕ → ℕ
label_in ws m = (worth_at ws m).label

abbrev pub flow_in : List Worth → ℕ → ℕ
flow_in ws m = (worth_at ws m).flow

abbrev pub low_flow_in : List Worth → ℕ → ℕ
low_flow_in ws m = (worth_at ws m).low_flow

abbrev pub paid_in : List Worth → ℕ → ℕ
paid_in ws m = (worth_at ws m).paid

-- all nodes of a list are among those that count something, and so are all of some lists
abbrev pub AreCounted : List Worth → List ℕ → Type 0
AreCounted ws c = (m : ℕ) → In c m → m < length ws

abbrev pub AllCounted : List Worth → List (List ℕ) → Type 0
AllCounted ws cs = (c : List ℕ) → In cs c → AreCounted ws c

-- the flows of nodes, through all cuts and through cuts of the least height
abbrev pub flows_of : List Worth → List ℕ
flows_of ws = map (λ (w : Worth). w.flow) ws

abbrev pub low_flows_of : List Worth → List ℕ
low_flows_of ws = map (λ (w : Worth). w.low_flow) ws

-- what cuts are priced by over these
abbrev pub pricing : List ℕ → List Bool → List Worth → Pricing
pricing labels favoured ws = record { labels = labels; flows = flows_of ws; lows = low_flows_of ws; favoured = favoured }

-- one more than each label fits a word, and no flow is greater than the most
pub record AreBounded (ws : List Worth) : Type 0 where
  pub labels : (m : ℕ) → 1 + label_in ws m < 2 ^ 32
  pub flows : (m : ℕ) → flow_in ws m ≤ MOST_FLOW
  pub low_flows : (m : ℕ) → low_flow_in ws m ≤ MOST_FLOW
  pub paid : (m : ℕ) → paid_in ws m ≤ MOST_FLOW

-- what a node with these flows counts
pub record IsWorth (labels : List ℕ) (favoured : List Bool) (n flow low_flow : ℕ) (w : Worth) : Type 0 where
  pub label_is : w.label ≡ label_at labels n
  pub label_small : 1 + w.label < 2 ^ 32
  pub flow_is : w.flow ≡ flow
  pub low_flow_is : w.low_flow ≡ low_flow
  pub paid_is : w.paid ≡ (if is_favoured favoured n then 0 else flow)

-- what the first n nodes count
pub record AreWorths (labels : List ℕ) (favoured : List Bool) (n : ℕ) (ws : List Worth) : Type 0 where
  pub count : length ws ≡ n
  pub labels_are : (m : ℕ) → m < n → label_in ws m ≡ label_at labels m
  pub labels_small : (m : ℕ) → 1 + label_in ws m < 2 ^ 32
  pub paid_are : (m : ℕ) → paid_in ws m ≡ (if is_favoured favoured m then 0 else flow_in ws m)

-- a candidate has its height and its costs by what nodes count, and its costs are below the bound
pub record IsPricedBy (ws : List Worth) (c : Candidate) : Type 0 where
  pub height_is : c.height ≡ height (label_in ws) c.cut
  pub flow_is : c.flow ≡ TABLE_PRICE + (2 ^ length c.cut + sum_by (flow_in ws) c.cut)
  pub low_is : c.low_flow ≡ TABLE_PRICE + (2 ^ length c.cut + sum_by (low_flow_in ws) c.cut)
  pub paid_is : c.paid ≡ TABLE_PRICE + (2 ^ length c.cut + sum_by (paid_in ws) c.cut)
  pub small : HasSmallCosts c

-- so has each of a list
abbrev pub ArePricedBy : List Worth → List Candidate → Type 0
ArePricedBy ws cs = (c : Candidate) → In cs c → IsPricedBy ws c

-- these candidates, and the low cut after them if none of them is as low as the label
pub data AddsLow (r : ℕ) (low : List ℕ) (all new : List Candidate) : Type 0 where
  as_low : (c : Candidate) → In all c → c.height ≤ r → new ≡ all → AddsLow r low all new
  none_low : ((c : Candidate) → In all c → r < c.height) → cuts_of new ≡ cuts_of all ++ low ∷ [] → AddsLow r low all new
