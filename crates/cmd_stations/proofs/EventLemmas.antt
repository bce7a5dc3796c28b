-- The events of a script up to one of them, with their lines, and one event more.
use Rattle.cmd_stations.proofs.Common.{◌≡◌, ℕ, ◌+◌, ◌<◌, List, [], ◌∷◌, ◌++◌, length, get_or, map, take, drop, Option, refl, sym, ap, ◌∙◌, append-nil, concat, map-append, take_more, take-append-drop, extended, IsSplit, In, EventValue, event_line, host_line, SpecialiserValue, In-map, extended_twice, Stage, IsStep, script_machine, AreSteps, IsHostStep, host_machine, AreHostSteps}
use Rattle.std.proofs.lemmas.List.Folds.{concat-append}
use Rattle.list_laws.proofs.Items.{drop_at, member_at}
use Rattle.machine.proofs.PassLemmas.{then_one}

-- the values of the items before a place, and that of the one at it
module _ {Item Value : Type 0} (value : Item → Value) (items : List Item) (i : ℕ) (item : Item) (within : i < length items) (there : item ≡ get_or items i item) where
  pub split_by : IsSplit (map value items) (map value (take i items)) (value item)
  split_by = record {
    after = map value (drop (i + 1) items);
    is = ap (map value) (sym (take-append-drop i items) ∙ ap (λ l. take i items ++ l) (drop_at items i item within there)) ∙ map-append value (take i items) (item ∷ drop (i + 1) items);
  }

  -- and those of one item more
  pub more_by : map value (take (i + 1) items) ≡ map value (take i items) ++ value item ∷ []
  more_by = ap (map value) (take_more items i item within ∙ ap (λ (x : Item). take i items ++ x ∷ []) (sym there)) ∙ map-append value (take i items) (item ∷ [])

  -- and what is so of the values of all items is so of its own
  pub value_has : (P : Value → Type 0) → ((v : Value) → In (map value items) v → P v) → P (value item)
  value_has P all = all (value item) (In-map value items item (member_at items i item within there))

-- bytes behind bytes
pub put_then : (first mid last : Option (List ℕ)) (front text : List ℕ) → mid ≡ extended first front → last ≡ extended mid text → last ≡ extended first (front ++ text)
put_then first mid last front text a b = b ∙ (ap (λ o. extended o text) a ∙ extended_twice first front text)

pub one_line : (lines : List (List ℕ)) (line : List ℕ) → concat lines ++ line ≡ concat (lines ++ line ∷ [])
one_line lines line = ap (λ l. concat lines ++ l) (sym (append-nil line)) ∙ sym (concat-append lines (line ∷ []))

-- One event more, after some that were played.
pub then_step : {old mid new : Stage} {events : List EventValue} {lines : List (List ℕ)} (event : EventValue) → AreSteps old events lines mid → IsStep event mid new
    → AreSteps old (events ++ event ∷ []) (lines ++ event_line event new.machine ∷ []) new
then_step {new = new} event steps step = then_one script_machine event (event_line event new.machine) steps (step, refl)

pub then_host_step : {old mid new : SpecialiserValue} {events : List EventValue} {lines : List (List ℕ)} (event : EventValue) → AreHostSteps old events lines mid → IsHostStep event mid new
    → AreHostSteps old (events ++ event ∷ []) (lines ++ host_line event new ∷ []) new
then_host_step {new = new} event steps step = then_one host_machine event (host_line event new) steps (step, refl)
