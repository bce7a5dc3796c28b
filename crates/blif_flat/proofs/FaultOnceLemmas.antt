-- A library has at most one fault, and none where it is sound and not too large.
use Rattle.blif_flat.proofs.Common.{cases_lt, inl, inr, ◌≡◌, ℕ, ◌<◌, List, [], ◌∷◌, Option, Some, None, refl, sym, ap, ap₂, ◌∙◌, subst, ◌≤◌, arith, none-some, same_Some, Result, Ok, Err, IfOk, IfErr, OrMemory-map, ModelValue, model_at, cover_net, IsDriven, Place, is_latch, FlatOrder, IsWellFormed, FlatErr, TooLarge, Walked, refused, walked, WalksMain, most_weight, Weighs, IsLight, models_fault, Clocks, is_gate, ClockData, Repeat, from_node, AreWritten, IsLoop, LoopWalk, IsWalked, IsConnected, IsClocked, IsFault, HasOneFault, in_walk, too_large, in_drivers, in_controls, in_data, in_loops, HasNoFault, IsSound, OrMemory, refusal_of, IsChecked, Tells, models_at, HasWeight, Instance, ClockNets, AreInstances, paths_of, places_at, AreClockNets, LibraryValue, Loop, order_once}
use Rattle.blif_flat.specs.LoopFault.{none, more}
use Rattle.blif_flat.proofs.Clocking.ControlLemmas.{clocks_once, data_once, sound-clocks, sound-data}
use Rattle.blif_flat.proofs.Fields.LoopOnceLemmas.{loop_once, sound-loops}
use Rattle.blif_flat.proofs.Hierarchy.OrderLemmas.{rows_order}
use Rattle.blif_flat.proofs.Hierarchy.PlaceLemmas.{written_once}
use Rattle.blif_flat.proofs.Models.DrivenLemmas.{walked_driven, driven_clean}
use Rattle.blif_flat.proofs.Models.WalkedLemmas.{walk_main_once, driven_walks}
use Rattle.blif_flat.proofs.Models.WeightLemmas.{weighs_once}
use Rattle.blif_flat.proofs.LoopLemmas.{past_sound}

-- a main model that isn't too large in one weighing isn't in another
pub not_heavy : (library : LibraryValue) (main other : ModelValue) (weight own : ℕ) → model_at library [] ≡ Some main → Weighs library main weight → weight ≤ most_weight
    → model_at library [] ≡ Some other → Weighs library other own → most_weight < own → ⊥
not_heavy library main other weight own at w light at_other v heavy = grind (arith, weighs_once, same_Some)

pub fault_excluded : (library : LibraryValue) → IsSound library → (main : ModelValue) (weight : ℕ) → model_at library [] ≡ Some main → Weighs library main weight → weight ≤ most_weight
    → (fault : FlatErr) → IsFault library fault → ⊥
fault_excluded library sound main weight at w light fault (in_walk other at_other walks) = driven_walks library sound.driven other fault at_other walks
fault_excluded library sound main weight at w light fault (too_large other ms own at_other walks v heavy is) = not_heavy library main other weight own at w light at_other v heavy
fault_excluded library sound main weight at w light fault (in_drivers ms past is) = driven_clean library sound.formed sound.driven past.main ms fault past.at past.walks is
fault_excluded library sound main weight at w light fault (in_controls past latches latches_are clocks) = sound-clocks library sound latches fault clocks
fault_excluded library sound main weight at w light fault (in_data past gates gates_are clear) = let weighed = past.past.past in sound-data library sound weighed.main weighed.at gates fault clear
fault_excluded library sound main weight at w light fault (in_loops past gates gates_are clear loop) = sound-loops library sound loop.repeat loop.walk

pub past_excluded : (library : LibraryValue) → IsWellFormed library → (past : IsClocked library) (gates : List Place) → FlatOrder library is_gate [] past.past.past.main gates
    → ClockData library past.past.past.main gates None → LoopWalk library None → (fault : FlatErr) → IsFault library fault → ⊥
past_excluded library formed past gates gates_are clear walk =
    let weighed = past.past.past in
    fault_excluded library (past_sound library formed past gates gates_are clear walk) weighed.main weighed.weight weighed.at weighed.weighs weighed.light

pub no_fault : (library : LibraryValue) → IsSound library → IsLight library → HasNoFault library
no_fault library sound light = record { none = fault_excluded library sound light.main light.weight light.first light.weighs light.light }

module _ (library : LibraryValue) where
  -- each stage has one result
  same_main : (main other : ModelValue) → model_at library [] ≡ Some main → model_at library [] ≡ Some other → main ≡ other
  same_main main other at at_other = same_Some main other (sym at ∙ at_other)

  same_walk : (main other : ModelValue) (r q : Walked) → model_at library [] ≡ Some main → model_at library [] ≡ Some other → WalksMain library main r → WalksMain library other q → r ≡ q
  same_walk main other r q at at_other w v = walk_main_once library other r q (subst (λ m. WalksMain library m r) (same_main main other at at_other) w) v

  refused_or_walked : (main other : ModelValue) (f : FlatErr) (ms : List ModelValue) → model_at library [] ≡ Some main → model_at library [] ≡ Some other
      → WalksMain library main (refused f) → WalksMain library other (walked ms) → ⊥
  refused_or_walked main other f ms at at_other w v = let e = same_walk main other (refused f) (walked ms) at at_other w v in cc

  same_models : (ms ns : List ModelValue) → IsWalked library ms → IsWalked library ns → ms ≡ ns
  same_models ms ns a b = let e = same_walk a.main b.main (walked ms) (walked ns) a.at b.at a.walks b.walks in cc

  same_drivers : (ms ns : List ModelValue) → IsWalked library ms → IsWalked library ns → models_fault library ms ≡ models_fault library ns
  same_drivers ms ns a b = ap (models_fault library) (same_models ms ns a b)

  names_once : {ps : List Place} {names others : List (List ℕ)} → AreWritten library ps names → AreWritten library ps others → names ≡ others
  names_once none none = refl
  names_once (more p ps text texts w ws) (more q qs other rest v vs) = ap₂ (λ (t : List ℕ) (ts : List (List ℕ)). t ∷ ts) (written_once library (cover_net p.path p.command) text other w v) (names_once ws vs)

  same_loop : (f g : FlatErr) → IsLoop library f → IsLoop library g → f ≡ g
  same_loop f g a b =
      let e : a.repeat ≡ b.repeat = same_Some a.repeat b.repeat (loop_once library (Some a.repeat) (Some b.repeat) a.walk b.walk) in
      a.is ∙ ap Loop (names_once (subst (λ (c : Repeat Place). AreWritten library (from_node c.node c.path) a.names) e a.written) b.written) ∙ sym b.is

  module _ (formed : IsWellFormed library) where
    connected_driven : IsConnected library → IsDriven library
    connected_driven c = walked_driven library c.past.main c.models formed c.past.at c.past.walks c.none

    same_clocks : (a b : IsConnected library) (ps qs : List Place) (result other : Option FlatErr) → FlatOrder library is_latch [] a.past.main ps → FlatOrder library is_latch [] b.past.main qs
        → Clocks library None ps result → Clocks library None qs other → result ≡ other
    same_clocks a b ps qs result other o u c d =
        let e : ps ≡ qs = order_once library is_latch (subst (λ m. FlatOrder library is_latch [] m ps) (same_main a.past.main b.past.main a.past.at b.past.at) o) u in
        clocks_once library (connected_driven b) qs None result other (subst (λ l. Clocks library None l result) e c) d

    same_data : (a b : IsClocked library) (ps qs : List Place) (result other : Option FlatErr) → FlatOrder library is_gate [] a.past.past.main ps → FlatOrder library is_gate [] b.past.past.main qs
        → ClockData library a.past.past.main ps result → ClockData library b.past.past.main qs other → result ≡ other
    same_data a b ps qs result other o u c d =
        let m : a.past.past.main ≡ b.past.past.main = same_main a.past.past.main b.past.past.main a.past.past.at b.past.past.at in
        let e : ps ≡ qs = order_once library is_gate (subst (λ m. FlatOrder library is_gate [] m ps) m o) u in
        data_once library (connected_driven b.past) b.past.past.main (subst (λ l. ClockData library b.past.past.main l result) e (subst (λ n. ClockData library n ps result) m c)) d

    -- an earlier stage excludes a later one
    walk_first : (main : ModelValue) (f : FlatErr) (ms : List ModelValue) → model_at library [] ≡ Some main → WalksMain library main (refused f) → IsWalked library ms → ⊥
    walk_first main f ms at w a = refused_or_walked main a.main f ms at a.at w a.walks

    weight_first : (main : ModelValue) (weight : ℕ) (ms : List ModelValue) → model_at library [] ≡ Some main → Weighs library main weight → most_weight < weight → IsWalked library ms → ⊥
    weight_first main weight ms at w heavy a = not_heavy library a.main main a.weight weight a.at a.weighs a.light at w heavy

    drivers_first : (ms : List ModelValue) (f : FlatErr) → IsWalked library ms → models_fault library ms ≡ Some f → IsConnected library → ⊥
    drivers_first ms f a e c = none-some f (sym c.none ∙ same_drivers c.models ms c.past a ∙ e)

    controls_first : (a : IsConnected library) (ps : List Place) (f : FlatErr) → FlatOrder library is_latch [] a.past.main ps → Clocks library None ps (Some f) → IsClocked library → ⊥
    controls_first a ps f o c b = none-some f (same_clocks b.past a b.latches ps None (Some f) b.latches_are o b.none c)

    -- the stage of a fault
    abbrev stage : {f : FlatErr} → IsFault library f → ℕ
    stage (in_walk main at w) = 0
    stage (too_large main ms weight at w y heavy is) = 1
    stage (in_drivers ms a e) = 2
    stage (in_controls a ps o c) = 3
    stage (in_data a ps o c) = 4
    stage (in_loops a ps o c l) = 5

    -- a fault of a stage is the only one, there and in the later stages
    forward : (f g : FlatErr) (a : IsFault library f) (b : IsFault library g) → stage a ≤ stage b → f ≡ g
    forward f g (in_walk main at w) (in_walk other at_other v) h = let e = same_walk main other (refused f) (refused g) at at_other w v in cc
    forward f g (in_walk main at w) (too_large other ms weight at_other v y heavy is) h = absurd (refused_or_walked main other f ms at at_other w v)
    forward f g (in_walk main at w) (in_drivers ms a is) h = absurd (walk_first main f ms at w a)
    forward f g (in_walk main at w) (in_controls a ps o c) h = absurd (walk_first main f a.models at w a.past)
    forward f g (in_walk main at w) (in_data a ps o c) h = absurd (walk_first main f a.past.models at w a.past.past)
    forward f g (in_walk main at w) (in_loops a ps o c l) h = absurd (walk_first main f a.past.models at w a.past.past)
    forward f g (too_large main ms weight at w y heavy is) (too_large other ns own at_other v z more_heavy too) h = is ∙ sym too
    forward f g (too_large main ms weight at w y heavy is) (in_drivers ns a e) h = absurd (weight_first main weight ns at y heavy a)
    forward f g (too_large main ms weight at w y heavy is) (in_controls a ps o c) h = absurd (weight_first main weight a.models at y heavy a.past)
    forward f g (too_large main ms weight at w y heavy is) (in_data a ps o c) h = absurd (weight_first main weight a.past.models at y heavy a.past.past)
    forward f g (too_large main ms weight at w y heavy is) (in_loops a ps o c l) h = absurd (weight_first main weight a.past.models at y heavy a.past.past)
    forward f g (in_drivers ms a e) (in_drivers ns b d) h = same_Some f g (sym e ∙ same_drivers ms ns a b ∙ d)
    forward f g (in_drivers ms a e) (in_controls b ps o c) h = absurd (drivers_first ms f a e b)
    forward f g (in_drivers ms a e) (in_data b ps o c) h = absurd (drivers_first ms f a e b.past)
    forward f g (in_drivers ms a e) (in_loops b ps o c l) h = absurd (drivers_first ms f a e b.past)
    forward f g (in_controls a ps o c) (in_controls b qs u d) h = same_Some f g (same_clocks a b ps qs (Some f) (Some g) o u c d)
    forward f g (in_controls a ps o c) (in_data b qs u d) h = absurd (controls_first a ps f o c b)
    forward f g (in_controls a ps o c) (in_loops b qs u d l) h = absurd (controls_first a ps f o c b)
    forward f g (in_data a ps o c) (in_data b qs u d) h = same_Some f g (same_data a b ps qs (Some f) (Some g) o u c d)
    forward f g (in_data a ps o c) (in_loops b qs u d l) h = absurd (none-some f (same_data b a qs ps None (Some f) u o d c))
    forward f g (in_loops a ps o c k) (in_loops b qs u d l) h = same_loop f g k l
    forward f g a b h = absurd (omega arith)

    pub fault_once : (f g : FlatErr) → IsFault library f → IsFault library g → f ≡ g
    fault_once f g a b = elim (cases_lt (stage b) (stage a)) [ inl h ↦ sym (forward g f b a (omega arith)) | inr h ↦ forward f g a b h ]

pub one_fault : (library : LibraryValue) → IsWellFormed library → HasOneFault library
one_fault library formed = record { once = fault_once library formed }

-- From stage to stage: each stage's refusal is the library's, and past all of them the library is sound.
module _ (library : LibraryValue) (main : ModelValue) (at : model_at library [] ≡ Some main) where
  pub walk_fault : (e : FlatErr) → OrMemory refusal_of (λ r. WalksMain library main (refused r)) e → OrMemory refusal_of (IsFault library) e
  walk_fault e h = OrMemory-map refusal_of (λ r. WalksMain library main (refused r)) (IsFault library) e (λ r w. in_walk main at w) h

  module _ (numbers : List ℕ) (walks : WalksMain library main (walked (models_at library.models numbers))) where
    pub heavy_fault : (e : FlatErr) → OrMemory refusal_of (λ r. (r ≡ TooLarge) × HasWeight library main (λ w. most_weight < w)) e → OrMemory refusal_of (IsFault library) e
    heavy_fault e h = OrMemory-map refusal_of (λ r. (r ≡ TooLarge) × HasWeight library main (λ w. most_weight < w)) (IsFault library) e
        (λ r k. too_large main (models_at library.models numbers) k.1.weight at walks k.1.weighs k.1.is k.0) h

    walked_light : HasWeight library main (λ w. w ≤ most_weight) → IsWalked library (models_at library.models numbers)
    walked_light light = record { main = main; at = at; walks = walks; weight = light.weight; weighs = light.weighs; light = light.is }

    pub driver_fault : (result : Result (Unit {0}) FlatErr) → HasWeight library main (λ w. w ≤ most_weight) → Tells result (models_fault library (models_at library.models numbers)) → IfErr result (λ e. OrMemory refusal_of (IsFault library) e)
    driver_fault (Ok u) light h = tt
    driver_fault (Err e) light h = OrMemory-map refusal_of (λ r. models_fault library (models_at library.models numbers) ≡ Some r) (IsFault library) e (λ r k. in_drivers (models_at library.models numbers) (walked_light light) k) h

    pub comes_past : (result : Result (Unit {0}) FlatErr) → IsWellFormed library → HasWeight library main (λ w. w ≤ most_weight) → Tells result (models_fault library (models_at library.models numbers)) → IfOk result (λ _. IsChecked library)
    comes_past (Ok u) formed light clean =
        let past : IsWalked library (models_at library.models numbers) = walked_light light in
        record {
          connected = record { models = models_at library.models numbers; past = past; none = clean };
          driven = walked_driven library past.main (models_at library.models numbers) formed past.at past.walks clean;
          light = record { main = past.main; first = past.at; weight = past.weight; weighs = past.weighs; light = past.light };
        }
    comes_past (Err e) formed light h = tt

module _ (library : LibraryValue) (instances : List Instance) (are : AreInstances library instances) where
  pub controls_refused : IsConnected library → (e : FlatErr) → OrMemory refusal_of (λ r. Clocks library None (places_at library is_latch (paths_of instances)) (Some r)) e → OrMemory refusal_of (IsFault library) e
  controls_refused past e h =
      OrMemory-map refusal_of (λ r. Clocks library None (places_at library is_latch (paths_of instances)) (Some r)) (IsFault library) e
      (λ r c. in_controls past (places_at library is_latch (paths_of instances)) (rows_order library instances are is_latch past.past.main past.past.at) c) h

  module _ (past : IsConnected library) where
    abbrev pub clocked : Clocks library None (places_at library is_latch (paths_of instances)) None → IsClocked library
    clocked clean = record { past = past; latches = places_at library is_latch (paths_of instances); latches_are = rows_order library instances are is_latch past.past.main past.past.at; none = clean }

    gates_order : FlatOrder library is_gate [] past.past.main (places_at library is_gate (paths_of instances))
    gates_order = rows_order library instances are is_gate past.past.main past.past.at

    pub data_refused : Clocks library None (places_at library is_latch (paths_of instances)) None → (e : FlatErr)
        → OrMemory refusal_of (λ r. (main : ModelValue) → model_at library [] ≡ Some main → ClockData library main (places_at library is_gate (paths_of instances)) (Some r)) e → OrMemory refusal_of (IsFault library) e
    data_refused clean e h =
        OrMemory-map refusal_of (λ r. (main : ModelValue) → model_at library [] ≡ Some main → ClockData library main (places_at library is_gate (paths_of instances)) (Some r)) (IsFault library) e
        (λ r d. in_data (clocked clean) (places_at library is_gate (paths_of instances)) gates_order (d past.past.main past.past.at)) h

    module _ (main : ModelValue) (at : model_at library [] ≡ Some main) (clocks : ClockNets) (are_clocks : AreClockNets library main instances clocks) where
      clear : ClockData library past.past.main (places_at library is_gate (paths_of instances)) None
      clear = subst (λ m. ClockData library m (places_at library is_gate (paths_of instances)) None) (same_Some main past.past.main (sym at ∙ past.past.at)) are_clocks.clear

      pub loop_refused : (e : FlatErr) → OrMemory refusal_of (IsLoop library) e → OrMemory refusal_of (IsFault library) e
      loop_refused e h = OrMemory-map refusal_of (IsLoop library) (IsFault library) e
          (λ r l. in_loops (clocked are_clocks.controlled.clean) (places_at library is_gate (paths_of instances)) gates_order clear l) h

      pub all_sound : IsWellFormed library → LoopWalk library None → IsSound library
      all_sound formed walk = past_sound library formed (clocked are_clocks.controlled.clean) (places_at library is_gate (paths_of instances)) gates_order clear walk

      pub none_stands : IsWellFormed library → LoopWalk library None → HasNoFault library
      none_stands formed walk = record { none = past_excluded library formed (clocked are_clocks.controlled.clean) (places_at library is_gate (paths_of instances)) gates_order clear walk }
