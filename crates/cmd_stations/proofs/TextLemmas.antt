-- Each text of a job says one thing, or is refused for one reason.
use Rattle.cmd_stations.proofs.Common.{◌≡◌, ℕ, List, sym, ap, ◌∙◌, subst, same_Some, LibraryValue, FlatErr, IsFault, HasOneFault, FlatValue, IsFlat, Param, EventValue, NamesValue, IsParamsText, IsScript, RefusalValue, Netlist, DenotesLibrary, LibraryRefusal, HasOneLibrary, IsTextSettled, IsNetlistText, NetlistRefusal, IsParamsRefusal, IsScriptRefusal}
use Rattle.netlist.specs.Flattened.{HasOneFlat}
use Rattle.netlist.specs.Sound.{IsSound}
use Rattle.blif_flat.specs.Refusals.{refusal_of as flat_refusal}
use Rattle.param_list.specs.ParamsText as params_text
use Rattle.param_list.specs.Refusals.{refusal_of as params_refusal}
use Rattle.run_text.specs.ScriptText as script_text
use Rattle.run_text.specs.ScriptRefusals.{refusal_of as script_refusal}
use Rattle.cmd_stations.specs.Texts as texts

-- A text that is refused itself is settled.
module _ (text : List ℕ) (told : RefusalValue) (one : HasOneLibrary text) (refused : LibraryRefusal text told) where
  alone : (library : LibraryValue) → DenotesLibrary text library → ⊥
  alone library d = one.not_both library told d refused

  refused_once : (r s : RefusalValue) → NetlistRefusal text r → NetlistRefusal text s → r ≡ s
  refused_once r s (texts.NetlistRefusal.fault a) (texts.NetlistRefusal.fault b) = one.one_refusal r s a b
  refused_once r s (texts.NetlistRefusal.fault a) (texts.NetlistRefusal.unsound library e d f is) = absurd (alone library d)
  refused_once r s (texts.NetlistRefusal.unsound library e d f is) other = absurd (alone library d)

  pub fault_settled : IsTextSettled text
  fault_settled = record {
    sound = λ n a. absurd (alone n.library a.denotes);
    one_netlist = λ n m a b. absurd (alone n.library a.denotes);
    not_both = λ n r a other. alone n.library a.denotes;
    one_refusal = refused_once;
    runs = λ n a begins. absurd (alone n.library a.denotes);
  }

-- the netlist of a text
module _ (text : List ℕ) (library : LibraryValue) (one : HasOneLibrary text) (denotes : DenotesLibrary text library) (flat : HasOneFault library)
    (circuit : IsSound library → HasOneFlat library) (sound : ((fault : FlatErr) → ¬ (IsFault library fault)) → IsSound library) where
  -- every library of the text is this one
  here : (other : LibraryValue) → DenotesLibrary text other → other ≡ library
  here other d = one.once other library d denotes

  no_fault : (r : RefusalValue) → LibraryRefusal text r → ⊥
  no_fault r refused = one.not_both library r denotes refused

  fault_here : (other : LibraryValue) (e : FlatErr) → DenotesLibrary text other → IsFault other e → IsFault library e
  fault_here other e d f = subst (λ l. IsFault l e) (here other d) f

  -- what flattens isn't refused
  clean_or_not : (other : LibraryValue) (e : FlatErr) → DenotesLibrary text other → ((fault : FlatErr) → ¬ (IsFault other fault)) → IsFault library e → ⊥
  clean_or_not other e d clean fault = clean e (subst (λ l. IsFault l e) (sym (here other d)) fault)

  -- and is sound
  sound_here : (n : Netlist) → IsNetlistText text n → IsSound library
  sound_here n a = sound (λ e fault. clean_or_not n.library e a.denotes a.clean fault)

  netlist_or_not : (n : Netlist) (r : RefusalValue) → IsNetlistText text n → NetlistRefusal text r → ⊥
  netlist_or_not n r a (texts.NetlistRefusal.fault refused) = no_fault r refused
  netlist_or_not n r a (texts.NetlistRefusal.unsound other e d f is) = clean_or_not n.library e a.denotes a.clean (fault_here other e d f)

  netlist_refused : (r s : RefusalValue) → NetlistRefusal text r → NetlistRefusal text s → r ≡ s
  netlist_refused r s (texts.NetlistRefusal.fault refused) other = absurd (no_fault r refused)
  netlist_refused r s other (texts.NetlistRefusal.fault refused) = absurd (no_fault s refused)
  netlist_refused r s (texts.NetlistRefusal.unsound l e d f is) (texts.NetlistRefusal.unsound l2 e2 d2 f2 is2) =
      same_Some r s (sym is ∙ (ap (λ x. flat_refusal x) (flat.once e e2 (fault_here l e d f) (fault_here l2 e2 d2 f2)) ∙ is2))

  -- the netlist is the library with its one flat circuit
  one_circuit : (n m : Netlist) → IsNetlistText text n → IsNetlistText text m → n ≡ m
  one_circuit n m a b =
      let first : n.library ≡ library = here n.library a.denotes in
      let second : m.library ≡ library = here m.library b.denotes in
      let flats : n.flat ≡ m.flat = (circuit (sound_here n a)).only n.flat m.flat (subst (λ l. IsFlat l n.flat) first a.flat) (subst (λ l. IsFlat l m.flat) second b.flat) in
      ap (λ l. record { library = l; flat = n.flat }) (first ∙ sym second) ∙ ap (λ f. record { library = m.library; flat = f }) flats

  -- A text that denotes a library is settled.
  pub library_settled : IsTextSettled text
  library_settled = record {
    sound = λ n a. subst (λ l. IsSound l) (sym (here n.library a.denotes)) (sound_here n a);
    one_netlist = one_circuit;
    not_both = netlist_or_not;
    one_refusal = netlist_refused;
    runs = λ n a begins. one.runs n.library begins a.denotes;
  }

-- the list of parameters of a text
pub params_or_refused : (flat : FlatValue) (text : List ℕ) (params : List Param) (r : RefusalValue) → params_text.HasOneReading flat text → IsParamsText flat text params → IsParamsRefusal flat text r → ⊥
params_or_refused flat text params r one a refused = one.not_both params refused.e a refused.fault

pub params_refused_once : (flat : FlatValue) (text : List ℕ) (r s : RefusalValue) → params_text.HasOneReading flat text → IsParamsRefusal flat text r → IsParamsRefusal flat text s → r ≡ s
params_refused_once flat text r s one a b = same_Some r s (sym a.tells ∙ (ap (λ x. params_refusal x) (one.one_fault a.e b.e a.fault b.fault) ∙ b.tells))

-- the script of a text
pub script_or_refused : (names : NamesValue) (text : List ℕ) (events : List EventValue) (r : RefusalValue) → script_text.HasOneReading names text → IsScript names text events → IsScriptRefusal names text r → ⊥
script_or_refused names text events r one a refused = one.not_both events refused.e a refused.fault

pub script_refused_once : (names : NamesValue) (text : List ℕ) (r s : RefusalValue) → script_text.HasOneReading names text → IsScriptRefusal names text r → IsScriptRefusal names text s → r ≡ s
script_refused_once names text r s one a b = same_Some r s (sym a.tells ∙ (ap (λ x. script_refusal x) (one.one_fault a.e b.e a.fault b.fault) ∙ b.tells))
