-- The flat circuit of a sound library has ports as they are written.
use Rattle.blif_write.proofs.Common.{◌≡◌, ◌⊎◌, ℕ, ◌<◌, ◌≤◌, true, false, not, List, ◌++◌, length, slice_get, Option, Some, is_some, refl, sym, ap, subst, ◌∙◌, inl, inr, arith, none-some, same_Some, slice_get_within, In, at_within, place_in, In-get, In-left, In-right, In-map, In-filter, IsClean, AreOnce, ModelValue, LibraryValue, input_ports, output_ports, clock_ports, HasCleanNames, LatchValue, FlatLatch, OutPort, FlatValue, underscores, IsControl, some_latch, no_latch, IsFlatLatch, IsFlat, Path, has_name, IsMainInput, Net, input_net, Drives, main_input, latch_output, cover_output, from_inside, from_outside, IsClock, controls, IsSound, has_in, or_cases, not-true, filtered_apart, few_underscores, IsPortName, HasPorts}
use Rattle.netlist.proofs.OrderLemmas.{flat_all}
use Rattle.netlist.proofs.PlaceLemmas.{place_of, one_latch}

-- a net that an input drives is named by a main input
main_net : (library : LibraryValue) (path : Path) (own name : List ℕ) (net : Net) → net ≡ input_net name → Drives library path own net → IsMainInput library name
main_net library path own name net e (main_input p m f) = let same : own ≡ name = cc in subst (IsMainInput library) same m
main_net library path own name net e (latch_output i l at o f) = absurd (let wrong : ⊥ = cc in wrong)
main_net library path own name net e (cover_output i c at o f) = absurd (let wrong : ⊥ = cc in wrong)
main_net library path own name net e (from_inside k pair at t o d) = main_net library _ _ name net e d
main_net library path own name net e (from_outside k outer pair at t p o d) = main_net library _ _ name net e d

module _ (library : LibraryValue) (flat : FlatValue) (sound : IsSound library) (clean : HasCleanNames library) (fields : IsFlat library flat) where
  abbrev main : ModelValue
  main = fields.main

  main_in : In library.models main
  main_in = In-get library.models 0 main fields.is_main

  port : (name : List ℕ) → In main.inputs name ⊎ (In main.clocks name ⊎ In main.outputs name) → IsPortName flat name
  port name i = record {
    clean = elim i [ inl j ↦ (clean.each main main_in).ports input_ports name j | inr k ↦ elim k [ inl j ↦ (clean.each main main_in).ports clock_ports name j | inr j ↦ (clean.each main main_in).ports output_ports name j ] ];
    under = subst (λ (m : ℕ). underscores name ≤ m) (sym fields.under) (few_underscores (main.inputs ++ (main.clocks ++ main.outputs)) name
        (elim i [ inl j ↦ In-left main.inputs (main.clocks ++ main.outputs) name j | inr k ↦ In-right main.inputs (main.clocks ++ main.outputs) name (elim k [ inl j ↦ In-left main.clocks main.outputs name j | inr j ↦ In-right main.clocks main.outputs name j ]) ]));
  }

  input_in : (name : List ℕ) → In flat.inputs name → In main.inputs name × (fields.test name ≡ false)
  input_in name i =
      let r : In main.inputs name × (not (fields.test name) ≡ true) = In-filter (λ (other : List ℕ). not (fields.test other)) main.inputs name (subst (λ (k : List (List ℕ)). In k name) fields.inputs i) in
      (r.0, not-true (fields.test name) r.1)

  output_in : (o : OutPort) → In flat.outputs o → In main.outputs o.name
  output_in o i = subst (λ (k : List (List ℕ)). In k o.name) fields.output_names (In-map (λ (p : OutPort). p.name) flat.outputs o i)

  -- the net of the controls is a clock, and a main input
  control_by : (control : Option (List ℕ)) (name : List ℕ) → IsControl library control → control ≡ Some name → IsMainInput library name × IsClock library name
  control_by control name (some_latch path i l own net at is d e) same =
      let f : net ≡ name = same_Some net name (sym e ∙ same) in
      (subst (IsMainInput library) f (main_net library path own net (input_net net) refl d), subst (IsClock library) f (controls path i l own at is d))
  control_by control name (no_latch h e) same = absurd (none-some name (sym e ∙ same))

  control_port : (name : List ℕ) → flat.control ≡ Some name → IsPortName flat name
  control_port name e =
      let m : IsMainInput library name = (control_by flat.control name fields.control e).0 in
      let same : m.model ≡ main = same_Some m.model main (sym m.at ∙ fields.is_main) in
      elim (or_cases (has_name m.model.inputs name) (has_name m.model.clocks name) m.is) [
        | inl h ↦ port name (inl (subst (λ (k : ModelValue). In k.inputs name) same (has_in m.model.inputs name h)))
        | inr h ↦ port name (inr (inl (subst (λ (k : ModelValue). In k.clocks name) same (has_in m.model.clocks name h))))
      ]

  -- and a latch has it
  clocked_by : (control : Option (List ℕ)) (name : List ℕ) → IsControl library control → control ≡ Some name → (l : FlatLatch) × In flat.latches l × (l.clocked ≡ true)
  clocked_by control name (some_latch path i l own net at is d e) same =
      let p : (k : ℕ) × (slice_get fields.at.latches k ≡ Some (place_of path i)) = grind (arith, place_in, place_of, flat_all, main) in
      let small : p.0 < length flat.latches = let s : p.0 < length fields.at.latches = slice_get_within fields.at.latches p.0 (place_of path i) p.1 in omega (arith, s, fields.latch_count) in
      let f : (k : FlatLatch) × (slice_get flat.latches p.0 ≡ Some k) = at_within flat.latches p.0 small in
      let written : IsFlatLatch library fields.at (place_of path i) f.0 = fields.latches p.0 (place_of path i) f.0 p.1 f.1 in
      (f.0, In-get flat.latches p.0 f.0 f.1, written.clocked ∙ ap is_some (ap (λ (m : LatchValue). m.control) (one_latch library path i written.latch l written.is at) ∙ is))
  clocked_by control name (no_latch h e) same = absurd (none-some name (sym e ∙ same))

  pub ports_there : HasPorts flat
  ports_there = record {
    model = subst IsClean (sym fields.model) (clean.each main main_in).name;
    inputs = λ name i. port name (inl (input_in name i).0);
    inputs_once = subst AreOnce (sym fields.inputs) (filtered_apart (λ (name : List ℕ). not (fields.test name)) main.inputs ((sound.formed.each main main_in).ports input_ports));
    outputs = λ o i. port o.name (inr (inr (output_in o i)));
    outputs_once = subst AreOnce (sym fields.output_names) ((sound.formed.each main main_in).ports output_ports);
    control = control_port;
    no_input = λ name e i. fields.tells.no name (input_in name i).1 (control_by flat.control name fields.control e).1;
    no_output = λ name e o i same.
        let c : IsMainInput library name × IsClock library name = control_by flat.control name fields.control e in
        let top : main ≡ sound.main = same_Some main sound.main (sym fields.is_main ∙ sound.at) in
        sound.no_clock_output name name (subst (λ (k : ModelValue). In k.outputs name) top (subst (In main.outputs) same (output_in o i))) (main_input refl c.0 refl) c.1;
    clocked = λ name e. clocked_by flat.control name fields.control e;
  }
