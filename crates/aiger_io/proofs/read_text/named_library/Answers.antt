use Rattle.aiger_io.proofs.Lemmas.{◌≡◌, ℕ, List, None, Some, Err, ap, ◌∙◌, subst, OrMemory-map, passed_on, named_circuit, library_of, input_names, first_twice, refusal_of, circuit_with, unless, circuit_made}
use Rattle.aiger_io.proofs.read_text.named_library.Goals as goal

pub returns : goal.returns
returns c =
    circuit_made c.args.header.now c.args.items.now c.args.said.now c.in_ok-made.made
    (subst (λ n. first_twice c.args.header.now c.args.said.now n c.args.said.now.places ≡ None) c.requires.line c.in_ok-check_names.ensures)
    (c.in_ok-made.ensures
    ∙ ap (λ (i : List (List ℕ)). library_of (record { header = c.args.header.now; items = c.args.items.now; inputs = i; outputs = c.in_ok-outputs.outputs.items })) c.in_ok-inputs.ensures
    ∙ ap (λ (o : List (List ℕ)). library_of (record { header = c.args.header.now; items = c.args.items.now; inputs = input_names c.args.header.now c.args.said.now; outputs = o })) c.in_ok-outputs.ensures)

pub returns-in_err-check_names : goal.returns-in_err-check_names
returns-in_err-check_names c =
    passed_on c.from_residual-in_err-check_names.result c.in_err-check_names.field-0.0 _ _ c.from_residual-in_err-check_names.ensures.1
    (OrMemory-map refusal_of (λ e. first_twice c.args.header.now c.args.said.now c.args.line c.args.said.now.places ≡ Some e) (λ e. named_circuit c.args.header.now c.args.items.now c.args.said.now ≡ Err e) c.in_err-check_names.field-0.0
    (λ e is. ap (λ o. unless o (circuit_with c.args.header.now c.args.items.now c.args.said.now)) (subst (λ n. first_twice c.args.header.now c.args.said.now n c.args.said.now.places ≡ Some e) c.requires.line is)) c.in_err-check_names.ensures)
