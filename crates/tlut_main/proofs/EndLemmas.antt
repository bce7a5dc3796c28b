-- How a call ends, from how its top call ended and what came after it.
use Rattle.std.proofs.Common.{◌≡◌, ◌⊎◌, ◌↔◌, ◌∙◌, inl, inr, refl, sym, subst, ℕ, List, None, length}
use Rattle.tl_io.specs.declared.file_port.TheConstants.{PORT_FILES}
use Rattle.cmd_base.specs.declared.status.Status.TheVariants as status
use Rattle.tlut_cli.specs.Words.{Rule, PortSeen, ShelfSeen, SinkSeen, Status}
use Rattle.tlut_cli.specs.Call.{world_of}
use Rattle.tlut_cli.specs.Commands.{command_of}
use Rattle.tlut_cli.specs.Meaning.{HasMeaning, HasOutcome}
use Rattle.tlut_main.specs.Ends.{around, new_output, IsLeft, IsLate, IsCalled, IsWritten, HasEnded}

module _ (rule : Rule) (words : List (List ℕ)) (ports others : List PortSeen) (shelf left new : ShelfSeen) (err middle told put : SinkSeen) where
  called : (s : Status) → (s ≡ status.Usage ↔ command_of rule (length ports) words ≡ None) → HasMeaning rule (length ports) words (world_of shelf new_output ports) (world_of left put others) s
      → HasOutcome rule (length ports) words (world_of shelf new_output ports) (world_of left put others) err middle s → IsLeft left new → IsCalled rule words (around shelf ports err) (around new others middle) s
  called s usage means ends is_left = record { left = left; put = put; shelf = is_left; usage = usage; means = means; ends = ends }

  written : (was s : Status) → (was ≡ status.Usage ↔ command_of rule (length ports) words ≡ None) → HasMeaning rule (length ports) words (world_of shelf new_output ports) (world_of left put others) was
      → HasOutcome rule (length ports) words (world_of shelf new_output ports) (world_of left put others) err middle was → ((s ≡ was) × (told ≡ middle)) ⊎ IsLate was middle told s → (s ≡ was → IsLeft left new)
      → IsWritten rule words (around shelf ports err) (around new others told) s
  written was s usage means ends (inl (e, f)) is_left =
      inl (subst (λ t. IsCalled rule words (around shelf ports err) (around new others t) s) (sym f) (subst (λ t. IsCalled rule words (around shelf ports err) (around new others middle) t) (sym e) (called was usage means ends (is_left e))))
  written was s usage means ends (inr late) is_left = inr (record {
    middle = around left others middle;
    called = subst (λ t. IsCalled rule words (around shelf ports err) (around left others middle) t) late.was_done (record { left = left; put = put; shelf = inl refl; usage = usage; means = means; ends = ends });
    ports = refl;
    late = record { was_done = refl; is = late.is; line = late.line };
  })

-- the same of what a call gives, piece by piece
pub ended : {rule : Rule} {words : List (List ℕ)} {ports others : List PortSeen} {shelf left given_shelf new : ShelfSeen} {err middle given_err told put out : SinkSeen} (n : ℕ) (was given s : Status)
    → length ports ≡ n → n ≡ length PORT_FILES.now → out ≡ new_output → given ≡ was → given_shelf ≡ left → given_err ≡ middle
    → (was ≡ status.Usage ↔ command_of rule n words ≡ None) → HasMeaning rule n words (world_of shelf out ports) (world_of left put others) was → HasOutcome rule n words (world_of shelf out ports) (world_of left put others) err middle was
    → ((s ≡ given) × (told ≡ given_err)) ⊎ IsLate given given_err told s → (s ≡ given → IsLeft given_shelf new) → HasEnded rule words shelf new err told s
ended {rule = rule} {words = words} {ports = ports} {others = others} {shelf = shelf} {left = left} {given_shelf = given_shelf} {new = new} {err = err} {middle = middle} {given_err = given_err} {told = told} {put = put} {out = out} n was given s count all fresh same same_shelf same_err usage means ends kept is_left =
    let usage = subst (λ k. was ≡ status.Usage ↔ command_of rule k words ≡ None) (sym count) usage in
    let means = subst (λ k. HasMeaning rule k words (world_of shelf out ports) (world_of left put others) was) (sym count) means in
    let means = subst (λ o. HasMeaning rule (length ports) words (world_of shelf o ports) (world_of left put others) was) fresh means in
    let ends = subst (λ k. HasOutcome rule k words (world_of shelf out ports) (world_of left put others) err middle was) (sym count) ends in
    let ends = subst (λ o. HasOutcome rule (length ports) words (world_of shelf o ports) (world_of left put others) err middle was) fresh ends in
    let kept = subst (λ g. ((s ≡ g) × (told ≡ given_err)) ⊎ IsLate g given_err told s) same kept in
    let kept = subst (λ m. ((s ≡ was) × (told ≡ m)) ⊎ IsLate was m told s) same_err kept in
    let is_left = subst (λ g. s ≡ g → IsLeft given_shelf new) same is_left in
    let is_left = subst (λ l. s ≡ was → IsLeft l new) same_shelf is_left in
    inl (record { ports = ports; others = others; all = count ∙ all; called = written rule words ports others shelf left new err middle told put was s usage means ends kept is_left })
