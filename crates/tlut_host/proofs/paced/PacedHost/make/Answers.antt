use Rattle.tlut_host.proofs.Lemmas.{Bool, false, List, [], length, replicate, refl, sym, ap, ◌∙◌, arith, PackValue, made_keeps, no_circuit, pacing_of}
use Rattle.tlut_host.proofs.paced.PacedHost.make.Goals as goal

pub invariant_of-result : goal.invariant_of-result
invariant_of-result c =
    let made = c.in_ok-specialiser.ensures in let s = c.in_ok-specialiser.specialiser in let b = c.in_ok-backlog.backlog in let sim = no_circuit (length c.args.pack.bits) in
    let pacing = pacing_of s b sim 1 0 0 (made_keeps s b sim 1 0 0 c.args.pack made.pack made.params made.config c.make.ensures.one
    (c.in_ok-backlog.ensures ∙ ap (λ (config : List Bool). record { config = config; marks = replicate (length config) false; waiting = 0; writes = []; looks = 0 }) c.image.ensures.value)
    refl (omega arith) refl refl) in
    rw c.over.ensures (record {
      pacing = pacing;
      takes = c.requires;
      count = ap length c.params-params.ensures.value ∙ ap (λ (p : PackValue). length p.params) (sym made.pack) ∙ sym pacing.params;
      few = omega (arith, c.in_ok-assigns.ensures.capacity);
    })
