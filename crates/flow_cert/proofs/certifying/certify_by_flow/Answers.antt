use Rattle.flow_cert.proofs.Common.{ℕ, ◌^◌, ◌<◌, ◌≤◌, List, ap, ◌∙◌, subst, Aig, lits_of, roots_of, label_at, IsTarget}
use Rattle.flow_cert.proofs.CertLemmas.{cert_valid, cert_claims, cert_needed, cert_writable, depth_small}
use Rattle.flow_cert.proofs.CoverLemmas.{target_least, label_small}
use Rattle.flow_cert.proofs.NeededLemmas.{one_claiming}
use Rattle.flow_cert.proofs.certifying.certify_by_flow.Goals as goal

pub returns : goal.returns
returns c =
    let g : Aig = c.args.graph.now in
    let label : ℕ → ℕ = label_at c.args.labels.now in
    let roots : List ℕ = roots_of c.args.roots.now in
    let depth : ℕ = c.target_of-least.result.depth in
    let begin : ℕ = c.target_of-least.result.begin in
    let t : IsTarget g label roots depth begin = subst (λ ls. IsTarget g label ls depth begin) (ap lits_of c.deref.ensures.value ∙ c.in_ok-all.ensures) c.target_of-least.ensures in
    let few = subst (λ n. n ≤ 2 ^ 30) c.len-count.ensures.count c.len-count.ensures.small in
    let small : (m : ℕ) → label m < 2 ^ 32 = label_small g c.args.k label c.requires.heights few in
    record {
      valid = cert_valid g c.args.k label c.len-count.ensures.normal roots depth begin t c.in_ok-steps.steps.items c.in_ok-steps.ensures;
      depth = target_least g c.args.k label c.requires.heights roots depth begin t;
      claims = cert_claims g c.args.k label c.len-count.ensures.normal roots depth begin t c.in_ok-steps.steps.items c.in_ok-steps.ensures;
      needed = cert_needed g c.args.k label c.len-count.ensures.normal roots depth begin t c.in_ok-steps.steps.items c.in_ok-steps.ensures;
      once = one_claiming g roots label;
      formed = cert_writable g c.args.k label c.len-count.ensures.normal roots depth begin t c.in_ok-steps.steps.items c.in_ok-steps.ensures (depth_small g label roots depth begin t small) few small;
    }

pub returns-in_err-all-clause-once : goal.returns-in_err-all-clause-once
returns-in_err-all-clause-once c = one_claiming c.args.graph.now (roots_of c.args.roots.now) (label_at c.args.labels.now)

pub returns-in_err-steps-clause-once : goal.returns-in_err-steps-clause-once
returns-in_err-steps-clause-once c = one_claiming c.args.graph.now (roots_of c.args.roots.now) (label_at c.args.labels.now)
