use Rattle.lut_sim.proofs.Common.{rules, ◌≡◌, ◌≤◌, length, ap, TemplateValue}
use Rattle.lut_sim.proofs.RoomLemmas.{tables_within_bits}
use Rattle.lut_sim.proofs.shape.Shape.table_count.Goals as goal

pub overflow_cast-result : goal.overflow_cast-result
overflow_cast-result c =
    let few : length c.args.template.now.luts ≤ c.args.template.now.bits = tables_within_bits c.args.template.now c.args.self.now c.requires in
    let bits : c.template.inside.bits ≡ c.args.template.now.bits = ap (λ (t : TemplateValue). t.bits) c.template.view_is in
    let luts : length c.template.inside.luts.items ≡ length c.args.template.now.luts = ap (λ (t : TemplateValue). length t.luts) c.template.view_is in
    search rules
