use Rattle.lut_sim.proofs.Common.{◌≡◌, ◌∙◌, sym, subst, ap, length, In, TemplateValue, with_tables, value_in, FitsTables, HasRoom}
use Rattle.lut_sim.proofs.RoomLemmas.{table_in_room}
use Rattle.lut_sim.proofs.SourceLemmas.{played_fit}
use Rattle.lut_sim.proofs.play.play.Goals as goal

pub play_tables-requires : goal.play_tables-requires
play_tables-requires c = λ t i.
    let tables : c.as_slice-tables.result.now ≡ c.args.template.now.luts = c.as_slice-tables.ensures.value ∙ ap (λ (v : TemplateValue). v.luts) c.template.view_is in
    table_in_room c.args.template.now c.args.shape.now (length c.set_all_sources.new.values) (length c.args.config.now) c.requires.playable
    (subst (λ n. HasRoom c.args.template.now c.args.shape.now n) (sym c.set_all_sources.auto.values) c.requires.room) c.requires.config t
    (subst (λ ts. In ts t) tables i)

pub returns : goal.returns
returns c =
    let tables : c.as_slice-tables.result.now ≡ c.args.template.now.luts = c.as_slice-tables.ensures.value ∙ ap (λ (v : TemplateValue). v.luts) c.template.view_is in
    let played = c.play_tables.ensures ∙ ap (λ ts. with_tables c.args.shape.now c.args.config.now c.set_all_sources.new.values ts) tables in
    subst (λ vs. FitsTables c.args.template.now.luts c.args.shape.now c.args.config.now c.args.inputs.now c.args.states.now (value_in vs)) (sym played)
    (played_fit c.args.template.now c.args.shape.now c.args.config.now c.args.inputs.now c.args.states.now c.set_all_sources.new.values c.requires.playable
    (subst (λ n. HasRoom c.args.template.now c.args.shape.now n) (sym c.set_all_sources.auto.values) c.requires.room) c.set_all_sources.ensures.sources)
