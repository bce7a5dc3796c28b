use Rattle.lut_sim.proofs.Common.{◌+◌, subst, sym, ap, ◌∙◌, HaveSources, with_sources}
use Rattle.lut_sim.proofs.SourceLemmas.{sources_set}
use Rattle.lut_sim.proofs.play.set_all_sources.Goals as goal

pub returns : goal.returns
returns c = record {
  sources = subst (λ vs. HaveSources c.args.shape.now c.args.inputs.now c.args.states.now vs)
      (sym (c.set_sources-2.ensures ∙ ap (λ vs. with_sources vs (1 + (c.args.shape.now.regular + c.args.shape.now.params)) c.args.states.now) c.set_sources.ensures))
      (sources_set c.args.shape.now c.args.inputs.now c.args.states.now c.args.values.now c.requires.inputs c.requires.states c.requires.room);
}
