use Rattle.lut_sim.proofs.Common.{◌∙◌, sym, map, length-map, lits_of, Lit, value_in}
use Rattle.lut_sim.proofs.RoomLemmas.{filled-from_start}
use Rattle.lut_sim.proofs.play.read_roots.Goals as goal

pub returns : goal.returns
returns c =
    c.write_roots.ensures
    ∙ filled-from_start c.args.bits.now (map (value_in c.args.values.now) (lits_of c.args.roots.now))
    (c.requires.len ∙ sym (length-map (lits_of c.args.roots.now) (value_in c.args.values.now) ∙ length-map c.args.roots.now (λ (l : Lit). l.0)))
