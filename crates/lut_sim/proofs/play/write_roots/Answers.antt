use Rattle.lut_sim.proofs.Common.{◌<◌, arith, length, In-get_or, In-map, Lit}
use Rattle.lut_sim.proofs.play.write_roots.Goals as goal

pub bounds-values-root : goal.bounds-values-root
bounds-values-root c =
    let inside : c.loop-root.root-index < length c.args.roots.now = omega arith in
    c.requires.room _ (In-map (λ (l : Lit). l.0) c.args.roots.now _ (In-get_or c.args.roots.now c.loop-root.root-index (record { 0 = 0 }) inside))
