use Rattle.depth_first.proofs.Common.{◌↔◌, IsTrue, refl, sym, ap, subst₂, In, path_of, WalkValue}
use Rattle.depth_first.proofs.MarkLemmas.{mark_on_path}
use Rattle.depth_first.proofs.walk.Walk.is_on_path.Goals as goal

pub returns : goal.returns
returns c = subst₂ (λ b ns. IsTrue b ↔ In ns c.args.node) (sym c.is_on_path.ensures) (ap (λ (v : WalkValue). v.path) c.self.view_is)
    (mark_on_path c.self.inside.frames.marks c.self.inside.frames.begun c.self.inside.frames.order (path_of c.self.inside.frames.stack) c.args.node c.self.invariant _ refl)
