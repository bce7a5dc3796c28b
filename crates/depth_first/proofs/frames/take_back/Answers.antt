use Rattle.depth_first.proofs.Lemmas.{reverse, refl, ◌∙◌, FramesValue, shorten, take_back_is}
use Rattle.depth_first.proofs.frames.take_back.Goals as goal

pub returns : goal.returns
returns c = let i = c.frames.inside in
    let v : FramesValue = record { marks = i.marks.items; begun = reverse i.begun.items; order = reverse i.order.items; stack = reverse i.stack.items } in
    shorten v i.order.items c.truncate.new.self.items c.clear.new.self.items c.args.order refl c.truncate.ensures.items c.clear.ensures.items
    ∙ take_back_is c.args.begun c.args.order c.args.frames.now v (c.frames.view_is ∙ c.renew_since.ensures)
