use Rattle.cut_enum.proofs.Lemmas.{◌<◌, length, arith, cut_there}
use Rattle.cut_enum.proofs.level.Level.at.Goals as goal

pub index-requires-2 : goal.index-requires-2
index-requires-2 c =
    let w : c.index.result.now < length c.self.inside.cuts.items =
    (cut_there c.self.inside.cuts.items c.args.self.now c.self.inside.places.items c.args.at c.index.result.now c.self.view_is c.self.invariant c.requires c.index.ensures).0 in
    omega arith

pub returns : goal.returns
returns c =
    (cut_there c.self.inside.cuts.items c.args.self.now c.self.inside.places.items c.args.at c.index.result.now c.self.view_is c.self.invariant c.requires c.index.ensures).1 c.index-2.result.now c.index-2.ensures
