use Rattle.cover_pick.proofs.Lemmas.{◌∙◌, lits_of, label_at, cuts_of, cut_at, cuts_length, plan_all, cuts_all, places_plan, roots_inside}
use Rattle.cover_pick.proofs.cuts.cuts_by.Goals as goal

pub returns : goal.returns
returns c =
    let g = c.args.choices.now.graph.now in
    let rows = c.args.choices.now.rows.now in
    let label = label_at c.args.choices.now.labels.now in
    let roots = lits_of c.args.choices.now.roots.now in
    let flows = c.args.flows.now in
    let places = c.in_ok-places.places.items in
    let serving = c.requires.can.serving in
    let inside = roots_inside g roots c.requires.can.roots in
    let long = cuts_length rows 0 places ∙ c.in_ok-places.ensures.places.count in
    record {
      plan = plan_all c.args.rule g rows label roots flows inside serving c.requires.flows c.in_ok-places.ensures.normal (cut_at (cuts_of rows places))
          (cuts_all c.args.rule g rows label roots flows inside serving (cuts_of rows places) long (places_plan c.args.rule g rows label roots flows inside serving places c.in_ok-places.ensures.places));
      len = long;
      normal = c.in_ok-places.ensures.normal;
    }
