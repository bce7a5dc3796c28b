use Rattle.flow_label.proofs.Lemmas.{length, net_of, owner_in, search_begun}
use Rattle.flow_label.proofs.search.begin.Goals as goal

pub returns-clause-searching : goal.returns-clause-searching
returns-clause-searching c = rw (c.clear.ensures, c.clear-2.ensures.items, c.clear-3.ensures.items, c.clear-5.ensures)
    (search_begun (net_of c.args.site.now) (owner_in c.args.site.now c.args.links.now.owners) (length c.args.search.now.seen) (length c.args.search.now.passed) c.requires.seen c.requires.passed)
