use Rattle.flow_label.proofs.Lemmas.{◌≡◌, ◌+◌, ◌∙◌, ℕ, map, sym, length, label_at, net_of, owner_in, unmarked, ascending_of, AreWays, Vec, Global, length-map, IfOk-weaker, ArePathsTo, blocked_cut, ways_show, low_high, full_tight}
use Rattle.flow_label.proofs.question.all_paths.Goals as goal

pub unreachable-requires : goal.unreachable-requires
unreachable-requires c =
    let added = rw c.in-Blocked.is at c.in_ok-add_paths.ensures.added in
    low_high c.args.site.now.graph c.args.k c.args.site.now.node c.args.site.now.height (label_at c.args.site.now.labels) (ascending_of (unmarked c.add_paths.new.search.passed c.add_paths.new.search.queue.items)) c.node-node.ensures.net.high c.requires.least
    (blocked_cut c.args.site.now c.add_paths.new.links.owners c.add_paths.new.links.starts.items c.add_paths.new.search.queue.items c.add_paths.new.search.backs.items c.add_paths.new.search.passed c.args.k c.node-node.ensures.net c.requires.readers c.in_ok-add_paths.ensures.linked added.1 (full_tight c.args.site.now c.add_paths.new.links.owners c.add_paths.new.search.queue.items c.node-node.ensures.net c.requires.full) added.0)

pub returns-clause-paths : goal.returns-clause-paths
returns-clause-paths c =
    IfOk-weaker c.paths_of.result
    (λ (paths : Vec (Vec ℕ Global) Global). AreWays (net_of c.args.site.now) (owner_in c.args.site.now c.add_paths.new.links.owners) c.add_paths.new.links.starts.items (map (λ (p : Vec ℕ Global). p.items) paths.items))
    (λ (paths : Vec (Vec ℕ Global) Global). ArePathsTo c.args.site.now.graph c.args.site.now.node c.args.site.now.height (label_at c.args.site.now.labels) (map (λ (p : Vec ℕ Global). p.items) paths.items))
    (λ paths w. ways_show c.args.site.now c.add_paths.new.links.owners c.add_paths.new.links.starts.items (map (λ (p : Vec ℕ Global). p.items) paths.items) c.node-node.ensures.net c.requires.readers c.requires.full c.in_ok-add_paths.ensures.linked w)
    c.paths_of.ensures

pub returns-clause-count : goal.returns-clause-count
returns-clause-count c =
    let all : length c.add_paths.new.links.starts.items ≡ c.args.k + 1 = rw c.in-Found.is at c.in_ok-add_paths.ensures.added in
    IfOk-weaker c.paths_of.result
    (λ (paths : Vec (Vec ℕ Global) Global). AreWays (net_of c.args.site.now) (owner_in c.args.site.now c.add_paths.new.links.owners) c.add_paths.new.links.starts.items (map (λ (p : Vec ℕ Global). p.items) paths.items))
    (λ (paths : Vec (Vec ℕ Global) Global). length paths.items ≡ c.args.k + 1)
    (λ paths w. sym (length-map paths.items (λ (p : Vec ℕ Global). p.items)) ∙ (w.count ∙ all))
    c.paths_of.ensures
