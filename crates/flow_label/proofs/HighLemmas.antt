-- K + 1 paths of a matching show that no cut of at most K leaves is low.
use Rattle.flow_label.proofs.Common.{◌≡◌, ℕ, List, length, IsNet, AreReaders, SiteValue, net_of, AreWays, owner_in, AreLinks, label_at, ArePathsTo}
use Rattle.flow_label.proofs.WayLemmas.{ways_share, ways_paths}

-- the ways of the links of a site are paths that show the height
pub ways_show : (site : SiteValue) (owners starts : List ℕ) (ps : List (List ℕ)) → IsNet (net_of site) → AreReaders (net_of site) → site.floor ≡ length site.graph.kinds → AreLinks site owners starts → AreWays (net_of site) (owner_in site owners) starts ps → ArePathsTo site.graph site.node site.height (label_at site.labels) ps
ways_show site owners starts ps is readers full links ways = record {
  paths = ways_paths (net_of site) (owner_in site owners) starts ps ways;
  apart = λ i j m p q l a b c d ne. ways_share (net_of site) is readers full (owner_in site owners) links.chosen (length starts) links.routed.linked starts ps links.routed.begin ways i j m p q l a b c d ne;
}
