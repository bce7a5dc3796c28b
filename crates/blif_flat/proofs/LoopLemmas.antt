-- Loops of covers: none depends on itself exactly where the walk meets none again, and then they have an order in which each comes after those that it reads.
use Rattle.blif_flat.proofs.Common.{◌≡◌, ℕ, List, [], ◌∷◌, Option, Some, None, refl, sym, ap, ◌∙◌, subst, inl, inr, In, CoverValue, LibraryValue, Path, CoverAt, Net, cover_net, Place, FlatOrder, AreNets, with_cover, covers_among, reads_in, reads_of, ReadsCover, Depends, direct, through, LoopWalk, IsWellFormed, is_gate, ClockData, IsSound, IsClocked, cover_at-is, Reaches, at_once, further, acyclic, HasCover, walk_ordered, arith}
use Rattle.blif_flat.proofs.Clocking.ControlLemmas.{clocks-input, clocks-one, data-output, data-clock}
use Rattle.blif_flat.proofs.Models.DrivenLemmas.{walked_driven}
use Rattle.netlist.proofs.LawLemmas.{in_rest}

module _ (library : LibraryValue) (net : Path → List ℕ → Option Net) (nets : AreNets library net) where
  among_there : (path : Path) (names : List (List ℕ)) (name : List ℕ) (q : Place) → In names name → net path name ≡ Some (cover_net q.path q.command) → In (covers_among (net path) names) q
  among_there path [] name q i e = absurd i
  among_there path (own ∷ names) name q (inl s) e = subst (λ y. In (with_cover y (covers_among (net path) names)) q) (sym (ap (net path) (sym s) ∙ e)) (inl refl)
  among_there path (own ∷ names) name q (inr i) e = in_rest (net path own) (covers_among (net path) names) q (among_there path names name q i e)

  cover_reads : (p q : Place) → ReadsCover library p q → In (reads_of library net p) q
  cover_reads p q r = grind (arith, reads_in, cover_at-is, among_there, cover_net)

  pub depends_reaches : {p q : Place} → Depends library p q → Reaches (reads_of library net) p q
  depends_reaches {p} {q} (direct r) = at_once (cover_reads p q r)
  depends_reaches {p} {q} (through m r d) = further m (cover_reads p m r) (depends_reaches d)

-- a cover that depends on another is one
pub depends_cover : (library : LibraryValue) {p q : Place} → Depends library p q → (c : CoverValue) × CoverAt library p.path p.command c
depends_cover library (direct r) = (r.cover, r.is)
depends_cover library (through m r d) = (r.cover, r.is)

-- so no cover depends on itself
walk_free : (library : LibraryValue) → LoopWalk library None → (p : Place) → Depends library p p → ⊥
walk_free library w p d =
    let ordered = walk_ordered library w in
    acyclic (reads_of library w.net) ordered.order p ordered.after (ordered.all p.path p.command (depends_cover library d).0 (depends_cover library d).1) (depends_reaches library w.net w.nets d)

-- A well-formed library that comes past all stages is sound.
pub past_sound : (library : LibraryValue) → IsWellFormed library → (past : IsClocked library) (gates : List Place) → FlatOrder library is_gate [] past.past.past.main gates
    → ClockData library past.past.past.main gates None → LoopWalk library None → IsSound library
past_sound library formed past gates gates_are clear walk =
    let walked = past.past.past in
    let driven = walked_driven library walked.main past.past.models formed walked.at walked.walks past.past.none in
    record {
      formed = formed;
      main = walked.main;
      at = walked.at;
      driven = driven;
      control_input = clocks-input library walked.main walked.at past.latches past.latches_are past.none;
      one_control = clocks-one library walked.main walked.at past.latches past.latches_are past.none driven;
      no_clock_data = data-clock library walked.main walked.at gates gates_are clear;
      no_clock_output = data-output library walked.main clear;
      no_loop = walk_free library walk;
    }
