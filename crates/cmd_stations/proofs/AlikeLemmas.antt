-- Hosts of packs with the same configurations put the same lines for the same events.
use Rattle.cmd_stations.proofs.Common.{◌≡◌, ℕ, Bool, not, List, [], ◌∷◌, length, get_or, drop, refl, sym, ap, ◌∙◌, subst, arith, PackValue, IsConf, HasOneConf, EventValue, Set, Cycle, Upset, Scrub, Image, host_line, SpecialiserValue, IsHostPlayed, IsOfHost, AreHostSteps}
use Rattle.tl_io.specs.declared.Assign.{Assign}
use Rattle.tl_io.specs.declared.Write.{Write}
use Rattle.tl_io.specs.Assigns.{assigned}
use Rattle.tl_io.specs.Writes.{written}
use Rattle.run_text.specs.Lines.{set_line, scrub_line, upset_line, image_line}
use Rattle.spec_core.specs.Differences.{config_bit, differences, write_of}
use Rattle.spec_core.proofs.AssignLemmas.{length-assigned}
use Rattle.machine.specs.Machine.{none, more}

-- packs with as many parameters, and a configuration of one is one of the other
pub record AreAlike (p q : PackValue) : Type 0 where
  pub count : length p.params ≡ length q.params
  pub conf : (params config : List Bool) → length params ≡ length p.params → IsConf p params config → IsConf q params config

module _ (p q : PackValue) (alike : AreAlike p q) (one : (given : List Bool) → length given ≡ length q.params → HasOneConf q given) where
  -- hosts of the two packs in the same state
  pub record StandAlike (h k : SpecialiserValue) : Type 0 where
    pub pack : h.pack ≡ p
    pub other : k.pack ≡ q
    pub params : h.state.params ≡ k.state.params
    pub config : h.state.config ≡ k.state.config
    pub count : length k.state.params ≡ length q.params

  -- under the same values they have the same configuration
  pub same_conf : (own packs : PackValue) (params values a b : List Bool) → own ≡ p → packs ≡ q → params ≡ values → length values ≡ length q.params → IsConf own params a → IsConf packs values b → a ≡ b
  same_conf own packs params values a b is_p is_q same count x y =
      let here : IsConf p values a = subst (λ (vs : List Bool). IsConf p vs a) same (subst (λ (r : PackValue). IsConf r params a) is_p x) in
      (one values count).only a (alike.conf values a (count ∙ sym alike.count) here) ∙ sym ((one values count).only b (subst (λ (r : PackValue). IsConf r values b) is_q y))

  -- what an event makes of both: the same line, and the same state again
  pub record PlayAlike (event : EventValue) (h k : SpecialiserValue) : Type 0 where
    pub line : host_line event h ≡ host_line event k
    pub stand : StandAlike h k

  module _ (h k new last : SpecialiserValue) (stand : StandAlike h k) where
    packs_stay : (event : EventValue) → IsHostPlayed event h new → IsHostPlayed event k last → new.state.params ≡ last.state.params → new.state.config ≡ last.state.config → length last.state.params ≡ length k.state.params → StandAlike new last
    packs_stay event a b params config count = record { pack = a.pack ∙ stand.pack; other = b.pack ∙ stand.other; params = params; config = config; count = count ∙ stand.count }

    same_written : new.writes ≡ last.writes → new.state.config ≡ written h.state.config new.writes → last.state.config ≡ written k.state.config last.writes → new.state.config ≡ last.state.config
    same_written writes a b = a ∙ (ap (λ (c : List Bool). written c new.writes) stand.config ∙ ap (λ (ws : List Write). written k.state.config ws) writes) ∙ sym b

    same_differences : (from to other_from other_to : List Bool) → from ≡ other_from → to ≡ other_to → differences from to ≡ differences other_from other_to
    same_differences from to other_from other_to a b = ap (λ (c : List Bool). differences c to) a ∙ ap (λ (c : List Bool). differences other_from c) b

    set_alike : (assigns : List Assign) → IsHostPlayed (Set assigns) h new → IsHostPlayed (Set assigns) k last → PlayAlike (Set assigns) new last
    set_alike assigns a b =
        let params : new.state.params ≡ last.state.params = a.is.params ∙ (ap (λ (ps : List Bool). assigned ps assigns) stand.params ∙ sym b.is.params) in
        let count : length last.state.params ≡ length k.state.params = ap length b.is.params ∙ length-assigned assigns k.state.params in
        let from = same_conf h.pack k.pack h.state.params k.state.params a.is.from b.is.from stand.pack stand.other stand.params stand.count a.is.before b.is.before in
        let to = same_conf h.pack k.pack new.state.params last.state.params a.is.to b.is.to stand.pack stand.other params (count ∙ stand.count) a.is.after b.is.after in
        let writes : new.writes ≡ last.writes = a.is.are ∙ (same_differences a.is.from a.is.to b.is.from b.is.to from to ∙ sym b.is.are) in
        record { line = ap set_line writes; stand = packs_stay (Set assigns) a b params (same_written writes a.is.config b.is.config) count }

    upset_alike : (address : ℕ) → IsHostPlayed (Upset address) h new → IsHostPlayed (Upset address) k last → PlayAlike (Upset address) new last
    upset_alike address a b =
        let writes : new.writes ≡ last.writes =
        a.is.is ∙ (ap (λ (c : List Bool). let w : Write = record { address = address; bit = not (config_bit c address) } in w ∷ []) stand.config ∙ sym b.is.is) in
        let config : new.state.config ≡ last.state.config = same_written writes a.is.config b.is.config in
        record {
          line = ap (λ (c : List Bool). upset_line (write_of c address)) config;
          stand = packs_stay (Upset address) a b (a.is.params ∙ (stand.params ∙ sym b.is.params)) config (ap length b.is.params);
        }

    scrub_alike : IsHostPlayed Scrub h new → IsHostPlayed Scrub k last → PlayAlike Scrub new last
    scrub_alike a b =
        let right = same_conf h.pack k.pack h.state.params k.state.params a.is.right b.is.right stand.pack stand.other stand.params stand.count a.is.conf b.is.conf in
        let writes : new.writes ≡ last.writes = a.is.are ∙ (same_differences h.state.config a.is.right k.state.config b.is.right stand.config right ∙ sym b.is.are) in
        record {
          line = ap scrub_line writes;
          stand = packs_stay Scrub a b (a.is.params ∙ (stand.params ∙ sym b.is.params)) (same_written writes a.is.config b.is.config) (ap length b.is.params);
        }

    image_alike : IsHostPlayed Image h new → IsHostPlayed Image k last → PlayAlike Image new last
    image_alike a b =
        let config : new.state.config ≡ last.state.config = ap (λ (s : SpecialiserValue). s.state.config) a.is ∙ (stand.config ∙ sym (ap (λ (s : SpecialiserValue). s.state.config) b.is)) in
        record {
          line = ap image_line config;
          stand = packs_stay Image a b (ap (λ (s : SpecialiserValue). s.state.params) a.is ∙ (stand.params ∙ sym (ap (λ (s : SpecialiserValue). s.state.params) b.is))) config (ap (λ (s : SpecialiserValue). length s.state.params) b.is);
        }

    pub play_alike : (event : EventValue) → IsOfHost event → IsHostPlayed event h new → IsHostPlayed event k last → PlayAlike event new last
    play_alike (Set assigns) of_host a b = set_alike assigns a b
    play_alike (Cycle values) of_host a b = absurd of_host
    play_alike (Upset address) of_host a b = upset_alike address a b
    play_alike Scrub of_host a b = scrub_alike a b
    play_alike Image of_host a b = image_alike a b

  -- and so of some events
  pub record ComeAlike (lines others : List (List ℕ)) (h k : SpecialiserValue) : Type 0 where
    pub lines_are : lines ≡ others
    pub stand : StandAlike h k

  pub come_alike : {h k new last : SpecialiserValue} {events others : List EventValue} {lines other_lines : List (List ℕ)} → StandAlike h k → AreHostSteps h events lines new → AreHostSteps k others other_lines last → events ≡ others
      → ComeAlike lines other_lines new last
  come_alike stand none none same = record { lines_are = refl; stand = stand }
  come_alike stand none (more {xs = others} other line mid2 step2 rest2) same = absurd (let count : length {A = EventValue} [] ≡ length (other ∷ others) = ap length same in omega (arith, count))
  come_alike stand (more {xs = events} event line mid step rest) none same = absurd (let count : length (event ∷ events) ≡ length {A = EventValue} [] = ap length same in omega (arith, count))
  come_alike {h} {k} stand (more {xs = events} {outputs = lines} event line mid step rest) (more {xs = others} {outputs = other_lines} other other_line mid2 step2 rest2) same =
      let event_is : event ≡ other = ap (λ (es : List EventValue). get_or es 0 event) same in
      let events_are : events ≡ others = ap (drop 1) same in
      let next = play_alike h k mid mid2 stand event step.0.of_host step.0.played (subst (λ e. IsHostPlayed e k mid2) (sym event_is) step2.0.played) in
      let later = come_alike next.stand rest rest2 events_are in
      let line_is : line ≡ other_line = step.1 ∙ (next.line ∙ ap (λ e. host_line e mid2) event_is) ∙ sym step2.1 in
      record {
        lines_are = ap (λ (ls : List (List ℕ)). line ∷ ls) later.lines_are ∙ ap (λ (l : List ℕ). l ∷ other_lines) line_is;
        stand = later.stand;
      }
