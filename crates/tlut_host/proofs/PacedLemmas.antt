-- What a host at a limited rate keeps. It is what a pacer keeps beside a circuit without tables.
use Rattle.tlut_host.proofs.Common.{◌≡◌, ℕ, ◌+◌, ◌<◌, Bool, true, false, eqb, List, [], length, refl, sym, ap, ◌∙◌, subst, arith, eqb-true, eqb-false, Assign, Write, PackValue, IsConf, SpecialiserValue, BacklogValue, only_wanted, config_right, PacedValue, IsPacing, IsRequest, IsCatchUp, IsAsk, IsTick}
use Rattle.tl_io.specs.Writes.{written}
use Rattle.lut_sim.specs.Sim.{SimValue}
use Rattle.spec_core.specs.Differences.{differences}
use Rattle.pace_core.specs.Keeps.{Keeps}

-- a circuit without tables, of a configuration of so many bits
abbrev pub no_circuit : ℕ → SimValue
no_circuit bits = record { template = record { luts = []; outputs = []; next = []; bits = bits; depth = 0 }; shape = record { regular = 0; params = 0; latches = 0 }; outputs = []; states = [] }

pub keeps_of : (s : SpecialiserValue) (b : BacklogValue) → IsPacing s b → Keeps s b (no_circuit (length s.pack.bits)) 1 0 0
keeps_of s b pacing = record { right = pacing.right; one = pacing.one; params = pacing.params; behind = pacing.behind; bits = refl; takes = omega arith; luts_are = refl; depth_is = refl }

pub pacing_of : (s : SpecialiserValue) (b : BacklogValue) (sim : SimValue) (rate luts depth : ℕ) → Keeps s b sim rate luts depth → IsPacing s b
pacing_of s b sim rate luts depth keeps = record { right = keeps.right; one = keeps.one; params = keeps.params; behind = keeps.behind }

abbrev pub seen : SpecialiserValue → BacklogValue → ℕ → PacedValue
seen s b rate = record { pack = s.pack; params = s.state.params; config = b.config; writes = b.writes; rate = rate; looks = s.reads + b.looks }

pub asked : (assigns : List Assign) (s : SpecialiserValue) (b : BacklogValue) (new : SpecialiserValue) (after : BacklogValue) (rate waiting : ℕ) → IsPacing s b → IsRequest assigns s b new after → waiting ≡ after.waiting
    → IsAsk assigns (seen s b rate) (seen new after rate) waiting
asked assigns s b new after rate waiting pacing request count =
    let set = request.change.set in
    let to = only_wanted new after (no_circuit (length new.pack.bits)) 1 0 0 (keeps_of new after request.pacing) set.to (subst (λ (p : PackValue). IsConf p new.state.params set.to) (sym request.change.pack) set.after) in
    record {
      params = set.params;
      wanted = set.to;
      conf = set.after;
      waits = count ∙ request.pacing.behind.waiting ∙ ap (λ (c : List Bool). length (differences after.config c)) (sym to) ∙ ap (λ (c : List Bool). length (differences c set.to)) request.config;
      becomes = ap (λ (p : PackValue). record { pack = p; params = new.state.params; config = after.config; writes = after.writes; rate = rate; looks = new.reads + after.looks }) request.change.pack
          ∙ ap (λ (c : List Bool). record { pack = s.pack; params = new.state.params; config = c; writes = after.writes; rate = rate; looks = new.reads + after.looks }) request.config
          ∙ ap (λ (ws : List Write). record { pack = s.pack; params = new.state.params; config = b.config; writes = ws; rate = rate; looks = new.reads + after.looks }) request.writes;
      from = set.from;
      before = set.before;
      reads = request.change.steps;
      nodes = request.change.cost;
      looks = (let e : length new.writes ≡ length (differences set.from set.to) = ap (λ (ws : List Write). length ws) set.are in omega (arith, e, request.change.reads, request.looks));
    }

-- whether the device is right
none_differs : (s : SpecialiserValue) (b : BacklogValue) → IsPacing s b → eqb b.waiting 0 ≡ true → b.config ≡ s.state.config
none_differs s b pacing e =
    let bits = length s.pack.bits in
    only_wanted s b (no_circuit bits) 1 0 0 (keeps_of s b pacing) b.config (config_right s b (no_circuit bits) 1 0 0 (keeps_of s b pacing) (eqb-true b.waiting 0 e))

some_differ : (s : SpecialiserValue) (b : BacklogValue) → IsPacing s b → eqb b.waiting 0 ≡ false → 0 < length (differences b.config s.state.config)
some_differ s b pacing e = (let w : b.waiting ≡ length (differences b.config s.state.config) = pacing.behind.waiting in let n = eqb-false b.waiting 0 e in omega (arith, w, n))

pub ticked : (s : SpecialiserValue) (b after : BacklogValue) (rate : ℕ) (is_right : Bool) → IsPacing s b → IsCatchUp rate s.state.config b after → is_right ≡ eqb b.waiting 0
    → IsTick (seen s b rate) (seen s after rate) is_right
ticked s b after rate is_right pacing caught is = record {
  wanted = s.state.config;
  conf = pacing.right;
  right = λ yes. none_differs s b pacing (sym is ∙ yes);
  waits = λ no_yet. some_differ s b pacing (sym is ∙ no_yet);
  writes = caught.writes;
  becomes = ap (λ (c : List Bool). record { pack = s.pack; params = s.state.params; config = c; writes = after.writes; rate = rate; looks = s.reads + after.looks }) (caught.config ∙ ap (λ (ws : List Write). written b.config ws) (sym caught.writes))
      ∙ ap (λ (n : ℕ). record { pack = s.pack; params = s.state.params; config = written b.config after.writes; writes = after.writes; rate = rate; looks = n }) (let e = caught.looks in omega (arith, e));
}
