-- What stays of a machine however it is asked and however it ticks: its pack, its rate, and how many values and bits there are. So wherever it has come to, the ticks that come next wait as long as is said.
use Rattle.cmd_pace.proofs.Common.{◌≡◌, ℕ, ◌≤◌, Bool, List, [], ◌∷◌, length, take, refl, sym, ap, ◌∙◌, subst, arith, PackValue, IsConf, HasOneConf, differences, length-assigned, PaceValue, Ask, Tick, PacerValue, Shown, IsTicked, steps, waits, IsPaced, pacer_machine, passes_keep, StallsAnywhere}
use Rattle.tl_io.proofs.BitLemmas.{length-written}
use Rattle.pace_core.proofs.KeepLemmas.{conf_length}
use Rattle.pace_core.proofs.StallLemmas.{has_stalls}

-- a machine of this pack at this rate
pub record IsSteady (pack : PackValue) (rate : ℕ) (p : PacerValue) : Type 0 where
  pub pack_is : p.pack ≡ pack
  pub rate_is : p.rate ≡ rate
  pub params : length p.params ≡ length pack.params
  pub config : length p.config ≡ length pack.bits

-- at the start
pub start_steady : (p : PacerValue) (rate : ℕ) (inits : List Bool) → p.rate ≡ rate → p.params ≡ inits → length inits ≡ length p.pack.params → IsConf p.pack inits p.config → IsSteady p.pack rate p
start_steady p rate inits rate_is params count conf = record { pack_is = refl; rate_is = rate_is; params = ap length params ∙ count; config = conf_length p.pack inits p.config conf }

module _ (pack : PackValue) (rate : ℕ) where
  ticked_steady : (values : List Bool) (old new : PacerValue) (one : Shown) → IsSteady pack rate old → IsTicked values old new one → IsSteady pack rate new
  ticked_steady values old new one steady (steps s) =
      subst (λ (p : PacerValue). IsSteady pack rate p) (sym s.becomes) (record { pack_is = steady.pack_is; rate_is = steady.rate_is; params = steady.params; config = steady.config })
  ticked_steady values old new one steady (waits w) = subst (λ (p : PacerValue). IsSteady pack rate p) (sym w.becomes) (record {
    pack_is = steady.pack_is;
    rate_is = steady.rate_is;
    params = steady.params;
    config = length-written (take old.rate (differences old.config w.wanted)) old.config ∙ steady.config;
  })

  pub paced_steady : (event : PaceValue) (old new : PacerValue) (one : Shown) → IsSteady pack rate old → IsPaced event old new one → IsSteady pack rate new
  paced_steady (Ask assigns) old new one steady is = subst (λ (p : PacerValue). IsSteady pack rate p) (sym is.becomes) (record {
    pack_is = steady.pack_is;
    rate_is = steady.rate_is;
    params = length-assigned assigns old.params ∙ steady.params;
    config = steady.config;
  })
  paced_steady (Tick values) old new one steady is = ticked_steady values old new one steady is

  -- where under any values there is one configuration, and a tick writes a bit at least
  pub stalls_anywhere : (pacer : PacerValue) → 1 ≤ rate → ((given : List Bool) → length given ≡ length pack.params → HasOneConf pack given) → IsSteady pack rate pacer → StallsAnywhere pacer
  stalls_anywhere pacer takes one steady events shown mid are wanted conf =
      let there = passes_keep pacer_machine (λ event. Unit {0}) (λ p. IsSteady pack rate p) (λ event old one new any steady is. paced_steady event old new one steady is) (λ event i. tt) steady are in
      let of_pack : (others : List Bool) → IsConf mid.pack mid.params others → IsConf pack mid.params others = λ others is. subst (λ (p : PackValue). IsConf p mid.params others) there.pack_is is in
      let only = one mid.params there.params in
      has_stalls mid wanted (length (differences mid.config wanted)) (let r : mid.rate ≡ rate = there.rate_is in omega (arith, takes, r))
      (λ others is. only.only others (of_pack others is) ∙ sym (only.only wanted (of_pack wanted conf))) (there.config ∙ sym (conf_length pack mid.params wanted (of_pack wanted conf))) refl
