-- A worked example: the pack of the example of `pace_core`, of one parameter p and the two bits p and not p, at a host whose p is 0.
use Rattle.tlut_host.proofs.Common.{◌≡◌, ◌-◌, Bool, true, false, List, [], ◌∷◌, refl, arith, Write, SpecialiserValue, settings_status}
use Rattle.pace_core.proofs.PaceExample.{pack, fits_at, conf_at_0, conf_at_1}
use Rattle.tlut_host.specs.Calls.{IsSetCall, IsUpsetCall, IsScrubCall, IsValueCall}

-- the host at a value of p, with these bits on the device, after these writes
abbrev host : Bool → List Bool → List Write → SpecialiserValue
host p config writes = record { pack = pack; state = record { params = p ∷ []; config = config }; writes = writes; reads = 0 }

abbrev start : SpecialiserValue
start = host false (false ∷ true ∷ []) []

-- p gets 1: both bits are written, and no node is read
sets_1 : IsSetCall (record { parameter = 0; bit = true } ∷ []) start
    (host true (true ∷ false ∷ []) (record { address = 0; bit = true } ∷ record { address = 1; bit = false } ∷ [])) 0
sets_1 = record {
  answer = refl;
  done = λ e. record {
    pack = refl;
    set = record { params = refl; from = false ∷ true ∷ []; before = conf_at_0; to = true ∷ false ∷ []; after = conf_at_1; are = refl; config = refl };
    steps = 0;
    reads = refl;
    cost = record { old = false ∷ false ∷ []; before = fits_at false; new = false ∷ true ∷ []; after = fits_at true; few = omega arith };
    steady = λ is. conf_at_1;
  };
  refused = λ fails. absurd (fails refl);
}

-- there is no parameter 1, and a parameter stands once: nothing changes
no_parameter_1 : IsSetCall (record { parameter = 0; bit = true } ∷ record { parameter = 1; bit = true } ∷ []) start start 6
no_parameter_1 = record { answer = refl; done = λ e. absurd (omega arith); refused = λ fails. refl }

once : IsSetCall (record { parameter = 0; bit = true } ∷ record { parameter = 0; bit = false } ∷ []) start start 7
once = record { answer = refl; done = λ e. absurd (omega arith); refused = λ fails. refl }

-- the first setting that breaks a rule is told
first_is_told : settings_status 1 0 (record { parameter = 0; bit = true } ∷ record { parameter = 0; bit = true } ∷ record { parameter = 9; bit = true } ∷ []) ≡ 7
first_is_told = refl

-- the bit at 1 is upset, and a scrub sets it right; the last bit can be upset, and the one after it can't
upset_1 : IsUpsetCall 1 start (host false (false ∷ false ∷ []) (record { address = 1; bit = false } ∷ [])) 0
upset_1 = record { pack = refl; done = λ below. (refl, record { params = refl; is = refl; config = refl }); range = λ above. absurd (omega arith) }

no_bit_2 : IsUpsetCall 2 start start 6
no_bit_2 = record { pack = refl; done = λ below. absurd (omega arith); range = λ above. (refl, refl) }

scrub_1 : IsScrubCall (host false (false ∷ false ∷ []) (record { address = 1; bit = false } ∷ [])) (host false (false ∷ true ∷ []) (record { address = 1; bit = true } ∷ [])) 0
scrub_1 = record {
  done = refl;
  pack = refl;
  scrub = record { params = refl; right = false ∷ true ∷ []; conf = conf_at_0; are = refl; config = refl };
  right = conf_at_0;
}

-- the value of p is told, and there is no other parameter
value_of_p : IsValueCall 0 (true ∷ []) false true 0
value_of_p = record { told = λ below. (refl, refl); range = λ above. absurd (omega arith) }

no_value_1 : IsValueCall 1 (true ∷ []) false false 6
no_value_1 = record { told = λ below. absurd (omega arith); range = λ above. (refl, refl) }
