-- What a specialiser keeps: at the start, and after an event.
use Rattle.spec_core.proofs.Common.{◌≡◌, ℕ, ◌≤◌, Bool, false, List, [], length, replicate, refl, sym, ap, ◌∙◌, subst, length-map, Assign, AreAscending, AreBitsOf, written, first_and, node_count, AreNormal, FitsGraph, one_fit, PackValue, IsPack, IsConf, HasOneConf, inits_of, has_one_conf, kinds_count, is_marked, differs_at, IsSet, IsScrub, Progress, EvaluationValue, bits_under, DeviceValue, IsSent, params_in, IsIdle, IsChange, Keeps, length-written, arith, rules}
use Rattle.ppc_pack.specs.declared.pack.TheConstants.{MOST_PACK_BITS}
use Rattle.ppc_pack.specs.declared.pack.PackParam.{PackParam}
use Rattle.spec_core.proofs.StoreLemmas.{writes_ascend, writes_are_bits, written_differences}
use Rattle.spec_core.proofs.SweepLemmas.{params_fit, length-bits_under, idle_conf, change_set, change_steady}

-- the parameters' values at the start
pub start_params : (pack : PackValue) (values : List Bool) → FitsGraph pack.graph (inits_of pack.params) values → params_in pack values ≡ inits_of pack.params
start_params pack values fits = params_fit pack (inits_of pack.params) values (length-map pack.params (λ (p : PackParam). p.init)) fits

-- the start
pub IsIdle-start : (pack : PackValue) (now : Progress) → FitsGraph pack.graph (inits_of pack.params) now.values → now.nodes ≡ replicate (node_count pack.graph) false → now.addresses ≡ replicate (length pack.bits) false → IsIdle pack now
IsIdle-start pack now fits nodes addresses = search (rules, start_params)

-- under any values of the parameters there is one configuration
pub one_conf_each : (pack : PackValue) → AreNormal (first_and pack.graph) pack.graph.pairs → IsPack pack.params pack.graph pack.bits → (given : List Bool) → length given ≡ length pack.params → HasOneConf pack given
one_conf_each pack normal is given same = has_one_conf pack given (one_fit pack.graph given normal (same ∙ sym (kinds_count pack is)))

-- the device has the configuration at first, and no writes
pub Keeps-start : (e : EvaluationValue) (device : DeviceValue) → IsIdle e.pack e.now → AreNormal (first_and e.pack.graph) e.pack.graph.pairs → IsPack e.pack.params e.pack.graph e.pack.bits
    → device ≡ record { config = bits_under e.pack e.now.values; writes = [] } → Keeps e device
Keeps-start e device idle normal is start = grind (arith, length-bits_under)

-- once the marked addresses are taken, a change leaves nothing marked
pub change_idle : (pack : PackValue) (assigns : List Assign) (old now : Progress) (start end : ℕ) → IsChange pack assigns old now start end → IsIdle pack (record { values = now.values; nodes = now.nodes; addresses = replicate (length pack.bits) false })
change_idle pack assigns old now start end change = record { fits = change.fits; nodes = change.swept.nodes; addresses = refl }

-- what is kept after writes are sent to a device
pub Keeps-sent : (e : EvaluationValue) (device sent : DeviceValue) (test : ℕ → Bool) → IsIdle e.pack e.now → AreNormal (first_and e.pack.graph) e.pack.graph.pairs → length e.pack.bits ≤ MOST_PACK_BITS
    → length device.config ≡ length e.pack.bits → IsSent test (bits_under e.pack e.now.values) device sent → Keeps e sent
Keeps-sent e device sent test idle normal few bits done = search (rules, length-written, writes_ascend, writes_are_bits, length-bits_under)

-- A change of parameters, its writes, and what is left then.
module _ (old changed left : EvaluationValue) (device cleared sent : DeviceValue) (assigns : List Assign) (start end : ℕ) (keeps : Keeps old device) (same : changed.pack ≡ old.pack)
    (change : IsChange old.pack assigns old.now changed.now start end) (addresses : length changed.now.addresses ≡ length old.pack.bits) (clear : cleared ≡ record { config = device.config; writes = [] })
    (done : IsSent (is_marked changed.now.addresses) (bits_under changed.pack changed.now.values) cleared sent)
    (taken : left ≡ record { pack = changed.pack; reads = changed.reads; readers = changed.readers; now = record { values = changed.now.values; nodes = changed.now.nodes; addresses = replicate (length changed.pack.bits) false } }) where
  left_is : left ≡ record { pack = old.pack; reads = changed.reads; readers = changed.readers; now = record { values = changed.now.values; nodes = changed.now.nodes; addresses = replicate (length old.pack.bits) false } }
  left_is = taken ∙ ap (λ (p : PackValue). record { pack = p; reads = changed.reads; readers = changed.readers; now = record { values = changed.now.values; nodes = changed.now.nodes; addresses = replicate (length p.bits) false } }) same

  done_over : IsSent (is_marked changed.now.addresses) (bits_under old.pack changed.now.values) (record { config = device.config; writes = [] }) sent
  done_over = grind arith

  pub change_keeps : Keeps left sent
  change_keeps = subst (λ (e : EvaluationValue). Keeps e sent) (sym left_is)
      (Keeps-sent _ (record { config = device.config; writes = [] }) sent (is_marked changed.now.addresses) (change_idle old.pack assigns old.now changed.now start end change) keeps.normal keeps.few keeps.bits done_over)

  pub change_sets : IsSet old.pack assigns (record { params = params_in old.pack old.now.values; config = device.config }) sent.writes (record { params = params_in left.pack left.now.values; config = sent.config })
  change_sets = subst (λ (e : EvaluationValue). IsSet old.pack assigns (record { params = params_in old.pack old.now.values; config = device.config }) sent.writes (record { params = params_in e.pack e.now.values; config = sent.config })) (sym left_is)
      (change_set old.pack assigns old.now changed.now start end keeps.idle change (record { config = device.config; writes = [] }) sent addresses done_over)

  pub change_stays : IsConf old.pack (params_in old.pack old.now.values) device.config → IsConf old.pack (params_in left.pack left.now.values) sent.config
  change_stays conf = subst (λ (e : EvaluationValue). IsConf old.pack (params_in e.pack e.now.values) sent.config) (sym left_is)
      (change_steady old.pack assigns old.now changed.now start end keeps.idle change (record { config = device.config; writes = [] }) sent addresses done_over keeps.normal conf)

-- The bits are set right.
module _ (e : EvaluationValue) (device cleared sent : DeviceValue) (keeps : Keeps e device) (clear : cleared ≡ record { config = device.config; writes = [] })
    (done : IsSent (differs_at cleared.config (bits_under e.pack e.now.values)) (bits_under e.pack e.now.values) cleared sent) where
  done_from : IsSent (differs_at device.config (bits_under e.pack e.now.values)) (bits_under e.pack e.now.values) (record { config = device.config; writes = [] }) sent
  done_from = subst (λ (d : DeviceValue). IsSent (differs_at d.config (bits_under e.pack e.now.values)) (bits_under e.pack e.now.values) d sent) clear done

  pub scrub_keeps : Keeps e sent
  scrub_keeps = Keeps-sent e (record { config = device.config; writes = [] }) sent (differs_at device.config (bits_under e.pack e.now.values)) keeps.idle keeps.normal keeps.few keeps.bits done_from

  pub scrub_sets : IsScrub e.pack (record { params = params_in e.pack e.now.values; config = device.config }) sent.writes (record { params = params_in e.pack e.now.values; config = sent.config })
  scrub_sets = record { params = refl; right = bits_under e.pack e.now.values; conf = idle_conf e.pack e.now keeps.idle; are = done_from.writes; config = done_from.config }

  pub scrub_rights : IsConf e.pack (params_in e.pack e.now.values) sent.config
  scrub_rights = grind (arith, written_differences, length-bits_under, idle_conf)
