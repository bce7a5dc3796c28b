use mathlib.Core.Bool.{beq}
use Rattle.spec_core.proofs.Lemmas.{◌≡◌, Bool, true, false, not, cond, List, [], ◌∷◌, ◌++◌, length, map, slice_set, sym, ap, ◌∙◌, arith, append-nil, filter, range_with_len, get_or_read, get_or-set_other, xor, DeviceValue, config_bit, differs_at, write_of, bits_under, length-written, written-push, writes_few, one_more, test_differs}
use Rattle.spec_core.proofs.device.Device.write_differing.Goals.{then-index-bit, else-index-bit}
use Rattle.spec_core.proofs.device.Device.write_differing.Goals as goal

pub index-requires : goal.index-requires
index-requires c =
    let long = ap length c.loop-address.invariant.config ∙ length-written c.loop-address.self.writes c.args.self.now.config in
    let seen = ap (λ (d : DeviceValue). length d.config) c.self.view_is in
    omega (arith, long, seen)

pub write-requires-clause-address : goal.write-requires-clause-address
write-requires-clause-address c =
    let long = ap length c.loop-address.invariant.config ∙ length-written c.loop-address.self.writes c.args.self.now.config in
    omega (arith, long)

pub write-requires-clause-room : goal.write-requires-clause-room
write-requires-clause-room c =
    let long = ap length c.loop-address.invariant.config ∙ length-written c.loop-address.self.writes c.args.self.now.config in
    let count = ap length c.loop-address.invariant.writes in
    let few = writes_few (differs_at c.args.self.now.config (bits_under c.args.evaluation.now.pack c.args.evaluation.now.now.values)) (bits_under c.args.evaluation.now.pack c.args.evaluation.now.now.values) c.loop-address.address in
    omega (arith, long, count, few)

pub loop-address-preserved : goal.loop-address-preserved
loop-address-preserved c =
    let to : List Bool = bits_under c.args.evaluation.now.pack c.args.evaluation.now.now.values in
    let long = ap length c.loop-address.invariant.config ∙ length-written c.loop-address.self.writes c.args.self.now.config in
    let seen = ap (λ (d : DeviceValue). length d.config) c.self.view_is in
    let was : c.index.result.now ≡ config_bit c.args.self.now.config c.loop-address.address =
    get_or_read c.self.inside.config.items c.loop-address.address c.index.result.now (omega (arith, long, seen)) c.index.ensures false
    ∙ ap (λ (d : DeviceValue). config_bit d.config c.loop-address.address) c.self.view_is
    ∙ c.loop-address.invariant.rest c.loop-address.address (omega arith) in
    let more = one_more (differs_at c.args.self.now.config to) to c.loop-address.address in
    let test : (t : Bool) → not (beq c.index.result.now c.bit-bit.result) ≡ t → differs_at c.args.self.now.config to c.loop-address.address ≡ t
    = λ t e. ap (λ b. xor b (config_bit to c.loop-address.address)) (sym was) ∙ ap (xor c.index.result.now) (sym c.bit-bit.ensures) ∙ test_differs c.index.result.now c.bit-bit.result t e in
    elim c.if-index-bit.branch [
      | then-index-bit w ↦ rw (w.self-is, w.write.ensures) (record {
        writes =
            ap (λ ws. ws ++ record { address = c.loop-address.address; bit = c.bit-bit.result } ∷ []) c.loop-address.invariant.writes
            ∙ ap (λ b. map (write_of to) (filter (differs_at c.args.self.now.config to) (range_with_len 0 c.loop-address.address)) ++ record { address = c.loop-address.address; bit = b } ∷ []) c.bit-bit.ensures
            ∙ sym (more ∙ ap (λ b. map (write_of to) (filter (differs_at c.args.self.now.config to) (range_with_len 0 c.loop-address.address)) ++ cond b (write_of to c.loop-address.address ∷ []) []) (test true w.if-index-bit.true));
        config = sym (written-push c.loop-address.self.writes c.args.self.now.config _ ∙ ap (λ cs. slice_set cs c.loop-address.address c.bit-bit.result) (sym c.loop-address.invariant.config));
        rest = λ k l. get_or-set_other c.loop-address.self.config c.loop-address.address k c.bit-bit.result false (λ e. omega arith) ∙ c.loop-address.invariant.rest k (omega arith);
      })
      | else-index-bit w ↦ rw w.self-is (record {
        writes =
            c.loop-address.invariant.writes
            ∙ sym (more ∙ ap (λ b. map (write_of to) (filter (differs_at c.args.self.now.config to) (range_with_len 0 c.loop-address.address)) ++ cond b (write_of to c.loop-address.address ∷ []) []) (test false w.if-index-bit.false) ∙ append-nil _);
        config = c.loop-address.invariant.config;
        rest = λ k l. c.loop-address.invariant.rest k (omega arith);
      })
    ]
