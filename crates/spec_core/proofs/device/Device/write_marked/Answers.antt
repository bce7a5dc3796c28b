use Rattle.spec_core.proofs.Lemmas.{◌≡◌, Bool, false, List, [], ◌∷◌, ◌++◌, length, slice_set, sym, ap, ◌∙◌, arith, length-append, append_assoc, append-nil, length-set, is_marked, writes_where, config_bit, write_of, EvaluationValue, bits_under, length-written, written-push, writes_few, least_written, fewer_left, none_written, length-bits_under, addresses_only}
use Rattle.spec_core.proofs.MarkLemmas.{unmarked}
use Rattle.spec_core.proofs.device.Device.write_marked.Goals as goal

pub write-requires-clause-address : goal.write-requires-clause-address
write-requires-clause-address c =
    let long = ap length c.loop-address.invariant.config ∙ length-written c.loop-address.self.writes c.args.self.now.config in
    omega (arith, long, c.in-Some.ensures.least.within)

pub write-requires-clause-room : goal.write-requires-clause-room
write-requires-clause-room c =
    let to : List Bool = bits_under c.args.evaluation.now.pack c.args.evaluation.now.now.values in
    let count : length to ≡ length c.args.evaluation.now.pack.bits = length-bits_under c.args.evaluation.now.pack c.args.evaluation.now.now.values in
    let long = ap length c.loop-address.invariant.config ∙ length-written c.loop-address.self.writes c.args.self.now.config in
    let first = least_written c.loop-address.evaluation.now.addresses to c.in-Some.address c.in-Some.ensures.least (c.loop-address.invariant.marks ∙ sym count) in
    let all = ap length (ap (λ ws. c.loop-address.self.writes ++ ws) (sym first) ∙ c.loop-address.invariant.writes) in
    let few = writes_few (is_marked c.args.evaluation.now.now.addresses) to (length to) in
    omega (arith, long, all, few, length-append c.loop-address.self.writes (write_of to c.in-Some.address ∷ writes_where (is_marked (slice_set c.loop-address.evaluation.now.addresses c.in-Some.address false)) to))

pub loop-address-smaller : goal.loop-address-smaller
loop-address-smaller c =
    let taken = ap (λ (e : EvaluationValue). e.now.addresses) c.in-Some.ensures.rest in
    rw taken (fewer_left c.loop-address.evaluation.now.addresses c.in-Some.address _ c.in-Some.ensures.least (omega (arith, c.in-Some.ensures.least.within)))

pub loop-address-preserved : goal.loop-address-preserved
loop-address-preserved c =
    let to : List Bool = bits_under c.args.evaluation.now.pack c.args.evaluation.now.now.values in
    let count : length to ≡ length c.args.evaluation.now.pack.bits = length-bits_under c.args.evaluation.now.pack c.args.evaluation.now.now.values in
    let whole = addresses_only c.args.evaluation.now c.loop-address.evaluation c.take_address.new.self _ c.loop-address.invariant.evaluation c.in-Some.ensures.rest in
    let taken = ap (λ (e : EvaluationValue). e.now.addresses) c.in-Some.ensures.rest in
    let bit : c.bit.result ≡ config_bit to c.in-Some.address = c.bit.ensures ∙ ap (λ (e : EvaluationValue). config_bit (bits_under e.pack e.now.values) c.in-Some.address) whole in
    record {
      writes = rw (c.write.ensures, taken, bit)
          (append_assoc c.loop-address.self.writes (write_of to c.in-Some.address ∷ []) (writes_where (is_marked (slice_set c.loop-address.evaluation.now.addresses c.in-Some.address false)) to)
          ∙ ap (λ ws. c.loop-address.self.writes ++ ws) (sym (least_written c.loop-address.evaluation.now.addresses to c.in-Some.address c.in-Some.ensures.least (c.loop-address.invariant.marks ∙ sym count)))
          ∙ c.loop-address.invariant.writes);
      config = rw c.write.ensures (sym (written-push c.loop-address.self.writes c.args.self.now.config _ ∙ ap (λ cs. slice_set cs c.in-Some.address c.bit.result) (sym c.loop-address.invariant.config)));
      evaluation = whole ∙ ap (λ ms. record { pack = c.args.evaluation.now.pack; reads = c.args.evaluation.now.reads; readers = c.args.evaluation.now.readers; now = record { values = c.args.evaluation.now.now.values; nodes = c.args.evaluation.now.now.nodes; addresses = ms } }) (sym taken);
      marks = rw taken (length-set c.loop-address.evaluation.now.addresses c.in-Some.address false ∙ c.loop-address.invariant.marks);
    }

pub returns-clause-sent : goal.returns-clause-sent
returns-clause-sent c =
    let to : List Bool = bits_under c.args.evaluation.now.pack c.args.evaluation.now.now.values in
    record {
      writes = sym (ap (λ ws. c.loop-address.self.writes ++ ws) (none_written c.loop-address.evaluation.now.addresses to c.in_default.ensures.least) ∙ append-nil c.loop-address.self.writes) ∙ c.loop-address.invariant.writes;
      config = c.loop-address.invariant.config;
    }

pub returns-clause-taken : goal.returns-clause-taken
returns-clause-taken c =
    addresses_only c.args.evaluation.now c.loop-address.evaluation c.take_address.new.self _ c.loop-address.invariant.evaluation c.in_default.ensures.rest
    ∙ ap (λ ms. record { pack = c.args.evaluation.now.pack; reads = c.args.evaluation.now.reads; readers = c.args.evaluation.now.readers; now = record { values = c.args.evaluation.now.now.values; nodes = c.args.evaluation.now.now.nodes; addresses = ms } })
    (unmarked c.loop-address.evaluation.now.addresses (length c.args.evaluation.now.pack.bits) c.loop-address.invariant.marks c.in_default.ensures.least)
