use Rattle.blif_write.proofs.Lemmas.{ℕ, ◌≡◌, ◌+◌, ◌-◌, ◌∷◌, ap, arith, ◌∙◌, flat_map, range_with_len, map, added_as, added_twice, added_none, added_next, bit_name, words_text, words_of}
use Rattle.blif_write.proofs.tables.add_bits.Goals as goal

pub loop-address-init : goal.loop-address-init
loop-address-init g c =
    let none : 0 ≡ c.args.base - c.args.base = omega arith in
    added_as (ap (λ (n : ℕ). flat_map (λ (a : ℕ). 32 ∷ bit_name c.args.names.now a) (range_with_len c.args.base n)) none) (added_none g.O.Sink.seen c.args.writer.now)

pub loop-address-preserved : goal.loop-address-preserved
loop-address-preserved g c = let more : (c.loop-address.address - c.args.base) + 1 ≡ (c.loop-address.address + 1 - c.args.base) = omega arith in
    added_as (ap (λ (n : ℕ). flat_map (λ (a : ℕ). 32 ∷ bit_name c.args.names.now a) (range_with_len c.args.base n)) more)
    (added_next (λ (a : ℕ). 32 ∷ bit_name c.args.names.now a) c.args.base (c.loop-address.address - c.args.base) c.loop-address.address (omega arith) c.loop-address.invariant (added_twice c.add_byte.ensures c.add_own.ensures))

pub returns : goal.returns
returns g c =
    let all : c.loop-address.address - c.args.base ≡ c.args.count = omega arith in
    added_as (words_of (bit_name c.args.names.now) (range_with_len c.args.base (c.loop-address.address - c.args.base)) ∙ ap (λ (n : ℕ). words_text (map (bit_name c.args.names.now) (range_with_len c.args.base n))) all) c.loop-address.invariant
