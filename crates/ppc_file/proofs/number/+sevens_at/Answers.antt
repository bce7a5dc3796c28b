use Rattle.ppc_file.proofs.Lemmas.{◌<◌, ◌≤◌, ◌-◌, arith, slice_index_or, one_at_least, below_power, fits_word}
use Rattle.ppc_file.proofs.number.+sevens_at.Goals as goal

pub returns-then-byte-lt128-clause-small : goal.returns-then-byte-lt128-clause-small
returns-then-byte-lt128-clause-small t c = one_at_least c.args.left (slice_index_or c.args.rest.now 0 0) (let n = c.if-left-eq0.false in omega arith) c.if-byte-lt128.true

pub overflow_mul-result : goal.overflow_mul-result
overflow_mul-result t c =
    let some : 1 ≤ c.args.left = (let n = c.if-left-eq0.false in omega arith) in
    let w = fits_word c.args.left c.in_ok-high-in-len1-up.high 0 some c.requires c.in_ok-high-in-len1-up.ensures.small (omega arith) in
    omega arith

pub overflow_add-result : goal.overflow_add-result
overflow_add-result t c =
    let some : 1 ≤ c.args.left = (let n = c.if-left-eq0.false in omega arith) in
    let byte : slice_index_or c.args.rest.now 0 0 < 256 = omega (arith, c.type_inv.rest 0) in
    let w = fits_word c.args.left c.in_ok-high-in-len1-up.high (slice_index_or c.args.rest.now 0 0 - 128) some c.requires c.in_ok-high-in-len1-up.ensures.small (omega arith) in
    omega arith

pub returns-else-high-eq0-clause-small : goal.returns-else-high-eq0-clause-small
returns-else-high-eq0-clause-small t c =
    let some : 1 ≤ c.args.left = (let n = c.if-left-eq0.false in omega arith) in
    let byte : slice_index_or c.args.rest.now 0 0 < 256 = omega (arith, c.type_inv.rest 0) in
    below_power c.args.left c.in_ok-high-in-len1-up.high (slice_index_or c.args.rest.now 0 0 - 128) some c.in_ok-high-in-len1-up.ensures.small (omega arith)
