use Rattle.cert_check.proofs.Common.{◌≡◌, List, take, drop, length, get_or, ap, ◌∙◌, subst, arith, take_rest, take-append-drop, In, In-get_or, In-right, LineValue, Token}
use Rattle.cert_check.proofs.saying.read_saying.Goals as goal

pub bytes-word-requires : goal.bytes-word-requires
bytes-word-requires c =
    let tokens : c.as_slice-tokens.result.now ≡ c.args.line.now.tokens = c.as_slice-tokens.ensures.value ∙ ap (λ (l : LineValue). l.tokens) c.line.view_is in
    let same : length c.as_slice-tokens.result.now ≡ length c.args.line.now.tokens = ap (λ (l : List Token). length l) tokens in
    let none : Token = record { start = 0; end = 0 } in
    let first : Token = get_or c.as_slice-tokens.result.now 0 none in
    c.requires.within first (subst (λ l. In l first) tokens (In-get_or c.as_slice-tokens.result.now 0 none (omega (arith, c.requires.some))))

pub read_numbers-requires : goal.read_numbers-requires
read_numbers-requires c =
    let tokens : c.as_slice-tokens.result.now ≡ c.args.line.now.tokens = c.as_slice-tokens.ensures.value ∙ ap (λ (l : LineValue). l.tokens) c.line.view_is in
    let all : List Token = c.as_slice-tokens.result.now in
    λ token i. c.requires.within token (subst (λ l. In l token) (take-append-drop 1 all ∙ tokens) (In-right (take 1 all) (drop 1 all) token (subst (λ l. In l token) (take_rest all 1) i)))
