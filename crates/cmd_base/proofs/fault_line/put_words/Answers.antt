use Rattle.cmd_base.proofs.Common.{◌≡◌, ◌<◌, ℕ, suc, ◌+◌, List, [], ◌++◌, Bor, Ok, length, map, get_or, ap, sym, ◌∙◌, take, drop, append_assoc, arith, length-map, get_or-map, take-map, take_all, put_none, put_twice, put_stopped, put_as, spaced}
use Rattle.cmd_base.proofs.PutLemmas.{blank_and, spaced_split, spaced_more}
use Rattle.cmd_base.proofs.fault_line.put_words.Goals as goal

-- the bytes of a word that is lent
abbrev bytes_of : Bor (List ℕ) → List ℕ
bytes_of word = word.now

abbrev none : Bor (List ℕ)
none = record { ref_ptr = (0, 0); now = [] }

pub loop-word-init : goal.loop-word-init
loop-word-init g c = put_none (g.E.Sink.seen c.args.err.now)

pub returns-in_err-put_all : goal.returns-in_err-put_all
returns-in_err-put_all g c =
    let lent = c.args.words.now in
    let words : List (List ℕ) = map bytes_of lent in
    let i = c.loop-word.word-index in
    let word = bytes_of (get_or lent i none) in
    let front = spaced (map bytes_of (take i lent)) in
    let rest = spaced (drop (suc i) words) in
    let inside : i < length words = rw length-map (omega arith) in
    let split : spaced words ≡ front ++ (blank_and word ++ rest) =
    spaced_split words i [] inside ∙ ap (λ (t : List ℕ). spaced (take i words) ++ (blank_and t ++ rest)) (get_or-map bytes_of lent i none [] (omega arith))
    ∙ ap (λ (ts : List (List ℕ)). spaced ts ++ (blank_and word ++ rest)) (take-map bytes_of i lent) in
    put_as (append_assoc front (blank_and word) rest ∙ sym split) (put_stopped _ rest c.from_residual.result c.from_residual.ensures.1 (put_twice {more = blank_and word} _ c.loop-word.invariant c.in_err-put_all.ensures))

pub loop-word-preserved : goal.loop-word-preserved
loop-word-preserved g c =
    let lent = c.args.words.now in
    let words : List (List ℕ) = map bytes_of lent in
    let i = c.loop-word.word-index in
    let word = bytes_of (get_or lent i none) in
    let front = spaced (map bytes_of (take i lent)) in
    let inside : i < length words = rw length-map (omega arith) in
    let more : spaced (map bytes_of (take (i + 1) lent)) ≡ front ++ blank_and word =
    ap (λ (ts : List (List ℕ)). spaced ts) (sym (take-map bytes_of (i + 1) lent)) ∙ spaced_more words i [] inside
    ∙ ap (λ (t : List ℕ). spaced (take i words) ++ blank_and t) (get_or-map bytes_of lent i none [] (omega arith))
    ∙ ap (λ (ts : List (List ℕ)). spaced ts ++ blank_and word) (take-map bytes_of i lent) in
    put_as (sym more) (put_twice {more = blank_and word} (Ok tt) c.loop-word.invariant c.in_ok-put_all.ensures)

pub returns : goal.returns
returns g c = put_as (ap (λ (ws : List (Bor (List ℕ))). spaced (map bytes_of ws)) (take_all c.loop-word.word-index c.args.words.now (omega arith))) c.loop-word.invariant
