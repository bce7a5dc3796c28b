-- Worked examples: a script of all five events, what words say, each refusal, and each line that is put out.
use Rattle.run_text.proofs.Common.{replicate, ◌≡◌, ℕ, zero, suc, true, false, List, [], ◌∷◌, codes, map, inl, inr, ap, ◌∙◌, Option, Some, None, Ok, refl, sym, subst, arith, slice_get, none-some, Assign, WordsLine, LineValue, words_line, EventValue, event_values, Set, Cycle, Upset, Scrub, Image, Fits, NamesValue, refusal_of, split_last, setting_of, settings_of, bits_of, address_of, at_line, line_refusal, line_event, refusal_at, IsScript, IsScriptFault, ScriptErr, Malformed, NotHere, Width, NotParameter, RepeatedInSet, Address, Events, Memory, bit_digit, bit_string, header_line, cycle_line, bits_header_line, write_text, set_line, scrub_line, upset_line, image_line}
use Rattle.tl_fault.specs.RefusalValue.{refusal as told}
use Rattle.tl_fault.specs.declared.refusal.Details.TheVariants.{Line, Bits}
use Rattle.tl_fault.specs.declared.refusal.Details.TheVariants as details
use Rattle.tl_text.specs.Lines.{lines_of}
use Rattle.run_text.specs.declared.event.Event.TheVariants as event
use Rattle.run_text.specs.declared.event.Forms.TheVariants as form
use Rattle.std.specs.Fmt.{digits}
use Rattle.tl_io.specs.declared.Write.{Write}

-- two parameters, two regular inputs, four bits
abbrev names : NamesValue
names = record { forms = form.Run; params = codes "p" ∷ codes "q" ∷ []; width = Some 2; bits = 4 }

abbrev text : List ℕ
text = codes "set q=1 p=0\n# no event\ncycle 10\nupset 3\nscrub\nimage\n"

abbrev events : List EventValue
events = Set (record { param = 1; bit = true } ∷ record { param = 0; bit = false } ∷ []) ∷ Cycle (true ∷ false ∷ []) ∷ Upset 3 ∷ Scrub ∷ Image ∷ []

abbrev lines : List LineValue
lines =
    record { number = 1; tokens = record { start = 0; end = 3 } ∷ record { start = 4; end = 7 } ∷ record { start = 8; end = 11 } ∷ [] }
    ∷ record { number = 3; tokens = record { start = 23; end = 28 } ∷ record { start = 29; end = 31 } ∷ [] }
    ∷ record { number = 4; tokens = record { start = 32; end = 37 } ∷ record { start = 38; end = 39 } ∷ [] }
    ∷ record { number = 5; tokens = record { start = 40; end = 45 } ∷ [] }
    ∷ record { number = 6; tokens = record { start = 46; end = 51 } ∷ [] } ∷ []

text_lines : lines_of text ≡ Ok lines
text_lines = refl

none_refused : (i : ℕ) → refusal_at names (map (words_line text) lines) i ≡ None
none_refused zero = refl
none_refused (suc zero) = refl
none_refused (suc (suc zero)) = refl
none_refused (suc (suc (suc zero))) = refl
none_refused (suc (suc (suc (suc zero)))) = refl
none_refused (suc (suc (suc (suc (suc i))))) = refl

five_events : IsScript names text events
five_events = record { lines = lines; lines_are = refl; are = record { no_refusal = none_refused; are = refl } }

-- a word is split at its last `=`
splits : map split_last (codes "a=b=1" ∷ codes "ab" ∷ []) ≡ Some (record { front = codes "a=b"; back = codes "1" }) ∷ None ∷ []
splits = refl

settings : (map setting_of (codes "a=b=1" ∷ codes "=1" ∷ []) ≡ Some (record { name = codes "a=b"; bit = true }) ∷ None ∷ []) × (settings_of [] ≡ None)
settings = (refl, refl)

-- `-` is no value, and another byte makes a word none of both
values : map bits_of (codes "-" ∷ codes "01" ∷ codes "0-" ∷ []) ≡ Some [] ∷ Some (false ∷ true ∷ []) ∷ None ∷ []
values = refl

-- the greatest address, and the number behind it
addresses : map address_of (codes "4294967295" ∷ codes "4294967296" ∷ []) ≡ Some 4294967295 ∷ None ∷ []
addresses = refl

-- the refusal of line 7 by its words
abbrev refusal : List (List ℕ) → Option ScriptErr
refusal words = line_refusal names 3 (record { number = 7; words = words })

-- S1: an unknown word, a word too many or too few, a value that is none, behind a name that is no parameter
malformed : map refusal ((codes "sets" ∷ codes "p=1" ∷ []) ∷ (codes "scrub" ∷ codes "1" ∷ []) ∷ (codes "set" ∷ []) ∷ (codes "set" ∷ codes "z=1" ∷ codes "p=2" ∷ []) ∷ []) ≡ replicate 4 (Some (Malformed 7))
malformed = refl

-- S6 and S2: a cycle where there are none, and one with a value too few
no_cycles : line_refusal (record { forms = form.Run; params = []; width = None; bits = 4 }) 3 (record { number = 7; words = codes "cycle" ∷ codes "1" ∷ [] }) ≡ Some (NotHere 7)
no_cycles = refl

too_few : map refusal ((codes "cycle" ∷ codes "1" ∷ []) ∷ (codes "cycle" ∷ codes "-" ∷ []) ∷ []) ≡ replicate 2 (Some (Width 7 2))
too_few = refl

-- S3 and S4, word by word
word_by_word : map refusal ((codes "set" ∷ codes "z=1" ∷ []) ∷ (codes "set" ∷ codes "p=1" ∷ codes "p=1" ∷ codes "z=1" ∷ []) ∷ (codes "set" ∷ codes "p=1" ∷ codes "z=1" ∷ codes "p=1" ∷ []) ∷ [])
    ≡ Some (NotParameter 7 (codes "z")) ∷ Some (RepeatedInSet 7 (codes "p")) ∷ Some (NotParameter 7 (codes "z")) ∷ []
word_by_word = refl

-- S5: the first address that isn't there, and the last one that is
bit_refusals : map refusal ((codes "upset" ∷ codes "4" ∷ []) ∷ (codes "upset" ∷ codes "3" ∷ []) ∷ []) ≡ Some (Address 7 4) ∷ None ∷ []
bit_refusals = refl

-- L7: behind 2^20 events, whatever the line is; one event fewer is taken
one_too_many : (line_refusal names 1048576 (record { number = 7; words = codes "what" ∷ [] }) ≡ Some (Events 7))
    × (line_refusal names 1048575 (record { number = 7; words = codes "image" ∷ [] }) ≡ None)
one_too_many = (refl, refl)

-- the second line is the first that has a refusal
abbrev refused_text : List ℕ
refused_text = codes "scrub\nset z=1\nno\n"

abbrev three_lines : List LineValue
three_lines =
    record { number = 1; tokens = record { start = 0; end = 5 } ∷ [] }
    ∷ record { number = 2; tokens = record { start = 6; end = 9 } ∷ record { start = 10; end = 13 } ∷ [] }
    ∷ record { number = 3; tokens = record { start = 14; end = 16 } ∷ [] } ∷ []

second_refused : IsScriptFault names refused_text (NotParameter 2 (codes "z"))
second_refused = at_line three_lines refl (record {
  place = 1;
  is = refl;
  none_before = λ i l. let z : i ≡ 0 = omega arith in subst (λ k. refusal_at names (map (words_line refused_text) three_lines) k ≡ None) (sym z) refl;
})

-- a script of asks and ticks: `ask` and `tick` are a set and a cycle, and no other form has a word, nor have these two their own ones
abbrev paced : NamesValue
paced = record { forms = form.Pace; params = codes "p" ∷ codes "q" ∷ []; width = Some 2; bits = 4 }

abbrev paced_line : List (List ℕ) → WordsLine
paced_line words = record { number = 7; words = words }

paced_events : map (λ words. line_event paced (paced_line words)) ((codes "ask" ∷ codes "q=1" ∷ []) ∷ (codes "tick" ∷ codes "10" ∷ []) ∷ [])
    ≡ Some (Set (record { param = 1; bit = true } ∷ [])) ∷ Some (Cycle (true ∷ false ∷ [])) ∷ []
paced_events = refl

paced_refusals : map (λ words. line_refusal paced 3 (paced_line words)) ((codes "ask" ∷ codes "z=1" ∷ []) ∷ (codes "tick" ∷ codes "1" ∷ []) ∷ []) ≡ Some (NotParameter 7 (codes "z")) ∷ Some (Width 7 2) ∷ []
paced_refusals = refl

not_paced : (map (λ words. line_refusal paced 3 (paced_line words)) ((codes "set" ∷ codes "q=1" ∷ []) ∷ (codes "cycle" ∷ codes "10" ∷ []) ∷ (codes "image" ∷ []) ∷ []) ≡ replicate 3 (Some (Malformed 7)))
    × (refusal (codes "ask" ∷ codes "q=1" ∷ []) ≡ Some (Malformed 7))
not_paced = (refl, refl)

-- a set fits where its parameters are there, each once, and a cycle where it has a value for each regular input
one_place : (i : ℕ) (a : Assign) → slice_get (record { param = 1; bit = true } ∷ []) i ≡ Some a → i ≡ 0
one_place zero a e = refl
one_place (suc i) a e = absurd (none-some a e)

set_fits : Fits names (Set (record { param = 1; bit = true } ∷ []))
set_fits = record {
  below = λ a i. elim i [ inl e ↦ (let n : a.param ≡ 1 = ap (λ (b : Assign). b.param) e in omega arith) | inr o ↦ absurd o ];
  once = λ i j a b x y same. one_place i a x ∙ sym (one_place j b y);
}

others_fit : Fits names (Cycle (true ∷ false ∷ [])) × Fits names (Upset 3)
others_fit = (refl, omega arith)

-- events without vectors as they are seen
plain_events : event_values (event.Upset 3 ∷ event.Scrub ∷ event.Image ∷ []) ≡ Upset 3 ∷ Scrub ∷ Image ∷ []
plain_events = refl

-- want of memory is no refusal, and two refusals tell a number beside the line
told_refusals : map refusal_of (Memory ∷ Malformed 7 ∷ Width 7 2 ∷ Address 7 4 ∷ [])
    ≡ None ∷ Some (told (codes "S1") (codes "Malformed") (Line 7)) ∷ Some (told (codes "S2") (codes "Width") (details.Width 7 2)) ∷ Some (told (codes "S5") (codes "Address") (Bits 7 4)) ∷ []
told_refusals = refl

-- the lines that are put out: those with numbers, and those of bits alone
abbrev writes : List Write
writes = record { address = 1; bit = true } ∷ record { address = 20; bit = false } ∷ []

numbered_lines : header_line 1 4 12 ∷ bits_header_line 4 ∷ write_text (record { address = 7; bit = true }) ∷ set_line writes ∷ set_line [] ∷ scrub_line writes ∷ upset_line (record { address = 3; bit = false }) ∷ []
    ≡ codes "luts 1 bits 4 depth 12\n" ∷ codes "bits 4\n" ∷ codes " 7=1" ∷ codes "set 2 1=1 20=0\n" ∷ codes "set 0\n" ∷ codes "scrub 2 1=1 20=0\n" ∷ codes "upset 3=0\n" ∷ []
unfolding digits
numbered_lines = refl

bit_lines : (bit_digit false ∷ bit_digit true ∷ []) ∷ bit_string [] ∷ cycle_line (false ∷ true ∷ []) [] ∷ image_line (false ∷ true ∷ false ∷ []) ∷ image_line [] ∷ []
    ≡ codes "01" ∷ codes "-" ∷ codes "cycle 01 -\n" ∷ codes "image 010\n" ∷ codes "image -\n" ∷ []
bit_lines = refl
