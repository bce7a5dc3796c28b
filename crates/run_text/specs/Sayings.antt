-- What a line of a script says, by its words.
use Rattle.std.specs.Prelude.{ℕ, Bool, true, false, if◌then◌else◌, ◌==◌, nat_le, List, [], ◌∷◌, Option, Some, None, bytes_eq, codes}
use Rattle.std.specs.Option.{option_map, option_and_then}
use Rattle.tl_text.specs.Decimal.{bit_of, decimal_of}
use Rattle.run_text.specs.EventValue.{each_of}
use Rattle.run_text.specs.declared.event.Forms.{Forms}
use Rattle.run_text.specs.declared.event.Forms.TheVariants.{Run, Pace}
use Rattle.run_text.specs.declared.setting.Setting.{Setting}

-- the forms of a line: values for parameters by their names, the values of a cycle, the address of a bit that is upset
pub data Saying : Type 0 where
  sets : List Setting → Saying
  cycles : List Bool → Saying
  upsets : ℕ → Saying
  scrubs : Saying
  images : Saying

-- a word split at its last `=` (61): what stands before it, and after it
pub record Halves : Type 0 where
  pub front : List ℕ
  pub back : List ℕ

abbrev pub split_before : ℕ → List ℕ → Option Halves → Option Halves
split_before b rest None = if b == 61 then Some (record { front = []; back = rest }) else None
split_before b rest (Some halves) = Some (record { front = b ∷ halves.front; back = halves.back })

abbrev pub split_last : List ℕ → Option Halves
split_last [] = None
split_last (b ∷ bs) = split_before b bs (split_last bs)

-- `name=bit`: the name isn't empty, and the bit is `0` or `1`
abbrev pub setting_with : List ℕ → Option Bool → Option Setting
setting_with [] bit = None
setting_with (b ∷ bs) None = None
setting_with (b ∷ bs) (Some bit) = Some (record { name = b ∷ bs; bit = bit })

abbrev pub setting_by : Option Halves → Option Setting
setting_by None = None
setting_by (Some halves) = setting_with halves.front (bit_of halves.back)

abbrev pub setting_of : List ℕ → Option Setting
setting_of word = setting_by (split_last word)

-- one word or more, each a setting
abbrev pub settings_of : List (List ℕ) → Option (List Setting)
settings_of [] = None
settings_of (word ∷ words) = each_of setting_of (word ∷ words)

-- a string of `0` and `1`, or `-` for none
abbrev pub digit_bit : ℕ → Option Bool
digit_bit b = if b == 48 then Some false else if b == 49 then Some true else None

abbrev pub bits_of : List ℕ → Option (List Bool)
bits_of word = if bytes_eq word (codes "-") then Some [] else each_of digit_bit word

-- a decimal number below 2^32
abbrev pub small : ℕ → Option ℕ
small n = if nat_le n 4294967295 then Some n else None

abbrev pub address_of : List ℕ → Option ℕ
address_of word = option_and_then small (decimal_of word)

-- the only word of a list
abbrev pub only : List (List ℕ) → Option (List ℕ)
only [] = None
only (word ∷ []) = Some word
only (word ∷ next ∷ words) = None

-- a form without further words
abbrev pub alone : Saying → List (List ℕ) → Option Saying
alone saying [] = Some saying
alone saying (word ∷ words) = None

-- the five forms, each by its word in a script that is run
abbrev pub said_by : List ℕ → List (List ℕ) → Option Saying
said_by word rest =
    if bytes_eq word (codes "set") then option_map sets (settings_of rest)
    else if bytes_eq word (codes "cycle") then option_map cycles (option_and_then bits_of (only rest))
    else if bytes_eq word (codes "upset") then option_map upsets (option_and_then address_of (only rest))
    else if bytes_eq word (codes "scrub") then alone scrubs rest
    else if bytes_eq word (codes "image") then alone images rest
    else None

-- Where changes are asked for and the clock ticks, `ask` and `tick` stand in the place of `set` and `cycle`, and no other form has a word.
abbrev pub form_of : Forms → List ℕ → List ℕ
form_of Run word = word
form_of Pace word = if bytes_eq word (codes "ask") then codes "set" else if bytes_eq word (codes "tick") then codes "cycle" else []

abbrev pub said_of : Forms → List (List ℕ) → Option Saying
said_of forms [] = None
said_of forms (word ∷ rest) = said_by (form_of forms word) rest
