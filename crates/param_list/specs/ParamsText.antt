-- A parameter list as a text: what its lines say, and its refusal, that of the first line that has one.
use Rattle.std.specs.Prelude.{◌≡◌, ℕ, Bool, not, ◌||◌, nat_lt, nat_le, if◌then◌else◌, List, [], ◌∷◌, ◌++◌, length, take, Option, Some, None, slice_get}
use Rattle.std.specs.Option.{option_and_then}
use Rattle.tl_fault.specs.Settled.{IsSettled}
use Rattle.tl_text.specs.FirstRefusal.{IsFirst}
use Rattle.tl_text.specs.Decimal.{bit_of}
use Rattle.tl_text.specs.LineValue.{WordsLine}
use Rattle.tl_text.specs.TextOf.{IsTextOf, IsTextFault}
use Rattle.tl_text.specs.declared.text_err.TextErr.{TextErr}
use Rattle.tl_text.specs.declared.text_err.TextErr.TheVariants as text_err
use Rattle.netlist.specs.FlatValue.{FlatValue}
use Rattle.netlist.specs.Models.{has_name}
use Rattle.param_list.specs.declared.params.Param.{Param}
use Rattle.tl_text.specs.declared.limits.TheConstants.{MOST_PARAMETERS, MOST_NAME_BYTES}
use Rattle.param_list.specs.declared.par_err.ParErr.{ParErr}
use Rattle.param_list.specs.declared.par_err.ParErr.TheVariants.{BadByte, TrailingSlash, Memory, Malformed, Parameters, NotInput, IsClock, Repeated}

-- a refusal of the text's lines as one of a parameter list
abbrev pub par_err : TextErr → ParErr
par_err (text_err.BadByte line) = BadByte line
par_err (text_err.TrailingSlash line) = TrailingSlash line
par_err text_err.Memory = Memory

-- what a line says: a name and its value at the start
pub record Entry : Type 0 where
  pub name : List ℕ
  pub init : Bool

abbrev pub entry_with : List ℕ → Option Bool → Option Entry
entry_with name None = None
entry_with name (Some init) = Some (record { name = name; init = init })

-- a line says it by two tokens, a name and `0` or `1`
abbrev pub entry_of : List (List ℕ) → Option Entry
entry_of [] = None
entry_of (name ∷ []) = None
entry_of (name ∷ bit ∷ []) = entry_with name (bit_of bit)
entry_of (name ∷ bit ∷ third ∷ others) = None

-- the names that some lines say
abbrev pub with_name : Option Entry → List (List ℕ) → List (List ℕ)
with_name None names = names
with_name (Some entry) names = entry.name ∷ names

abbrev pub names_said : List WordsLine → List (List ℕ)
names_said [] = []
names_said (line ∷ lines) = with_name (entry_of line.words) (names_said lines)

-- the refusal of a line by what it says, where the circuit has these inputs and clock nets and the lines before it say these names
abbrev pub entry_refusal : List (List ℕ) → List (List ℕ) → List (List ℕ) → ℕ → Option Entry → Option ParErr
entry_refusal inputs clocks earlier number None = Some (Malformed number)
entry_refusal inputs clocks earlier number (Some entry) =
    if nat_lt MOST_NAME_BYTES (length entry.name) || nat_le MOST_PARAMETERS (length earlier) then Some (Parameters number)
    else if not (has_name (inputs ++ clocks) entry.name) then Some (NotInput number entry.name)
    else if has_name clocks entry.name then Some (IsClock number entry.name)
    else if has_name earlier entry.name then Some (Repeated number entry.name)
    else None

abbrev pub line_refusal : List (List ℕ) → List (List ℕ) → List (List ℕ) → WordsLine → Option ParErr
line_refusal inputs clocks earlier line = entry_refusal inputs clocks earlier line.number (entry_of line.words)

-- the refusal of the line at a place
abbrev pub refusal_at : List (List ℕ) → List (List ℕ) → List WordsLine → ℕ → Option ParErr
refusal_at inputs clocks lines i = option_and_then (line_refusal inputs clocks (names_said (take i lines))) (slice_get lines i)

-- the first line that has a refusal
abbrev pub IsFirstRefusal : List (List ℕ) → List (List ℕ) → List WordsLine → ParErr → Type 0
IsFirstRefusal inputs clocks lines e = IsFirst (refusal_at inputs clocks lines) e

-- the parameter of a line: its name, the place of the input of this name, and its value
pub record IsParamOf (inputs : List (List ℕ)) (line : WordsLine) (p : Param) : Type 0 where
  pub says : entry_of line.words ≡ Some (record { name = p.name; init = p.init })
  pub input : slice_get inputs p.input ≡ Some p.name

-- the parameters of lines without a refusal, line by line
pub record AreParamsOf (inputs clocks : List (List ℕ)) (lines : List WordsLine) (params : List Param) : Type 0 where
  pub no_refusal : (i : ℕ) → refusal_at inputs clocks lines i ≡ None
  pub count : length params ≡ length lines
  pub each : (i : ℕ) (line : WordsLine) (p : Param) → slice_get lines i ≡ Some line → slice_get params i ≡ Some p → IsParamOf inputs line p

-- a text is a list of these parameters
abbrev pub IsParamsText : FlatValue → List ℕ → List Param → Type 0
IsParamsText flat = IsTextOf (λ lines. AreParamsOf flat.inputs flat.clocks lines)

-- a text is refused: as its lines are, else at the first line that has a refusal
abbrev pub IsParamsFault : FlatValue → List ℕ → ParErr → Type 0
IsParamsFault flat = IsTextFault par_err (λ lines. IsFirstRefusal flat.inputs flat.clocks lines)

-- a text is one list of parameters or has one refusal, and not both
abbrev pub HasOneReading : FlatValue → List ℕ → Type 0
HasOneReading flat text = IsSettled (IsParamsText flat text) (IsParamsFault flat text)
