-- The command `bits`: a script of the host is played on a pack alone.
use Rattle.std.specs.Prelude.{ℕ, if◌then◌else◌, List, [], ◌∷◌, codes, bytes_eq, Option, Some, None, ◌≡◌, ◌⊎◌, length}
use Rattle.cmd_pack.specs.declared.bits.words.BitsWords.{BitsWords as BitsWordsRead}
use Rattle.tl_fault.specs.RefusalValue.{RefusalValue}
use Rattle.cmd_pack.specs.Words.{Files, PackValue, EventValue, FileReading, shelf_reading, CommandWalk, portless_walk, Outside, HasPack, IsPackRefused, IsPackSettled, pack_names, present_bytes, AreAllPut, IsCutInFront, IsCutInLine, host_line, SpecialiserValue, IsHostStart, IsHostStep, AreHostSteps}
use Rattle.cmd_base.specs.Refusals.{most_bytes}
use Rattle.cmd_base.specs.declared.outcome.File.{File}
use Rattle.cmd_base.specs.declared.outcome.File.TheVariants.{Netlist, Params, Script, Pack, Cert}
use Rattle.cmd_stations.specs.Script.{HasScript, IsScriptRefused, IsScriptSettled}
use Rattle.tl_io.specs.Causes.{Rose}
use Rattle.run_text.specs.Lines.{bits_header_line}
use Rattle.std.specs.FinMap.{get}
use Rattle.cmd_stations.specs.Texts.{HasBytes}

-- the words that name the pack and the script
pub record BitsWords : Type 0 where
  pub pack : List ℕ
  pub script : List ℕ

-- the words `bits PACK SCRIPT`
abbrev pub bits_of : List (List ℕ) → Option BitsWords
bits_of (command ∷ pack ∷ script ∷ []) = if bytes_eq command (codes "bits") then Some (record { pack = pack; script = script }) else None
bits_of words = None

-- words as they are read
abbrev pub bits_seen : BitsWordsRead → BitsWords
bits_seen words = record { pack = words.pack.now; script = words.script.now }

-- the files hold a pack and events for it
pub record IsBitsJob (files : Files) (words : BitsWords) (held : PackValue) (events : List EventValue) : Type 0 where
  pub pack : HasPack files words.pack held
  pub script : HasScript files words.script (pack_names held) events

-- the first refusal of its walk, at a file: the pack's, then the script's
pub data IsBitsRefused (files : Files) (words : BitsWords) (file : File) (refusal : RefusalValue) : Type 0 where
  pack : IsPackRefused files words.pack file refusal → IsBitsRefused files words file refusal
  script : (pack : PackValue) → HasPack files words.pack pack → IsScriptRefused files words.script (pack_names pack) file refusal → IsBitsRefused files words file refusal

-- each of its files says one thing, or is refused for one reason
pub record IsBitsSettled (files : Files) (words : BitsWords) : Type 0 where
  pub pack : IsPackSettled files words.pack
  pub script : (pack : PackValue) → HasPack files words.pack pack → IsScriptSettled files words.script (pack_names pack)

-- its files, and the word that names each
abbrev pub IsOfBits : File → Type 0
IsOfBits Netlist = ⊥
IsOfBits Params = ⊥
IsOfBits Script = Unit {0}
IsOfBits Pack = Unit {0}
IsOfBits Cert = ⊥

abbrev pub bits_word : BitsWords → File → List ℕ
bits_word words Script = words.script
bits_word words file = words.pack

-- the walk comes to a file
abbrev pub ReachesBits : Files → BitsWords → File → Type 0
ReachesBits files words Netlist = ⊥
ReachesBits files words Params = ⊥
ReachesBits files words Script = (pack : PackValue) × HasPack files words.pack pack
ReachesBits files words Pack = Unit {0}
ReachesBits files words Cert = ⊥

-- how its files are read
abbrev pub bits_reading : BitsWords → FileReading
bits_reading words = shelf_reading IsOfBits (bits_word words) Script (λ files. ReachesBits files words) (λ files. IsBitsRefused files words) (λ files. IsBitsSettled files words)

-- the header line of a pack
abbrev pub pack_header : PackValue → List ℕ
pack_header given = bits_header_line (length given.bits)

-- an event was played on a host, and this is its line
abbrev pub PutsHostStep : EventValue → SpecialiserValue → List ℕ → SpecialiserValue → Type 0
PutsHostStep event old line new = IsHostStep event old new × (line ≡ host_line event new)

-- What a playing leaves outside, seen from the host at the start: of the bytes of the output alone.
module _ (h : SpecialiserValue) (events : List EventValue) (old new : Outside) where
  -- each event was played, and the output grew by the header and a line an event
  pub record AreLinesPut : Type 0 where
    pub end : SpecialiserValue
    pub put : AreAllPut (AreHostSteps h) (pack_header h.pack) events old.bytes end new.bytes
    pub files : new.files ≡ old.files
    pub ports : new.ports ≡ old.ports

  -- a fault of writing, in the header or in an event's line
  pub record AreLinesCut : Type 0 where
    pub cut : IsCutInFront (pack_header h.pack) old.bytes new.bytes ⊎ IsCutInLine (AreHostSteps h) PutsHostStep (pack_header h.pack) events old.bytes new.bytes
    pub cause : Rose old.put_faults new.put_faults
    pub files : new.files ≡ old.files
    pub ports : new.ports ≡ old.ports

-- the files hold a job, its host is at the start, and this is so of its playing
pub record HasBits (files : Files) (words : BitsWords) (Ends : SpecialiserValue → List EventValue → Type 0) : Type 0 where
  pub pack : PackValue
  pub events : List EventValue
  pub is_job : IsBitsJob files words pack events
  pub host : SpecialiserValue
  pub start : IsHostStart pack host
  pub ends : Ends host events

-- the files hold an accepted job of `bits`
pub record HasBitsJob (files : Files) (words : BitsWords) : Type 0 where
  pub pack : PackValue
  pub events : List EventValue
  pub is : IsBitsJob files words pack events

abbrev pub bits_walk : BitsWords → CommandWalk
bits_walk words =
    portless_walk (bits_reading words) (λ files. HasBitsJob files words) (λ files old new. HasBits files words (λ h events. AreLinesPut h events old new)) (λ files old new. HasBits files words (λ h events. AreLinesCut h events old new))
    (λ files old new. Unit {0}) ⊥

-- a job of `bits` that is done on some files
abbrev pub IsPlayedOn : Files → BitsWords → Outside → Outside → Type 0
IsPlayedOn files words old new = HasBits files words (λ h events. AreLinesPut h events old new)

-- whatever two jobs of `bits` that are done on these files put, it is the same
pub record PutTheSame (files others : Files) (words other_words : BitsWords) : Type 0 where
  pub bytes : (old new before after : Outside) → IsPlayedOn files words old new → IsPlayedOn others other_words before after → before.bytes ≡ old.bytes → after.bytes ≡ new.bytes

-- The file in version 2 of a pack that some file holds.
pub record ReplaysFile (pack : PackValue) : Type 0 where
  -- it is accepted as that pack's, where it isn't too long
  pub accepted : (files others : Files) (name other_name : List ℕ) → HasPack files name pack → HasBytes (most_bytes Pack) others other_name (present_bytes pack) → HasPack others other_name pack
  -- wherever both files stand, a script that is the same text is played on one as on the other
  pub same : (files others : Files) (words other_words : BitsWords) → HasPack files words.pack pack → get others other_words.pack ≡ Some (present_bytes pack)
      → get others other_words.script ≡ get files words.script → PutTheSame files others words other_words
