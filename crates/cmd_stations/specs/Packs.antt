-- The pack that a file holds.
use Rattle.std.specs.Prelude.{◌≡◌, ℕ, List, length, map, Option, None, Some}
use Rattle.cmd_stations.specs.Words.{RefusalValue, Files, PackParam, PackValue, NamesValue, Forms, FileReading, shelf_reading, most_bytes, too_long, File, Netlist, Params, Script, Pack, Cert}
use Rattle.ppc_file.specs.declared.pack_err.PackErr.{PackErr}
use Rattle.ppc_file.specs.Refusals.{refusal_of}
use Rattle.ppc_file.specs.declared.version.Version.TheVariants.{Two}
use Rattle.ppc_file.specs.Bytes.{bytes_of}
use Rattle.ppc_file.specs.PackFile.{IsPackFile, IsPackFault, HasOneReading}
use Rattle.run_text.specs.declared.event.Forms.TheVariants as forms
use Rattle.cmd_stations.specs.Texts.{HasBytes, IsOverlong}

-- the file of this name is the file of a pack
pub record HasPack (files : Files) (name : List ℕ) (pack : PackValue) : Type 0 where
  pub bytes : List ℕ
  pub there : HasBytes (most_bytes Pack) files name bytes
  pub is : IsPackFile bytes pack

-- bytes are refused: by their one refusal
pub record IsPackRefusal (bytes : List ℕ) (refusal : RefusalValue) : Type 0 where
  pub e : PackErr
  pub fault : IsPackFault bytes e
  pub tells : refusal_of e ≡ Some refusal

-- the file is too long, or its bytes are refused
pub data IsPackRefused (files : Files) (name : List ℕ) (file : File) (refusal : RefusalValue) : Type 0 where
  long : file ≡ Pack → IsOverlong (most_bytes Pack) files name → refusal ≡ too_long → IsPackRefused files name file refusal
  bytes : file ≡ Pack → (bytes : List ℕ) → HasBytes (most_bytes Pack) files name bytes → IsPackRefusal bytes refusal → IsPackRefused files name file refusal

-- it is of one pack at most, or refused for one reason
abbrev pub IsPackSettled : Files → List ℕ → Type 0
IsPackSettled files name = (bytes : List ℕ) → HasBytes (most_bytes Pack) files name bytes → HasOneReading bytes

abbrev pub IsPackItself : File → Type 0
IsPackItself Netlist = ⊥
IsPackItself Params = ⊥
IsPackItself Script = ⊥
IsPackItself Pack = Unit {0}
IsPackItself Cert = ⊥

-- how it is read
abbrev pub pack_reading : List ℕ → FileReading
pack_reading name = shelf_reading IsPackItself (λ file. name) Pack (λ files file. Unit {0}) (λ files. IsPackRefused files name) (λ files. IsPackSettled files name)

-- what a script by these forms may name that is played on a pack, where the circuit has so many regular inputs
abbrev pub names_on : Forms → PackValue → Option ℕ → NamesValue
names_on forms pack width = record { forms = forms; params = map (λ (p : PackParam). p.name) pack.params; width = width; bits = length pack.bits }

-- by those of a script that is run
abbrev pub names_by : PackValue → Option ℕ → NamesValue
names_by pack width = names_on forms.Run pack width

-- and on a pack alone: its clock doesn't tick
abbrev pub pack_names : PackValue → NamesValue
pack_names pack = names_by pack None

-- the file of a pack, as it is written: in version 2
abbrev pub present_bytes : PackValue → List ℕ
present_bytes pack = bytes_of Two pack
