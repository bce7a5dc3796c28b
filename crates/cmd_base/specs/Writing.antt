-- What a job that writes files makes of what is outside: first its files, in their order, and then its line.
use Rattle.std.specs.Prelude.{◌≡◌, ◌<◌, ◌⊎◌, ℕ, List, [], ◌∷◌, ◌++◌, length, take, Option, Result, Ok, Err}
use Rattle.cmd_base.specs.Words.{Rose, extended, Files, with_file, emptied}
use Rattle.cmd_base.specs.Walk.{Outside}
use Rattle.cmd_base.specs.declared.outcome.Outcome.{Outcome}
use Rattle.cmd_base.specs.declared.outcome.Outcome.TheVariants.{Done, WriteFault}

-- the outcome of a job whose last work was to write
abbrev pub writing_outcome : {E : Type 0} → Result Unit E → Outcome
writing_outcome (Ok done) = Done
writing_outcome (Err e) = WriteFault

-- a file's name and its bytes
pub record FileText : Type 0 where
  pub name : List ℕ
  pub bytes : List ℕ

-- the files, with these put there one after the other
abbrev pub with_texts : Option Files → List FileText → Option Files
with_texts files [] = files
with_texts files (text ∷ texts) = with_texts (with_file files text.name text.bytes) texts

-- a file is as before or empty, as a call that did not begin it leaves it, or has a prefix of its bytes that is shorter than all of them; all others are as before
abbrev pub HasPrefix : FileText → Option Files → Option Files → Type 0
HasPrefix text old new = (new ≡ old) ⊎ ((new ≡ emptied old text.name) ⊎ ((n : ℕ) × (n < length text.bytes) × (new ≡ with_file old text.name (take n text.bytes))))

module _ (texts : List FileText) (line : List ℕ) (old new : Outside) where
  -- the files have their bytes, and the line was put
  pub record AreWritten : Type 0 where
    pub files : new.files ≡ with_texts old.files texts
    pub bytes : new.bytes ≡ extended old.bytes line
    pub ports : new.ports ≡ old.ports

  -- a fault of writing in a file, of which the shelf's count rose: those before it are whole, those after it as they were, and the output was not called
  pub record IsCutInFile : Type 0 where
    pub before : List FileText
    pub cut : FileText
    pub after : List FileText
    pub split : texts ≡ before ++ cut ∷ after
    pub files : HasPrefix cut (with_texts old.files before) new.files
    pub cause : Rose old.file_faults new.file_faults
    pub bytes : new.bytes ≡ old.bytes
    pub put_faults : new.put_faults ≡ old.put_faults
    pub ports : new.ports ≡ old.ports

  -- a fault of writing in the line, of which the output's count rose: all files are whole, and a prefix of the line stands, not all of it
  pub record IsCutInLine : Type 0 where
    pub part : ℕ
    pub within : part < length line
    pub files : new.files ≡ with_texts old.files texts
    pub bytes : new.bytes ≡ extended old.bytes (take part line)
    pub cause : Rose old.put_faults new.put_faults
    pub ports : new.ports ≡ old.ports

  abbrev pub IsCut : Type 0
  IsCut = IsCutInFile ⊎ IsCutInLine
