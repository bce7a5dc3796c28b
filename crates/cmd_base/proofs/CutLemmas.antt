-- What the clause on a file that was cut off refuses: examples, which nothing cites.
use Rattle.cmd_base.proofs.Common.{◌≡◌, ℕ, ◌<◌, ◌≤◌, false, List, [], ◌∷◌, ◌++◌, length, get_or, take, Option, None, Some, inl, inr, sym, ap, subst, subst₂, ◌∙◌, arith, length-append, length-take-le, Rose, Files, with_file, Outside}
use Rattle.std.proofs.lemmas.Option.{none-some}
use Rattle.std.specs.FinMap.{get, insert}
use Rattle.tl_io.proofs.FilesLemmas.{is_same_name, get-inserted, get-inserted_other}
use Rattle.cmd_base.specs.Writing.{FileText, with_texts, HasPrefix, IsCut}

-- two texts that were put there under one name are the same
put_alike : (files : Files) (name bytes other : List ℕ) → Some (insert files name bytes) ≡ Some (insert files name other) → bytes ≡ other
put_alike files name bytes other e =
    let same : insert files name bytes ≡ insert files name other = cc in
    let told : Some bytes ≡ Some other = sym (get-inserted files name bytes) ∙ ap (λ (fs : Files). get fs name) same ∙ get-inserted files name other in
    cc

-- a file that was written whole is not cut off, unless these bytes stood there before
pub whole_not_cut : (text : FileText) (files : Files) → 0 < length text.bytes → HasPrefix text (Some files) (with_file (Some files) text.name text.bytes) → get files text.name ≡ Some text.bytes
whole_not_cut text files some (inl e) =
    let same : insert files text.name text.bytes ≡ files = cc in
    sym (ap (λ (fs : Files). get fs text.name) same) ∙ get-inserted files text.name text.bytes
whole_not_cut text files some (inr (inl e)) =
    let empty : text.bytes ≡ [] = put_alike files text.name text.bytes [] e in
    absurd (omega (arith, some, ap length empty))
whole_not_cut text files some (inr (inr (n, h, e))) =
    let cut : text.bytes ≡ take n text.bytes = put_alike files text.name text.bytes (take n text.bytes) e in
    let short : n ≤ length text.bytes = omega (arith, h) in
    absurd (omega (arith, h, ap length cut, length-take-le n text.bytes short))

-- a file that stands in files is missing in others
missing : (files others : Files) (name bytes : List ℕ) → Some (insert files name bytes) ≡ Some others → get others name ≡ None → ⊥
missing files others name bytes e none =
    let same : insert files name bytes ≡ others = cc in
    let told : None ≡ Some bytes = sym none ∙ ap (λ (fs : Files). get fs name) (sym same) ∙ get-inserted files name bytes in
    none-some bytes told

-- of two files that were written whole, neither is cut off
module _ (t p : FileText) (files : Files) (none : get files p.name ≡ None) (apart : is_same_name p.name t.name ≡ false) (some : 0 < length p.bytes) where
  abbrev first : Files
  first = insert files t.name t.bytes

  abbrev both : Files
  both = insert first p.name p.bytes

  none_beside : (bytes : List ℕ) → get (insert files t.name bytes) p.name ≡ None
  none_beside bytes = get-inserted_other files t.name bytes p.name apart ∙ none

  not_first : HasPrefix t (Some files) (Some both) → ⊥
  not_first (inl e) = missing first files p.name p.bytes e none
  not_first (inr (inl e)) = missing first (insert files t.name []) p.name p.bytes e (none_beside [])
  not_first (inr (inr (n, h, e))) = missing first (insert files t.name (take n t.bytes)) p.name p.bytes e (none_beside (take n t.bytes))

  not_second : HasPrefix p (Some first) (Some both) → ⊥
  not_second cut = none-some p.bytes (sym (none_beside t.bytes) ∙ whole_not_cut p first some cut)

  not_in_file : (before : List FileText) (cut : FileText) (after : List FileText) → t ∷ p ∷ [] ≡ before ++ cut ∷ after → HasPrefix cut (with_texts (Some files) before) (Some both) → ⊥
  not_in_file [] cut after split has =
      let same : cut ≡ t = sym (ap (λ (xs : List FileText). get_or xs 0 t) split) in
      not_first (subst (λ (x : FileText). HasPrefix x (Some files) (Some both)) same has)
  not_in_file (b ∷ []) cut after split has =
      let before : b ≡ t = sym (ap (λ (xs : List FileText). get_or xs 0 t) split) in
      let same : cut ≡ p = sym (ap (λ (xs : List FileText). get_or xs 1 t) split) in
      not_second (subst₂ (λ (x y : FileText). HasPrefix x (with_file (Some files) y.name y.bytes) (Some both)) same before has)
  not_in_file (b ∷ c ∷ bs) cut after split has = let long = ap length split in absurd (omega (arith, long, length-append bs (cut ∷ after)))

  -- So a job that wrote both files whole, and whose output has no fault, does not end as one that was cut off.
  pub whole_job_not_cut : (line : List ℕ) (old new : Outside) → old.files ≡ Some files → new.files ≡ with_texts old.files (t ∷ p ∷ []) → (Rose old.put_faults new.put_faults → ⊥) → IsCut (t ∷ p ∷ []) line old new → ⊥
  whole_job_not_cut line old new told all kept (inr cut) = kept cut.cause
  whole_job_not_cut line old new told all kept (inl cut) =
      let whole : new.files ≡ Some both = all ∙ ap (λ (fs : Option Files). with_texts fs (t ∷ p ∷ [])) told in
      not_in_file cut.before cut.cut cut.after cut.split
      (subst₂ (λ (was is : Option Files). HasPrefix cut.cut (with_texts was cut.before) is) told whole cut.files)
