-- Places, and what stands at them: a place has one cover or latch, and a connection leads to the model that it places.
use Rattle.blif_flat.proofs.Common.{◌≡◌, ℕ, ◌∷◌, Some, None, refl, sym, ap, ◌∙◌, slice_get, option_and_then, same_Some, List, ◌++◌, subst, [], append_assoc, decimal, LatchValue, Path, body_at, model_at, CoverAt, LatchAt, Place, Net, input_net, latch_net, cover_net, cover_in, path_text, IsWritten, of_input, of_latch, of_cover, Instance, AreWritten, paths_of, AreInstances, AreUnder, output_or, output_in, output_at, CoverValue, LibraryValue, cover_at-is, one_latch, append-nil, arith}
use Rattle.blif_flat.specs.LoopFault.{none, more}

-- How nets are written: the paths of rows, and that each net has one text.
module _ (library : LibraryValue) where
  record IsLatchText (path : Path) (i : ℕ) (text : List ℕ) : Type 0 where
    latch : LatchValue
    at : LatchAt library path i latch
    is : text ≡ path_text path ++ latch.output

  record IsCoverText (path : Path) (i : ℕ) (text : List ℕ) : Type 0 where
    cover : CoverValue
    at : CoverAt library path i cover
    is : text ≡ path_text path ++ cover.output

  abbrev IsText : Net → List ℕ → Type 0
  IsText (input_net name) text = text ≡ name
  IsText (latch_net path i) text = IsLatchText path i text
  IsText (cover_net path i) text = IsCoverText path i text

  is_text : (net : Net) (text : List ℕ) → IsWritten library net text → IsText net text
  is_text net text (of_input name q e) = subst (λ n. IsText n text) (sym q) e
  is_text net text (of_latch path i l q a e) = subst (λ n. IsText n text) (sym q) (record { latch = l; at = a; is = e })
  is_text net text (of_cover path i c q a e) = subst (λ n. IsText n text) (sym q) (record { cover = c; at = a; is = e })

  text_once : (net : Net) (text other : List ℕ) → IsText net text → IsText net other → text ≡ other
  text_once (input_net name) text other a b = a ∙ sym b
  text_once (latch_net path i) text other a b = a.is ∙ ap (λ (l : LatchValue). path_text path ++ l.output) (one_latch library path i a.latch b.latch a.at b.at) ∙ sym b.is
  text_once (cover_net path i) text other a b = grind arith

  pub written_once : (net : Net) (text other : List ℕ) → IsWritten library net text → IsWritten library net other → text ≡ other
  written_once net text other a b = text_once net text other (is_text net text a) (is_text net other b)

pub rows_under : (library : LibraryValue) (instances : List Instance) → AreInstances library instances → AreUnder instances
rows_under library instances r = record {
  at = λ i row e. (let w = r.each i row e in w.at ∙ ap Some w.is);
  earlier = λ i row p e q. (r.each i row e).earlier p q;
}

pub path_text-append : (xs ys : Path) → path_text (xs ++ ys) ≡ path_text ys ++ path_text xs
path_text-append [] ys = sym (append-nil (path_text ys))
path_text-append (k ∷ xs) ys = ap (λ l. l ++ (decimal k ++ 47 ∷ [])) (path_text-append xs ys) ∙ append_assoc (path_text ys) (path_text xs) (decimal k ++ 47 ∷ [])

-- the last ordinal stands first
pub path_text-last : (text : List ℕ) (path left : Path) (k : ℕ) → path ≡ left ++ k ∷ [] → (text ++ (decimal k ++ 47 ∷ [])) ++ path_text left ≡ text ++ path_text path
path_text-last text path left k e = grind (arith, append_assoc, decimal, path_text, path_text-append)

-- the path of a row, as far as it's known
abbrev pub IsSoFar : List Instance → ℕ → ℕ → Path → Type 0
IsSoFar instances i at done = (path : Path) → slice_get (paths_of instances) at ≡ Some path → slice_get (paths_of instances) i ≡ Some (done ++ path)

module _ (instances : List Instance) (under : AreUnder instances) (at : ℕ) (row : Instance) (here : slice_get instances at ≡ Some row) where
  pub so_far_end : (i : ℕ) (done : Path) → row.parent ≡ None → IsSoFar instances i at done → slice_get (paths_of instances) i ≡ Some done
  so_far_end i done e h = h [] (under.at at row here ∙ ap Some (rw e refl)) ∙ ap Some (append-nil done)

-- a cover's net is written as its output at its instance
module _ (library : LibraryValue) (instances : List Instance) (r : AreInstances library instances) (i : ℕ) (row : Instance) (here : slice_get instances i ≡ Some row) where
  row_output : (path : Path) (command : ℕ) (c : CoverValue) → slice_get (paths_of instances) i ≡ Some path → CoverAt library path command c → output_at library row.model command ≡ c.output
  row_output path command c e a =
      let w = r.each i row here in
      let same : w.path ≡ path = same_Some w.path path (sym w.at ∙ e) in
      let model : w.model ≡ a.model = same_Some w.model a.model (sym w.there ∙ ap (model_at library) same ∙ a.at) in
      ap (output_in command) w.number ∙ ap (λ m. output_or (option_and_then cover_in (body_at m command))) model ∙ ap (λ o. output_or (option_and_then cover_in o)) a.is

  pub written_cover : (command : ℕ) (name text : List ℕ) → name ≡ output_at library row.model command → ((path : Path) → slice_get (paths_of instances) i ≡ Some path → text ≡ path_text path ++ name)
      → (path : Path) (c : CoverValue) → slice_get (paths_of instances) i ≡ Some path → CoverAt library path command c → IsWritten library (cover_net path command) text
  written_cover command name text n h path c e a = of_cover path command c refl a (h path e ∙ ap (λ l. path_text path ++ l) (n ∙ row_output path command c e a))

-- and one more after those of several covers
pub written_more : (library : LibraryValue) {places : List Place} {texts : List (List ℕ)} → AreWritten library places texts → (p : Place) (text : List ℕ) → IsWritten library (cover_net p.path p.command) text
    → AreWritten library (places ++ p ∷ []) (texts ++ text ∷ [])
written_more library none p text w = more p [] text [] w none
written_more library (more q places own texts v vs) p text w = more q (places ++ p ∷ []) own (texts ++ text ∷ []) v (written_more library vs p text w)
