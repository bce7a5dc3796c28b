-- The laws of templates: there is one, it maps the graph with the least depth, and its work is within the limit or past it.
use Rattle.std.specs.Prelude.{◌≡◌, ◌⊎◌, ℕ, List, Err, Result}
use Rattle.cover_pick.specs.Words.{Aig, AreRows, Memory, PickErr, RootsValue, Work, node_count, roots_of}
use Rattle.cover_pick.specs.Mapping.{IsLeast, IsMapping}
use Rattle.cover_pick.specs.Rounds.{Rows, Supply}
use Rattle.cover_pick.specs.Template.{IsTemplate, IsTooMuch, TemplateValue}
use Rattle.cover_pick.specs.Work.{IsLight}

-- this holds of each template
abbrev pub EachTemplate : Supply → Aig → (ℕ → ℕ) → RootsValue → (TemplateValue → Type 0) → Type 0
EachTemplate supply g label roots P = (t : TemplateValue) → IsTemplate supply g label roots t → P t

-- a template maps the graph to LUTs of at most k leaves, and is of the least depth
abbrev pub Maps : Aig → ℕ → RootsValue → TemplateValue → Type 0
Maps g k roots t = IsMapping g k (roots_of roots) t.luts t.bits

abbrev pub HasLeast : Aig → ℕ → RootsValue → TemplateValue → Type 0
HasLeast g k roots t = IsLeast g k (roots_of roots) t.luts t.depth

-- so does each template from rows that are all minimal cuts of at most k leaves
abbrev pub EachMaps : List (List (List ℕ)) → Aig → (ℕ → ℕ) → RootsValue → Type 0
EachMaps rows g label roots = EachTemplate (Rows rows) g label roots (λ t. (k : ℕ) → AreRows g k (node_count g) rows → Maps g k roots t)

abbrev pub EachHasLeast : List (List (List ℕ)) → Aig → (ℕ → ℕ) → RootsValue → Type 0
EachHasLeast rows g label roots = EachTemplate (Rows rows) g label roots (λ t. (k : ℕ) → AreRows g k (node_count g) rows → HasLeast g k roots t)

-- there is at most one template
abbrev pub HasOneTemplate : Supply → Aig → (ℕ → ℕ) → RootsValue → Type 0
HasOneTemplate supply g label roots = (t u : TemplateValue) → IsTemplate supply g label roots t → IsTemplate supply g label roots u → t ≡ u

-- no template's work is both within the limit and past it
abbrev pub IsNotBothLightAndNot : Supply → Aig → (ℕ → ℕ) → RootsValue → Type 0
IsNotBothLightAndNot supply g label roots = (t : TemplateValue) → IsTemplate supply g label roots t → IsLight supply g t.luts → IsTooMuch supply g label (roots_of roots) → ⊥

-- too much work is refused, unless memory runs out
abbrev pub IsRefused : Result TemplateValue PickErr → Type 0
IsRefused r = (r ≡ Err Work) ⊎ (r ≡ Err Memory)
