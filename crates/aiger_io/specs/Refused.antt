-- The first refusal of a text: what precedes the line is well formed, and the line is not. That a name is another one's too is told after all lines.
use Rattle.std.specs.Prelude.{◌≡◌, ℕ, ◌+◌, ◌<◌, true, false, List, [], ◌∷◌, ◌++◌, length, Some, slice_get, codes}
use Rattle.std.specs.Str.Lines.{lines}
use Rattle.list_laws.specs.Members.{In}
use Rattle.aiger_io.specs.declared.aag_err.AagErr.{AagErr}
use Rattle.aiger_io.specs.declared.aag_err.AagErr.TheVariants as aag_err
use Rattle.aiger_io.specs.declared.header.Header.{Header}
use Rattle.aiger_io.specs.declared.item.Item.{Item}
use Rattle.aiger_io.specs.declared.item.LineKind.{LineKind}
use Rattle.aiger_io.specs.declared.item.LineKind.TheVariants as kind
use Rattle.aiger_io.specs.AigerText.{IsOfFormatWith, IsHeaderRow, IsLaterRow, kind_of_item, IsItemRow, AreItemRows, item_count, kind_at, is_in_range, Symbol, IsSymbolRow, AreSymbolRows, MayStand, AllStand}
use Rattle.aiger_io.specs.Circuit.{Circuit}

-- the first line is a header, these items come after it, each of its place's kind and in range, and then these lines
pub record Begins (text : List ℕ) (h : Header) (items : List Item) (rest : List (List ℕ)) : Type 0 where
  pub header_row : List ℕ
  pub item_rows : List (List ℕ)
  pub rows_are : lines text ≡ header_row ∷ (item_rows ++ rest)
  pub header : IsHeaderRow header_row h
  pub items_are : AreItemRows item_rows items
  pub kinds : (place : ℕ) (item : Item) → slice_get items place ≡ Some item → kind_of_item item ≡ kind_at h place
  pub range : (item : Item) → In items item → is_in_range h.variables item ≡ true

-- so do all items, and symbols after them
pub record BeginsWithSymbols (text : List ℕ) (h : Header) (symbols : List Symbol) (rest : List (List ℕ)) : Type 0 where
  pub items : List Item
  pub symbol_rows : List (List ℕ)
  pub begins : Begins text h items (symbol_rows ++ rest)
  pub whole : length items ≡ item_count h
  pub are_symbols : AreSymbolRows symbol_rows symbols
  pub stand : AllStand h [] symbols

-- a line is an item that may stand at this place, but for its range
pub record IsItemHere (h : Header) (place : ℕ) (row : List ℕ) (item : Item) : Type 0 where
  pub is : IsItemRow row item
  pub of_kind : kind_of_item item ≡ kind_at h place

-- a name stands at two places
pub record StandsTwice (names : List (List ℕ)) (name : List ℕ) : Type 0 where
  pub first : ℕ
  pub second : ℕ
  pub order : first < second
  pub here : slice_get names first ≡ Some name
  pub there : slice_get names second ≡ Some name

-- inputs and outputs are ports
abbrev pub IsPort : LineKind → Type 0
IsPort kind.Input = Unit {0}
IsPort kind.Latch = ⊥
IsPort kind.Output = Unit {0}
IsPort kind.And = ⊥

-- a symbol names a port, and gives it the name of another one
pub record IsAlike (c : Circuit) (s : Symbol) : Type 0 where
  pub port : IsPort s.kind
  pub twice : StandsTwice (c.inputs ++ c.outputs) s.name

-- The numbers of lines are counted from 1, and the header's is 1.
pub data IsRefused (text : List ℕ) (e : AagErr) : Type 0 where
  later : (row : List ℕ) (rest : List (List ℕ)) → lines text ≡ row ∷ rest → IsLaterRow row → e ≡ aag_err.Unsupported → IsRefused text e
  bad_header : ((row : List ℕ) (rest : List (List ℕ)) → lines text ≡ row ∷ rest → IsLaterRow row → ⊥) → ((h : Header) (row : List ℕ) (rest : List (List ℕ)) → lines text ≡ row ∷ rest → IsHeaderRow row h → ⊥) → e ≡ aag_err.Header → IsRefused text e
  missing : (h : Header) (items : List Item) → Begins text h items [] → length items < item_count h → e ≡ aag_err.Malformed (length items + 2) → IsRefused text e
  malformed : (h : Header) (items : List Item) (row : List ℕ) (rest : List (List ℕ)) → Begins text h items (row ∷ rest) → length items < item_count h
      → ((item : Item) → IsItemHere h (length items) row item → ⊥) → e ≡ aag_err.Malformed (length items + 2) → IsRefused text e
  out_of_range : (h : Header) (items : List Item) (row : List ℕ) (rest : List (List ℕ)) (item : Item) → Begins text h items (row ∷ rest) → length items < item_count h
      → IsItemHere h (length items) row item → is_in_range h.variables item ≡ false → e ≡ aag_err.Range (length items + 2) → IsRefused text e
  malformed_symbol : (h : Header) (symbols : List Symbol) (row : List ℕ) (rest : List (List ℕ)) → BeginsWithSymbols text h symbols (row ∷ rest) → (row ≡ codes "c" → ⊥)
      → ((s : Symbol) → IsSymbolRow row s → ⊥) → e ≡ aag_err.Malformed (item_count h + 2 + length symbols) → IsRefused text e
  bad_symbol : (h : Header) (symbols : List Symbol) (row : List ℕ) (rest : List (List ℕ)) (s : Symbol) → BeginsWithSymbols text h symbols (row ∷ rest)
      → IsSymbolRow row s → (MayStand h symbols s → ⊥) → e ≡ aag_err.BadSymbol (item_count h + 2 + length symbols) s.name → IsRefused text e
  alike : (c : Circuit) (before after : List Symbol) (s : Symbol) → IsOfFormatWith text c (before ++ s ∷ after) → ((t : Symbol) → In before t → IsAlike c t → ⊥)
      → IsAlike c s → e ≡ aag_err.BadSymbol (item_count c.header + 2 + length before) s.name → IsRefused text e

-- a text is refused for the name of a symbol
pub record IsNameRefused (text : List ℕ) : Type 0 where
  pub line : ℕ
  pub name : List ℕ
  pub refused : IsRefused text (aag_err.BadSymbol line name)
