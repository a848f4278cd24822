-- The text of a sheet, from what it holds.
use Rattle.std.specs.Prelude.{ℕ, zero, suc, ◌+◌, ◌/◌, ◌%◌, cond, List, [], ◌∷◌, ◌++◌, map, length, decimal, ◌==◌}
use Rattle.std.specs.List.{flat_map, join_with_byte}
use Rattle.gates.specs.declared.cnot.Cnot.{Cnot}
use Rattle.gates.specs.declared.mct.Mct.{Mct}
use Rattle.sheet.specs.declared.contents.Contents.{Contents}
use Rattle.sheet.specs.declared.entry.Entry.{Entry}
use Rattle.sheet.specs.declared.entry.Entry.TheVariants as entry
use Rattle.sheet.specs.Form.{letter}
use Rattle.sheet.specs.Sheet.{Held}

-- Numbers with one space between.
abbrev pub numbers_text : List ℕ → List ℕ
numbers_text ns = join_with_byte 32 (map decimal ns)

-- n digits of a word, the lowest bit first.
abbrev pub row_text : ℕ → ℕ → List ℕ
row_text zero w = []
row_text (suc n) w = (48 + w % 2) ∷ row_text n (w / 2)

-- The lines of a set, rising: those of its lowest k bits, of which the lowest is line j.
abbrev pub members : ℕ → ℕ → ℕ → List ℕ
members zero j w = []
members (suc k) j w = cond (w % 2 == 0) (members k (suc j) (w / 2)) (j ∷ members k (suc j) (w / 2))

-- A gate: its controls, rising, and its target.
abbrev pub cnot_text : Cnot → List ℕ
cnot_text g = numbers_text (g.control ∷ g.target ∷ [])

abbrev pub mct_text : Mct → List ℕ
mct_text g = numbers_text (members 8 0 g.controls ++ g.target ∷ [])

-- A line of a body on n lines.
abbrev pub entry_text : ℕ → Entry → List ℕ
entry_text n (entry.Word w) = row_text n w
entry_text n (entry.Image x) = decimal x
entry_text n (entry.Cnot g) = cnot_text g
entry_text n (entry.Mct g) = mct_text g

-- A contents line of a body that begins at the line `first`.
abbrev pub contents_text : ℕ → Contents → List ℕ
contents_text first c = letter c.kind ∷ 32 ∷ numbers_text (c.lines ∷ c.count ∷ first ∷ [])

abbrev pub contents_texts : ℕ → List Contents → List (List ℕ)
contents_texts first [] = []
contents_texts first (c ∷ cs) = contents_text first c ∷ contents_texts (first + c.count) cs

abbrev pub body_texts : List Held → List (List ℕ)
body_texts [] = []
body_texts (h ∷ hs) = map (entry_text h.0.lines) h.1 ++ body_texts hs

-- The lines of a sheet that holds the items.
abbrev pub sheet_texts : List Held → List (List ℕ)
sheet_texts hs = decimal (length hs) ∷ (contents_texts (length hs + 2) (map (λ h. h.0) hs) ++ body_texts hs)

-- Each line is ended by byte 10.
abbrev pub lines_text : List (List ℕ) → List ℕ
lines_text ls = flat_map (λ l. l ++ 10 ∷ []) ls

abbrev pub render : List Held → List ℕ
render hs = lines_text (sheet_texts hs)

-- The body of an item.
abbrev pub body_text : Held → List ℕ
body_text h = lines_text (map (entry_text h.0.lines) h.1)

-- Line 1 and the contents lines.
abbrev pub heading_text : List Held → List ℕ
heading_text hs = lines_text (decimal (length hs) ∷ contents_texts (length hs + 2) (map (λ h. h.0) hs))
