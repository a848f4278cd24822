-- Where the bodies of a sheet stand in it.
use Rattle.std.specs.Prelude.{◌≡◌, ℕ, ◌+◌, ◌-◌, ◌≤◌, Bool, true, ◌&&◌, List, [], ◌∷◌, length, take, drop, Ok, Result, nat_le}
use Rattle.sheet.specs.declared.body.Body.{Body}
use Rattle.sheet.specs.declared.contents.Contents.{Contents}
use Rattle.sheet.specs.declared.entry.Entry.{Entry}
use Rattle.sheet.specs.declared.fault.Fault.{Fault}
use Rattle.sheet.specs.declared.item.Item.{Item}
use Rattle.sheet.specs.declared.sheet.Sheet.{Sheet}
use Rattle.sheet.specs.Text.{pieces}
use Rattle.sheet.specs.Fault.{and_then}
use Rattle.sheet.specs.Body.{body_lines, body_of}
use Rattle.sheet.specs.Sheet.{Held, sheet_of}
use Rattle.sheet.specs.Render.{body_text, heading_text}

-- Items of which the first body begins at the line `first` and the byte `at`, each other where the one before it ends.
abbrev pub parts_from : ℕ → ℕ → List Held → List Item
parts_from first at [] = []
parts_from first at (h ∷ hs) =
    record { contents = h.0; first = first; start = at; end = at + length (body_text h) } ∷ parts_from (first + h.0.count) (at + length (body_text h)) hs

abbrev pub parts : List Held → List Item
parts hs = parts_from (length hs + 2) (length (heading_text hs)) hs

-- The items of a sheet, or its fault.
abbrev pub sheet_parts : List ℕ → Result (List Item) Fault
sheet_parts s = and_then (sheet_of s) (λ hs. Ok (parts hs))

abbrev pub sheet_items : Sheet → List Item
sheet_items t = take t.count t.items

abbrev pub items_of : Result Sheet Fault → Result (List Item) Fault
items_of r = and_then r (λ t. Ok (sheet_items t))

-- Whether the part of an item lies in the sheet.
abbrev pub lies_in : List ℕ → Item → Bool
lies_in s p = nat_le p.start p.end && nat_le p.end (length s)

-- The bytes of s from `start` to `end`.
abbrev pub part : List ℕ → Item → List ℕ
part s p = take (p.end - p.start) (drop p.start s)

-- A body as its item tells of it, and as it stands in the sheet.
pub record CutFrom (s : List ℕ) (p : Item) (b : Body) : Type 0 where
  pub lies : lies_in s p ≡ true
  pub contents : b.contents ≡ p.contents
  pub first : b.first ≡ p.first
  pub bytes : b.part.now ≡ part s p

-- What the body of an item holds.
abbrev pub item_holds : List ℕ → Item → Result (List Entry) Fault
item_holds s p = body_of p.contents.kind p.contents.lines p.contents.count p.first (part s p)

-- The body of the item h is the part of s that p tells of, and its entries are read from it.
pub record BodyIn (s : List ℕ) (h : Held) (p : Item) : Type 0 where
  pub contents : p.contents ≡ h.0
  pub lies : lies_in s p ≡ true
  pub bytes : part s p ≡ body_text h
  pub holds : item_holds s p ≡ Ok h.1

abbrev pub BodiesIn : List ℕ → List Held → List Item → Type 0
BodiesIn s [] [] = Unit {0}
BodiesIn s [] (p ∷ ps) = ⊥
BodiesIn s (h ∷ hs) [] = ⊥
BodiesIn s (h ∷ hs) (p ∷ ps) = BodyIn s h p × BodiesIn s hs ps

-- The pieces after the body that begins the text.
abbrev pub body_rest : Contents → ℕ → List ℕ → Result (List (List ℕ)) Fault
body_rest c first text = and_then (body_lines c.kind c.lines first 0 c.count (pieces 10 text)) (λ x. Ok x.1)

-- The item whose body begins at the byte `start`, and ends where the rest begins.
pub record NextItem (s : List ℕ) (c : Contents) (first start : ℕ) (p : Item) : Type 0 where
  pub item : p ≡ record { contents = c; first = first; start = start; end = p.end }
  pub ordered : start ≤ p.end
  pub within : p.end ≤ length s
  pub rest : body_rest c first (drop start s) ≡ Ok (pieces 10 (drop p.end s))
