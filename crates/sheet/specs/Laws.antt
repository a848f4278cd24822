-- The laws of sheets.
use Rattle.std.specs.Prelude.{◌≡◌, ℕ, ◌^◌, ◌<◌, ◌≤◌, true, List, length, Ok, Result}
use Rattle.std.specs.List.{AllByRecursion}
use Rattle.gates.specs.Cnots.{cnot}
use Rattle.gates.specs.Mcts.{mct}
use Rattle.sheet.specs.declared.contents.Kind.{Kind}
use Rattle.sheet.specs.declared.contents.Kind.TheVariants.{Matrix, Table, Cnots, Mcts}
use Rattle.sheet.specs.declared.entry.Entry.{Entry}
use Rattle.sheet.specs.declared.entry.Entry.TheVariants as entry
use Rattle.sheet.specs.declared.fault.Fault.{Fault}
use Rattle.sheet.specs.declared.sheet.Sheet.{Sheet}
use Rattle.sheet.specs.Form.{fits}
use Rattle.sheet.specs.Sheet.{Held}
use Rattle.sheet.specs.Render.{render}
use Rattle.sheet.specs.Parts.{parts, sheet_items, BodiesIn}

abbrev pub entry_kind : Entry → Kind
entry_kind (entry.Word w) = Matrix
entry_kind (entry.Image x) = Table
entry_kind (entry.Cnot g) = Cnots
entry_kind (entry.Mct g) = Mcts

-- What a body on n lines may hold: words on n lines, and gates that are legal there.
abbrev pub Legal : ℕ → Entry → Type 0
Legal n (entry.Word w) = w < 2 ^ n
Legal n (entry.Image x) = x < 2 ^ n
Legal n (entry.Cnot g) = cnot.legal n g ≡ true
Legal n (entry.Mct g) = mct.legal n g ≡ true

-- An item that a sheet can hold.
pub record Valid (h : Held) : Type 0 where
  pub fitting : fits h.0.kind h.0.lines h.0.count ≡ true
  pub count : length h.1 ≡ h.0.count
  pub entries : AllByRecursion (λ x. (entry_kind x ≡ h.0.kind) × Legal h.0.lines x) h.1

-- Items that make a sheet.
pub record ValidSheet (hs : List Held) : Type 0 where
  pub some_items : 1 ≤ length hs
  pub few : length hs ≤ 16
  pub items : AllByRecursion Valid hs
  pub short : length (render hs) ≤ 16384

-- What an accepted sheet s and the reader's answer t have to do with the items hs.
pub record Accepted (s : List ℕ) (t : Sheet) (hs : List Held) : Type 0 where
  pub valid : ValidSheet hs
  pub text : s ≡ render hs
  pub items : sheet_items t ≡ parts hs
  pub bodies : BodiesIn s hs (sheet_items t)

-- The sheets that are accepted are the renderings of valid items, and those items are told.
pub record Lawful (s : List ℕ) (r : Result Sheet Fault) : Type 0 where
  pub accepted : (t : Sheet) → r ≡ Ok t → (hs : List Held) × Accepted s t hs
  pub accepts : (hs : List Held) → ValidSheet hs → s ≡ render hs → (t : Sheet) × (r ≡ Ok t) × Accepted s t hs
