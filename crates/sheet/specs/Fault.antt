-- Faults and their places, and readings that end at the first fault.
use Rattle.std.specs.Prelude.{◌≡◌, ℕ, ◌+◌, List, [], ◌∷◌, Ok, Err, codes, Result}
use Rattle.gates.specs.declared.refusal.Refusal.{Refusal}
use Rattle.gates.specs.declared.refusal.Refusal.TheVariants.{WrongForm}
use Rattle.sheet.specs.declared.fault.Fault.{Fault}
use Rattle.sheet.specs.declared.fault.Layer.{Layer}
use Rattle.sheet.specs.declared.fault.Layer.TheVariants as layer
use Rattle.sheet.specs.declared.rest.Rest.{Rest}
use Rattle.sheet.specs.Text.{pieces}

abbrev pub fault : Refusal → ℕ → Layer → Fault
fault why i where_found = record { why = why; line = i; layer = where_found }

abbrev pub layer_name : Layer → List ℕ
layer_name layer.Contents = codes "contents"
layer_name layer.Body = codes "body"
layer_name layer.Work = codes "work"

-- The next reading, unless there is a fault.
abbrev pub and_then : {A B E : Type 0} → Result A E → (A → Result B E) → Result B E
and_then (Ok a) f = f a
and_then (Err e) f = Err e

-- What a line holds, or its fault with its place.
abbrev pub placed : {A : Type 0} → Layer → ℕ → Result A Refusal → Result A Fault
placed layer i (Ok a) = Ok a
placed layer i (Err why) = Err (fault why i layer)

-- What a reader of line i tells, with what is left after the line in place of its pieces.
abbrev pub Reads : {A : Type 0} → ℕ → Result (A × Rest) Fault → Result (A × List (List ℕ)) Fault → Type 0
Reads i (Ok x) told = (told ≡ Ok (x.0, pieces 10 x.1.lines.now)) × (x.1.number ≡ i + 1)
Reads i (Err e) told = told ≡ Err e

-- Line i, which is the first of the pieces, as f reads it, and the pieces after it. The last piece is no ended line.
abbrev pub line_by : {A : Type 0} → Layer → ℕ → (List ℕ → Result A Refusal) → List (List ℕ) → Result (A × List (List ℕ)) Fault
line_by layer i f [] = Err (fault WrongForm i layer)
line_by layer i f (l ∷ []) = Err (fault WrongForm i layer)
line_by layer i f (l ∷ p ∷ ps) = and_then (placed layer i (f l)) (λ a. Ok (a, p ∷ ps))
