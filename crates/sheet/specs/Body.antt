-- What a body holds.
use Rattle.std.specs.Prelude.{◌≡◌, ℕ, zero, suc, ◌+◌, ◌^◌, ◌≤◌, Bool, false, cond, ◌&&◌, List, [], ◌∷◌, length, take, Ok, Err, Result, ◌==◌, nat_lt}
use Rattle.gates.specs.declared.refusal.Refusal.{Refusal}
use Rattle.gates.specs.declared.refusal.Refusal.TheVariants.{WrongForm, WrongContents}
use Rattle.sheet.specs.declared.fault.Fault.{Fault}
use Rattle.sheet.specs.declared.fault.Layer.TheVariants as layer
use Rattle.sheet.specs.declared.contents.Kind.{Kind}
use Rattle.sheet.specs.declared.contents.Kind.TheVariants.{Matrix, Table, Cnots, Mcts}
use Rattle.sheet.specs.declared.entry.Entry.{Entry}
use Rattle.sheet.specs.declared.entry.Entry.TheVariants as entry
use Rattle.sheet.specs.declared.body.Body.{Body}
use Rattle.sheet.specs.declared.body.BodyLine.{BodyLine}
use Rattle.sheet.specs.declared.body.BodyLine.TheVariants as line
use Rattle.sheet.specs.Text.{pieces}
use Rattle.sheet.specs.Fault.{fault, and_then, line_by}
use Rattle.sheet.specs.Form.{fits, row, image, cnot, mct}

abbrev pub kind_of_line : BodyLine → Kind
kind_of_line (line.Row i t) = Matrix
kind_of_line (line.Image i t) = Table
kind_of_line (line.CnotGate i t) = Cnots
kind_of_line (line.MctGate i t) = Mcts

abbrev pub number_of_line : BodyLine → ℕ
number_of_line (line.Row i t) = i
number_of_line (line.Image i t) = i
number_of_line (line.CnotGate i t) = i
number_of_line (line.MctGate i t) = i

abbrev pub text_of_line : BodyLine → List ℕ
text_of_line (line.Row i t) = t.now
text_of_line (line.Image i t) = t.now
text_of_line (line.CnotGate i t) = t.now
text_of_line (line.MctGate i t) = t.now

-- What a line holds, the one after the first `at` of a body of that kind on n lines.
abbrev pub body_line : Kind → (n at : ℕ) → List ℕ → Result Entry Refusal
body_line Matrix n at l = and_then (row n l) (λ w. Ok (entry.Word w))
body_line Table n at l = and_then (image n at l) (λ x. Ok (entry.Image x))
body_line Cnots n at l = and_then (cnot n l) (λ g. Ok (entry.Cnot g))
body_line Mcts n at l = and_then (mct n l) (λ g. Ok (entry.Mct g))

-- What the next `left` lines of a body hold, after its first `at` lines, and the pieces after them. The body begins at the line `first`.
abbrev pub body_lines : Kind → (n first at left : ℕ) → List (List ℕ) → Result (List Entry × List (List ℕ)) Fault
body_lines k n first at zero ps = Ok ([], ps)
body_lines k n first at (suc left) ps =
    and_then (line_by layer.Body (first + at) (body_line k n at) ps) (λ x. and_then (body_lines k n first (suc at) left x.1) (λ y. Ok (x.0 ∷ y.0, y.1)))

-- Nothing is left but the empty piece after the last line.
abbrev pub ended : List (List ℕ) → Bool
ended [] = false
ended (p ∷ []) = length p == 0
ended (p ∷ q ∷ ps) = false

-- What is read, where nothing follows it; i is the line after it.
abbrev pub alone : {A : Type 0} → ℕ → Result (A × List (List ℕ)) Fault → Result A Fault
alone i r = and_then r (λ x. cond (ended x.1) (Ok x.0) (Err (fault WrongForm i layer.Body)))

-- Whether a contents line can tell of such a body, and its lines have numbers below 2 ^ 64.
abbrev pub told : Kind → (n count first : ℕ) → Bool
told k n count first = fits k n count && nat_lt (first + count) (2 ^ 64)

-- The entries of a body that begins at the line `first`: its lines, and nothing after them. A body that no contents line can tell of is declined.
abbrev pub body_of : Kind → (n count first : ℕ) → List ℕ → Result (List Entry) Fault
body_of k n count first part =
    cond (told k n count first) (alone (first + count) (body_lines k n first 0 count (pieces 10 part))) (Err (fault WrongContents first layer.Body))

abbrev pub held_by : Body → Result (List Entry) Fault
held_by b = body_of b.contents.kind b.contents.lines b.contents.count b.first b.part.now

abbrev pub how_many : Result (List Entry) Fault → Result ℕ Fault
how_many r = and_then r (λ es. Ok (length es))

-- The places with entries laid into them from the start; those past the last place are left out.
abbrev pub laid : List Entry → List Entry → List Entry
laid [] es = []
laid (p ∷ ps) [] = p ∷ ps
laid (p ∷ ps) (e ∷ es) = e ∷ laid ps es

-- A fault changes no place.
abbrev pub laid_by : Result (List Entry) Fault → List Entry → List Entry
laid_by (Ok es) places = laid places es
laid_by (Err e) places = places

-- An answer without a fault lays what is held.
abbrev pub Fills : Result ℕ Fault → Result (List Entry) Fault → List Entry → List Entry → Type 0
Fills (Ok count) held old new = new ≡ laid_by held old
Fills (Err e) held old new = Unit {0}

-- With a place for each entry, the first places hold what the body holds.
abbrev pub Filled : Result ℕ Fault → Result (List Entry) Fault → List Entry → Type 0
Filled (Ok count) held places = count ≤ length places → held ≡ Ok (take count places)
Filled (Err e) held places = held ≡ Err e
