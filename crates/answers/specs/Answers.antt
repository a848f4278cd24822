-- The answer sheet: what it is, and what is left where it does not fit.
use Rattle.std.specs.Prelude.{◌≡◌, ℕ, ◌+◌, min, Bool, cond, ◌&&◌, ◌||◌, List, [], ◌∷◌, ◌++◌, map, length, drop, replicate, Some, None, Ok, Err, codes, decimal, Option, Result, nat_lt}
use Rattle.gates.specs.Refusals.{number}
use Rattle.gates.specs.declared.cnot.Cnot.{Cnot}
use Rattle.gates.specs.declared.mct.Mct.{Mct}
use Rattle.gates.specs.declared.refusal.Refusal.TheVariants.{AnswerTooLong}
use Rattle.sheet.specs.declared.contents.Kind.TheVariants.{Matrix, Table, Cnots, Mcts}
use Rattle.sheet.specs.declared.fault.Fault.{Fault}
use Rattle.sheet.specs.declared.fault.Layer.TheVariants.{Work}
use Rattle.sheet.specs.Fault.{fault, layer_name}
use Rattle.sheet.specs.Form.{letter}
use Rattle.sheet.specs.Render.{numbers_text, row_text, cnot_text, mct_text, lines_text}
use Rattle.answers.specs.declared.head.AnswerKind.{AnswerKind}
use Rattle.answers.specs.declared.head.AnswerKind.TheVariants.{Item, Clash}
use Rattle.answers.specs.declared.head.Head.{Head}

-- An answer on n lines: the rows of a matrix, the images of a table, CNOT gates, MCT gates,
-- or a clash, which is two words that share an image.
pub data Answer : Type 0 where
  rows : ℕ → List ℕ → Answer
  images : ℕ → List ℕ → Answer
  cnots : ℕ → List Cnot → Answer
  mcts : ℕ → List Mct → Answer
  clash : ℕ → ℕ → ℕ → Answer

abbrev pub kind : Answer → AnswerKind
kind (rows n ws) = Item Matrix
kind (images n xs) = Item Table
kind (cnots n gs) = Item Cnots
kind (mcts n gs) = Item Mcts
kind (clash n a b) = Clash

-- M, T, C, G or W.
abbrev pub capital : AnswerKind → ℕ
capital (Item k) = letter k
capital Clash = 87

abbrev pub line_count : Answer → ℕ
line_count (rows n ws) = n
line_count (images n xs) = n
line_count (cnots n gs) = n
line_count (mcts n gs) = n
line_count (clash n a b) = n

-- The lines of the body.
abbrev pub body : Answer → List (List ℕ)
body (rows n ws) = map (row_text n) ws
body (images n xs) = map decimal xs
body (cnots n gs) = map cnot_text gs
body (mcts n gs) = map mct_text gs
body (clash n a b) = decimal a ∷ decimal b ∷ []

-- What the contents line tells, and the number of bytes of the body.
abbrev pub head : Answer → Head
head a = record { kind = kind a; lines = line_count a; count = length (body a); size = length (lines_text (body a)) }

-- The contents line of an answer whose body begins at the line `first`.
abbrev pub contents_line : ℕ → Head → List ℕ
contents_line first h = capital h.kind ∷ 32 ∷ numbers_text (h.lines ∷ h.count ∷ first ∷ [])

-- The first body begins at the line `first`, each other where the one before it ends.
abbrev pub contents_lines : ℕ → List Head → List (List ℕ)
contents_lines first [] = []
contents_lines first (h ∷ hs) = contents_line first h ∷ contents_lines (first + h.count) hs

-- Line 1 of a sheet of k answers, and the contents lines of the first of them. The bodies begin after the k contents lines.
abbrev pub head_lines : ℕ → List Head → List (List ℕ)
head_lines k hs = decimal k ∷ contents_lines (k + 2) hs

-- Line 1 and all contents lines.
abbrev pub heading : List Head → List (List ℕ)
heading hs = head_lines (length hs) hs

-- The bodies, in order.
abbrev pub bodies : List Answer → List (List ℕ)
bodies [] = []
bodies (a ∷ xs) = body a ++ bodies xs

-- The answer sheet. Each line is ended by byte 10.
abbrev pub render : List Answer → List ℕ
render xs = lines_text (heading (map head xs) ++ bodies xs)

-- How many bytes of a buffer an answer sheet may use.
abbrev pub usable : List ℕ → ℕ
usable out = min (length out) 65536

-- Where the contents line of the last of the answers ys ends, in a sheet of the answers xs that begins with ys.
abbrev pub line_end : List Answer → List Answer → ℕ
line_end xs ys = length (lines_text (head_lines (length xs) (map head ys)))

-- Where its body ends.
abbrev pub body_end : List Answer → List Answer → ℕ
body_end xs ys = length (lines_text (heading (map head xs) ++ bodies ys))

-- Whether the contents line or the body of the answer a, which comes after the answers ys, ends past the room. An empty body always fits.
abbrev pub misfits : ℕ → List Answer → List Answer → Answer → Bool
misfits room xs ys a = nat_lt room (line_end xs (ys ++ a ∷ [])) || (nat_lt 0 (head a).size && nat_lt room (body_end xs (ys ++ a ∷ [])))

-- The contents line of the first that misfits of the answers zs, which come after the answers ys.
abbrev pub unfit_after : ℕ → List Answer → List Answer → List Answer → Option ℕ
unfit_after room xs ys [] = None
unfit_after room xs ys (a ∷ zs) = cond (misfits room xs ys a) (Some (length ys + 2)) (unfit_after room xs (ys ++ a ∷ []) zs)

-- The contents line of the first answer that does not fit the room. A sheet without an answer is line 1 alone.
abbrev pub unfit : (room : ℕ) → List Answer → Option ℕ
unfit room [] = cond (nat_lt room (length (render []))) (Some 1) None
unfit room (a ∷ xs) = unfit_after room (a ∷ xs) [] (a ∷ xs)

-- What is told of the answer sheet xs, and left in a buffer: its length and its bytes, or the fault and zeros.
abbrev pub WrittenAt : Option ℕ → List Answer → List ℕ → Result ℕ Fault → List ℕ → Type 0
WrittenAt None xs old r new = (r ≡ Ok (length (render xs))) × (new ≡ render xs ++ drop (length (render xs)) old)
WrittenAt (Some i) xs old r new = (r ≡ Err (fault AnswerTooLong i Work)) × (new ≡ replicate (usable old) 0 ++ drop (usable old) old)

abbrev pub Written : List Answer → List ℕ → Result ℕ Fault → List ℕ → Type 0
Written xs old r new = WrittenAt (unfit (usable old) xs) xs old r new

-- The line of a fault: F, its number, its line and its layer.
abbrev pub fault_text : Fault → List ℕ
fault_text f = codes "F " ++ (decimal (number f.why) ++ (32 ∷ (decimal f.line ++ (32 ∷ (layer_name f.layer ++ 10 ∷ [])))))
