-- What a line of each form holds.
use Rattle.std.specs.Prelude.{ℕ, ◌+◌, ◌*◌, ◌^◌, Bool, cond, ◌&&◌, List, [], ◌∷◌, length, Some, None, Ok, Err, Option, Result, ◌==◌, bit_or, nat_le, nat_lt}
use Rattle.std.specs.Borrow.{Bor}
use Rattle.std.specs.Char.{is_ascii_uppercase}
use Rattle.gates.specs.Gates as gates
use Rattle.gates.specs.Cnots as cnots
use Rattle.gates.specs.Mcts as mcts
use Rattle.gates.specs.declared.cnot.Cnot.{Cnot}
use Rattle.gates.specs.declared.mct.Mct.{Mct}
use Rattle.gates.specs.declared.refusal.Refusal.{Refusal}
use Rattle.gates.specs.declared.refusal.Refusal.TheVariants.{WrongForm, WrongContents, WideRow, IllegalGate}
use Rattle.sheet.specs.declared.contents.Kind.{Kind}
use Rattle.sheet.specs.declared.contents.Kind.TheVariants.{Matrix, Table, Cnots, Mcts}
use Rattle.sheet.specs.declared.contents.Contents.{Contents}
use Rattle.sheet.specs.Text.{pieces, numeral}

-- n before ns, where both are read.
abbrev pub both : Option ℕ → Option (List ℕ) → Option (List ℕ)
both None ns = None
both (Some n) None = None
both (Some n) (Some ns) = Some (n ∷ ns)

abbrev pub numerals : List (List ℕ) → Option (List ℕ)
numerals [] = Some []
numerals (p ∷ ps) = both (numeral p) (numerals ps)

-- The numbers of a line, with one space between.
abbrev pub numbers : List ℕ → Option (List ℕ)
numbers line = numerals (pieces 32 line)

-- Those of the rest of a line, if it goes on.
abbrev pub rest_numbers : Option (Bor (List ℕ)) → Option (List ℕ)
rest_numbers None = Some []
rest_numbers (Some rest) = numbers rest.now

-- Just n numbers; just two, and just three.
abbrev pub just : ℕ → Option (List ℕ) → Option (List ℕ)
just n None = None
just n (Some ns) = cond (length ns == n) (Some ns) None

abbrev pub pair : Option (List ℕ) → Option (ℕ × ℕ)
pair None = None
pair (Some []) = None
pair (Some (x ∷ [])) = None
pair (Some (x ∷ y ∷ [])) = Some (x, y)
pair (Some (x ∷ y ∷ z ∷ zs)) = None

abbrev pub triple : Option (List ℕ) → Option (ℕ × ℕ × ℕ)
triple None = None
triple (Some []) = None
triple (Some (x ∷ [])) = None
triple (Some (x ∷ y ∷ [])) = None
triple (Some (x ∷ y ∷ z ∷ [])) = Some (x, y, z)
triple (Some (x ∷ y ∷ z ∷ u ∷ us)) = None

-- Line 1 holds the number of items, 1 to 16.
abbrev pub head_of : Option ℕ → Result ℕ Refusal
head_of None = Err WrongForm
head_of (Some k) = cond (nat_le 1 k && nat_le k 16) (Ok k) (Err WrongForm)

abbrev pub head : List ℕ → Result ℕ Refusal
head line = head_of (numeral line)

-- The capital of a kind: M, T, C or G.
abbrev pub letter : Kind → ℕ
letter Matrix = 77
letter Table = 84
letter Cnots = 67
letter Mcts = 71

abbrev pub kind_of : ℕ → Option Kind
kind_of b = cond (b == 77) (Some Matrix) (cond (b == 84) (Some Table) (cond (b == 67) (Some Cnots) (cond (b == 71) (Some Mcts) None)))

-- The largest n of a kind.
abbrev pub most : Kind → ℕ
most Matrix = 64
most Table = 8
most Cnots = 64
most Mcts = 8

-- Whether a body on n lines may have that many lines: a row for each line, an image for each word, any number of gates.
abbrev pub counts : Kind → ℕ → ℕ → Bool
counts Matrix n count = count == n
counts Table n count = count == 2 ^ n
counts Cnots n count = nat_le 0 count
counts Mcts n count = nat_le 0 count

abbrev pub fits : Kind → ℕ → ℕ → Bool
fits k n count = nat_le 1 n && nat_le n (most k) && counts k n count

-- An item whose body is to begin at the line `first`, and begins at the line `at`.
abbrev pub contents_with : ℕ → Option Kind → ℕ → ℕ → ℕ → Result Contents Refusal
contents_with first None n count at = Err WrongContents
contents_with first (Some k) n count at = cond (fits k n count && at == first) (Ok (record { kind = k; lines = n; count = count })) (Err WrongContents)

abbrev pub contents_of : ℕ → Option (ℕ × ℕ × ℕ × ℕ) → Result Contents Refusal
contents_of first None = Err WrongForm
contents_of first (Some x) = contents_with first (kind_of x.0) x.1 x.2 x.3

abbrev pub after_letter : ℕ → Option (ℕ × ℕ × ℕ) → Option (ℕ × ℕ × ℕ × ℕ)
after_letter b None = None
after_letter b (Some x) = Some (b, x.0, x.1, x.2)

-- A capital and three numbers.
abbrev pub fields : List ℕ → Option (ℕ × ℕ × ℕ × ℕ)
fields [] = None
fields (b ∷ []) = None
fields (b ∷ s ∷ rest) = cond (is_ascii_uppercase b && s == 32) (after_letter b (triple (numbers rest))) None

-- A contents line: kind, n, the number of body lines, the number of the first.
abbrev pub contents : ℕ → List ℕ → Result Contents Refusal
contents first line = contents_of first (fields line)

abbrev pub bit : ℕ → Option ℕ
bit b = cond (b == 48) (Some 0) (cond (b == 49) (Some 1) None)

-- A bit below the bits of a word, where both are read.
abbrev pub below_word : Option ℕ → Option ℕ → Option ℕ
below_word None w = None
below_word (Some b) None = None
below_word (Some b) (Some w) = Some (b + w * 2)

-- The word that digits 0 and 1 write, the lowest first.
abbrev pub bits : List ℕ → Option ℕ
bits [] = Some 0
bits (b ∷ bs) = below_word (bit b) (bits bs)

abbrev pub row_of : Option ℕ → Result ℕ Refusal
row_of None = Err WrongForm
row_of (Some w) = Ok w

-- A row of n digits, column 0 first.
abbrev pub row : ℕ → List ℕ → Result ℕ Refusal
row n line = cond (length line == n) (row_of (bits line)) (Err WrongForm)

-- The image of the word `at` on n lines.
abbrev pub image_of : (n at : ℕ) → Option ℕ → Result ℕ Refusal
image_of n at None = Err WrongForm
image_of n at (Some x) = cond (nat_lt x (2 ^ n)) (Ok x) (Err (WideRow at))

abbrev pub image : (n at : ℕ) → List ℕ → Result ℕ Refusal
image n at line = image_of n at (numeral line)

-- A gate that is legal on n lines.
abbrev pub legal : {G : Type 0} → gates.Kind G → ℕ → G → Result G Refusal
legal K n g = cond (K.legal n g) (Ok g) (Err IllegalGate)

-- A CNOT gate: its control and its target.
abbrev pub cnot_of : ℕ → Option (ℕ × ℕ) → Result Cnot Refusal
cnot_of n None = Err WrongForm
cnot_of n (Some x) = legal cnots.cnot n (record { control = x.0; target = x.1 })

abbrev pub cnot : ℕ → List ℕ → Result Cnot Refusal
cnot n line = cnot_of n (pair (numbers line))

-- An MCT gate with the controls of the set `set` and then more, rising from `least` on, and then the target.
abbrev pub mct_after : (n set least : ℕ) → List ℕ → Result Mct Refusal
mct_after n set least [] = Err WrongForm
mct_after n set least (t ∷ []) = legal mcts.mct n (record { controls = set; target = t })
mct_after n set least (c ∷ x ∷ xs) = cond (nat_le least c) (mct_after n (set + 2 ^ c) (c + 1) (x ∷ xs)) (Err WrongForm)

abbrev pub mct_of : (n set least : ℕ) → Option (List ℕ) → Result Mct Refusal
mct_of n set least None = Err WrongForm
mct_of n set least (Some ns) = mct_after n set least ns

abbrev pub mct : ℕ → List ℕ → Result Mct Refusal
mct n line = mct_of n 0 0 (numbers line)

-- A number as a byte, if it is one.
abbrev pub byte : ℕ → Option ℕ
byte x = cond (nat_lt x 256) (Some x) None

-- A set as a byte, with one line more. There is no such set of a line of 8 or more.
abbrev pub with_line : Option ℕ → ℕ → Option ℕ
with_line None c = None
with_line (Some w) c = cond (nat_lt c 8) (Some (bit_or w (2 ^ c))) None
