-- Why a call declines: the numbers of the reasons, and which reason comes first.
use Rattle.std.specs.Prelude.{ℕ, ◌^◌, Bool, cond, Some, None, Ok, Err, Option, Result, nat_lt}
use Rattle.gates.specs.declared.refusal.Refusal.{Refusal}
use Rattle.gates.specs.declared.refusal.Refusal.TheVariants.{WrongForm, WrongContents, WrongSize, WideRow, WideWord, LinesDiffer, IllegalGate, SharedImage, NothingFound, NotIdentity, TooFewPlaces, AnswerTooLong}

abbrev pub number : Refusal → ℕ
number WrongForm = 1
number WrongContents = 2
number WrongSize = 3
number (WideRow row) = 4
number WideWord = 5
number LinesDiffer = 6
number IllegalGate = 7
number (SharedImage a b) = 8
number NothingFound = 9
number NotIdentity = 10
number (TooFewPlaces needed free) = 11
number AnswerTooLong = 12

-- The answer of a call that declines for this reason, or for none.
abbrev pub answer : Option Refusal → Result (Unit {0}) Refusal
answer None = Ok tt
answer (Some why) = Err why

-- This reason where the test holds, else the next.
abbrev pub first : Bool → Refusal → Option Refusal → Option Refusal
first stands why next = cond stands (Some why) next

-- An illegal gate, else the next reason.
abbrev pub unless_legal : Bool → Option Refusal → Option Refusal
unless_legal legal next = cond legal next (Some IllegalGate)

-- Two words that share an image, else the next reason.
abbrev pub unless_clash : Option (ℕ × ℕ) → Option Refusal → Option Refusal
unless_clash None next = next
unless_clash (Some p) next = Some (SharedImage p.0 p.1)

-- More places are needed than are free.
abbrev pub short : ℕ → ℕ → Option Refusal
short needed free = first (nat_lt free needed) (TooFewPlaces needed free) None

-- The image of a word on n lines; any other number is declined.
abbrev pub image : ℕ → (ℕ → ℕ) → ℕ → Result ℕ Refusal
image n f x = cond (nat_lt x (2 ^ n)) (Ok (f x)) (Err WideWord)
