-- The rows that a piece is made of: row words of a matrix, or images of a table.
use Rattle.std.specs.Prelude.{ℕ, ◌+◌, ◌^◌, cond, not, ◌&&◌, List, [], ◌∷◌, length, Some, None, Option, ◌==◌, nat_le, nat_lt}
use Rattle.gates.specs.declared.refusal.Refusal.{Refusal}
use Rattle.gates.specs.declared.refusal.Refusal.TheVariants.{WrongSize, WideRow}
use Rattle.gates.specs.Refusals.{first}

-- The first of the rows, counted from `at`, that is no word on n lines.
abbrev pub first_wide : ℕ → ℕ → List ℕ → Option ℕ
first_wide n at [] = None
first_wide n at (row ∷ rows) = cond (nat_lt row (2 ^ n)) (first_wide n (at + 1) rows) (Some at)

abbrev pub unless_wide : Option ℕ → Option Refusal
unless_wide None = None
unless_wide (Some row) = Some (WideRow row)

-- Why a piece of at most `most` lines is not made of these rows, of which it should have `count`.
abbrev pub unfit : (most n count : ℕ) → List ℕ → Option Refusal
unfit most n count rows = first (not (nat_le 1 n && (nat_le n most && length rows == count))) WrongSize (unless_wide (first_wide n 0 rows))
