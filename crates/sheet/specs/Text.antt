-- Lines, fields and numerals: the text that every line of a sheet is made of.
use Rattle.std.specs.Prelude.{◌≡◌, ℕ, ◌+◌, ◌-◌, ◌*◌, ◌≤◌, Bool, cond, not, ◌&&◌, ◌||◌, ◌⊎◌, List, [], ◌∷◌, ◌++◌, length, drop, Some, None, Option, ◌==◌, nat_le, nat_lt, slice_index}
use Rattle.std.specs.Char.{is_ascii_digit}

-- b in front of the first piece.
abbrev pub onto : ℕ → List (List ℕ) → List (List ℕ)
onto b [] = (b ∷ []) ∷ []
onto b (p ∷ ps) = (b ∷ p) ∷ ps

-- The pieces of a text between the bytes sep: one more than there are such bytes.
abbrev pub pieces : ℕ → List ℕ → List (List ℕ)
pieces sep [] = [] ∷ []
pieces sep (b ∷ bs) = cond (b == sep) ([] ∷ pieces sep bs) (onto b (pieces sep bs))

-- The number that decimal digits write, after those of n; none at any other byte.
abbrev pub digits_after : ℕ → List ℕ → Option ℕ
digits_after n [] = Some n
digits_after n (d ∷ ds) = cond (is_ascii_digit d) (digits_after (n * 10 + (d - 48)) ds) None

-- One to five bytes, of which the first is no 0 unless it stands alone.
abbrev pub sized : List ℕ → Bool
sized ds = nat_lt 0 (length ds) && nat_le (length ds) 5 && (not (slice_index ds 0 == 48) || length ds == 1)

-- The number that a numeral writes.
abbrev pub numeral : List ℕ → Option ℕ
numeral ds = cond (sized ds) (digits_after 0 ds) None

-- The first lines of a text end at the byte r, and are the lines ls.
pub record LinesBefore (s : List ℕ) (r : ℕ) (ls : List (List ℕ)) : Type 0 where
  pub within : r ≤ length s
  pub split : pieces 10 s ≡ ls ++ pieces 10 (drop r s)

-- The first `count` lines of a text end at the byte r; a text with fewer ended lines ends there.
abbrev pub LinesEnd : List ℕ → ℕ → ℕ → Type 0
LinesEnd s count r = ((ls : List (List ℕ)) × LinesBefore s r ls × (length ls ≡ count)) ⊎ ((r ≡ length s) × (length (pieces 10 s) ≤ count))
