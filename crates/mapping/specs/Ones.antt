-- The ones of a word.
use Rattle.std.specs.Prelude.{ℕ, zero, suc, ◌+◌, ◌-◌, cond, List, [], ◌∷◌, bit_and}
use Rattle.words.specs.Words.{has}

-- The ones of x that c does not have.
abbrev pub outside : ℕ → ℕ → ℕ
outside x c = x - bit_and x c

-- x with its lowest one cleared.
abbrev pub drop_lowest : ℕ → ℕ
drop_lowest x = bit_and x (x - 1)

-- The lines, of k lines from i on, whose bit in x is 1, rising.
abbrev pub lines_from : (k i x : ℕ) → List ℕ
lines_from zero i x = []
lines_from (suc k) i x = cond (has x i) (i ∷ lines_from k (i + 1) x) (lines_from k (i + 1) x)

-- The lines whose bit in x is 1, rising, of the eight that an MCT gate may have.
abbrev pub lines_of : ℕ → List ℕ
lines_of x = lines_from 8 0 x
