-- The gates that map a word y to a word x that is not above it.
use Rattle.std.specs.Prelude.{ℕ, zero, suc, ◌+◌, cond, List, [], ◌∷◌, ◌++◌, map, bit_xor, nat_le}
use Rattle.gates.specs.declared.mct.Mct.{Mct}
use Rattle.mapping.specs.Ones.{outside, drop_lowest, lines_of}

-- At most k clearings of the lowest one of c, as long as the result is not below x.
abbrev pub shrink_in : (k c x : ℕ) → ℕ
shrink_in zero c x = c
shrink_in (suc k) c x = cond (nat_le x (drop_lowest c)) (shrink_in k (drop_lowest c) x) c

-- y with its lowest one cleared as long as the result is not below x. y clearings are enough.
unfoldable pub shrink : ℕ → ℕ → ℕ
shrink y x = shrink_in y y x

-- A gate with controls c for each one of w, rising.
abbrev pub flips : ℕ → ℕ → List Mct
flips c w = map (λ j. record { controls = c; target = j }) (lines_of w)

-- With c the shrunk word: a gate with controls c for each bit of (x xor y) outside c, then one with controls x for each bit
-- of c outside x.
unfoldable pub mapping : ℕ → ℕ → List Mct
mapping y x = flips (shrink y x) (outside (bit_xor x y) (shrink y x)) ++ flips x (outside (shrink y x) x)

-- What a gate counts in the choice of a row. All gates count alike.
abbrev pub weight : Mct → ℕ
weight g = 1

-- What some gates count together.
abbrev pub weigh : List Mct → ℕ
weigh [] = 0
weigh (g ∷ gs) = weight g + weigh gs
