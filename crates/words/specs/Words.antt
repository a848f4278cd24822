-- Line words: on n lines the numbers below 2 ^ n, and their bits.
use Rattle.std.specs.Prelude.{ℕ, ◌/◌, ◌%◌, ◌^◌, Bool, cond, ◌==◌, bit_and, count_ones, nat_lt}

-- Bit i of a word, the value on line i: 0 or 1.
abbrev pub bit : ℕ → ℕ → ℕ
bit w i = w / 2 ^ i % 2

-- Whether bit i is 1.
abbrev pub has : ℕ → ℕ → Bool
has w i = bit w i == 1

-- The word in which line i alone is 1. No circuit has a line past 63: there it is 0.
abbrev pub unit : ℕ → ℕ
unit i = cond (nat_lt i 64) (2 ^ i) 0

-- 1 where two words share an odd number of ones, and 0 where they share an even number.
abbrev pub parity : ℕ → ℕ → ℕ
parity a x = count_ones (bit_and a x) % 2
