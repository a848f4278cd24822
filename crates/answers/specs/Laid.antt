-- Bytes laid into a buffer.
use Rattle.std.specs.Prelude.{◌≡◌, ℕ, ◌+◌, List, [], ◌∷◌, length, slice_set}

-- The buffer with bytes laid into it from `at` on, one by one. Those past its end are left out.
abbrev pub laid : List ℕ → ℕ → List ℕ → List ℕ
laid out at [] = out
laid out at (b ∷ bs) = laid (slice_set out at b) (at + 1) bs

-- The bytes bs are laid into `old` from `at` on, which gives `new`, and `end` is the place after them.
pub record Puts (old : List ℕ) (at : ℕ) (bs : List ℕ) (end : ℕ) (new : List ℕ) : Type 0 where
  pub place : end ≡ at + length bs
  pub bytes : new ≡ laid old at bs
