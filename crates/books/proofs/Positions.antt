-- The gate at a position of a circuit.
use Rattle.std.proofs.Common.{◌≡◌, ℕ, zero, suc, ◌-◌, ◌<◌, ◌≤◌, List, [], ◌∷◌, ◌++◌, length, refl, ap, ◌∙◌, arith}
use Rattle.std.specs.List.{slice_get}

module _ {G : Type 0} where
  -- a position in the first of two lists, and in the second
  pub get_first : (xs ys : List G) (k : ℕ) → k < length xs → slice_get (xs ++ ys) k ≡ slice_get xs k
  get_first [] ys k h = absurd (omega arith)
  get_first (x ∷ xs) ys zero h = refl
  get_first (x ∷ xs) ys (suc k) h = get_first xs ys k (omega arith)

  pub get_second : (xs ys : List G) (k : ℕ) → length xs ≤ k → slice_get (xs ++ ys) k ≡ slice_get ys (k - length xs)
  get_second [] ys k h = ap (slice_get ys) (omega arith)
  get_second (x ∷ xs) ys zero h = absurd (omega arith)
  get_second (x ∷ xs) ys (suc k) h = get_second xs ys k (omega arith) ∙ ap (slice_get ys) (omega arith)
