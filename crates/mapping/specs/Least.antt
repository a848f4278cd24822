-- The first number at which a cost is least.
use Rattle.std.specs.Prelude.{ℕ, zero, suc, ◌+◌, ◌-◌, ◌<◌, ◌≤◌, cond, nat_lt}

-- The better of b and of the k numbers from j on; b stays where the costs are equal.
abbrev pub better : (ℕ → ℕ) → (k j b : ℕ) → ℕ
better t zero j b = b
better t (suc k) j b = better t k (j + 1) (cond (nat_lt (t j) (t b)) j b)

-- The first of the numbers from i to below m at which t is least.
unfoldable pub least : (ℕ → ℕ) → (i m : ℕ) → ℕ
least t i m = better t (m - (i + 1)) (i + 1) i

-- The law of it: among the numbers from i to below m, t is least at j, and larger at each before j.
pub record Least (t : ℕ → ℕ) (i m j : ℕ) : Type 0 where
  pub from : i ≤ j
  pub below : j < m
  pub before : (k : ℕ) → i ≤ k → k < j → t j < t k
  pub after : (k : ℕ) → j ≤ k → k < m → t j ≤ t k
