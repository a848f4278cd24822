-- The places that are enough while m lines are unsolved: clearing a line leaves enough for the rest.
use Rattle.std.proofs.Common.{◌≡◌, ℕ, zero, suc, ◌+◌, ◌-◌, ◌*◌, ◌<◌, ◌≤◌, refl, ap, ap₂, inl, inr, suc-mul, mul-add, arith}
use Rattle.std.proofs.lemmas.Bool.{cases_eq}
use Rattle.clearing.specs.Laws.{room}

-- the same, line by line
summed : ℕ → ℕ
summed zero = 0
summed (suc zero) = 0
summed (suc (suc k)) = summed (suc k) + (4 * k + 5)

summed_more : (m : ℕ) → summed m ≤ summed (suc m)
unfolding summed
summed_more zero = omega arith
summed_more (suc m) = omega arith

summed_mono : (k m : ℕ) → k ≤ m → summed k ≤ summed m
summed_mono k zero h = rw (the_zero k h) (omega arith)
  where
    the_zero : (k : ℕ) → k ≤ 0 → k ≡ 0
    the_zero k h = omega arith
summed_mono k (suc m) h =
    elim (cases_eq k (suc m)) [ inl e ↦ rw e (omega arith) | inr q ↦ omega (arith, summed_mono k m (omega arith), summed_more m) ]

summed_step : (u v c : ℕ) → v < u → c < u → 1 ≤ c → summed v + (4 * c + 1) ≤ summed u
unfolding summed
summed_step zero v c hv hc h = absurd (omega arith)
summed_step (suc zero) v c hv hc h = absurd (omega arith)
summed_step (suc (suc k)) v c hv hc h = omega (arith, summed_mono v (suc k) (omega arith))

summed_is : (n : ℕ) → summed n ≡ room n
unfolding summed
summed_is zero = refl
summed_is (suc zero) = refl
summed_is (suc (suc k)) = omega (arith, summed_is (suc k), e₁, e₂, e₃, e₄, e₅)
  where
    x : ℕ
    x = 2 * suc k + 1

    e₁ : (suc k - 1) * (2 * suc k + 1) ≡ k * x
    e₁ = ap (λ (y : ℕ). y * (2 * suc k + 1)) (pred_is k)
      where
        pred_is : (k : ℕ) → suc k - 1 ≡ k
        pred_is k = omega arith

    e₂ : (suc (suc k) - 1) * (2 * suc (suc k) + 1) ≡ suc k * (x + 2)
    e₂ = ap₂ (λ (y z : ℕ). y * z) (one_off k) (two_more k)
      where
        one_off : (k : ℕ) → suc (suc k) - 1 ≡ suc k
        one_off k = omega arith

        two_more : (k : ℕ) → 2 * suc (suc k) + 1 ≡ 2 * suc k + 1 + 2
        two_more k = omega arith

    e₃ : suc k * (x + 2) ≡ k * (x + 2) + (x + 2)
    e₃ = suc-mul k (x + 2)

    e₄ : k * (x + 2) ≡ k * x + k * 2
    e₄ = mul-add k x 2

    e₅ : x ≡ 2 * k + 3
    e₅ = three k
      where
        three : (k : ℕ) → 2 * suc k + 1 ≡ 2 * k + 3
        three k = omega arith

pub room_mono : (k m : ℕ) → k ≤ m → room k ≤ room m
room_mono k m h = omega (arith, summed_is k, summed_is m, summed_mono k m h)

-- where u lines are unsolved, clearing one takes at most 4 c + 1 gates for the c others, and leaves v
pub room_step : (u v c : ℕ) → v < u → c < u → 1 ≤ c → room v + (4 * c + 1) ≤ room u
room_step u v c hv hc h = omega (arith, summed_is u, summed_is v, summed_step u v c hv hc h)
