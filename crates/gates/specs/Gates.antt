-- What a gate kind means, and the law that it keeps.
use Rattle.std.specs.Prelude.{◌≡◌, ℕ, ◌^◌, ◌<◌, ◌≤◌, Bool, true, false}

-- The largest number of lines, which gates are legal on n lines, and what a gate makes of a word on n lines.
pub record Kind (G : Type 0) : Type 0 where
  pub most : ℕ
  pub legal : ℕ → G → Bool
  pub act : ℕ → G → ℕ → ℕ

pub record Lawful {G : Type 0} (K : Kind G) : Type 0 where
  pub some : 1 ≤ K.most
  pub few : K.most ≤ 64
  pub lines : (n : ℕ) (g : G) → K.legal n g ≡ true → (1 ≤ n) × (n ≤ K.most)
  -- a gate keeps the words on n lines, and acting twice gives the word back
  pub keeps : (n : ℕ) (g : G) (w : ℕ) → w < 2 ^ n → K.act n g w < 2 ^ n
  pub twice : (n : ℕ) (g : G) (w : ℕ) → K.act n g (K.act n g w) ≡ w
  -- an illegal gate leaves every word, and every gate leaves a number that is no word on n lines
  pub idle : (n : ℕ) (g : G) (w : ℕ) → K.legal n g ≡ false → K.act n g w ≡ w
  pub wide : (n : ℕ) (g : G) (w : ℕ) → 2 ^ n ≤ w → K.act n g w ≡ w
