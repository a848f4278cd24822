-- Maps of line words: functions on the numbers below 2 ^ n.
use Rattle.std.specs.Prelude.{◌≡◌, ℕ, ◌^◌, ◌<◌, Some, None, Option, ◌≢◌, bit_xor}

-- The same image of every word on n lines.
abbrev pub Same : ℕ → (ℕ → ℕ) → (ℕ → ℕ) → Type 0
Same n f g = (x : ℕ) → x < 2 ^ n → f x ≡ g x

-- The images of words on n lines are words on n lines.
abbrev pub Keeps : ℕ → (ℕ → ℕ) → Type 0
Keeps n f = (x : ℕ) → x < 2 ^ n → f x < 2 ^ n

-- Every word is its own image.
abbrev pub Identity : ℕ → (ℕ → ℕ) → Type 0
Identity n f = Same n f (λ x. x)

-- The words below b have images that all differ.
abbrev pub Apart : ℕ → (ℕ → ℕ) → Type 0
Apart b f = (x y : ℕ) → x < y → y < b → f x ≢ f y

-- The clash: the smallest word b whose image a smaller word a shares, as the pair (a, b), or none where all images differ.
abbrev pub Clash : ℕ → (ℕ → ℕ) → Option (ℕ × ℕ) → Type 0
Clash n f None = Apart (2 ^ n) f
Clash n f (Some p) = (p.0 < p.1) × (p.1 < 2 ^ n) × (f p.0 ≡ f p.1) × Apart p.1 f

-- The image of a sum of words, taken bit by bit, is the sum of their images.
abbrev pub Linear : ℕ → (ℕ → ℕ) → Type 0
Linear n f = (x y : ℕ) → x < 2 ^ n → y < 2 ^ n → f (bit_xor x y) ≡ bit_xor (f x) (f y)
