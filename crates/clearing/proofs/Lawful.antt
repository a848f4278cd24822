-- What the theorem asks of a matrix: how a gate changes the entries, and a fact that gates keep, by which no column is zero.
use Rattle.std.proofs.Common.{◌≡◌, ℕ, ◌<◌, ◌≤◌, true, eqb, ◌≢◌}
use mathlib.Core.Bool.{xor}
use Rattle.gates.specs.declared.end.End.{End}
use Rattle.clearing.specs.Clearing.{Grid, adding, line}

-- row d and column d are those of identity
abbrev pub Solved : (G : Grid) → ℕ → G.State → ℕ → Type 0
Solved G n s d = (e : End) (k : ℕ) → k < n → line G e s d k ≡ eqb d k

pub record Lawful (G : Grid) (n : ℕ) : Type 1 where
  pub lines : n ≤ 64
  pub Good : G.State → Type 0
  pub stays : (e : End) (a b : ℕ) (s : G.State) → a < n → b < n → a ≢ b → Good s → Good (G.place (adding e a b) s)
  pub sums : (e : End) (a b : ℕ) (s : G.State) → a < n → b < n → a ≢ b → Good s
      → (k : ℕ) → k < n → line G e (G.place (adding e a b) s) b k ≡ xor (line G e s b k) (line G e s a k)
  pub others : (e : End) (a b : ℕ) (s : G.State) → a < n → b < n → a ≢ b → Good s
      → (r k : ℕ) → r < n → k < n → r ≢ b → line G e (G.place (adding e a b) s) r k ≡ line G e s r k
  pub column : (s : G.State) → Good s → (d : ℕ) → d < n → (i : ℕ) × (i < n) × (G.entry s i d ≡ true)
  pub settled : (s : G.State) → Good s → ((k : ℕ) → k < n → Solved G n s k) → G.cost s ≡ 0
  pub free : (s : G.State) → Good s → G.cost s ≡ 0 → (k : ℕ) → k < n → Solved G n s k
