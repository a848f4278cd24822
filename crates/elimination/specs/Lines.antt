-- The line that a turn of a run clears, chosen one line at a time.
use Rattle.std.specs.Prelude.{◌≡◌, ℕ, zero, suc, ◌+◌, ◌*◌, ◌<◌, cond, not, length, Some, None, Option, nat_lt}
use Rattle.clearing.specs.Clearing.{Work, start, clear, solved, better}
use Rattle.clearing.specs.Pairs.{cost, pairs}
use Rattle.clearing.specs.Pairs.{Pair as State}
use Rattle.elimination.specs.declared.pair.cleared.Cleared.{Cleared}

-- Line d cleared from s, as a trial.
abbrev pub trial_of : ℕ → State → ℕ → Work pairs
trial_of n s d = clear pairs n d (start pairs s)

-- The line chosen so far, if any, against one more.
abbrev pub choose_line : ℕ → State → Option ℕ → ℕ → Option ℕ
choose_line n s None b = Some b
choose_line n s (Some a) b = Some (cond (better pairs s (trial_of n s a) (trial_of n s b)) b a)

-- The choice among the unsolved lines of m lines from k.
unfoldable pub best_line : ℕ → State → Option ℕ → ℕ → ℕ → Option ℕ
best_line n s o k zero = o
best_line n s o k (suc m) = best_line n s (cond (not (solved pairs n s k)) (choose_line n s o k) o) (suc k) m

-- What is remembered of a line cleared on trial.
pub record Tried (n : ℕ) (s : State) (t : Cleared) : Type 0 where
  pub inside : t.line < n
  pub left : t.left ≡ cost (trial_of n s t.line).state
  pub count : t.count ≡ length (trial_of n s t.line).gates

-- Of two trials from the same cost, the one with the larger cost drop per gate, the first among equals.
abbrev pub steeper : ℕ → Cleared → Cleared → Cleared
steeper before old new = cond (nat_lt (before * new.count + new.left * old.count) (before * old.count + old.left * new.count)) new old

abbrev pub line_of : Option Cleared → Option ℕ
line_of None = None
line_of (Some t) = Some t.line

abbrev pub Remembered : ℕ → State → Option Cleared → Type 0
Remembered n s None = Unit {0}
Remembered n s (Some t) = Tried n s t
