use Rattle.std.proofs.Common.{◌≡◌, ℕ, List, ◌++◌, length}
use Rattle.sheet.specs.Text.{pieces}
use Rattle.sheet.proofs.text.lines_end.Given as goal

-- the lines so far stand before the rest
abbrev pub invariant-loop-line : goal.invariant-loop-line
invariant-loop-line l = (ls : List (List ℕ)) × (length ls ≡ l._line) × (pieces 10 l.text ≡ ls ++ pieces 10 l.rest)
