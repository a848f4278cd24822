use Rattle.std.proofs.Common.{◌≡◌, ℕ, ◌^◌, ◌<◌, length}
use Rattle.sheet.specs.Form.{mct, mct_of, numbers, byte}
use Rattle.sheet.proofs.entry.read_mct.Given as goal

-- the controls so far are the set w
abbrev pub invariant-loop-x : goal.invariant-loop-x
invariant-loop-x l = (w : ℕ) × (mct_of l.n w l.controls.least (numbers l.rest) ≡ mct l.n l.line) × (l.controls.set ≡ byte w) × (w < 2 ^ l.controls.least)

abbrev pub decreases-loop-x : goal.decreases-loop-x
decreases-loop-x l = length l.rest
