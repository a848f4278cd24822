use Rattle.std.proofs.Common.{◌≡◌, ◌^◌, ◌<◌, ◌≤◌, length, drop}
use Rattle.sheet.specs.Text.{digits_after}
use Rattle.sheet.proofs.text.read_numeral.Given as goal

abbrev pub invariant-loop-d : goal.invariant-loop-d
invariant-loop-d l = (digits_after l.n (drop l.d-index l.ds) ≡ digits_after 0 l.ds) × (l.n < 10 ^ l.d-index) × (length l.ds ≤ 5)
