use Rattle.std.proofs.Common.{◌≡◌, length, take}
use Rattle.sheet.specs.Form.{numbers, rest_numbers}
use Rattle.sheet.proofs.Ahead.{ahead}
use Rattle.sheet.proofs.numbers.read_numbers.Given as goal

-- the numbers so far stand before those of the rest
abbrev pub invariant-loop-number : goal.invariant-loop-number
invariant-loop-number g l = (numbers l.line ≡ ahead (take l.number-index l.number-items) (rest_numbers l.rest)) × (length l.number-items ≡ g.row.N)
