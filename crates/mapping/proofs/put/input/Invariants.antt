use Rattle.std.proofs.Common.{◌≡◌, ◌-◌, ◌^◌}
use lib.Bits.{bit_and, bit_or}
use Rattle.mapping.proofs.ImageLaws.{Exchanged}
use Rattle.mapping.proofs.put.input.Given as goal

-- the pairs with their larger word below `word` have their images exchanged
abbrev pub invariant-loop-word : goal.invariant-loop-word
invariant-loop-word l =
    (l.table.lines ≡ l.initial.table.lines)
    × (bit_and l.word (bit_or l.gate.controls (2 ^ l.gate.target)) ≡ bit_or l.gate.controls (2 ^ l.gate.target))
    × Exchanged l.initial.table.lines l.gate l.initial.table.images l.table.images l.word

abbrev pub decreases-loop-word : goal.decreases-loop-word
decreases-loop-word l = l.count - l.word
