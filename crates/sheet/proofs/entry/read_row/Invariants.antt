use Rattle.std.proofs.Common.{◌≡◌, ℕ, ◌^◌, ◌<◌, List, ◌++◌, length, Some}
use Rattle.std.specs.Iterator.Adapters.{rev_source}
use Rattle.std.specs.Slice.Iter.{iter_rest}
use Rattle.sheet.specs.Form.{bits}
use Rattle.sheet.proofs.entry.read_row.Given as goal

-- the word so far is that of the last digits
abbrev pub invariant-loop-b : goal.invariant-loop-b
invariant-loop-b l =
    (goal.iterator-loop-b).can_next l.b-iterator × (goal.iterator-loop-b).is_finite l.b-iterator
    × ((done : List ℕ) × (l.line ≡ iter_rest (rev_source l.b-iterator) ++ done) × (bits done ≡ Some l.word) × (l.word < 2 ^ length done))
