use Rattle.std.proofs.Common.{◌≡◌, ◌-◌, take}
use Rattle.books.specs.Books.{ends, free, Kept}
use Rattle.elimination.specs.Finds.{at_ends, all_put}
use Rattle.elimination.proofs.pair.run.write_down.Given as goal

abbrev pub invariant-loop-placed : goal.invariant-loop-placed
invariant-loop-placed l =
    (ends l.book ≡ all_put (at_ends (take l.placed-index l.gates)) (ends l.initial.book))
    × (free l.book ≡ free l.initial.book - l.placed-index)
    × Kept l.initial.book l.book
