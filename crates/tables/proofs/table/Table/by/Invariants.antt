use Rattle.std.proofs.Common.{ℕ, ◌<◌, get_or}
use Rattle.tables.proofs.table.Table.by.Given as goal

-- the words so far have their images
abbrev pub invariant-loop-word : goal.invariant-loop-word
invariant-loop-word g l = (x : ℕ) → x < l.word → goal.F-post g l.image x (get_or l.place-items x 0)
