use Rattle.std.proofs.Common.{◌≡◌, ℕ, ◌<◌, length, get_or}
use Rattle.tables.proofs.table.make.padded.Given as goal

-- the images so far stand in their places
abbrev pub invariant-loop-word : goal.invariant-loop-word
invariant-loop-word l = record { full : length l.held ≡ 256; same : (x : ℕ) → x < l.word → get_or l.held x 0 ≡ get_or l.images x 0 }
