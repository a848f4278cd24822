use Rattle.std.proofs.Common.{◌≡◌, ◌++◌, map, take, drop}
use Rattle.matrices.proofs.Turns.{turned}
use Rattle.elimination.proofs.half.entries.flip.Given as goal

abbrev pub invariant-loop-word : goal.invariant-loop-word
invariant-loop-word l = l.words ≡ map (turned l.from l.to) (take l.word-index l.initial.words) ++ drop l.word-index l.initial.words
