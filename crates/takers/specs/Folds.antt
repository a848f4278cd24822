-- What a fold means.
use Rattle.pieces.specs.Meanings.{Meaning as PieceMeaning}
use Rattle.takers.specs.Meanings.{Meaning}
use Rattle.takers.specs.declared.fold.Fold.{Fold}

-- The lines and the map of its piece. It never runs out of places.
abbrev pub folding : {P : Type 0} → (P → PieceMeaning) → Fold P → Meaning
folding means f = record { lines = (means f.piece).lines; map = (means f.piece).map; free = 65535 }
