-- What does not fit, by running sums.
use Rattle.std.specs.Prelude.{ℕ, ◌+◌, Bool, cond, ◌&&◌, ◌||◌, List, [], ◌∷◌, length, Some, None, decimal, Option, nat_lt}
use Rattle.sheet.specs.Render.{lines_text}
use Rattle.answers.specs.declared.head.Head.{Head}
use Rattle.answers.specs.Answers.{contents_line, heading}

-- Bytes that begin at a place end past the first `room` bytes. No bytes always fit.
abbrev pub ends_past : (room at size : ℕ) → Bool
ends_past room at size = nat_lt 0 size && nat_lt room (at + size)

-- The contents line, from line i on, of the first answer whose contents line or whose body ends past the room.
-- The next contents line begins at the byte `at`, and its body at the byte `start` and the line `first`.
abbrev pub unfit_from : (room i first at start : ℕ) → List Head → Option ℕ
unfit_from room i first at start [] = None
unfit_from room i first at start (h ∷ hs) =
    cond (ends_past room at (length (contents_line first h) + 1) || ends_past room start h.size) (Some i)
    (unfit_from room (i + 1) (first + h.count) (at + (length (contents_line first h) + 1)) (start + h.size) hs)

-- That of the first answer of a sheet. Without an answer it is line 1, of two bytes.
abbrev pub unfit_heads : ℕ → List Head → Option ℕ
unfit_heads room [] = cond (ends_past room 0 2) (Some 1) None
unfit_heads room (h ∷ hs) =
    unfit_from room 2 (length (h ∷ hs) + 2) (length (decimal (length (h ∷ hs))) + 1) (length (lines_text (heading (h ∷ hs)))) (h ∷ hs)
