-- What a pen leaves in its buffer.
use Rattle.std.specs.Prelude.{◌≡◌, ℕ, ◌+◌, ◌-◌, ◌^◌, min, List, slice_set}
use Rattle.std.specs.List.{fold}
use Rattle.answers.specs.declared.pen.Pen.{Pen}

-- The bytes of a pen's buffer, and its place there.
abbrev pub page : Pen → List ℕ × ℕ
page p = (p.out.now, p.at)

-- One byte more. It is left out past the buffer's end, and the place is counted as far as 2^64 - 1.
abbrev pub byte_more : List ℕ × ℕ → ℕ → List ℕ × ℕ
byte_more s b = (slice_set s.0 s.1 b, min (s.1 + 1) (2 ^ 64 - 1))

unfoldable pub wrote : List ℕ × ℕ → List ℕ → List ℕ × ℕ
wrote s bs = fold byte_more s bs

-- A pen writes bytes: p before them, q after them, over the same buffer.
pub record Writes (p : Pen) (bs : List ℕ) (q : Pen) : Type 0 where
  pub lent : q.out.ghost_name ≡ p.out.ghost_name
  pub page : page q ≡ wrote (page p) bs
