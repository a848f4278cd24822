-- At which place each gate of a book stands, and what is written.
use Rattle.std.specs.Prelude.{◌≡◌, ℕ, ◌+◌, ◌-◌, ◌<◌, List, slice_set}
use denote.Ref.{MutBor, at_last}
use Rattle.gates.specs.declared.end.End.{End}
use Rattle.gates.specs.declared.end.End.TheVariants.{Input, Output}
use Rattle.books.specs.Ends.{put}
use Rattle.books.specs.Books.{ends, places}
use Rattle.books.specs.declared.Book.{Book}

-- The counts of gates at the two ends, with one more or fewer at an end.
abbrev pub more : End → ℕ × ℕ → ℕ × ℕ
more Input n = (n.0 + 1, n.1)
more Output n = (n.0, n.1 + 1)

abbrev pub fewer : End → ℕ × ℕ → ℕ × ℕ
fewer Input n = (n.0 - 1, n.1)
fewer Output n = (n.0, n.1 - 1)

module _ {G : Type 0} where
  -- The number of gates that it counts at an end, and at both.
  abbrev pub tally : End → Book G → ℕ
  tally Input b = b.inputs
  tally Output b = b.outputs

  abbrev pub counts : Book G → ℕ × ℕ
  counts b = (b.inputs, b.outputs)

  -- A place is free.
  abbrev pub Room : Book G → Type 0
  Room b = b.inputs + b.outputs < places b

  -- The place at which the next gate of an end is written.
  abbrev pub place : End → Book G → ℕ
  place Input b = b.inputs
  place Output b = places b - b.outputs - 1

  -- The memory with a gate written at a place.
  abbrev pub written : ℕ → G → MutBor (List G) → MutBor (List G)
  written at g memory = at_last memory (slice_set memory.now at g)

  -- One gate more at an end: the gate is written at the next place of that end, and nowhere else.
  pub record Pushed (e : End) (g : G) (b b' : Book G) : Type 0 where
    pub ends : ends b' ≡ put e g (ends b)
    pub places : b'.places ≡ written (place e b) g b.places
