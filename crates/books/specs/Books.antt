-- What a book holds.
use Rattle.std.specs.Prelude.{◌≡◌, ℕ, ◌-◌, min, List, reverse, length, take, drop}
use Rattle.books.specs.Ends.{Ends, held}
use Rattle.books.specs.declared.Book.{Book}

module _ {G : Type 0} where
  -- The gates at the places: the first 16,384 of the memory.
  abbrev pub counted : List G → List G
  counted xs = take 16384 xs

  -- The first places hold the input gates, the last ones the output gates with the last found first.
  abbrev pub laid : List G → ℕ → ℕ → Ends G
  laid xs i o = record { ins = take i xs; outs = reverse (drop (length xs - o) xs) }

  abbrev pub ends : Book G → Ends G
  ends b = laid (counted b.places.now) b.inputs b.outputs

  abbrev pub places : Book G → ℕ
  places b = min 16384 (length b.places.now)

  abbrev pub free : Book G → ℕ
  free b = places b - held (ends b)

  -- What no call changes: the number of places, the memory past them, and which memory it is.
  pub record Kept (b b' : Book G) : Type 0 where
    pub room : places b' ≡ places b
    pub beyond : drop 16384 b'.places.now ≡ drop 16384 b.places.now
    pub memory : b'.places.ghost_name ≡ b.places.ghost_name
