-- A map with the gates found at its two ends.
use Rattle.std.specs.Prelude.{◌≡◌, ℕ, List, [], ◌∷◌, reverse}
use Rattle.words.specs.Maps.{Same}
use Rattle.gates.specs.declared.end.End.{End}
use Rattle.gates.specs.Gates.{Kind}
use Rattle.gates.specs.Circuits.{through}
use Rattle.books.specs.declared.Book.{Book}
use Rattle.books.specs.Ends.{Ends, empty, put}
use Rattle.books.specs.Books.{ends}
use Rattle.pieces.specs.Meanings.{Meaning, moved}

pub record Job (G : Type 0) : Type 0 where
  pub map : ℕ → ℕ
  pub ends : Ends G

-- A job opened on this map.
abbrev pub opened : {G : Type 0} → (ℕ → ℕ) → Job G
opened f = record { map = f; ends = empty }

-- The job that a piece of this meaning and a book show.
abbrev pub shown : {G : Type 0} → Meaning → Book G → Job G
shown m b = record { map = m.map; ends = ends b }

-- Two jobs with the same gates and the same image of every word on n lines.
pub record Alike {G : Type 0} (n : ℕ) (j k : Job G) : Type 0 where
  pub map : Same n j.map k.map
  pub ends : j.ends ≡ k.ends

module _ {G : Type 0} (K : Kind G) (n : ℕ) where
  -- The image of a word sent through the input gates in the order found, the map, and the output gates with the last
  -- found first. No call of a job changes it.
  abbrev pub whole : Job G → ℕ → ℕ
  whole j x = through K n (reverse j.ends.outs) (j.map (through K n j.ends.ins x))

  -- A gate found at an end goes into the map, and last into the list of that end.
  abbrev pub found_at : End → G → Job G → Job G
  found_at e g j = record { map = moved K n e g j.map; ends = put e g j.ends }

  -- Gates found one after the other.
  abbrev pub all_found : List (End × G) → Job G → Job G
  all_found [] j = j
  all_found (p ∷ ps) j = all_found ps (found_at p.0 p.1 j)
