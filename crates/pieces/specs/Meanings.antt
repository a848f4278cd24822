-- What a piece means, and what a gate at one of its ends makes of it.
use Rattle.std.specs.Prelude.{◌≡◌, ℕ, List, [], ◌∷◌}
use Rattle.words.specs.Maps.{Same}
use Rattle.gates.specs.declared.end.End.{End}
use Rattle.gates.specs.declared.end.End.TheVariants.{Input, Output}
use Rattle.gates.specs.Gates.{Kind}

-- Its number of lines, and the image of each word.
pub record Meaning : Type 0 where
  pub lines : ℕ
  pub map : ℕ → ℕ

module _ {G : Type 0} (K : Kind G) where
  -- An input gate comes first and the map second; an output gate comes after the map.
  abbrev pub moved : ℕ → End → G → (ℕ → ℕ) → ℕ → ℕ
  moved n Input g f x = f (K.act n g x)
  moved n Output g f x = K.act n g (f x)

  -- The map after some gates, each at its end, one after the other.
  abbrev pub all_moved : ℕ → List (End × G) → (ℕ → ℕ) → ℕ → ℕ
  all_moved n [] f = f
  all_moved n (p ∷ ps) f = all_moved n ps (moved n p.0 p.1 f)

  pub record Moved (e : End) (g : G) (m m' : Meaning) : Type 0 where
    pub same_lines : m'.lines ≡ m.lines
    pub map : Same m.lines m'.map (moved m.lines e g m.map)
