-- Runs: the gates that bring a map to identity.
use Rattle.std.specs.Prelude.{◌≡◌, ℕ, ◌≤◌, Bool, true, ◌&&◌, List, [], ◌∷◌, length, Option, Result}
use Rattle.words.specs.Maps.{Same, Identity, Clash}
use Rattle.gates.specs.declared.end.End.{End}
use Rattle.gates.specs.declared.refusal.Refusal.{Refusal}
use Rattle.gates.specs.Gates.{Kind}
use Rattle.gates.specs.Refusals.{answer, unless_clash, short}
use Rattle.books.specs.declared.Book.{Book}
use Rattle.books.specs.Books.{free}
use Rattle.pieces.specs.Meanings.{Meaning}
use Rattle.pieces.specs.Jobs.{Alike, all_found, shown}

-- The gates that a run finds on a map of n lines, in order, each with its end, and the places that it needs.
pub record Plan (G : Type 0) : Type 0 where
  pub gates : ℕ → (ℕ → ℕ) → List (End × G)
  pub budget : ℕ → ℕ

-- The gates follow from the images of the words on n lines.
abbrev pub Local : {G : Type 0} → Plan G → Type 0
Local plan = (n : ℕ) (f g : ℕ → ℕ) → Same n f g → plan.gates n f ≡ plan.gates n g

abbrev pub gates_legal : {G : Type 0} → Kind G → ℕ → List (End × G) → Bool
gates_legal K n [] = true
gates_legal K n (p ∷ ps) = K.legal n p.1 && gates_legal K n ps

-- A run declines a map under which two words share an image, and then a book with too few free places.
abbrev pub RunTells : {G : Type 0} → Plan G → Meaning → Book G → Result (Unit {0}) Refusal → Type 0
RunTells plan m b r = (clash : Option (ℕ × ℕ)) × Clash m.lines m.map clash × (r ≡ answer (unless_clash clash (short (plan.budget m.lines) (free b))))

-- An accepted run: the gates of the plan, all of them legal, go into the map and the book, and the map is identity.
pub record Ran {G : Type 0} (K : Kind G) (plan : Plan G) (m : Meaning) (b : Book G) (m' : Meaning) (b' : Book G) : Type 0 where
  pub same_lines : m'.lines ≡ m.lines
  pub found : Alike m.lines (shown m' b') (all_found K m.lines (plan.gates m.lines m.map) (shown m b))
  pub legal : gates_legal K m.lines (plan.gates m.lines m.map) ≡ true
  pub few : length (plan.gates m.lines m.map) ≤ plan.budget m.lines
  pub identity : Identity m.lines m'.map
  pub local : Local plan
