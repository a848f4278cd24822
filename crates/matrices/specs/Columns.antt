-- How the first clash of a linear map is found: line by line, words are kept whose images tell each other apart.
use Rattle.std.specs.Prelude.{◌≡◌, ℕ, suc, ◌^◌, ◌<◌, List, length}
use Rattle.std.specs.List.{All, AllPairs, AllWithin}
use Rattle.words.specs.Words.{bit}
use Rattle.matrices.specs.declared.matrix.clash.Held.{Held}
use Rattle.matrices.specs.declared.matrix.clash.Imaged.{Imaged}

-- Words on as many lines as they are, with their images. Each image has a bit, its pivot, that the later images lack,
-- and of the words on these lines only 0 has an image without any of the pivots.
pub record Kept (f : ℕ → ℕ) (basis : List Held) : Type 0 where
  pub word : All (λ (h : Held). h.word < 2 ^ length basis) basis
  pub image : All (λ (h : Held). h.image ≡ f h.word) basis
  pub pivot : All (λ (h : Held). bit h.image h.pivot ≡ 1) basis
  pub later : AllPairs (λ (g h : Held). bit h.image g.pivot ≡ 0) basis
  pub alone : (y : ℕ) → y < 2 ^ length basis → All (λ (h : Held). bit (f y) h.pivot ≡ 0) basis → y ≡ 0

-- A word whose highest line is the next after those of the basis, and its image, which lacks the first i pivots.
pub record Reduced (f : ℕ → ℕ) (basis : List Held) (i : ℕ) (found : Imaged) : Type 0 where
  pub top : bit found.word (length basis) ≡ 1
  pub below : found.word < 2 ^ suc (length basis)
  pub is : found.image ≡ f found.word
  pub lacks : AllWithin (λ (h : Held). bit found.image h.pivot ≡ 0) basis 0 i
