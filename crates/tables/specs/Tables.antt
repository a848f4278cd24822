-- What a table means, and what making one comes to.
use Rattle.std.specs.Prelude.{◌≡◌, ℕ, zero, suc, ◌^◌, List, [], ◌∷◌, take, Some, None, Ok, Err, Result, slice_index}
use Rattle.gates.specs.declared.refusal.Refusal.{Refusal}
use Rattle.pieces.specs.Meanings.{Meaning}
use Rattle.pieces.specs.Rows.{unfit}
use Rattle.tables.specs.declared.table.Table.{Table}

-- The images of the words, that of word 0 first.
abbrev pub images_of : Table → List ℕ
images_of t = take (2 ^ t.lines) t.images

abbrev pub table_meaning : Table → Meaning
table_meaning t = record { lines = t.lines; map = λ x. slice_index (images_of t) x }

-- A table made of images has them; it is refused for its size, or for the first image that is no word on its lines.
abbrev pub Made : ℕ → List ℕ → Result Table Refusal → Type 0
Made n images (Ok t) = (unfit 8 n (2 ^ n) images ≡ None) × (t.lines ≡ n) × (images_of t ≡ images)
Made n images (Err why) = unfit 8 n (2 ^ n) images ≡ Some why

-- So many numbers in order, the first of them x.
unfoldable pub counting : ℕ → ℕ → List ℕ
counting x zero = []
counting x (suc k) = x ∷ counting (suc x) k
