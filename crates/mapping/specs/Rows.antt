-- Bringing the map of a table to identity, row by row, by gates at both ends.
use Rattle.std.specs.Prelude.{ℕ, zero, suc, ◌+◌, ◌-◌, ◌*◌, ◌^◌, List, [], ◌++◌, map}
use Rattle.gates.specs.Mcts.{mct}
use Rattle.gates.specs.declared.end.End.{End}
use Rattle.gates.specs.declared.end.End.TheVariants.{Input, Output}
use Rattle.gates.specs.declared.mct.Mct.{Mct}
use Rattle.pieces.specs.Meanings.{all_moved}
use Rattle.pieces.specs.Runs.{Plan}
use Rattle.mapping.specs.Least.{least}
use Rattle.mapping.specs.Mapping.{mapping, weigh}

-- What the gates count that map the word j and its image to row i.
abbrev pub total : (ℕ → ℕ) → (i j : ℕ) → ℕ
total f i j = weigh (mapping j i) + weigh (mapping (f j) i)

-- The word that is mapped to row i: of the words from i upward the one with the smallest total, the smaller word on equal
-- totals.
unfoldable pub choice : ℕ → (ℕ → ℕ) → ℕ → ℕ
choice n f i = least (total f i) i (2 ^ n)

-- The gates of row i where the word j is mapped to it: first those that map j, at the input end, then those that map its
-- image, at the output end.
abbrev pub row : (ℕ → ℕ) → (i j : ℕ) → List (End × Mct)
row f i j = map (λ g. (Input, g)) (mapping j i) ++ map (λ g. (Output, g)) (mapping (f j) i)

-- The gates of k rows from row i on.
unfoldable pub rows : (n k i : ℕ) → (ℕ → ℕ) → List (End × Mct)
rows n zero i f = []
rows n (suc k) i f = row f i (choice n f i) ++ rows n k (i + 1) (all_moved mct n (row f i (choice n f i)) f)

-- A run maps every row but the last, and needs n places for each of them.
unfoldable pub table_plan : Plan Mct
table_plan = record { gates = λ n f. rows n (2 ^ n - 1) 0 f; budget = λ n. n * (2 ^ n - 1) }
