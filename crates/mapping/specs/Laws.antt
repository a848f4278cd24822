-- Why mapping rows is right: what a mapping does to words, and what a run comes to.
use Rattle.std.specs.Prelude.{◌≡◌, ℕ, ◌+◌, ◌^◌, ◌<◌, ◌≤◌, true, length, bit_xor, count_ones}
use Rattle.std.specs.List.{AllByRecursion}
use Rattle.words.specs.Maps.{Keeps, Apart, Identity}
use Rattle.gates.specs.Mcts.{mct}
use Rattle.gates.specs.Circuits.{through, all_legal}
use Rattle.pieces.specs.Meanings.{all_moved}
use Rattle.pieces.specs.Runs.{gates_legal}
use Rattle.mapping.specs.Ones.{outside}
use Rattle.mapping.specs.Mapping.{shrink, mapping}
use Rattle.mapping.specs.Rows.{table_plan}

-- The gates that map y to x on n lines are legal, send y to x, and leave every word below x; there are at most n of them,
-- as many as the counts of ones tell.
pub record Mapped (n y x : ℕ) : Type 0 where
  pub legal : all_legal mct n (mapping y x) ≡ true
  pub sends : through mct n (mapping y x) y ≡ x
  pub spares : AllByRecursion (λ g. (z : ℕ) → z < x → mct.act n g z ≡ z) (mapping y x)
  pub few : length (mapping y x) ≤ n
  pub count : length (mapping y x) ≡ count_ones (outside (bit_xor x y) (shrink y x)) + count_ones (outside (shrink y x) x)

abbrev pub MappingMaps : Type 0
MappingMaps = (n y x : ℕ) → 1 ≤ n → n ≤ 8 → x ≤ y → y < 2 ^ n → Mapped n y x

-- The run of a map whose images differ: its gates are legal, bring the map to identity, and are at most n for each row
-- but the last.
pub record Brought (n : ℕ) (f : ℕ → ℕ) : Type 0 where
  pub legal : gates_legal mct n (table_plan.gates n f) ≡ true
  pub identity : Identity n (all_moved mct n (table_plan.gates n f) f)
  pub few : length (table_plan.gates n f) ≤ table_plan.budget n

abbrev pub RunBrings : Type 0
RunBrings = (n : ℕ) (f : ℕ → ℕ) → 1 ≤ n → n ≤ 8 → Keeps n f → Apart (2 ^ n) f → Brought n f
