-- The plan of a matrix: it follows from the map alone, and its gates are those of the run.
use Rattle.std.proofs.Common.{◌≡◌, ℕ, ◌^◌, true, List, Ok, sym, ap, ◌∙◌, subst, ap₂, arith}
use Rattle.words.specs.Maps.{Same, Apart}
use Rattle.gates.specs.Cnots.{cnot}
use Rattle.pieces.specs.Meanings.{all_moved}
use Rattle.pieces.specs.Runs.{Local, gates_legal}
use Rattle.matrices.specs.Matrices.{image}
use Rattle.matrices.specs.Meanings.{rows_of, Inverted}
use Rattle.matrices.specs.declared.matrix.Matrix.{Matrix}
use Rattle.matrices.proofs.Held.{length_rows, row_below}
use Rattle.clearing.specs.Clearing.{Placed, replay, run}
use Rattle.clearing.specs.Pairs.{Pair, Square, Inverses, pairs}
use Rattle.clearing.specs.Plans.{undone, pair_of, matrix_plan}
use Rattle.clearing.proofs.MapRows.{matrix_of_same, matrix_of_image}
use Rattle.clearing.proofs.Squares.{replay_moves}
use Rattle.clearing.proofs.Undoing.{undone_same, undone_is}

abbrev pair : List ℕ → List ℕ → Pair
pair m v = record { matrix = m; inverse = v }

pub pair_of_same : (n : ℕ) (f g : ℕ → ℕ) → Same n f g → pair_of n f ≡ pair_of n g
pair_of_same n f g same = ap₂ pair (matrix_of_same n f g same) (matrix_of_same n (undone n f) (undone n g) (undone_same n f g same))

pub plan_local : Local matrix_plan
unfolding matrix_plan
plan_local n f g same = ap (λ p. (run pairs n p).gates) (pair_of_same n f g same)

module _ (n : ℕ) (p : Pair) (inverses : Inverses n p) where
  pub pair_of_is : pair_of n (image p.matrix) ≡ p
  pair_of_is =
      ap₂ pair (matrix_of_image n p.matrix inverses.square)
      (matrix_of_same n (undone n (image p.matrix)) (image p.inverse) (undone_is n p inverses) ∙ matrix_of_image n p.inverse inverses.square')

  pub plan_gates : matrix_plan.gates n (image p.matrix) ≡ (run pairs n p).gates
  unfolding matrix_plan
  plan_gates = ap (λ q. (run pairs n q).gates) pair_of_is

  pub replay_moved : (gs : List Placed) → gates_legal cnot n gs ≡ true → Same n (all_moved cnot n gs (image p.matrix)) (image (replay pairs gs p).matrix)
  replay_moved gs legal = replay_moves n gs p inverses.square legal

  pub apart_of : Apart (2 ^ n) (image p.matrix)
  apart_of x y h l e =
      let same : x ≡ y = sym (inverses.back x (omega arith)) ∙ ap (image p.inverse) e ∙ inverses.back y l in
      omega arith

-- ---- a matrix and its inverse as a pair

rows_square : (m : Matrix) → Square m.lines (rows_of m)
rows_square m = record { size = length_rows m; small = row_below m }

pub inverses_of : (m v : Matrix) → Inverted m (Ok v) → Inverses m.lines (record { matrix = rows_of m; inverse = rows_of v })
inverses_of m v is = record {
  square = rows_square m;
  square' = subst (λ (n : ℕ). Square n (rows_of v)) is.0 (rows_square v);
  back = is.1;
  forth = is.2;
}
