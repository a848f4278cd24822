-- A matrix after a gate at one of its ends: the rows that it holds, and its map.
use Rattle.std.proofs.Common.{◌≡◌, ℕ, ◌^◌, ◌<◌, true, List, ◌++◌, length, get_or, take, drop, set, sym, refl, ap, ◌∙◌, ap₂, arith}
use lib.Bits.{bit_xor}
use Rattle.std.proofs.Math.Seq.{take-set-lt}
use Rattle.std.proofs.lemmas.List.{length-map, length-append, length-drop, take_at}
use Rattle.gates.specs.Cnots.{cnot, cnot_legal}
use Rattle.gates.specs.declared.cnot.Cnot.{Cnot}
use Rattle.gates.specs.declared.end.End.TheVariants.{Input, Output}
use Rattle.gates.specs.CnotLaws.{legal_says}
use Rattle.pieces.specs.Meanings.{Moved}
use Rattle.matrices.specs.Matrices.{image, add_row, add_column}
use Rattle.matrices.specs.Meanings.{rows_of, matrix_meaning}
use Rattle.matrices.specs.declared.matrix.Matrix.{Matrix}
use Rattle.matrices.proofs.Ends.{act_turns, row_turns, column_turns, row_added_below, column_added_below}
use Rattle.matrices.proofs.Held.{length_rows, row_at, row_below, image_keeps, below_by_first}

module _ (m : Matrix) (g : Cnot) (legal : cnot_legal m.lines g ≡ true) where
  module _ (held : List ℕ) (is : held ≡ set m.rows g.target (bit_xor (get_or m.rows g.target 0) (get_or m.rows g.control 0))) where
    pub output_rows : take m.lines held ≡ add_row g (rows_of m)
    unfolding add_row
    output_rows =
        let t = g.target in
        let at = legal_says m.lines g legal in
        ap (take m.lines) is ∙ take-set-lt m.lines m.rows t _ at.target
        ∙ ap (set (rows_of m) t) (ap₂ bit_xor (sym (row_at m t at.target)) (sym (row_at m g.control at.control)))

    pub output_below : (r : ℕ) → r < m.lines → get_or held r 0 < 2 ^ m.lines
    output_below = below_by_first m.lines held _ output_rows (row_added_below g m.lines (rows_of m) (length_rows m) (row_below m) legal)

    pub output_moves : Moved cnot Output g (matrix_meaning m) (record { lines = m.lines; map = image (take m.lines held) })
    output_moves = record {
      same_lines = refl;
      map = λ x h.
          ap (λ (rows : List ℕ). image rows x) output_rows
          ∙ row_turns g (rows_of m) x (omega (arith, (legal_says m.lines g legal).target, length_rows m))
          ∙ sym (act_turns m.lines g (image (rows_of m) x) legal (image_keeps m x h));
    }

  module _ (held : List ℕ) (is : held ≡ add_column g (rows_of m) ++ drop m.lines m.rows) where
    length_first : length (add_column g (rows_of m)) ≡ m.lines
    unfolding add_column
    length_first = length-map (rows_of m) _ ∙ length_rows m

    pub input_full : length held ≡ 64
    input_full =
        ap length is
        ∙ omega (arith, length-append (add_column g (rows_of m)) (drop m.lines m.rows), length_first, length-drop m.lines m.rows, m.full, m.few)

    pub input_rows : take m.lines held ≡ add_column g (rows_of m)
    input_rows = ap (take m.lines) is ∙ take_at (add_column g (rows_of m)) _ m.lines length_first

    pub input_below : (r : ℕ) → r < m.lines → get_or held r 0 < 2 ^ m.lines
    input_below = below_by_first m.lines held _ input_rows (column_added_below g m.lines (rows_of m) (length_rows m) (row_below m) legal)

    pub input_moves : Moved cnot Input g (matrix_meaning m) (record { lines = m.lines; map = image (take m.lines held) })
    input_moves = record {
      same_lines = refl;
      map = λ x h.
          ap (λ (rows : List ℕ). image rows x) input_rows ∙ column_turns g (rows_of m) x
          ∙ ap (image (rows_of m)) (sym (act_turns m.lines g x legal h));
    }
