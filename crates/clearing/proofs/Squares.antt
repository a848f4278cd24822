-- Square matrices after a legal gate at one end: they stay square, and the gate goes into the map.
use Rattle.std.proofs.Common.{◌≡◌, ℕ, ◌^◌, ◌<◌, true, List, [], ◌∷◌, sym, refl, ap, ◌∙◌, arith}
use Rattle.std.proofs.lemmas.List.{length-set, length-map}
use Rattle.std.proofs.lemmas.Bool.{and_parts}
use Rattle.words.specs.Maps.{Same}
use Rattle.gates.specs.Cnots.{cnot, cnot_legal}
use Rattle.gates.specs.declared.cnot.Cnot.{Cnot}
use Rattle.gates.specs.declared.end.End.{End}
use Rattle.gates.specs.declared.end.End.TheVariants.{Input, Output}
use Rattle.gates.specs.CnotLaws.{legal_says, cnot_lawful}
use Rattle.pieces.specs.Meanings.{moved, all_moved}
use Rattle.pieces.specs.Runs.{gates_legal}
use Rattle.pieces.proofs.Finding.{all_moved_same}
use Rattle.matrices.specs.Matrices.{image, add_row, add_column}
use Rattle.matrices.proofs.Ends.{act_turns, row_turns, column_turns, row_added_below, column_added_below}
use Rattle.matrices.proofs.Images.{image_lt}
use Rattle.clearing.specs.Clearing.{Placed, replay}
use Rattle.clearing.specs.Pairs.{Pair, Square, place_at, pairs}

module _ (n : ℕ) where
  pub image_below : (m : List ℕ) → Square n m → (x : ℕ) → image m x < 2 ^ n
  image_below m square x = rw square.size at (image_lt m x)

  module _ (g : Cnot) (legal : cnot_legal n g ≡ true) where
    pub row_square : (m : List ℕ) → Square n m → Square n (add_row g m)
    unfolding add_row
    row_square m square = record {
      size = length-set m g.target _ ∙ square.size;
      small = row_added_below g n m square.size square.small legal;
    }

    pub column_square : (m : List ℕ) → Square n m → Square n (add_column g m)
    unfolding add_column
    column_square m square = record {
      size = length-map m _ ∙ square.size;
      small = column_added_below g n m square.size square.small legal;
    }

    pub placed_square : (e : End) (p : Pair) → Square n p.matrix → Square n (place_at e g p).matrix
    placed_square Input p = column_square p.matrix
    placed_square Output p = row_square p.matrix

    pub placed_moves : (e : End) (p : Pair) → Square n p.matrix → Same n (moved cnot n e g (image p.matrix)) (image (place_at e g p).matrix)
    placed_moves Input p square x h = ap (image p.matrix) (act_turns n g x legal h) ∙ sym (column_turns g p.matrix x)
    placed_moves Output p square x h =
        act_turns n g (image p.matrix x) legal (image_below p.matrix square x)
        ∙ sym (row_turns g p.matrix x (omega (arith, (legal_says n g legal).target, square.size)))

  -- one gate after the other
  pub replay_moves : (gs : List Placed) (p : Pair) → Square n p.matrix → gates_legal cnot n gs ≡ true → Same n (all_moved cnot n gs (image p.matrix)) (image (replay pairs gs p).matrix)
  replay_moves [] p square legal x h = refl
  replay_moves (g ∷ gs) p square legal x h =
      let both = and_parts (cnot_legal n g.1) (gates_legal cnot n gs) legal in
      let next = place_at g.0 g.1 p in
      all_moved_same cnot cnot_lawful n gs (moved cnot n g.0 g.1 (image p.matrix)) (image next.matrix)
      (placed_moves g.1 both.0 g.0 p square) x h
      ∙ replay_moves gs next (placed_square g.1 both.0 g.0 p square) both.1 x h
