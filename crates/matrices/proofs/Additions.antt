-- The same row additions in two matrices: what one does, and what several do.
use Rattle.std.proofs.Common.{◌≡◌, ℕ, ◌+◌, ◌%◌, ◌^◌, ◌<◌, ◌≤◌, true, List, length, get_or, sym, ap, ◌∙◌, subst, arith}
use Rattle.std.proofs.lemmas.Bool.Decides.{nat_tests}
use Rattle.words.specs.Words.{bit}
use Rattle.words.proofs.Bits.{bit_of_xor, bit_above}
use Rattle.gates.specs.Cnots.{cnot_legal}
use Rattle.gates.specs.declared.cnot.Cnot.{Cnot}
use Rattle.gates.specs.CnotLaws.{legal_says}
use Rattle.matrices.specs.Matrices.{image, add_row}
use Rattle.matrices.specs.Meanings.{rows_of}
use Rattle.matrices.specs.Solved.{Solved}
use Rattle.matrices.specs.Solving.{Added, Stepped}
use Rattle.matrices.specs.declared.matrix.Matrix.{Matrix}
use Rattle.matrices.specs.declared.matrix.inverse.Solving.{Solving}
use Rattle.matrices.proofs.Ends.{row_turns, target_added, others_kept}
use Rattle.matrices.proofs.Held.{length_rows}
use Rattle.matrices.proofs.Turns.{turned, turned_idle, turned_single}

-- ---- steps one after another

pub step_none : (s s' : Solving) → s'.left ≡ s.left → s'.made ≡ s.made → Stepped s s'
step_none s s' left made = record {
  lines = ap (λ (m : Matrix). m.lines) left;
  map = λ y. y;
  single = λ y e. e;
  left = λ x. ap (λ (m : Matrix). image (rows_of m) x) left;
  made = λ x. ap (λ (m : Matrix). image (rows_of m) x) made;
}

pub step_more : (a b c : Solving) → Stepped a b → Stepped b c → Stepped a c
step_more a b c p q = record {
  lines = q.lines ∙ p.lines;
  map = λ y. q.map (p.map y);
  single = λ y e. p.single y (q.single (p.map y) e);
  left = λ x. q.left x ∙ ap q.map (p.left x);
  made = λ x. q.made x ∙ ap q.map (p.made x);
}

-- ---- one row addition

pub legal_when : (n : ℕ) (g : Cnot) → n ≤ 64 → g.control < n → g.target < n → (g.control ≡ g.target → ⊥) → cnot_legal n g ≡ true
legal_when n g few c t differ = grind (arith, nat_tests)

module _ (m m' : Matrix) (g : Cnot) (legal : cnot_legal m.lines g ≡ true) (rows : rows_of m' ≡ add_row g (rows_of m)) where
  row_moves : (x : ℕ) → image (rows_of m') x ≡ turned g.control g.target (image (rows_of m) x)
  row_moves x =
      ap (λ (rs : List ℕ). image rs x) rows ∙ row_turns g (rows_of m) x (omega (arith, (legal_says m.lines g legal).target, length_rows m))

  -- the words below the control's line do not see it
  pub solved_added : m'.lines ≡ m.lines → (d : ℕ) → d ≤ g.control → Solved m d → Solved m' d
  solved_added lines d above solved =
      let c = g.control in
      let t = g.target in
      record {
        fixed = λ x l. row_moves x ∙ ap (turned c t) (solved.fixed x l) ∙ turned_idle c t x (bit_above d x c l above);
        single = λ x l e.
            solved.single x (subst (λ (n : ℕ). x < 2 ^ n) lines l)
            (turned_single c t (legal_says m.lines g legal).differ (image (rows_of m) x) (sym (row_moves x) ∙ e));
      }

  -- column k after the addition
  pub target_bit : (k : ℕ) → bit (get_or (rows_of m') g.target 0) k ≡ (bit (get_or (rows_of m) g.target 0) k + bit (get_or (rows_of m) g.control 0) k) % 2
  target_bit k =
      let before = rows_of m in
      let within : g.target < length before = omega (arith, (legal_says m.lines g legal).target, length_rows m) in
      ap (λ (after : List ℕ). bit (get_or after g.target 0) k) rows ∙ ap (λ (row : ℕ). bit row k) (target_added g before within)
      ∙ bit_of_xor (get_or before g.target 0) (get_or before g.control 0) k

  pub other_bit : (r k : ℕ) → (r ≡ g.target → ⊥) → bit (get_or (rows_of m') r 0) k ≡ bit (get_or (rows_of m) r 0) k
  other_bit r k ne = ap (λ (after : List ℕ). bit (get_or after r 0) k) rows ∙ ap (λ (row : ℕ). bit row k) (others_kept g (rows_of m) r ne)

pub step_added : (s s' : Solving) (g : Cnot) → cnot_legal s.left.lines g ≡ true → Added g s s' → Stepped s s'
step_added s s' g legal added = record {
  lines = added.lines;
  map = turned g.control g.target;
  single = turned_single g.control g.target (legal_says s.left.lines g legal).differ;
  left = row_moves s.left s'.left g legal added.left;
  made = row_moves s.made s'.made g (subst (λ (n : ℕ). cnot_legal n g ≡ true) (sym s.same) legal) added.made;
}
