-- The entries of a matrix after a gate at one end.
use Rattle.std.proofs.Common.{◌≡◌, ℕ, ◌<◌, Bool, ◌&&◌, eqb, ◌≢◌, List, length, get_or, sym, refl, ap, ◌∙◌}
use mathlib.Core.Bool.{xor}
use Rattle.std.proofs.lemmas.List.{get_or-map}
use Rattle.std.proofs.lemmas.Bool.{eq-eqb, ne_eqb}
use Rattle.words.specs.Words.{has}
use Rattle.words.proofs.Bits.{has_xor}
use Rattle.gates.specs.declared.cnot.Cnot.{Cnot}
use Rattle.matrices.specs.Matrices.{add_row, add_column}
use Rattle.matrices.proofs.Ends.{target_added, others_kept}
use Rattle.matrices.proofs.Turns.{turned}
use Rattle.clearing.specs.Pairs.{entry}
use Rattle.clearing.proofs.Words.{has_turned, xor_false}

module _ (g : Cnot) (m : List ℕ) where
  pub row_sum : g.target < length m → (k : ℕ) → entry (add_row g m) g.target k ≡ xor (entry m g.target k) (entry m g.control k)
  row_sum h k = ap (λ (w : ℕ). has w k) (target_added g m h) ∙ has_xor (get_or m g.target 0) (get_or m g.control 0) k

  pub row_other : (r k : ℕ) → r ≢ g.target → entry (add_row g m) r k ≡ entry m r k
  row_other r k ne = ap (λ (w : ℕ). has w k) (others_kept g m r ne)

  pub column_row : (r : ℕ) → r < length m → get_or (add_column g m) r 0 ≡ turned g.target g.control (get_or m r 0)
  unfolding add_column
  column_row r h = get_or-map (turned g.target g.control) m r 0 0 h

  pub column_entry : (r k : ℕ) → r < length m → entry (add_column g m) r k ≡ xor (entry m r k) (eqb g.control k && entry m r g.target)
  column_entry r k h = ap (λ (w : ℕ). has w k) (column_row r h) ∙ has_turned g.target g.control (get_or m r 0) k

  pub column_sum : (r : ℕ) → r < length m → entry (add_column g m) r g.control ≡ xor (entry m r g.control) (entry m r g.target)
  column_sum r h =
      column_entry r g.control h
      ∙ ap (λ (b : Bool). xor (entry m r g.control) (b && entry m r g.target)) (eq-eqb g.control g.control refl)

  pub column_other : (r k : ℕ) → r < length m → k ≢ g.control → entry (add_column g m) r k ≡ entry m r k
  column_other r k h ne =
      column_entry r k h
      ∙ ap (λ (b : Bool). xor (entry m r k) (b && entry m r g.target)) (ne_eqb g.control k (λ p. ne (sym p))) ∙ xor_false (entry m r k)
