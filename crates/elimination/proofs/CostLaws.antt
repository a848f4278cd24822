-- The cost and the gains of a matrix, told from its pair.
use Rattle.std.proofs.Common.{◌≡◌, ℕ, ◌+◌, ◌*◌, ◌^◌, ◌<◌, ◌≤◌, true, List, length, get_or, pos, ◌-ℤ◌, Some, None, Ok, Err, Result, sym, ap, ◌∙◌, arith, Bool, false, refl}
use lib.Bits.{bit_xor, xor_lt}
use lib.Count.{ones-le}
use lib.Pow.{pow-lt}
use Rattle.std.proofs.lemmas.Int.{ints}
use Rattle.gates.specs.Cnots.{cnot}
use Rattle.gates.specs.declared.cnot.Cnot.{Cnot}
use Rattle.gates.specs.declared.end.End.{End}
use Rattle.gates.specs.declared.end.End.TheVariants.{Input, Output}
use Rattle.gates.specs.Refusals.{answer, unless_legal}
use Rattle.gates.specs.declared.refusal.Refusal.{Refusal}
use Rattle.gates.specs.declared.refusal.Refusal.TheVariants.{IllegalGate}
use Rattle.gates.specs.CnotLaws.{legal_says}
use Rattle.pieces.specs.Meanings.{moved}
use Rattle.matrices.specs.Matrices.{image}
use Rattle.matrices.specs.Meanings.{rows_of, matrix_meaning}
use Rattle.matrices.specs.declared.matrix.Matrix.{Matrix}
use Rattle.clearing.specs.Clearing.{adding}
use Rattle.clearing.specs.Pairs.{cost, pairs, place_at}
use Rattle.clearing.specs.Pairs.{Pair as State}
use Rattle.clearing.proofs.Pairs.{stays_placed}
use Rattle.clearing.proofs.PlanLaws.{pair_of_is, pair_of_same}
use Rattle.clearing.proofs.Squares.{placed_moves}
use Rattle.elimination.specs.declared.pair.Pair.{Pair}
use Rattle.elimination.specs.Costs.{map_cost, UnlessClash, Between}
use Rattle.elimination.specs.Halves.{row_added, off, weigh}
use Rattle.elimination.specs.Layouts.{Below}
use Rattle.elimination.specs.States.{half_at, state_of, Paired}
use Rattle.elimination.proofs.Layouts.{below_added}
use Rattle.elimination.proofs.RunLaws.{beside, beside_is, beside_inverses, apart}
use Rattle.elimination.proofs.States.{cost_after_is}

-- ---- what the check of a gate says

pub checked_ok : (legal : Bool) (x : Unit {0}) → Ok x ≡ answer (unless_legal legal None) → legal ≡ true
checked_ok true x h = refl
checked_ok false x h = cc

pub checked_err : (legal : Bool) (why : Refusal) → Err why ≡ answer (unless_legal legal None) → (legal ≡ false) × (why ≡ IllegalGate)
checked_err true why h = cc
checked_err false why h = (refl, cc)

-- ---- told unless two words share an image

pub clash_told : {A : Type 0} (m : Matrix) (x : A) (why : Refusal) (r : Result A Refusal) → Paired m (Err why) → r ≡ Err why → UnlessClash (matrix_meaning m) x r
clash_told m x why r is e = (Some is.0, is.1, e ∙ ap Err is.2)

pub value_told : {A : Type 0} (m : Matrix) (p : Pair) (x y : A) → Paired m (Ok p) → y ≡ x → UnlessClash (matrix_meaning m) x (Ok y)
value_told m p x y is e = (None, apart m p is, ap Ok e)

-- ---- the cost, before and after a gate

module _ (m : Matrix) (p : Pair) (is : Paired m (Ok p)) where
  pub cost_told : cost (state_of p) ≡ map_cost m.lines (image (rows_of m))
  cost_told = ap cost (beside_is m p is ∙ sym (pair_of_is m.lines (beside m p) (beside_inverses m p is)))

  pub cost_after_told : (e : End) (g : Cnot) → cnot.legal m.lines g ≡ true → cost (place_at e g (state_of p)) ≡ map_cost m.lines (moved cnot m.lines e g (image (rows_of m)))
  cost_after_told e g legal =
      let n = m.lines in
      let s = beside m p in
      let v = beside_inverses m p is in
      ap (λ (t : State). cost (place_at e g t)) (beside_is m p is)
      ∙ ap cost (sym (pair_of_same n (moved cnot n e g (image (rows_of m))) (image (place_at e g s).matrix) (placed_moves n g legal e s v.square)
      ∙ pair_of_is n (place_at e g s) (stays_placed n s v e g legal)))

-- ---- a gain lies between -2 n and 2 n

off_few : (n : ℕ) (xs : List ℕ) (i : ℕ) → i < n → Below n xs → off xs i ≤ n
off_few n xs i hi s = ones-le n (bit_xor (get_or xs i 0) (2 ^ i)) (xor_lt n (get_or xs i 0) (2 ^ i) (s i hi) (pow-lt hi))

weigh_few : (n : ℕ) (xs ys : List ℕ) (a b : ℕ) → a < n → b < n → Below n xs → Below n ys → weigh a b xs ys ≤ 2 * n
weigh_few n xs ys a b ha hb sx sy = omega (arith, off_few n xs b hb sx, off_few n ys a ha sy)

between : (n x y : ℕ) → y ≤ x + 2 * n → x ≤ y + 2 * n → Between n (pos x -ℤ pos y)
between n x y h k = (omega (arith, ints), omega (arith, ints))

added_between : (p : Pair) (e : End) (a b : ℕ) → a < p.lines → b < p.lines
    → Between p.lines (pos (cost (state_of p)) -ℤ pos (cost (pairs.place (adding e a b) (state_of p))))
added_between p e a b ha hb =
    let n = p.lines in
    let x : weigh a b (half_at e p).first (half_at e p).second ≤ 2 * p.lines = weigh_few n _ _ a b ha hb (firsts e) (seconds e) in
    let y : weigh a b (row_added a b (half_at e p).first) (row_added b a (half_at e p).second) ≤ 2 * p.lines =
    weigh_few n _ _ a b ha hb (below_added n (half_at e p).first a b (long_first e) ha hb (firsts e))
    (below_added n (half_at e p).second b a (long_second e) hb ha (seconds e)) in
    between n (cost (state_of p)) (cost (pairs.place (adding e a b) (state_of p)))
    (omega (arith, cost_after_is p a b ha hb e)) (omega (arith, cost_after_is p a b ha hb e))
  where
    firsts : (e : End) → Below p.lines (half_at e p).first
    firsts Output = p.sound.layout.small_rows
    firsts Input = p.sound.layout.small_columns

    seconds : (e : End) → Below p.lines (half_at e p).second
    seconds Output = p.sound.layout.small_columns'
    seconds Input = p.sound.layout.small_rows'

    long_first : (e : End) → p.lines ≤ length (half_at e p).first
    long_first Output = omega (arith, p.rows.full, p.sound.few)
    long_first Input = omega (arith, p.columns.full, p.sound.few)

    long_second : (e : End) → p.lines ≤ length (half_at e p).second
    long_second Output = omega (arith, p.rows.filled, p.sound.few)
    long_second Input = omega (arith, p.columns.filled, p.sound.few)

pub gain_between : (p : Pair) (e : End) (g : Cnot) → cnot.legal p.lines g ≡ true → Between p.lines (pos (cost (state_of p)) -ℤ pos (cost (place_at e g (state_of p))))
gain_between p Output g legal = let is = legal_says p.lines g legal in added_between p Output g.control g.target is.control is.target
gain_between p Input g legal = let is = legal_says p.lines g legal in added_between p Input g.target g.control is.target is.control
