-- MCT gates by their controls and target, and rows of gates with the same controls.
use Rattle.std.proofs.Common.{◌≡◌, ℕ, zero, suc, ◌+◌, ◌/◌, ◌^◌, ◌<◌, ◌≤◌, true, false, ◌&&◌, eqb, ltb, map, length, sym, refl, ap, ◌∙◌, subst, ⊎_elim, add-zero, arith, shr-shr}
use native.Mathlib.Nat.{div-eq_of_lt}
use lib.Bits.{bit_and, bit_xor, and_le_l, xor_lt, xor_zero_r}
use lib.Count.{ones, ones_step}
use lib.Pow.{pow-lt}
use Rattle.std.specs.List.{AllByRecursion}
use Rattle.std.proofs.lemmas.Bool.{cases_eq, cases_lt, cond_both, cond-true, cond-false, and_from, and_right, eqb-true, eqb-false, lt-ltb, le-leb, eq-eqb, ne_eqb, not_from_false}
use Rattle.words.specs.Words.{bit, has}
use Rattle.words.proofs.Bits.{bit_lt, bit_of_xor, bit_power, bit_above, bit_none, same_bits}
use Rattle.words.proofs.Flips.{flip_other, mask_flip}
use Rattle.gates.specs.Mcts.{mct, mct_legal}
use Rattle.gates.specs.Circuits.{through}
use Rattle.gates.specs.declared.mct.Mct.{Mct}
use Rattle.gates.specs.MctLaws.{Legal, legal_says}
use Rattle.mapping.specs.Ones.{lines_from}
use Rattle.mapping.proofs.OnesLaws.{no_ones}

abbrev pub gate : ℕ → ℕ → Mct
gate c t = record { controls = c; target = t }

-- ---- one gate

pub legal_from : (n : ℕ) (g : Mct) → Legal n g → mct_legal n g ≡ true
legal_from n g l =
    let free : has g.controls g.target ≡ false = ne_eqb (bit g.controls g.target) 1 (λ e. omega (arith, l.apart)) in
    and_from _ _ (le-leb _ _ l.least)
    (and_from _ _ (le-leb _ _ l.most)
    (and_from _ _ (lt-ltb _ _ l.controls) (and_from _ _ (lt-ltb _ _ l.target) (not_from_false _ free))))

module _ (n : ℕ) (g : Mct) (x : ℕ) where
  -- a legal gate flips the target where the word has all controls
  pub act_flips : mct_legal n g ≡ true → x < 2 ^ n → bit_and x g.controls ≡ g.controls → mct.act n g x ≡ bit_xor x (2 ^ g.target)
  act_flips l h e =
      cond-true (mct_legal n g && (ltb x (2 ^ n) && eqb (bit_and x g.controls) g.controls)) _ _
      (and_from _ _ l (and_from _ _ (lt-ltb _ _ h) (eq-eqb _ _ e)))

  -- a gate leaves a word that lacks a control
  pub act_leaves : (bit_and x g.controls ≡ g.controls → ⊥) → mct.act n g x ≡ x
  act_leaves ne =
      cond-false (mct_legal n g && (ltb x (2 ^ n) && eqb (bit_and x g.controls) g.controls)) _ _
      (and_right (mct_legal n g) _ (and_right (ltb x (2 ^ n)) _ (ne_eqb _ _ ne)))

  -- as a word below its controls does
  pub act_spares : x < g.controls → mct.act n g x ≡ x
  act_spares h = act_leaves (λ e. omega (arith, and_le_l x g.controls))

-- ---- rows of gates, one for each one of a word w, of k lines from i on

-- what holds of the gate of each one holds of every gate of the row
pub flips_all : (P : Mct → Type 0) (k i c w : ℕ) → ((j : ℕ) → bit w j ≡ 1 → P (gate c j)) → AllByRecursion P (map (gate c) (lines_from k i w))
flips_all P zero i c w h = tt
flips_all P (suc k) i c w h =
    let rest = flips_all P k (i + 1) c w h in
    cond_both (has w i) _ _ (λ js. AllByRecursion P (map (gate c) js)) (λ q. (h i (eqb-true (bit w i) 1 q), rest)) (λ q. rest)

next_half : (w i : ℕ) → w / 2 ^ i / 2 ≡ w / 2 ^ (i + 1)
next_half w i = shr-shr w i 1

pub flips_length : (k i c w : ℕ) → w < 2 ^ (i + k) → length (map (gate c) (lines_from k i w)) ≡ ones (w / 2 ^ i)
flips_length zero i c w h =
    let l : w < 2 ^ i = subst (λ (m : ℕ). w < 2 ^ m) (add-zero i) h in
    sym (ap ones (div-eq_of_lt l) ∙ no_ones)
flips_length (suc k) i c w h =
    let e : i + suc k ≡ i + 1 + k = omega arith in
    let rest = flips_length k (i + 1) c w (subst (λ (m : ℕ). w < 2 ^ m) e h) in
    let step : ones (w / 2 ^ i) ≡ bit w i + ones (w / 2 ^ (i + 1)) = ones_step (w / 2 ^ i) ∙ ap (λ (z : ℕ). bit w i + ones z) (next_half w i) in
    cond_both (has w i) _ _ (λ js. length (map (gate c) js) ≡ ones (w / 2 ^ i))
    (λ q. omega (arith, eqb-true (bit w i) 1 q))
    (λ q. let none : bit w i ≡ 0 = zero_bit w i q in omega arith)
  where
    zero_bit : (w i : ℕ) → has w i ≡ false → bit w i ≡ 0
    zero_bit w i q = let ne = eqb-false (bit w i) 1 q in omega (arith, bit_lt w i)

-- the ones of w from line i on
record From (i w a : ℕ) : Type 0 where
  below : (j : ℕ) → j < i → bit a j ≡ 0
  above : (j : ℕ) → i ≤ j → bit a j ≡ bit w j

from_none : (i w a : ℕ) → w < 2 ^ i → From i w a → a ≡ 0
from_none i w a h f =
    same_bits a 0 (λ j.
    ⊎_elim (λ l. f.below j l ∙ sym (bit_none j)) (λ l. f.above j l ∙ bit_above i w j h l ∙ sym (bit_none j)) (cases_lt j i))

from_left : (i w a : ℕ) → From i w a → bit w i ≡ 0 → From (i + 1) w a
from_left i w a f z = record {
  below = λ j h. ⊎_elim (λ e. ap (bit a) e ∙ f.above i (omega arith) ∙ z) (λ ne. f.below j (omega arith)) (cases_eq j i);
  above = λ j h. f.above j (omega arith);
}

from_taken : (i w a : ℕ) → From i w a → bit w i ≡ 1 → From (i + 1) w (bit_xor a (2 ^ i))
from_taken i w a f z = record {
  below = λ j h.
      ⊎_elim (λ e. ap (bit (bit_xor a (2 ^ i))) e ∙ omega (arith, bit_of_xor a (2 ^ i) i, bit_power i, f.above i (omega arith)))
      (λ ne. flip_other a i j ne ∙ f.below j (omega arith))
      (cases_eq j i);
  above = λ j h. let ne : j ≡ i → ⊥ = λ e. omega arith in flip_other a i j ne ∙ f.above j (omega arith);
}

both_flipped : (z a b : ℕ) → bit_xor (bit_xor z b) (bit_xor a b) ≡ bit_xor z a
both_flipped z a b =
    same_bits _ _ (λ i. omega (arith, bit_of_xor (bit_xor z b) (bit_xor a b) i, bit_of_xor z b i, bit_of_xor a b i, bit_of_xor z a i))

-- on a word that has all controls, legal gates flip each of their targets
flips_from : (n k i c w a z : ℕ) → w < 2 ^ (i + k) → From i w a → ((j : ℕ) → bit w j ≡ 1 → mct_legal n (gate c j) ≡ true) → z < 2 ^ n → bit_and z c ≡ c
    → through mct n (map (gate c) (lines_from k i w)) z ≡ bit_xor z a
flips_from n zero i c w a z h f ok hz e =
    let l : w < 2 ^ i = subst (λ (m : ℕ). w < 2 ^ m) (add-zero i) h in
    sym (ap (bit_xor z) (from_none i w a l f) ∙ xor_zero_r z)
flips_from n (suc k) i c w a z h f ok hz e =
    let s : i + suc k ≡ i + 1 + k = omega arith in
    let h' : w < 2 ^ (i + 1 + k) = subst (λ (m : ℕ). w < 2 ^ m) s h in
    cond_both (has w i) _ _ (λ js. through mct n (map (gate c) js) z ≡ bit_xor z a)
    (λ q.
    let one : bit w i ≡ 1 = eqb-true (bit w i) 1 q in
    let l = legal_says n (gate c i) (ok i one) in
    let z' = bit_xor z (2 ^ i) in
    ap (through mct n (map (gate c) (lines_from k (i + 1) w))) (act_flips n (gate c i) z (ok i one) hz e)
    ∙ flips_from n k (i + 1) c w (bit_xor a (2 ^ i)) z' h' (from_taken i w a f one) ok (xor_lt n z (2 ^ i) hz (pow-lt l.target)) (mask_flip z c i l.apart ∙ e)
    ∙ both_flipped z a (2 ^ i))
    (λ q.
    let ne = eqb-false (bit w i) 1 q in
    let none : bit w i ≡ 0 = omega (arith, bit_lt w i) in
    flips_from n k (i + 1) c w a z h' (from_left i w a f none) ok hz e)

pub flips_through : (n c w z : ℕ) → w < 2 ^ 8 → ((j : ℕ) → bit w j ≡ 1 → mct_legal n (gate c j) ≡ true) → z < 2 ^ n → bit_and z c ≡ c
    → through mct n (map (gate c) (lines_from 8 0 w)) z ≡ bit_xor z w
flips_through n c w z h ok hz e =
    flips_from n 8 0 c w w z h (record { below = λ j l. absurd (omega arith); above = λ j l. refl }) ok hz e
