-- CNOT gates: their law, and that a list of them is linear, so that the unit words tell its map.
use Rattle.std.specs.Prelude.{◌≡◌, ℕ, ◌^◌, ◌<◌, ◌≤◌, Bool, true, false, cond, ◌&&◌, List, [], ◌∷◌, bit_xor, nat_eq, nat_le, nat_lt}
use Rattle.std.proofs.Math.Path.{refl, sym, ap}
use Rattle.std.proofs.Common.{subst, ◌∙◌, ⊎_elim, arith, lit≤}
use Rattle.std.proofs.Math.Bool.{xor}
use Rattle.std.proofs.lemmas.Nat.{xor_lt, xor_comm}
use Rattle.std.specs.Int.Bits.{xor_assoc, xor_zero_r, xor_self}
use Rattle.std.proofs.Math.Pow.{pow-lt}
use Rattle.std.proofs.lemmas.Bool.{cases_Bool, cases_lt, lt-leb, cond-false, cond-true, le-leb, lt-ltb}
use Rattle.std.proofs.lemmas.Bool.Decides.{nat_tests}
use Rattle.words.specs.Words.{has}
use Rattle.words.specs.Maps.{Linear}
use Rattle.words.proofs.Bits.{has_xor}
use Rattle.words.proofs.Flips.{flip_other, unit_power}
use Rattle.words.proofs.Units.{by_units}
use Rattle.gates.specs.Gates.{Lawful}
use Rattle.gates.specs.Circuits.{through}
use Rattle.gates.specs.Probes.{Tell}
use Rattle.gates.specs.Cnots.{cnot, cnot_legal, cnot_probes}
use Rattle.gates.specs.declared.cnot.Cnot.{Cnot}
use Rattle.gates.specs.ProbeLaws.{none_needed}
use Rattle.gates.specs.FlipLaws.{flips_lawful}

-- what legality says
pub record Legal (n : ℕ) (g : Cnot) : Type 0 where
  pub least : 1 ≤ n
  pub most : n ≤ 64
  pub control : g.control < n
  pub target : g.target < n
  pub differ : g.control ≡ g.target → ⊥

pub legal_says : (n : ℕ) (g : Cnot) → cnot_legal n g ≡ true → Legal n g
legal_says n g h = record {
  least = grind (arith, nat_tests);
  most = grind (arith, nat_tests);
  control = grind (arith, nat_tests);
  target = grind (arith, nat_tests);
  differ = grind (arith, nat_tests);
}

pub cnot_lawful : Lawful cnot
cnot_lawful =
    flips_lawful 64 cnot_legal (λ g. g.target) (λ g w. has w g.control)
    (λ n g h. (legal_says n g h).target)
    (λ n g w h. ap (λ (b : ℕ). nat_eq b 1) (flip_other w g.target g.control (legal_says n g h).differ))
    (lit≤ tt) (lit≤ tt)
    (λ n g h. ((legal_says n g h).least, (legal_says n g h).most))

-- ---- a list of CNOT gates is linear

-- four words, added in another order
swap_middle : (x y u v : ℕ) → bit_xor (bit_xor x y) (bit_xor u v) ≡ bit_xor (bit_xor x u) (bit_xor y v)
swap_middle x y u v =
    xor_assoc x y (bit_xor u v)
    ∙ ap (bit_xor x) (sym (xor_assoc y u v) ∙ ap (λ (z : ℕ). bit_xor z v) (xor_comm y u) ∙ xor_assoc u y v)
    ∙ sym (xor_assoc x u (bit_xor y v))

-- a word that is added or not
added : ℕ → Bool → ℕ
added p b = cond b p 0

added_sum : (p : ℕ) (a b : Bool) → added p (xor a b) ≡ bit_xor (added p a) (added p b)
unfolding added xor
added_sum p false false = refl
added_sum p false true = refl
added_sum p true false = sym (xor_zero_r p)
added_sum p true true = sym (xor_self p)

module _ (n : ℕ) (g : Cnot) where
  -- a legal gate adds the unit word of its target where the control bit is 1
  legal_adds : (w : ℕ) → cnot_legal n g ≡ true → w < 2 ^ n → cnot.act n g w ≡ bit_xor w (added (2 ^ g.target) (has w g.control))
  unfolding added
  legal_adds w l h =
      let t = 2 ^ g.target in
      ap (λ b. cond (b && (nat_lt w (2 ^ n) && has w g.control)) (bit_xor w t) w) l
      ∙ ap (λ b. cond (b && has w g.control) (bit_xor w t) w) (lt-ltb w (2 ^ n) h)
      ∙ elim (has w g.control) as (λ b. cond b (bit_xor w t) w ≡ bit_xor w (cond b t 0)) [ true ↦ refl | false ↦ sym (xor_zero_r w) ]

  act_linear : Linear n (cnot.act n g)
  act_linear x y hx hy =
      ⊎_elim
      (λ l.
      let p = 2 ^ g.target in
      let a = has x g.control in
      let b = has y g.control in
      legal_adds (bit_xor x y) l (xor_lt n x y hx hy)
      ∙ ap (λ d. bit_xor (bit_xor x y) (added p d)) (has_xor x y g.control)
      ∙ ap (bit_xor (bit_xor x y)) (added_sum p a b)
      ∙ swap_middle x y (added p a) (added p b)
      ∙ ap (λ (z : ℕ). bit_xor z (bit_xor y (added p b))) (sym (legal_adds x l hx))
      ∙ ap (bit_xor (cnot.act n g x)) (sym (legal_adds y l hy)))
      (λ l.
      let idle = λ (w : ℕ). cnot_lawful.idle n g w l in
      idle (bit_xor x y) ∙ sym (ap (λ (z : ℕ). bit_xor z (cnot.act n g y)) (idle x) ∙ ap (bit_xor x) (idle y)))
      (cases_Bool (cnot_legal n g))

pub through_linear : (n : ℕ) (gs : List Cnot) → Linear n (through cnot n gs)
through_linear n [] x y hx hy = refl
through_linear n (g ∷ gs) x y hx hy =
    ap (through cnot n gs) (act_linear n g x y hx hy)
    ∙ through_linear n gs (cnot.act n g x) (cnot.act n g y) (cnot_lawful.keeps n g x hx) (cnot_lawful.keeps n g y hy)

-- ---- the unit words tell

-- how many there are, by the number of lines
count_few : (n : ℕ) → n ≤ 64 → cnot_probes.count n ≡ n
count_few n h = cond-true (nat_le n 64) n 0 (le-leb n 64 h)

count_many : (n : ℕ) → 64 < n → cnot_probes.count n ≡ 0
count_many n h = cond-false (nat_le n 64) n 0 (lt-leb n 64 h)

pub cnot_tell : (n : ℕ) → Tell cnot cnot_probes n
cnot_tell n =
    ⊎_elim
    (λ many. none_needed cnot cnot_lawful cnot_probes n many (count_many n many))
    (λ few. record {
      within = λ k h.
          let kn : k < n = omega (arith, count_few n few) in
          let is = unit_power k (omega arith) in
          omega (arith, pow-lt kn);
      enough = λ gs hs agree.
          by_units n (through cnot n gs) (through cnot n hs) (through_linear n gs) (through_linear n hs)
          (λ i h. subst (λ (w : ℕ). through cnot n gs w ≡ through cnot n hs w) (unit_power i (omega arith)) (agree i (omega (arith, count_few n few))));
    })
    (cases_lt 64 n)
