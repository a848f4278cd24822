-- Gates that flip a target bit keep the law of a gate kind where their test does not see the target.
use Rattle.std.specs.Prelude.{◌≡◌, ℕ, ◌^◌, ◌<◌, ◌≤◌, Bool, true, false, ◌&&◌, bit_xor, nat_lt}
use Rattle.std.proofs.Math.Path.{ap}
use Rattle.std.proofs.Common.{◌∙◌}
use Rattle.std.proofs.Math.Logic.{⊎_elim}
use Rattle.std.proofs.lemmas.Nat.{xor_lt}
use Rattle.std.proofs.Math.Pow.{pow-lt}
use Rattle.std.proofs.lemmas.Bool.{cases_Bool, and_parts, and_from, and_left, and_right, cond_both, cond-true, cond-false, lt-ltb, le-ltb, ltb-true}
use Rattle.words.proofs.Flips.{flip_twice}
use Rattle.gates.specs.Gates.{Lawful}
use Rattle.gates.specs.Flips.{flip}

module _ {G : Type 0} (most : ℕ) (legal : ℕ → G → Bool) (target : G → ℕ) (passes : G → ℕ → Bool)
    (below : (n : ℕ) (g : G) → legal n g ≡ true → target g < n)
    (blind : (n : ℕ) (g : G) (w : ℕ) → legal n g ≡ true → passes g (bit_xor w (2 ^ target g)) ≡ passes g w) where
  act : ℕ → G → ℕ → ℕ
  act n g w = flip (legal n g) (passes g w) n (target g) w

  flipped_below : (n : ℕ) (g : G) (w : ℕ) → legal n g ≡ true → w < 2 ^ n → bit_xor w (2 ^ target g) < 2 ^ n
  flipped_below n g w l h = xor_lt n w (2 ^ target g) h (pow-lt (below n g l))

  flips_keeps : (n : ℕ) (g : G) (w : ℕ) → w < 2 ^ n → act n g w < 2 ^ n
  unfolding act
  flips_keeps n g w h =
      cond_both (legal n g && (nat_lt w (2 ^ n) && passes g w)) (bit_xor w (2 ^ target g)) w (λ v. v < 2 ^ n)
      (λ e. flipped_below n g w (and_parts (legal n g) _ e).0 h) (λ _. h)

  flips_twice : (n : ℕ) (g : G) (w : ℕ) → act n g (act n g w) ≡ w
  unfolding act
  flips_twice n g w =
      let t = 2 ^ target g in
      let w' = bit_xor w t in
      ⊎_elim
      (λ e.
      let p = and_parts (legal n g) (nat_lt w (2 ^ n) && passes g w) e in
      let q = and_parts (nat_lt w (2 ^ n)) (passes g w) p.1 in
      let h = flipped_below n g w p.0 (ltb-true w (2 ^ n) q.0) in
      let e' : (legal n g && (nat_lt w' (2 ^ n) && passes g w')) ≡ true =
      and_from (legal n g) _ p.0 (and_from (nat_lt w' (2 ^ n)) (passes g w') (lt-ltb w' (2 ^ n) h) (blind n g w p.0 ∙ q.1)) in
      ap (λ v. flip (legal n g) (passes g v) n (target g) v) (cond-true (legal n g && (nat_lt w (2 ^ n) && passes g w)) w' w e)
      ∙ cond-true (legal n g && (nat_lt w' (2 ^ n) && passes g w')) (bit_xor w' t) w' e' ∙ flip_twice w t)
      (λ e.
      let stays = cond-false (legal n g && (nat_lt w (2 ^ n) && passes g w)) w' w e in
      ap (λ v. flip (legal n g) (passes g v) n (target g) v) stays ∙ stays)
      (cases_Bool (legal n g && (nat_lt w (2 ^ n) && passes g w)))

  flips_idle : (n : ℕ) (g : G) (w : ℕ) → legal n g ≡ false → act n g w ≡ w
  unfolding act
  flips_idle n g w h = cond-false (legal n g && (nat_lt w (2 ^ n) && passes g w)) _ w (and_left (legal n g) _ h)

  flips_wide : (n : ℕ) (g : G) (w : ℕ) → 2 ^ n ≤ w → act n g w ≡ w
  unfolding act
  flips_wide n g w h =
      cond-false (legal n g && (nat_lt w (2 ^ n) && passes g w)) _ w (and_right (legal n g) _ (and_left (nat_lt w (2 ^ n)) (passes g w) (le-ltb w (2 ^ n) h)))

  pub flips_lawful : 1 ≤ most → most ≤ 64 → ((n : ℕ) (g : G) → legal n g ≡ true → (1 ≤ n) × (n ≤ most)) → Lawful (record { most = most; legal = legal; act = λ n g w. flip (legal n g) (passes g w) n (target g) w })
  unfolding act
  flips_lawful some few lines =
      record { some = some; few = few; lines = lines; keeps = flips_keeps; twice = flips_twice; idle = flips_idle; wide = flips_wide }
