-- MCT gates keep the law of a gate kind, and all words tell the map of a list of them.
use Rattle.std.specs.Prelude.{◌≡◌, ℕ, ◌^◌, ◌<◌, ◌≤◌, true, bit_and, nat_eq, nat_le}
use Rattle.std.proofs.Common.{ap, ⊎_elim, arith, lit≤}
use Rattle.std.proofs.lemmas.Bool.{cases_lt, lt-leb, cond-false, cond-true, le-leb}
use Rattle.std.proofs.lemmas.Bool.Decides.{nat_tests}
use Rattle.words.specs.Words.{bit}
use Rattle.words.proofs.Flips.{mask_flip}
use Rattle.gates.specs.Gates.{Lawful}
use Rattle.gates.specs.Probes.{Tell}
use Rattle.gates.specs.Mcts.{mct, mct_legal, mct_probes}
use Rattle.gates.specs.declared.mct.Mct.{Mct}
use Rattle.gates.specs.ProbeLaws.{none_needed}
use Rattle.gates.specs.FlipLaws.{flips_lawful}

-- what legality says
pub record Legal (n : ℕ) (g : Mct) : Type 0 where
  pub least : 1 ≤ n
  pub most : n ≤ 8
  pub controls : g.controls < 2 ^ n
  pub target : g.target < n
  pub apart : bit g.controls g.target ≡ 0

pub legal_says : (n : ℕ) (g : Mct) → mct_legal n g ≡ true → Legal n g
legal_says n g h = record {
  least = grind (arith, nat_tests);
  most = grind (arith, nat_tests);
  controls = grind (arith, nat_tests);
  target = grind (arith, nat_tests);
  apart = grind (arith, nat_tests);
}

pub mct_lawful : Lawful mct
mct_lawful =
    flips_lawful 8 mct_legal (λ g. g.target) (λ g w. nat_eq (bit_and w g.controls) g.controls)
    (λ n g h. (legal_says n g h).target)
    (λ n g w h. ap (λ (m : ℕ). nat_eq m g.controls) (mask_flip w g.controls g.target (legal_says n g h).apart))
    (lit≤ tt) (lit≤ tt)
    (λ n g h. ((legal_says n g h).least, (legal_says n g h).most))

-- ---- all words tell

count_few : (n : ℕ) → n ≤ 8 → mct_probes.count n ≡ 2 ^ n
count_few n h = cond-true (nat_le n 8) (2 ^ n) 0 (le-leb n 8 h)

count_many : (n : ℕ) → 8 < n → mct_probes.count n ≡ 0
count_many n h = cond-false (nat_le n 8) (2 ^ n) 0 (lt-leb n 8 h)

pub mct_tell : (n : ℕ) → Tell mct mct_probes n
mct_tell n =
    ⊎_elim
    (λ many. none_needed mct mct_lawful mct_probes n many (count_many n many))
    (λ few. record {
      within = λ k h. omega (arith, count_few n few);
      enough = λ gs hs agree x h. agree x (omega (arith, count_few n few));
    })
    (cases_lt 8 n)
