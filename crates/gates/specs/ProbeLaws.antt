-- Where no probe word is needed.
use Rattle.std.specs.Prelude.{◌≡◌, ℕ, ◌<◌, false}
use Rattle.std.proofs.Common.{sym, ◌∙◌, ⊎_elim, arith}
use Rattle.std.proofs.lemmas.Bool.{cases_Bool}
use Rattle.gates.specs.Gates.{Kind, Lawful}
use Rattle.gates.specs.Probes.{Probes, Tell}
use Rattle.gates.specs.CircuitLaws.{through_idle}

module _ {G : Type 0} (K : Kind G) (law : Lawful K) (P : Probes) (n : ℕ) (many : K.most < n) where
  -- on more lines than the largest number no gate is legal
  none_legal : (g : G) → K.legal n g ≡ false
  none_legal g = ⊎_elim (λ l. absurd (omega (arith, (law.lines n g l).1))) (λ l. l) (cases_Bool (K.legal n g))

  -- so all lists of gates have one map
  pub none_needed : P.count n ≡ 0 → Tell K P n
  none_needed none = record {
    within = λ k h. absurd (omega (arith, none));
    enough = λ gs hs agree x h. through_idle K n law none_legal gs x ∙ sym (through_idle K n law none_legal hs x);
  }
