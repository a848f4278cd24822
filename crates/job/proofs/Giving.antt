-- A gate given to a piece moves its map, also where it is illegal, declined, and without effect.
use Rattle.std.proofs.Common.{◌≡◌, ℕ, false, None, Result, sym, ap, ◌∙◌, ⊎_elim, MatchResult}
use Rattle.std.proofs.lemmas.Result.{MatchResult-at_ok, MatchResult-at_err}
use Rattle.std.proofs.lemmas.Bool.{cases_Bool}
use Rattle.gates.specs.declared.end.End.{End}
use Rattle.gates.specs.declared.end.End.TheVariants.{Input, Output}
use Rattle.gates.specs.declared.refusal.Refusal.{Refusal}
use Rattle.gates.specs.declared.refusal.Refusal.TheVariants.{IllegalGate}
use Rattle.gates.specs.Gates.{Kind, Lawful}
use Rattle.gates.specs.Refusals.{answer, unless_legal}
use Rattle.pieces.specs.Meanings.{Meaning, moved, Moved}

module _ {G : Type 0} (K : Kind G) (law : Lawful K) (g : G) where
  idle_moved : (e : End) (n : ℕ) (f : ℕ → ℕ) (x : ℕ) → K.legal n g ≡ false → f x ≡ moved K n e g f x
  idle_moved Input n f x h = sym (ap f (law.idle n g x h))
  idle_moved Output n f x h = sym (law.idle n g (f x) h)

  module _ {P : Type 0} (meaning : P → Meaning) (e : End) (p p' : P) where
    stayed : K.legal (meaning p).lines g ≡ false → p' ≡ p → Moved K e g (meaning p) (meaning p')
    stayed illegal same = record {
      same_lines = ap (λ q. (meaning q).lines) same;
      map = λ x h. ap (λ q. (meaning q).map x) same ∙ idle_moved e (meaning p).lines (meaning p).map x illegal;
    }

    pub given : (r : Result (Unit {0}) Refusal) → r ≡ answer (unless_legal (K.legal (meaning p).lines g) None) →
        MatchResult r (λ _. Moved K e g (meaning p) (meaning p')) (λ _. p' ≡ p) → Moved K e g (meaning p) (meaning p')
    given r told after =
        ⊎_elim
        (λ legal. MatchResult-at_ok (λ _. Moved K e g (meaning p) (meaning p')) (λ _. p' ≡ p) tt (told ∙ ap (λ t. answer (unless_legal t None)) legal) after)
        (λ illegal. stayed illegal (MatchResult-at_err (λ _. Moved K e g (meaning p) (meaning p')) (λ _. p' ≡ p) IllegalGate (told ∙ ap (λ t. answer (unless_legal t None)) illegal) after))
        (cases_Bool (K.legal (meaning p).lines g))
