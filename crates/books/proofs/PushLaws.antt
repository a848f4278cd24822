-- A push for which a place is free.
use Rattle.std.proofs.Common.{◌≡◌, ◌+◌, ◌-◌, ◌≤◌, Result, ap, ◌∙◌, subst, ap₂, arith, length-append, MatchResult}
use Rattle.gates.specs.declared.end.End.{End}
use Rattle.gates.specs.declared.end.End.TheVariants.{Input, Output}
use Rattle.gates.specs.declared.refusal.Refusal.{Refusal}
use Rattle.gates.specs.Refusals.{answer, short}
use Rattle.gates.proofs.RefusalLaws.{short_none}
use Rattle.books.specs.Ends.{Ends, held, put}
use Rattle.books.specs.Books.{ends, free, Kept}
use Rattle.books.specs.Places.{Pushed}
use Rattle.books.specs.declared.Book.{Book}

module _ {G : Type 0} (e : End) (g : G) where
  pub held_put : (es : Ends G) → held (put e g es) ≡ held es + 1
  held_put es = elim e as (λ e. held (put e g es) ≡ held es + 1) [
    | Input ↦ simp length-append (omega arith)
    | Output ↦ simp length-append (omega arith)
  ]

  module _ (b b' : Book G) where
    pub accepted : (r : Result (Unit {0}) Refusal) → 1 ≤ free b → r ≡ answer (short 1 (free b)) → MatchResult r (λ _. Pushed e g b b') (λ _. b' ≡ b) → Pushed e g b b'
    accepted r one is after = subst (λ r. MatchResult r (λ _. Pushed e g b b') (λ _. b' ≡ b)) (is ∙ ap answer (short_none 1 (free b) one)) after

    pub pushed_free : Pushed e g b b' → Kept b b' → free b' ≡ free b - 1
    pushed_free p k = ap₂ ◌-◌ k.room (ap held p.ends ∙ held_put (ends b)) ∙ omega arith
