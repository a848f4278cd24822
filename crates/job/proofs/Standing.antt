-- A piece and a book that stand as a job on paper does, and what a call leaves of that.
use Rattle.std.proofs.Common.{◌≡◌, ℕ, true, Some, None, Option, Result, sym, refl, ap, ◌∙◌, subst}
use Rattle.gates.specs.declared.refusal.Refusal.{Refusal}
use Rattle.gates.specs.Gates.{Kind}
use Rattle.gates.specs.Refusals.{answer}
use Rattle.books.specs.declared.Book.{Book}
use Rattle.books.specs.Ends.{sound}
use Rattle.books.specs.Books.{Kept}
use Rattle.books.proofs.KeptLaws.{kept_none}
use Rattle.pieces.specs.Meanings.{Meaning}
use Rattle.pieces.specs.Jobs.{Job}
use Rattle.job.specs.Paper.{unless}
use Rattle.job.specs.Calls.{Changes}
use Rattle.job.specs.Steps.{Stands, Stepped}

module _ {G : Type 0} (K : Kind G) (n : ℕ) where
  pub paper_sound : (j : Job G) (m : Meaning) (b : Book G) → Stands K n j m b → sound K n j.ends ≡ true
  paper_sound j m b s = ap (sound K n) (sym s.alike.ends) ∙ s.legal

module _ {G T : Type 0} (K : Kind G) (n : ℕ) (meaning : T → Meaning) (p₁ p₂ : T) (b₁ b₂ : Book G) (r : Result (Unit {0}) Refusal)
    (j k : Job G) (o : Option Refusal) (told : r ≡ answer o) (before : Stands K n j (meaning p₁) b₁) where
  -- a call that declines leaves all as it was
  pub steps : (D : Meaning → Book G → Meaning → Book G → Type 0) → (o ≡ None → D (meaning p₁) b₁ (meaning p₂) b₂ → Stands K n k (meaning p₂) b₂ × Kept b₁ b₂) →
      Changes D meaning r p₁ b₁ p₂ b₂ → Stepped K n o (unless o k j) r (meaning p₂) b₁ b₂
  steps D does after = at o refl (subst (λ s. Changes D meaning s p₁ b₁ p₂ b₂) told after)
    where
      at : (q : Option Refusal) → o ≡ q → Changes D meaning (answer q) p₁ b₁ p₂ b₂ → Stepped K n o (unless o k j) r (meaning p₂) b₁ b₂
      at None e d =
          let out = does e d in
          record { told = told; stands = subst (λ z. Stands K n (unless z k j) (meaning p₂) b₂) (sym e) out.0; kept = out.1 }
      at (Some why) e same = record {
        told = told;
        stands = subst (λ z. Stands K n (unless z k j) (meaning p₂) b₂) (sym e)
            (subst (λ p. Stands K n j (meaning p) b₂) (sym same.0) (subst (Stands K n j (meaning p₁)) (sym same.1) before));
        kept = subst (Kept b₁) (sym same.1) (kept_none b₁);
      }
