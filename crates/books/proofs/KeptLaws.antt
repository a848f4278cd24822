-- What no call on a book changes.
use Rattle.std.proofs.Common.{◌≡◌, ℕ, ◌<◌, min, length, drop, refl, ap, ◌∙◌, length-set}
use Rattle.std.proofs.lemmas.List.{drop-set-lt}
use Rattle.books.specs.Books.{Kept}
use Rattle.books.specs.Places.{written}
use Rattle.books.specs.declared.Book.{Book}

module _ {G : Type 0} where
  pub kept_none : (b : Book G) → Kept b b
  kept_none b = record { room = refl; beyond = refl; memory = refl }

  pub kept_more : {b₁ b₂ b₃ : Book G} → Kept b₁ b₂ → Kept b₂ b₃ → Kept b₁ b₃
  kept_more p q = record { room = q.room ∙ p.room; beyond = q.beyond ∙ p.beyond; memory = q.memory ∙ p.memory }

  module _ (b b' : Book G) where
    pub kept_same : b'.places ≡ b.places → Kept b b'
    kept_same same = record {
      room = ap (λ r. min 16384 (length r.now)) same;
      beyond = ap (λ r. drop 16384 r.now) same;
      memory = ap (λ x. x.ghost_name) same;
    }

    pub kept_written : (at : ℕ) (g : G) → at < 16384 → b'.places ≡ written at g b.places → Kept b b'
    kept_written at g h wrote = record {
      room = ap (λ r. min 16384 (length r.now)) wrote ∙ ap (min 16384) (length-set b.places.now at g);
      beyond = ap (λ r. drop 16384 r.now) wrote ∙ drop-set-lt 16384 b.places.now at g h;
      memory = ap (λ x. x.ghost_name) wrote;
    }
