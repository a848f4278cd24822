-- One call of a list, made where a job on paper stands: what the list asks of it.
use Rattle.std.specs.Prelude.{◌≡◌, ℕ, ◌^◌, true, Option, Result}
use Rattle.words.specs.Maps.{Apart}
use Rattle.gates.specs.declared.refusal.Refusal.{Refusal}
use Rattle.gates.specs.Gates.{Kind}
use Rattle.gates.specs.Refusals.{answer}
use Rattle.books.specs.declared.Book.{Book}
use Rattle.books.specs.Ends.{sound}
use Rattle.books.specs.Books.{ends, Kept}
use Rattle.pieces.specs.Meanings.{Meaning}
use Rattle.pieces.specs.Jobs.{Job, Alike, shown, whole}
use Rattle.job.specs.Paper.{Rules, step}

-- A piece and a book that stand as a job on paper does: the same lines, map and gates, and the gates are legal.
pub record Stands {G : Type 0} (K : Kind G) (n : ℕ) (j : Job G) (m : Meaning) (b : Book G) : Type 0 where
  pub same_lines : m.lines ≡ n
  pub alike : Alike n (shown m b) j
  pub legal : sound K n (ends b) ≡ true

-- A call that declines for o, or else comes to this job, made on a piece of meaning m₁ and a book b₁: its answer, and
-- what it leaves of them.
pub record Stepped {G : Type 0} (K : Kind G) (n : ℕ) (o : Option Refusal) (after : Job G) (r : Result (Unit {0}) Refusal) (m₂ : Meaning) (b₁ b₂ : Book G) : Type 0 where
  pub told : r ≡ answer o
  pub stands : Stands K n after m₂ b₂
  pub kept : Kept b₁ b₂

-- What a word comes to in the whole circuit stays, whatever a call does on paper.
abbrev pub KeepsWhole : {C G : Type 0} → Kind G → (ℕ → ℕ → Rules C G) → Type 0
KeepsWhole {C = C} {G = G} K R = (n room : ℕ) (c : C) (j : Job G) (x : ℕ) → whole K n ((R n room).does c j) x ≡ whole K n j x

-- A call c, made under a ticket of n lines on a piece and a book that stand as a job on paper does, goes by the rules R,
-- which give the fact P of it.
abbrev pub Plays : {C G : Type 0} → Kind G → Rules C G → (C → Job G → Type 0) → ℕ → C → Meaning → Book G → Result (Unit {0}) Refusal → Meaning → Book G → Type 0
Plays {G = G} K R P n c m b r m' b' =
    (j : Job G) → Stands K n j m b → Apart (2 ^ n) m.map → Stepped K n (R.declines c j) (step R c j) r m' b b' × P c j
