-- The first reason against a call, where the lines of ticket and piece agree.
use Rattle.std.proofs.Common.{◌≡◌, ℕ, true, not, eqb, Option, sym, ap, ◌∙◌}
use Rattle.std.proofs.lemmas.Bool.{eq-eqb}
use Rattle.gates.specs.declared.refusal.Refusal.{Refusal}
use Rattle.gates.specs.declared.refusal.Refusal.TheVariants.{LinesDiffer}
use Rattle.gates.specs.Gates.{Kind}
use Rattle.gates.specs.Refusals.{first, unless_legal}
use Rattle.books.specs.Ends.{Ends, sound}
use Rattle.job.specs.Calls.{spoilt}

module _ (n m : ℕ) (next : Option Refusal) (same : n ≡ m) where
  pub lines_agree : first (not (eqb n m)) LinesDiffer next ≡ next
  lines_agree = ap (λ t. first (not t) LinesDiffer next) (eq-eqb n m same)

module _ {G : Type 0} (K : Kind G) (n m : ℕ) (es : Ends G) (next : Option Refusal) (same : n ≡ m) where
  pub spoilt_none : true ≡ sound K n es → spoilt K n m es next ≡ next
  spoilt_none h = lines_agree n m (unless_legal (sound K n es) next) same ∙ ap (λ t. unless_legal t next) (sym h)
