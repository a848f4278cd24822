-- A gate taken back: the answer, and what was done.
use Rattle.std.proofs.Common.{◌≡◌, ℕ, true, Some, None, Ok, Result, sym, ap, ◌∙◌, subst, MatchResult}
use Rattle.gates.specs.declared.end.End.{End}
use Rattle.gates.specs.declared.refusal.Refusal.{Refusal}
use Rattle.gates.specs.Gates.{Kind}
use Rattle.gates.specs.Refusals.{answer, unless_legal}
use Rattle.books.specs.declared.Book.{Book}
use Rattle.books.specs.Ends.{found, last, strike, sound}
use Rattle.books.specs.Books.{ends, places, Kept}
use Rattle.books.proofs.Sound.{last_legal}
use Rattle.pieces.specs.Meanings.{Meaning, Moved}
use Rattle.pieces.specs.Jobs.{Alike, shown}
use Rattle.job.specs.declared.call.Edit.TheVariants.{TakeBack}
use Rattle.job.specs.Paper.{taken, unless_some}
use Rattle.job.specs.Calls.{against, Edited}
use Rattle.job.proofs.Reasons.{spoilt_none}

module _ {G : Type 0} (K : Kind G) (n : ℕ) (m : Meaning) (b : Book G) (e : End) (g : G) (same : n ≡ m.lines) (legal : sound K n (ends b) ≡ true)
    (gate : last (found e (ends b)) ≡ Some g) (r : Result (Unit {0}) Refusal) (told : r ≡ answer (unless_legal (K.legal m.lines g) None)) where
  -- the piece does not decline it
  accepted : r ≡ Ok tt
  accepted = told ∙ ap (λ t. answer (unless_legal t None)) (ap (λ (k : ℕ). K.legal k g) (sym same) ∙ last_legal K n e (ends b) g legal gate)

  pub take_answer : r ≡ answer (against K n m.lines (places b) (TakeBack e) (ends b))
  take_answer = accepted ∙ sym (ap answer (spoilt_none K n m.lines (ends b) (unless_some (last (found e (ends b)))) same (sym legal) ∙ ap unless_some gate))

  pub take_done : (m' : Meaning) (b' : Book G) (otherwise : Type 0) → Moved K e g m m' → ends b' ≡ strike e (ends b) → Kept b b' →
      MatchResult r (λ _. Edited K (TakeBack e) m b m' b') (λ _. otherwise)
  take_done m' b' otherwise moves struck kept =
      subst (λ r. MatchResult r (λ _. Edited K (TakeBack e) m b m' b') (λ _. otherwise)) (sym accepted)
      (record {
        same_lines = moves.same_lines;
        job = subst (λ o. Alike m.lines (shown m' b') (taken K m.lines e o (shown m b))) (sym gate) (record { map = moves.map; ends = struck });
        kept = kept;
      })
