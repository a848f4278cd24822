-- After a declined delivery the ticket handed back is the job's own, and giving up is not declined.
use Rattle.std.proofs.Common.{◌≡◌, ℕ, Bool, true, false, eqb, Some, None, Err, MatchBool, Option, Result, ap, ◌∙◌}
use Rattle.gates.specs.declared.refusal.Refusal.{Refusal}
use Rattle.gates.specs.declared.refusal.Refusal.TheVariants.{LinesDiffer}
use Rattle.gates.specs.Gates.{Kind}
use Rattle.books.specs.declared.Book.{Book}
use Rattle.books.specs.Ends.{sound}
use Rattle.books.specs.Books.{ends}
use Rattle.pieces.specs.Meanings.{Meaning}
use Rattle.pieces.specs.Jobs.{Job}
use Rattle.takers.specs.Meanings.{Meaning as TakerMeaning}
use Rattle.job.specs.declared.ticket.Ticket.{Ticket}
use Rattle.job.specs.Calls.{Ready, handed}
use Rattle.job.specs.Endings.{ticket, HandedOver}

when_either : (b : Bool) (P Q Z : Type 0) → (P → Z) → (Q → Z) → MatchBool b P Q → Z
when_either true P Q Z f g p = f p
when_either false P Q Z f g q = g q

same_ticket : (t u : Ticket) (why w : Refusal) → ◌≡◌ {A = Result (Unit {0}) (Ticket × Refusal)} (Err (t, why)) (Err (u, w)) → t ≡ u
same_ticket t u why w e = let p : ◌≡◌ {A = Ticket × Refusal} (t, why) (u, w) = cc in ap (λ q. q.0) p

handed_back : (t u : Ticket) (why : Refusal) (o : Option Refusal) → Err (t, why) ≡ handed u o → t ≡ u
handed_back t u why None e = cc
handed_back t u why (Some w) e = same_ticket t u why w e

-- giving up after a giving-up that is in order
pub never_declined : (t u : Ticket) (why : Refusal) (o : Option Refusal) → o ≡ None → Err (t, why) ≡ handed u o → ⊥
never_declined t u why None is e = cc
never_declined t u why (Some w) is e = cc

module _ {G T : Type 0} (K : Kind G) (meaning : T → TakerMeaning) (m : Meaning) (j : Job G) (m' : Meaning) (b' : Book G) (s s' : T) (t : Ticket) (why : Refusal)
    (h : HandedOver K meaning m j m' b' s s' (Err (t, why))) where
  pub own_lines : t.lines ≡ m.lines
  own_lines =
      ap (λ u. u.lines)
      (when_either (eqb m.lines (meaning s).lines) (Ready (ticket m.lines) m.lines j.map j.ends (meaning s).free (Err (t, why))) (Err (t, why) ≡ Err (ticket m.lines, LinesDiffer)) (t ≡ ticket m.lines)
      (λ r. handed_back t (ticket m.lines) why _ r.2) (same_ticket t (ticket m.lines) why LinesDiffer) h.answer)

  pub still_legal : sound K m.lines j.ends ≡ true → sound K t.lines (ends b') ≡ true
  still_legal legal = ap (sound K t.lines) h.after.job.ends ∙ ap (λ (n : ℕ). sound K n j.ends) own_lines ∙ legal
