-- How a job that was played ends.
use Rattle.std.proofs.Common.{◌≡◌, ℕ, Bool, true, false, not, eqb, List, None, Ok, Err, MatchBool, Result, sym, refl, ap, ◌∙◌, subst, MatchResult}
use Rattle.std.proofs.lemmas.Bool.{eq-eqb}
use Rattle.std.proofs.lemmas.Bool.Decides.{when_true}
use Rattle.std.proofs.lemmas.Result.{MatchResult-weaker}
use Rattle.words.specs.Maps.{Same, Keeps, Identity}
use Rattle.gates.specs.declared.refusal.Refusal.{Refusal}
use Rattle.gates.specs.declared.refusal.Refusal.TheVariants.{LinesDiffer, IllegalGate, NotIdentity}
use Rattle.gates.specs.Gates.{Kind, Lawful}
use Rattle.gates.specs.Refusals.{first, short}
use Rattle.books.specs.declared.Book.{Book}
use Rattle.books.specs.Ends.{Ends, held, circuit, sound}
use Rattle.books.specs.Books.{ends, Kept}
use Rattle.books.proofs.KeptLaws.{kept_none, kept_more}
use Rattle.pieces.specs.Meanings.{Meaning}
use Rattle.pieces.specs.Jobs.{Job, Alike, opened, shown, whole}
use Rattle.takers.specs.Meanings.{Meaning as TakerMeaning, FedAll}
use Rattle.job.specs.declared.ticket.Ticket.{Ticket}
use Rattle.job.specs.declared.step.Step.{Step}
use Rattle.job.specs.declared.conduct.Ending.{Ending}
use Rattle.job.specs.declared.conduct.Ending.TheVariants.{Deliver, GiveUp}
use Rattle.job.specs.Paper.{Rules, played}
use Rattle.job.specs.Calls.{Ready, DeliveryAnswer, Delivered, GivenUp, handed, spoilt}
use Rattle.job.specs.Endings.{ticket, Withdrawn, Accepted, HandedOver, Ended}
use Rattle.job.specs.Wholes.{Played, Conducted}
use Rattle.job.proofs.Reasons.{spoilt_none}
use Rattle.job.specs.WholeLaws.{alike_whole}

when_map : (b : Bool) (P P' Q : Type 0) → (P → P') → MatchBool b P Q → MatchBool b P' Q
when_map true P P' Q f p = f p
when_map false P P' Q f q = q

cases_both : {X E : Type 0} (P Q Z : Type 0) → (P → Z) → (Q → Z) → (r : Result X E) → MatchResult r (λ _. P) (λ _. Q) → Z
cases_both P Q Z f g (Ok x) p = f p
cases_both P Q Z f g (Err e) q = g q

same_identity : (n : ℕ) (f g : ℕ → ℕ) → Same n f g → Identity n g → Identity n f
same_identity n f g s i x h = s x h ∙ i x h

ready_alike : {G : Type 0} (n : ℕ) (t : Ticket) (f g : ℕ → ℕ) (es es' : Ends G) (free : ℕ) (e : Result (Unit {0}) (Ticket × Refusal)) →
    Same n f g → es ≡ es' → Ready t n f es free e → Ready t n g es' free e
ready_alike n t f g es es' free e s l r = (
  r.0,
  ((λ h. same_identity n g f (λ x k. sym (s x k)) (r.1.0 h)), (λ i. r.1.1 (same_identity n f g s i))),
  r.2 ∙ ap (λ z. handed t (first (not r.0) NotIdentity (short (held z) free))) l,
)

module _ {C G T : Type 0} (K : Kind G) (law : Lawful K) (R : Rules C G) (P : C → Job G → Type 0) (m : Meaning) (b : Book G) (ss ss' : List (Step C)) (m₁ : Meaning) (b₁ : Book G)
    (t : Ticket) (p : Played K R P m b ss ss' m₁ b₁ t) (meaning : T → TakerMeaning) (s : T) where
  paper_sent : Same m.lines (whole K m.lines (played R ss (opened m.map))) m.map
  paper_sent x h = sym (alike_whole K m.lines law (shown m₁ b₁) (played R ss (opened m.map)) p.job x h) ∙ p.sent x h

  paper_legal : sound K m.lines (played R ss (opened m.map)).ends ≡ true
  paper_legal = ap (sound K m.lines) (sym p.job.ends) ∙ p.legal

  -- the gates are legal on the lines of the ticket
  good : sound K t.lines (ends b₁) ≡ true
  good = ap (λ (k : ℕ). sound K k (ends b₁)) p.lines ∙ p.legal

  -- ---- giving up

  nothing_spoilt : spoilt K t.lines m₁.lines (ends b₁) None ≡ None
  nothing_spoilt = spoilt_none K t.lines m₁.lines (ends b₁) None (p.lines ∙ sym p.same_lines) (sym good)

  module _ (Q : Type 0) (m₂ : Meaning) (b₂ : Book G) (e : Result (Unit {0}) (Ticket × Refusal))
      (told : e ≡ handed t (spoilt K t.lines m₁.lines (ends b₁) None)) (after : MatchResult e (λ _. GivenUp K m₁ b₁ m₂ b₂) (λ _. Q)) where
    accepted : e ≡ Ok tt
    accepted = told ∙ ap (handed t) nothing_spoilt

    gave : GivenUp K m₁ b₁ m₂ b₂
    gave = subst (λ r. MatchResult r (λ _. GivenUp K m₁ b₁ m₂ b₂) (λ _. Q)) accepted after

    withdrawn : Withdrawn K meaning m (played R ss (opened m.map)) m₂ b₂ s s e
    withdrawn =
        let back : Same m.lines m₂.map (whole K m.lines (shown m₁ b₁)) =
        subst (λ (k : ℕ). Same k m₂.map (whole K k (shown m₁ b₁))) p.same_lines gave.job.map in
        record { accepted = accepted; back = λ x h. back x h ∙ p.sent x h; emptied = gave.job.ends; untouched = refl }

    pub given_up : (ending : Ending) → ending ≡ GiveUp → Conducted K R P m b ss ss' m₂ b₂ meaning s s ending e
    given_up ending is = record {
      same_lines = gave.same_lines ∙ p.same_lines;
      kept = kept_more p.kept gave.kept;
      answers = p.answers;
      sent = paper_sent;
      legal = paper_legal;
      each = p.each;
      ended = subst (Ended K meaning m (played R ss (opened m.map)) m₂ b₂ s s e) (sym is) withdrawn;
    }

  -- ---- delivery

  module _ (b₂ : Book G) (s' : T) (e : Result (Unit {0}) (Ticket × Refusal)) (told : DeliveryAnswer K t m₁ (ends b₁) (meaning s) e)
      (after : MatchResult e (λ _. Delivered K m₁ b₁ b₂ (meaning s) (meaning s')) (λ _. (b₂ ≡ b₁) × (s' ≡ s))) where
    -- what is left of the answer once the lines and the gates are in order
    Left : Ticket → ℕ → Type 0
    Left u k = MatchBool (eqb k (meaning s).lines) (MatchBool (sound K u.lines (ends b₁)) (Ready u k m₁.map (ends b₁) (meaning s).free e) (e ≡ Err (u, IllegalGate))) (e ≡ Err (u, LinesDiffer))

    left : Left (ticket m.lines) m.lines
    unfolding Left
    left =
        let here : Left t m₁.lines = when_true (Left t m₁.lines) (e ≡ Err (t, LinesDiffer)) (eq-eqb t.lines m₁.lines (p.lines ∙ sym p.same_lines)) told in
        subst (λ u. Left u m.lines) (ap ticket p.lines) (subst (Left t) p.same_lines here)

    abbrev Takes : Type 0
    Takes = Accepted K meaning m (played R ss (opened m.map)) m₁ b₂ s s' e

    accepted_delivery : Delivered K m₁ b₁ b₂ (meaning s) (meaning s') → Takes
    accepted_delivery d =
        let f = (meaning s).map in
        let keeps : Keeps m.lines f = subst (λ (k : ℕ). Keeps k f) p.same_lines d.keeps in
        let follows : Same m.lines (meaning s').map (λ w. whole K m.lines (shown m₁ b₁) (f w)) =
        subst (λ (k : ℕ). Same k (meaning s').map (λ w. whole K k (shown m₁ b₁) (f w))) p.same_lines d.follows in
        record {
          fed = subst (λ es. FedAll K (meaning s) (circuit es) (meaning s')) p.job.ends d.fed;
          follows = λ w h. follows w h ∙ p.sent (f w) (keeps w h);
          emptied = d.emptied;
          same_map = p.job.map;
        }

    handed_over : HandedOver K meaning m (played R ss (opened m.map)) m₁ b₂ s s' e
    unfolding Left
    handed_over =
        let n = m.lines in
        let u = ticket n in
        let j = played R ss (opened m.map) in
        let free = (meaning s).free in
        record {
          answer = when_map (eqb n (meaning s).lines) (MatchBool (sound K n (ends b₁)) (Ready u n m₁.map (ends b₁) free e) (e ≡ Err (u, IllegalGate))) (Ready u n j.map j.ends free e) (e ≡ Err (u, LinesDiffer))
              (λ w. ready_alike n u m₁.map j.map (ends b₁) j.ends free e p.job.map p.job.ends (when_true (Ready u n m₁.map (ends b₁) free e) (e ≡ Err (u, IllegalGate)) p.legal w))
              left;
          after = MatchResult-weaker e after (λ _ d. accepted_delivery d) (λ _ q. record { job = subst (λ c. Alike n (shown m₁ c) j) (sym q.0) p.job; untouched = q.1 });
        }

    pub delivered : (ending : Ending) → ending ≡ Deliver → Conducted K R P m b ss ss' m₁ b₂ meaning s s' ending e
    delivered ending is = record {
      same_lines = p.same_lines;
      kept = kept_more p.kept
          (cases_both (Delivered K m₁ b₁ b₂ (meaning s) (meaning s')) ((b₂ ≡ b₁) × (s' ≡ s)) (Kept b₁ b₂) (λ d. d.kept) (λ q. subst (Kept b₁) (sym q.0) (kept_none b₁)) e after);
      answers = p.answers;
      sent = paper_sent;
      legal = paper_legal;
      each = p.each;
      ended = subst (Ended K meaning m (played R ss (opened m.map)) m₁ b₂ s s' e) (sym is) handed_over;
    }
