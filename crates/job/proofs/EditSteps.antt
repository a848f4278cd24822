-- A gate found or taken back is answered and done as on paper.
use Rattle.std.proofs.Common.{◌≡◌, ℕ, true, Some, None, Option, Result, sym, refl, ap, ◌∙◌, subst, ⊎_elim}
use Rattle.std.proofs.lemmas.Bool.{cond-false, cases_Bool}
use Rattle.gates.specs.declared.refusal.Refusal.{Refusal}
use Rattle.gates.specs.declared.refusal.Refusal.TheVariants.{IllegalGate}
use Rattle.gates.specs.declared.end.End.{End}
use Rattle.gates.specs.Gates.{Kind, Lawful}
use Rattle.gates.specs.Refusals.{answer}
use Rattle.books.specs.declared.Book.{Book}
use Rattle.books.specs.Ends.{Ends, found, last, sound}
use Rattle.books.specs.Books.{ends, places}
use Rattle.books.proofs.Sound.{sound_put, sound_strike}
use Rattle.pieces.specs.Meanings.{Meaning}
use Rattle.pieces.specs.Jobs.{Job, Alike, shown}
use Rattle.pieces.proofs.Finding.{alike_trans}
use Rattle.job.specs.declared.call.Edit.{Edit}
use Rattle.job.specs.declared.call.Edit.TheVariants.{Put, TakeBack}
use Rattle.job.specs.Paper.{unless_some, declines, taken, done, step, edits}
use Rattle.job.specs.Calls.{Changes, against, Edited}
use Rattle.job.specs.Steps.{Stands, Stepped}
use Rattle.job.proofs.Reasons.{lines_agree, spoilt_none}
use Rattle.job.proofs.AlikeLaws.{done_alike}
use Rattle.job.proofs.Standing.{steps, paper_sound}

module _ {G : Type 0} (K : Kind G) (n room : ℕ) where
  against_paper : (c : Edit G) (es : Ends G) → sound K n es ≡ true → against K n n room c es ≡ declines K n room c es
  against_paper (Put e g) es h = lines_agree n n (declines K n room (Put e g) es) refl
  against_paper (TakeBack e) es h = spoilt_none K n n es (declines K n room (TakeBack e) es) refl (sym h)

  -- an accepted call leaves every gate legal
  take_sound : (o : Option G) (e : End) (j : Job G) → last (found e j.ends) ≡ o → unless_some o ≡ None → sound K n j.ends ≡ true →
      sound K n (taken K n e o j).ends ≡ true
  take_sound None e j p a h = h
  take_sound (Some g) e j p a h = sound_strike K n e g j.ends p h

  done_sound : (c : Edit G) (j : Job G) → declines K n room c j.ends ≡ None → sound K n j.ends ≡ true → sound K n (done K n c j).ends ≡ true
  done_sound (Put e g) j a h =
      ⊎_elim (λ p. sound_put K n e g j.ends h p)
      (λ p.
      let why : declines K n room (Put e g) j.ends ≡ Some IllegalGate = cond-false (K.legal n g) _ _ p in
      absurd (cc))
      (cases_Bool (K.legal n g))
  done_sound (TakeBack e) j a h = take_sound (last (found e j.ends)) e j refl a h

module _ {G T : Type 0} (K : Kind G) (law : Lawful K) (n : ℕ) (meaning : T → Meaning) (p₁ p₂ : T) (b₁ b₂ : Book G) (r : Result (Unit {0}) Refusal)
    (j : Job G) (before : Stands K n j (meaning p₁) b₁) where
  pub edit_steps : (c : Edit G) → r ≡ answer (against K n (meaning p₁).lines (places b₁) c (ends b₁)) →
      Changes (Edited K c) meaning r p₁ b₁ p₂ b₂ →
      Stepped K n (declines K n (places b₁) c j.ends) (step (edits K n (places b₁)) c j) r (meaning p₂) b₁ b₂
  edit_steps c told after =
      let room = places b₁ in
      let good = paper_sound K n j (meaning p₁) b₁ before in
      let why : against K n (meaning p₁).lines room c (ends b₁) ≡ declines K n room c j.ends =
      ap (λ (k : ℕ). against K n k room c (ends b₁)) before.same_lines
      ∙ ap (against K n n room c) before.alike.ends ∙ against_paper K n room c j.ends good in
      steps K n meaning p₁ p₂ b₁ b₂ r j (done K n c j) (declines K n room c j.ends) (told ∙ ap answer why) before
      (Edited K c)
      (λ none d.
      let here : Alike n (shown (meaning p₂) b₂) (done K n c (shown (meaning p₁) b₁)) =
      subst (λ (k : ℕ). Alike k (shown (meaning p₂) b₂) (done K k c (shown (meaning p₁) b₁))) before.same_lines d.job in
      let alike = alike_trans n (shown (meaning p₂) b₂) (done K n c (shown (meaning p₁) b₁)) (done K n c j) here (done_alike K law n c (shown (meaning p₁) b₁) j before.alike) in (
        record {
          same_lines = d.same_lines ∙ before.same_lines;
          alike = alike;
          legal = ap (sound K n) alike.ends ∙ done_sound K n room c j none good;
        },
        d.kept,
      ))
      after
