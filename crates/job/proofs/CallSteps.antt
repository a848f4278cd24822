-- A run is answered and done as on paper, and so is any call.
use Rattle.std.proofs.Common.{◌≡◌, ℕ, ◌+◌, ◌-◌, ◌^◌, ◌≤◌, true, length, Some, None, Err, Option, Result, sym, ap, ◌∙◌, subst, arith}
use Rattle.std.proofs.lemmas.Bool.{eq-eqb}
use Rattle.std.proofs.lemmas.Bool.Decides.{when_true}
use Rattle.words.specs.Maps.{Identity, Apart}
use Rattle.gates.specs.declared.refusal.Refusal.{Refusal}
use Rattle.gates.specs.declared.refusal.Refusal.TheVariants.{LinesDiffer}
use Rattle.gates.specs.Gates.{Kind, Lawful}
use Rattle.gates.specs.Refusals.{answer, short}
use Rattle.books.specs.declared.Book.{Book}
use Rattle.books.specs.Ends.{held, sound}
use Rattle.books.specs.Books.{places, free}
use Rattle.pieces.specs.Meanings.{Meaning}
use Rattle.pieces.specs.Jobs.{Job, Alike, shown, all_found}
use Rattle.pieces.specs.Runs.{Plan, RunTells, Ran, gates_legal}
use Rattle.pieces.proofs.Finding.{alike_trans, all_found_alike, all_found_sound, held_found}
use Rattle.job.specs.declared.call.Call.{Call}
use Rattle.job.specs.declared.call.Call.TheVariants.{ByHand, Run}
use Rattle.job.specs.Paper.{step, calls, call_declines, call_done, RunEnds}
use Rattle.job.specs.Calls.{Changes, RunAnswer, CallAnswer, CallDone}
use Rattle.job.specs.Steps.{Stands, Stepped}
use Rattle.job.proofs.ApartLaws.{no_clash}
use Rattle.job.proofs.Standing.{steps, paper_sound}
use Rattle.job.proofs.EditSteps.{edit_steps}

-- an accepted run on a piece and a book that stand as j does, told by the plan's gates for the map of j
pub record PaperRun {G : Type 0} (K : Kind G) (n : ℕ) (plan : Plan G) (j : Job G) (m₂ : Meaning) (b₂ : Book G) : Type 0 where
  pub alike : Alike n (shown m₂ b₂) (all_found K n (plan.gates n j.map) j)
  pub legal : gates_legal K n (plan.gates n j.map) ≡ true
  pub few : length (plan.gates n j.map) ≤ plan.budget n
  pub identity : Identity n m₂.map

module _ {G : Type 0} (K : Kind G) (law : Lawful K) (n : ℕ) (plan : Plan G) (j : Job G) (m₁ m₂ : Meaning) (b₁ b₂ : Book G) (before : Stands K n j m₁ b₁) where
  paper_run : Ran K plan m₁ b₁ m₂ b₂ → PaperRun K n plan j m₂ b₂
  paper_run ran =
      let f = m₁.map in
      let same : plan.gates n f ≡ plan.gates n j.map = ran.local n f j.map before.alike.map in
      let found : Alike n (shown m₂ b₂) (all_found K n (plan.gates n f) (shown m₁ b₁)) =
      subst (λ (k : ℕ). Alike k (shown m₂ b₂) (all_found K k (plan.gates k f) (shown m₁ b₁))) before.same_lines ran.found in
      let alike = alike_trans n (shown m₂ b₂) (all_found K n (plan.gates n f) (shown m₁ b₁)) (all_found K n (plan.gates n f) j) found (all_found_alike K law n (plan.gates n f) (shown m₁ b₁) j before.alike) in
      let legal : gates_legal K n (plan.gates n f) ≡ true = subst (λ (k : ℕ). gates_legal K k (plan.gates k f) ≡ true) before.same_lines ran.legal in
      let few : length (plan.gates n f) ≤ plan.budget n = subst (λ (k : ℕ). length (plan.gates k f) ≤ plan.budget k) before.same_lines ran.few in
      record {
        alike = subst (λ ps. Alike n (shown m₂ b₂) (all_found K n ps j)) same alike;
        legal = subst (λ ps. gates_legal K n ps ≡ true) same legal;
        few = subst (λ ps. length ps ≤ plan.budget n) same few;
        identity = subst (λ (k : ℕ). Identity k m₂.map) before.same_lines ran.identity;
      }

  run_stands : Ran K plan m₁ b₁ m₂ b₂ → Stands K n (all_found K n (plan.gates n j.map) j) m₂ b₂
  run_stands ran =
      let run = paper_run ran in
      record {
        same_lines = ran.same_lines ∙ before.same_lines;
        alike = run.alike;
        legal = ap (sound K n) run.alike.ends ∙ all_found_sound K n (plan.gates n j.map) j run.legal (paper_sound K n j m₁ b₁ before);
      }

  run_ends : Ran K plan m₁ b₁ m₂ b₂ →
      Identity n (all_found K n (plan.gates n j.map) j).map × (held (all_found K n (plan.gates n j.map) j).ends ≤ held j.ends + plan.budget n)
  run_ends ran =
      let run = paper_run ran in (
        (λ x h. sym (run.alike.map x h) ∙ run.identity x h),
        omega (arith, held_found K n (plan.gates n j.map) j, run.few),
      )

module _ {G T : Type 0} (K : Kind G) (law : Lawful K) (n : ℕ) (meaning : T → Meaning) (p₁ p₂ : T) (b₁ b₂ : Book G) (r : Result (Unit {0}) Refusal)
    (j : Job G) (before : Stands K n j (meaning p₁) b₁) (plan : Plan G) (apart : Apart (2 ^ n) (meaning p₁).map) where
  abbrev RanOr : Result (Unit {0}) Refusal → Type 0
  RanOr s = Changes (CallDone K plan Run) meaning s p₁ b₁ p₂ b₂

  run_told : RunAnswer plan n (meaning p₁) b₁ r → r ≡ answer (call_declines K n plan (places b₁) Run j)
  run_told tells =
      let m = meaning p₁ in
      let told : RunTells plan m b₁ r = when_true (RunTells plan m b₁ r) (r ≡ Err LinesDiffer) (eq-eqb n m.lines (sym before.same_lines)) tells in
      let apart' : Apart (2 ^ m.lines) m.map = subst (λ (k : ℕ). Apart (2 ^ k) m.map) (sym before.same_lines) apart in
      told.2 ∙ ap answer (no_clash m.lines m.map apart' told.0 told.1 (short (plan.budget m.lines) (free b₁)))
      ∙ ap (λ (k : ℕ). answer (short (plan.budget k) (free b₁))) before.same_lines
      ∙ ap (λ es. answer (short (plan.budget n) (places b₁ - held es))) before.alike.ends

  ended : (o : Option Refusal) → RanOr (answer o) → o ≡ None →
      Identity n (call_done K n plan Run j).map × (held (call_done K n plan Run j).ends ≤ held j.ends + plan.budget n)
  ended None ran e = run_ends K law n plan j (meaning p₁) (meaning p₂) b₁ b₂ before ran.0
  ended (Some why) same e = absurd (cc)

  run_steps : RunAnswer plan n (meaning p₁) b₁ r → RanOr r →
      Stepped K n (call_declines K n plan (places b₁) Run j) (step (calls K n plan (places b₁)) Run j) r (meaning p₂) b₁ b₂ × RunEnds K n plan (places b₁) Run j
  run_steps tells after =
      let o = call_declines K n plan (places b₁) Run j in
      let told = run_told tells in (
        steps K n meaning p₁ p₂ b₁ b₂ r j (call_done K n plan Run j) o told before (CallDone K plan Run)
            (λ none ran. (run_stands K law n plan j (meaning p₁) (meaning p₂) b₁ b₂ before ran.0, ran.1)) after,
        ended o (subst RanOr told after),
      )

  pub call_steps : (c : Call G) → CallAnswer K plan n c (meaning p₁) b₁ r →
      Changes (CallDone K plan c) meaning r p₁ b₁ p₂ b₂ →
      Stepped K n (call_declines K n plan (places b₁) c j) (step (calls K n plan (places b₁)) c j) r (meaning p₂) b₁ b₂ × RunEnds K n plan (places b₁) c j
  call_steps (ByHand c) told after = (edit_steps K law n meaning p₁ p₂ b₁ b₂ r j before c told after, tt)
  call_steps Run told after = run_steps told after
