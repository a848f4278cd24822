-- A gate between two lines that were unsolved at s₀ keeps each line that was solved there.
use Rattle.std.proofs.Common.{◌≡◌, ℕ, ◌<◌, ◌≤◌, true, eqb, ◌≢◌, [], ◌∷◌, sym, refl, ap, ◌∙◌, subst, ap₂, inl, inr}
use mathlib.Core.Bool.{xor}
use Rattle.std.proofs.lemmas.Bool.{cases_eq, ne_eqb, both_ways}
use Rattle.gates.specs.declared.end.End.{End}
use Rattle.gates.specs.declared.end.End.TheVariants.{Input, Output}
use Rattle.gates.specs.Cnots.{cnot, cnot_legal}
use Rattle.pieces.specs.Runs.{gates_legal}
use Rattle.matrices.proofs.Additions.{legal_when}
use Rattle.clearing.specs.Clearing.{Grid, Work, adding, line, put, replay}
use Rattle.clearing.proofs.Loops.{legal_append, replay_append}
use Rattle.clearing.proofs.Lawful.{Lawful, Solved}

pub adding_legal : (n : ℕ) → n ≤ 64 → (e : End) (a b : ℕ) → a < n → b < n → a ≢ b → cnot_legal n (adding e a b).1 ≡ true
adding_legal n few Output a b ha hb ne = legal_when n (record { control = a; target = b }) few ha hb ne
adding_legal n few Input a b ha hb ne = legal_when n (record { control = b; target = a }) few hb ha (λ p. ne (sym p))

module _ (G : Grid) (n : ℕ) (L : Lawful G n) where
  pub record Inv (s₀ : G.State) (w : Work G) : Type 0 where
    pub good : L.Good w.state
    pub kept : (k : ℕ) → k < n → Solved G n s₀ k → Solved G n w.state k
    pub led : replay G w.gates s₀ ≡ w.state
    pub legal : gates_legal cnot n w.gates ≡ true

  -- a line k that the gate does not touch: at the gate's own end, and across
  own : (s : G.State) (e : End) (a b : ℕ) → a < n → b < n → a ≢ b → L.Good s
      → (k : ℕ) → k < n → k ≢ b → ((j : ℕ) → j < n → line G e s k j ≡ eqb k j)
      → (j : ℕ) → j < n → line G e (G.place (adding e a b) s) k j ≡ eqb k j
  own s e a b ha hb ne g k hk kb h j hj = L.others e a b s ha hb ne g k j hk hj kb ∙ h j hj

  across : (s : G.State) (e : End) (a b : ℕ) → a < n → b < n → a ≢ b → L.Good s
      → (k : ℕ) → k < n → k ≢ a → k ≢ b → ((j : ℕ) → j < n → line G e s j k ≡ eqb k j)
      → (j : ℕ) → j < n → line G e (G.place (adding e a b) s) j k ≡ eqb k j
  unfolding xor
  across s e a b ha hb ne g k hk ka kb h j hj = elim (cases_eq j b) [ inl p ↦ at_b p | inr q ↦ L.others e a b s ha hb ne g j k hj hk q ∙ h j hj ]
    where
      at_b : j ≡ b → line G e (G.place (adding e a b) s) j k ≡ eqb k j
      at_b p =
          ap (λ (x : ℕ). line G e (G.place (adding e a b) s) x k) p ∙ L.sums e a b s ha hb ne g k hk
          ∙ ap₂ xor (h b hb ∙ ne_eqb k b kb) (h a ha ∙ ne_eqb k a ka) ∙ sym (ne_eqb k j (λ x. kb (x ∙ p)))

  pub move : (s₀ : G.State) (w : Work G) (e : End) (a b : ℕ) → a < n → b < n → a ≢ b → (Solved G n s₀ a → ⊥) → (Solved G n s₀ b → ⊥)
      → Inv s₀ w → Inv s₀ (put G (adding e a b) w)
  move s₀ w e a b ha hb ne ua ub v = record {
    good = L.stays e a b s ha hb ne v.good;
    kept = kept' e;
    led = replay_append G w.gates (adding e a b ∷ []) s₀ ∙ ap (G.place (adding e a b)) v.led;
    legal = legal_append n w.gates (adding e a b ∷ []) v.legal (rw (adding_legal n L.lines e a b ha hb ne) refl);
  }
    where
      s : G.State
      s = w.state

      ka : (k : ℕ) → Solved G n s₀ k → k ≢ a
      ka k h p = ua (subst (Solved G n s₀) p h)

      kb : (k : ℕ) → Solved G n s₀ k → k ≢ b
      kb k h p = ub (subst (Solved G n s₀) p h)

      kept' : (e : End) (k : ℕ) → k < n → Solved G n s₀ k → Solved G n (G.place (adding e a b) s) k
      kept' Output k hk h Output = own s Output a b ha hb ne v.good k hk (kb k h) (v.kept k hk h Output)
      kept' Output k hk h Input = across s Output a b ha hb ne v.good k hk (ka k h) (kb k h) (v.kept k hk h Input)
      kept' Input k hk h Input = own s Input a b ha hb ne v.good k hk (kb k h) (v.kept k hk h Input)
      kept' Input k hk h Output = across s Input a b ha hb ne v.good k hk (ka k h) (kb k h) (v.kept k hk h Output)

  -- a line that has a one off the diagonal is unsolved
  pub loose : (s₀ : G.State) (w : Work G) (e : End) (i d : ℕ) → i < n → d < n → i ≢ d → line G e w.state i d ≡ true → Inv s₀ w
      → Solved G n s₀ i → ⊥
  loose s₀ w e i d hi hd ne one v h = both_ways (line G e w.state i d) (v.kept i hi h e d hd ∙ ne_eqb i d ne) one
