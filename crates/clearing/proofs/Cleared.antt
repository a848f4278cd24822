-- Clearing an unsolved line solves it, keeps the solved ones, and takes at most 4 (m - 1) + 1 gates where m lines are unsolved.
use Rattle.std.proofs.Common.{◌≡◌, ℕ, ◌+◌, ◌*◌, ◌<◌, ◌≤◌, Bool, true, false, not, eqb, ◌≢◌, List, [], ◌∷◌, length, sym, refl, ap, ◌∙◌, subst, inl, inr, arith}
use Rattle.std.proofs.lemmas.Bool.{cases_eq, ne_eqb, eq-eqb, both_ways, cases_Bool, and_parts, not_from_false, not_from_true, and_right}
use Rattle.gates.specs.declared.end.End.TheVariants.{Input, Output}
use Rattle.clearing.specs.Clearing.{replay, Grid, Work, solved, start, clear, rising, greedy_at, sweep_at, pivot, count, left, Placed}
use Rattle.clearing.proofs.Lawful.{Lawful, Solved}
use Rattle.clearing.proofs.Moves.{Inv}
use Rattle.clearing.proofs.Loops.{count_lt, count_none, count_top}
use Rattle.clearing.proofs.Tests.{solved_true, solved_from}
use Rattle.clearing.proofs.Stages.{rest, greedy, pivoted, Swept, swept}

module _ (G : Grid) (n : ℕ) (L : Lawful G n) where
  pub record Cleared (s : G.State) (d : ℕ) (w : Work G) : Type 0 where
    pub inv : Inv G n L s w
    pub done : Solved G n w.state d
    pub few : length w.gates ≤ 4 * count (rest G n s d) n + 1

  module _ (s : G.State) (good : L.Good s) (d : ℕ) (hd : d < n) (ud : Solved G n s d → ⊥) where
    -- what the two sweeps leave, put together
    both_swept : (m : ℕ) (w₂ w₃ w₄ : Work G) → length w₂.gates ≤ m
        → Swept G n L s d hd ud Output w₂.state (length w₂.gates) n w₃
        → Swept G n L s d hd ud Input w₃.state (length w₃.gates) n w₄
        → m ≤ 2 * count (rest G n s d) n + 1 → Cleared s d w₄
    both_swept m w₂ w₃ w₄ len c e le = record { inv = e.inv; done = solved_d; few = omega (arith, c.few, e.few) }
      where
        off : (k : ℕ) → k ≢ d → eqb d k ≡ false
        off k ne = ne_eqb d k (λ p. ne (sym p))

        solved_d : Solved G n w₄.state d
        solved_d Output k hk =
            elim (cases_eq k d) [
              | inl p ↦ ap (G.entry w₄.state d) p ∙ e.lit ∙ sym (eq-eqb d k (sym p))
              | inr q ↦ e.clean k hk q ∙ sym (off k q)
            ]
        solved_d Input k hk =
            elim (cases_eq k d) [
              | inl p ↦ ap (λ (x : ℕ). G.entry w₄.state x d) p ∙ e.lit ∙ sym (eq-eqb d k (sym p))
              | inr q ↦ e.same k hk ∙ c.clean k hk q ∙ sym (off k q)
            ]

    pub cleared : Cleared s d (clear G n d (start G s))
    unfolding clear rising
    cleared =
        let a = greedy G n L s d hd ud (start G s) (record { good = good; kept = λ k hk h. h; led = refl; legal = refl }) in
        let b = pivoted G n L s d hd ud (rising (greedy_at G n d) 0 n (start G s)) a.0 in
        let c = swept G n L s d hd ud Output (pivot G n d (rising (greedy_at G n d) 0 n (start G s))) b.0 b.1 in
        let e = swept G n L s d hd ud Input (rising (sweep_at G Output d) 0 n (pivot G n d (rising (greedy_at G n d) 0 n (start G s)))) c.inv c.lit in
        both_swept _ (pivot G n d (rising (greedy_at G n d) 0 n (start G s))) _ _ b.2 c e (omega (arith, a.1))

  -- ---- the number of unsolved lines

  pub unsolved : G.State → ℕ → Bool
  unsolved s i = not (solved G n s i)

  unsolved_yes : (s : G.State) (i : ℕ) → (Solved G n s i → ⊥) → unsolved s i ≡ true
  unfolding unsolved
  unsolved_yes s i h = elim (cases_Bool (solved G n s i)) [ inl e ↦ absurd (h (solved_true G n s i e)) | inr e ↦ not_from_false (solved G n s i) e ]

  unsolved_no : (s : G.State) (i : ℕ) → Solved G n s i → unsolved s i ≡ false
  unfolding unsolved
  unsolved_no s i h = not_from_true (solved G n s i) (solved_from G n s i h)

  no_unsolved : (s : G.State) (i : ℕ) → unsolved s i ≡ false → Solved G n s i
  unfolding unsolved
  no_unsolved s i e = elim (cases_Bool (solved G n s i)) [ inl q ↦ solved_true G n s i q | inr q ↦ absurd (both_ways (not (solved G n s i)) e (not_from_false _ q)) ]

  -- the others are fewer, and none of them left means that d itself is solved
  pub rest_fewer : (s : G.State) (d : ℕ) → d < n → (Solved G n s d → ⊥) → count (rest G n s d) n < left G n s
  unfolding rest left unsolved
  rest_fewer s d hd ud =
      count_lt (rest G n s d) (unsolved s) n d (λ k hk e. (and_parts (not (solved G n s k)) (not (eqb k d)) e).0) hd
      (and_right (not (solved G n s d)) (not (eqb d d)) (not_from_true (eqb d d) (eq-eqb d d refl))) (unsolved_yes s d ud)

  pub left_falls : (s : G.State) (d : ℕ) (w : Work G) → d < n → (Solved G n s d → ⊥) → Cleared s d w → left G n w.state < left G n s
  unfolding left unsolved
  left_falls s d w hd ud c =
      count_lt (unsolved w.state) (unsolved s) n d
      (λ k hk e. unsolved_yes s k (λ h. both_ways (unsolved w.state k) (unsolved_no w.state k (c.inv.kept k hk h)) e))
      hd (unsolved_no w.state d c.done) (unsolved_yes s d ud)

  pub none_left : (s : G.State) → left G n s ≡ 0 → (k : ℕ) → k < n → Solved G n s k
  unfolding left unsolved
  none_left s e k hk = no_unsolved s k (count_none (unsolved s) n e k hk)

  -- one line alone cannot be unsolved
  pub never_one : (s : G.State) → L.Good s → (d : ℕ) → d < n → (Solved G n s d → ⊥) → 1 ≤ count (rest G n s d) n
  unfolding rest
  never_one s good d hd ud = elim (cases_eq (count (rest G n s d) n) 0) [ inl e ↦ absurd (ud (alone e)) | inr q ↦ omega arith ]
    where
      other : count (rest G n s d) n ≡ 0 → (k : ℕ) → k < n → k ≢ d → Solved G n s k
      other e k hk ne =
          elim (cases_Bool (solved G n s k)) [
            | inl q ↦ solved_true G n s k q
            | inr q ↦ absurd (both_ways (rest G n s d k) (count_none (rest G n s d) n e k hk) (rw (q, ne_eqb k d ne) refl))
          ]

      alone : count (rest G n s d) n ≡ 0 → Solved G n s d
      alone e = at
        where
          c : (i : ℕ) × (i < n) × (G.entry s i d ≡ true)
          c = L.column s good d hd

          lit : G.entry s d d ≡ true
          lit =
              elim (cases_eq c.0 d) [
                | inl p ↦ subst (λ (x : ℕ). G.entry s x d ≡ true) p c.2
                | inr q ↦ absurd (both_ways (G.entry s c.0 d) (other e c.0 c.1 q Output d hd ∙ ne_eqb c.0 d q) c.2)
              ]

          off : (k : ℕ) → k ≢ d → eqb k d ≡ eqb d k
          off k q = ne_eqb k d q ∙ sym (ne_eqb d k (λ p. q (sym p)))

          at : Solved G n s d
          at Output k hk =
              elim (cases_eq k d) [
                | inl p ↦ ap (G.entry s d) p ∙ lit ∙ sym (eq-eqb d k (sym p))
                | inr q ↦ other e k hk q Input d hd ∙ off k q
              ]
          at Input k hk =
              elim (cases_eq k d) [
                | inl p ↦ ap (λ (x : ℕ). G.entry s x d) p ∙ lit ∙ sym (eq-eqb d k (sym p))
                | inr q ↦ other e k hk q Output d hd ∙ off k q
              ]

  pub left_top : (s : G.State) → left G n s ≤ n
  unfolding left unsolved
  left_top s = count_top (unsolved s) n

  -- at least one gate: with none, d would still be unsolved
  pub some_gate : (s : G.State) (d : ℕ) (w : Work G) → (Solved G n s d → ⊥) → Cleared s d w → 1 ≤ length w.gates
  some_gate s d w ud c = go w.gates refl
    where
      go : (gs : List Placed) → w.gates ≡ gs → 1 ≤ length gs
      go [] e = absurd (ud (subst (λ (x : G.State). Solved G n x d) (sym (sym (ap (λ (gs : List Placed). replay G gs s) e) ∙ c.inv.led)) c.done))
      go (g ∷ gs) e = omega arith
