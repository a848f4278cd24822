-- The four stages of clearing line d, from a state s₀ in which d is unsolved.
use Rattle.std.proofs.Common.{◌≡◌, ℕ, zero, suc, ◌+◌, ◌*◌, ◌<◌, ◌≤◌, Bool, true, false, not, ◌&&◌, ◌||◌, eqb, leb, ◌≢◌, List, [], ◌∷◌, length, sym, refl, ap, ◌∙◌, subst, ap₂, inl, inr, not-suc-le-zero, arith, length-append}
use mathlib.Core.Bool.{xor}
use Rattle.std.proofs.lemmas.Bool.{cases_eq, ne_eqb, both_ways, cond_both, and_parts, or_parts, eqb-false, not-true, cases_Bool, and_cases, not-false, eqb-true}
use Rattle.gates.specs.declared.end.End.{End}
use Rattle.gates.specs.declared.end.End.TheVariants.{Input, Output}
use Rattle.clearing.specs.Clearing.{Grid, Work, adding, line, put, try, best, put_best, solved, greedy_at, pivots, pivot, helpers, sweep_at, rising, count, Placed}
use Rattle.clearing.proofs.Lawful.{Lawful, Solved}
use Rattle.clearing.proofs.Moves.{Inv, move, loose}
use Rattle.clearing.proofs.Loops.{All, rising_ind, all_if, if_nil, best_all, count_yes, count_more}
use Rattle.clearing.proofs.Tests.{solved_true, solved_from}

pub put_length : (G : Grid) (g : Placed) (w : Work G) → length (put G g w).gates ≡ suc (length w.gates)
put_length G g w = length-append w.gates (g ∷ []) ∙ omega arith

-- the unsolved lines other than d
unfoldable pub rest : (G : Grid) → ℕ → G.State → ℕ → ℕ → Bool
rest G n s d i = not (solved G n s i) && not (eqb i d)

module _ (G : Grid) (n : ℕ) (L : Lawful G n) (s₀ : G.State) (d : ℕ) (hd : d < n) (ud : Solved G n s₀ d → ⊥) where
  rest_yes : (i : ℕ) → (Solved G n s₀ i → ⊥) → i ≢ d → rest G n s₀ d i ≡ true
  unfolding rest
  rest_yes i ui ne = elim (cases_Bool (solved G n s₀ i)) [ inl e ↦ absurd (ui (solved_true G n s₀ i e)) | inr e ↦ rw (e, ne_eqb i d ne) refl ]

  -- what stage 1 carries on: at most two gates for each line passed
  abbrev Greedy : ℕ → ℕ → Work G → Type 0
  Greedy b i w = Inv G n L s₀ w × (length w.gates ≤ b + 2 * count (rest G n s₀ d) i)

  tried : (e : End) (i : ℕ) (w : Work G) (m : ℕ) → i < n → i ≢ d → (Solved G n s₀ i → ⊥)
      → Inv G n L s₀ w × (length w.gates ≤ m)
      → Inv G n L s₀ (try G (adding e i d) w) × (length (try G (adding e i d) w).gates ≤ suc m)
  unfolding try
  tried e i w m hi ne ui h =
      cond_both (leb (G.cost (G.place (adding e i d) w.state) + 2) (G.cost w.state)) (put G (adding e i d) w) w
      (λ x. Inv G n L s₀ x × (length x.gates ≤ suc m))
      (λ _. (move G n L s₀ w e i d hi hd ne ui ud h.0, omega (arith, put_length G (adding e i d) w, h.1)))
      (λ _. (h.0, omega (arith, h.1)))

  greedy_step : (b i m : ℕ) (w : Work G) → i + suc m ≡ n → Greedy b i w → Greedy b (suc i) (greedy_at G n d i m w)
  unfolding greedy_at
  greedy_step b i m w e h =
      cond_both (eqb i d || solved G n w.state i) w (try G (adding Input i d) (try G (adding Output i d) w))
      (Greedy b (suc i))
      (λ _. (h.0, omega (arith, h.1, count_more (rest G n s₀ d) i)))
      (λ q. two (or_parts (eqb i d) (solved G n w.state i) q))
    where
      two : (eqb i d ≡ false) × (solved G n w.state i ≡ false) → Greedy b (suc i) (try G (adding Input i d) (try G (adding Output i d) w))
      two q =
          let ne : i ≢ d = eqb-false i d q.0 in
          let hi : i < n = omega arith in
          let ui : Solved G n s₀ i → ⊥ = λ x. both_ways (solved G n w.state i) q.1 (solved_from G n w.state i (h.0.kept i hi x)) in
          let t = tried Input i (try G (adding Output i d) w) _ hi ne ui (tried Output i w _ hi ne ui h) in
          (t.0, omega (arith, t.1, count_yes (rest G n s₀ d) i (rest_yes i ui ne)))

  pub greedy : (w : Work G) → Inv G n L s₀ w
      → Inv G n L s₀ (rising (greedy_at G n d) 0 n w)
      × (length (rising (greedy_at G n d) 0 n w).gates ≤ length w.gates + 2 * count (rest G n s₀ d) n)
  greedy w h =
      rising_ind (Greedy (length w.gates)) (greedy_at G n d) n (greedy_step (length w.gates)) 0 n w (omega arith) (h, omega arith)

  -- ---- stage 2

  diag : (e : End) (s : G.State) → line G e s d d ≡ G.entry s d d
  diag Output s = refl
  diag Input s = refl

  abbrev Pivoted : Work G → Placed → Type 0
  Pivoted w g = Inv G n L s₀ (put G g w) × (G.entry (G.place g w.state) d d ≡ true)

  candidate : (w : Work G) (e : End) (i : ℕ) → Inv G n L s₀ w → G.entry w.state d d ≡ false → i < n → line G e w.state i d ≡ true
      → Pivoted w (adding e i d)
  unfolding xor
  candidate w e i v off hi one = (move G n L s₀ w e i d hi hd ne (loose G n L s₀ w e i d hi hd ne one v) ud v, lit)
    where
      s : G.State
      s = w.state

      ne : i ≢ d
      ne p = both_ways (G.entry s d d) off (sym (diag e s) ∙ ap (λ (x : ℕ). line G e s x d) (sym p) ∙ one)

      lit : G.entry (G.place (adding e i d) s) d d ≡ true
      lit = sym (diag e (G.place (adding e i d) s)) ∙ L.sums e i d s hi hd ne v.good d hd ∙ ap₂ xor (diag e s ∙ off) one

  pivots_all : (w : Work G) → Inv G n L s₀ w → G.entry w.state d d ≡ false → (k m : ℕ) → k + m ≡ n
      → All (Pivoted w) (pivots G w.state d k m)
  unfolding pivots
  pivots_all w v off k zero e = tt
  pivots_all w v off k (suc m) e =
      let hk : k < n = omega arith in
      all_if (Pivoted w) (G.entry w.state k d) (adding Output k d) _ (λ q. candidate w Output k v off hk q)
      (all_if (Pivoted w) (G.entry w.state d k) (adding Input k d) _ (λ q. candidate w Input k v off hk q)
      (pivots_all w v off (suc k) m (omega arith)))

  pivots_some : (s : G.State) (i k m : ℕ) → k ≤ i → i < k + m → G.entry s i d ≡ true → pivots G s d k m ≡ [] → ⊥
  unfolding pivots
  pivots_some s i k zero h₁ h₂ one e = omega arith
  pivots_some s i k (suc m) h₁ h₂ one e =
      let a = if_nil (G.entry s k d) (adding Output k d) _ e in
      let b = if_nil (G.entry s d k) (adding Input k d) (pivots G s d (suc k) m) a.1 in
      elim (cases_eq k i) [
        | inl p ↦ both_ways (G.entry s k d) a.0 (ap (λ (x : ℕ). G.entry s x d) p ∙ one)
        | inr q ↦ pivots_some s i (suc k) m (omega arith) (omega arith) one b.1
      ]

  abbrev Lit : ℕ → Work G → Type 0
  Lit b w = Inv G n L s₀ w × (G.entry w.state d d ≡ true) × (length w.gates ≤ b)

  put_one : (w : Work G) (gs : List Placed) → (gs ≡ [] → ⊥) → All (Pivoted w) gs → Lit (suc (length w.gates)) (put_best G gs w)
  unfolding put_best
  put_one w [] some all = absurd (some refl)
  put_one w (g ∷ gs) some all =
      let p = best_all G w.state (Pivoted w) g gs all.0 all.1 in
      (p.0, p.1, omega (arith, put_length G (best G w.state g gs) w))

  pub pivoted : (w : Work G) → Inv G n L s₀ w → Lit (suc (length w.gates)) (pivot G n d w)
  unfolding pivot
  pivoted w v =
      cond_both (G.entry w.state d d) w (put_best G (pivots G w.state d 0 n) w) (Lit (suc (length w.gates)))
      (λ q. (v, q, omega arith))
      (λ q.
      let c = L.column w.state v.good d hd in
      put_one w _ (pivots_some w.state c.0 0 n (omega arith) (omega arith) c.2) (pivots_all w v q 0 n (omega arith)))

  -- ---- stages 3 and 4

  -- after the lines below i, with s₁ the state at the stage's start and b the gates found by then
  pub record Swept (e : End) (s₁ : G.State) (b i : ℕ) (w : Work G) : Type 0 where
    pub inv : Inv G n L s₀ w
    pub lit : G.entry w.state d d ≡ true
    pub clean : (j : ℕ) → j < i → j ≢ d → line G e w.state j d ≡ false
    pub same : (k : ℕ) → k < n → line G e w.state d k ≡ line G e s₁ d k
    pub few : length w.gates ≤ b + count (rest G n s₀ d) i

  -- a gate that may be added: its control is another line with a one at d
  Helper : End → G.State → ℕ → Placed → Type 0
  Helper e s i g = (j : ℕ) × (g ≡ adding e j i) × (j < n) × (j ≢ i) × (line G e s j d ≡ true) × (Solved G n s₀ j → ⊥)

  helpers_all : (e : End) (w : Work G) (i : ℕ) → Inv G n L s₀ w → (k m : ℕ) → k + m ≡ n → i < k
      → All (Helper e w.state i) (helpers G e w.state d i k m)
  unfolding Helper helpers
  helpers_all e w i v k zero eq lt = tt
  helpers_all e w i v k (suc m) eq lt =
      all_if (Helper e w.state i) (not (eqb k d) && line G e w.state k d) (adding e k i) _
      (λ q.
      let p = and_parts (not (eqb k d)) (line G e w.state k d) q in
      let ne : k ≢ d = eqb-false k d (not-true (eqb k d) p.0) in
      let hk : k < n = omega arith in
      (k, refl, hk, omega arith, p.1, loose G n L s₀ w e k d hk hd ne p.1 v))
      (helpers_all e w i v (suc k) m (omega arith) (omega arith))

  one_more : (e : End) (s₁ : G.State) (b i : ℕ) (w : Work G) → i < n → i ≢ d → line G e w.state i d ≡ true → Swept e s₁ b i w
      → (g : Placed) → Helper e w.state i g → Swept e s₁ b (suc i) (put G g w)
  unfolding Helper xor
  one_more e s₁ b i w hi ne one h g (j, is, hj, ji, jone, uj) = subst (λ (g : Placed). Swept e s₁ b (suc i) (put G g w)) (sym is) after
    where
      s : G.State
      s = w.state

      ui : Solved G n s₀ i → ⊥
      ui = loose G n L s₀ w e i d hi hd ne one h.inv

      others : (r k : ℕ) → r < n → k < n → r ≢ i → line G e (G.place (adding e j i) s) r k ≡ line G e s r k
      others = L.others e j i s hj hi ji h.inv.good

      clean' : (r : ℕ) → r < suc i → r ≢ d → line G e (G.place (adding e j i) s) r d ≡ false
      clean' r hr rd =
          elim (cases_eq r i) [
            | inl p ↦ ap (λ (x : ℕ). line G e (G.place (adding e j i) s) x d) p ∙ L.sums e j i s hj hi ji h.inv.good d hd ∙ ap₂ xor one jone
            | inr q ↦ others r d (omega arith) hd q ∙ h.clean r (omega arith) rd
          ]

      di : d ≢ i
      di p = ne (sym p)

      after : Swept e s₁ b (suc i) (put G (adding e j i) w)
      after = record {
        inv = move G n L s₀ w e j i hj hi ji uj ui h.inv;
        lit = sym (diag e (G.place (adding e j i) s)) ∙ others d d hd hd di ∙ diag e s ∙ h.lit;
        clean = clean';
        same = λ k hk. others d k hd hk di ∙ h.same k hk;
        few = omega (arith, put_length G (adding e j i) w, h.few, count_yes (rest G n s₀ d) i (rest_yes i ui ne));
      }

  sweep_step : (e : End) (s₁ : G.State) (b i m : ℕ) (w : Work G) → i + suc m ≡ n → Swept e s₁ b i w → Swept e s₁ b (suc i) (sweep_at G e d i m w)
  unfolding Helper sweep_at
  sweep_step e s₁ b i m w eq h =
      cond_both (not (eqb i d) && line G e w.state i d)
      (put G (best G w.state (adding e d i) (helpers G e w.state d i (suc i) m)) w) w (Swept e s₁ b (suc i))
      (λ q.
      let p = and_parts (not (eqb i d)) (line G e w.state i d) q in
      let ne : i ≢ d = eqb-false i d (not-true (eqb i d) p.0) in
      one_more e s₁ b i w (omega arith) ne p.1 h (best G w.state (adding e d i) (helpers G e w.state d i (suc i) m))
      (best_all G w.state (Helper e w.state i) (adding e d i) (helpers G e w.state d i (suc i) m)
      (d, refl, hd, (λ x. ne (sym x)), diag e w.state ∙ h.lit, ud)
      (helpers_all e w i h.inv (suc i) m (omega arith) (omega arith))))
      (λ q. record {
        inv = h.inv;
        lit = h.lit;
        same = h.same;
        clean = λ j hj jd.
            elim (cases_eq j i) [
              | inl p ↦
                  elim (and_cases (not (eqb i d)) (line G e w.state i d) q) [
                    | inl a ↦ absurd (jd (p ∙ eqb-true i d (not-false (eqb i d) a)))
                    | inr a ↦ ap (λ (x : ℕ). line G e w.state x d) p ∙ a
                  ]
              | inr p ↦ h.clean j (omega arith) jd
            ];
        few = omega (arith, h.few, count_more (rest G n s₀ d) i);
      })

  pub swept : (e : End) (w : Work G) → Inv G n L s₀ w → G.entry w.state d d ≡ true
      → Swept e w.state (length w.gates) n (rising (sweep_at G e d) 0 n w)
  swept e w v l =
      rising_ind (Swept e w.state (length w.gates)) (sweep_at G e d) n (sweep_step e w.state (length w.gates)) 0 n w (omega arith)
      (record { inv = v; lit = l; clean = λ j hj jd. absurd (not-suc-le-zero hj); same = λ k hk. refl; few = omega arith })
