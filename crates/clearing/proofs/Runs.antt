-- A run from an invertible matrix ends at cost 0, with each line solved, after at most (n - 1) (2 n + 1) gates.
use Rattle.std.proofs.Common.{◌≡◌, ℕ, zero, suc, ◌+◌, ◌<◌, ◌≤◌, true, not, eqb, ◌≢◌, List, [], ◌∷◌, ◌++◌, length, sym, refl, ap, ◌∙◌, subst, inl, inr, arith, length-append}
use Rattle.std.proofs.lemmas.Bool.{cases_eq, eq-eqb, ne_eqb, both_ways, cond-true, cond-false, not-true, not-false}
use Rattle.gates.specs.Cnots.{cnot}
use Rattle.pieces.specs.Runs.{gates_legal}
use Rattle.clearing.specs.Clearing.{Grid, Work, replay, solved, start, clear, trials, best_trial, after, keep_best, turn, turns, run, count, left}
use Rattle.clearing.specs.Laws.{room}
use Rattle.clearing.proofs.Lawful.{Lawful, Solved}
use Rattle.clearing.proofs.Moves.{Inv}
use Rattle.clearing.proofs.Loops.{All, all_if, if_nil, legal_append, replay_append, best_trial_all}
use Rattle.clearing.proofs.Tests.{solved_true, solved_from}
use Rattle.clearing.proofs.Stages.{rest}
use Rattle.clearing.proofs.Rooms.{room_mono, room_step}
use Rattle.clearing.proofs.Cleared.{Cleared, cleared, rest_fewer, left_falls, none_left, never_one, left_top}

module _ (G : Grid) (n : ℕ) (L : Lawful G n) where
  -- ---- the trials of a turn

  abbrev Trial : G.State → Work G → Type 0
  Trial s t = (d : ℕ) × (d < n) × (Solved G n s d → ⊥) × Cleared G n L s d t

  trials_all : (s : G.State) → L.Good s → (k m : ℕ) → k + m ≡ n → All (Trial s) (trials G n s k m)
  unfolding trials
  trials_all s good k zero e = tt
  trials_all s good k (suc m) e =
      all_if (Trial s) (not (solved G n s k)) (clear G n k (start G s)) _
      (λ q.
      let hk : k < n = omega arith in
      let uk : Solved G n s k → ⊥ = λ h. both_ways (solved G n s k) (not-true (solved G n s k) q) (solved_from G n s k h) in
      (k, hk, uk, cleared G n L s good k hk uk))
      (trials_all s good (suc k) m (omega arith))

  trials_none : (s : G.State) (k m : ℕ) → trials G n s k m ≡ [] → (i : ℕ) → k ≤ i → i < k + m → Solved G n s i
  unfolding solved trials
  trials_none s k zero e i h₁ h₂ = absurd (omega arith)
  trials_none s k (suc m) e i h₁ h₂ =
      let a = if_nil (not (solved G n s k)) (clear G n k (start G s)) (trials G n s (suc k) m) e in
      elim (cases_eq k i) [
        | inl p ↦ subst (Solved G n s) p (solved_true G n s k (not-false (solved G n s k) a.0))
        | inr q ↦ trials_none s (suc k) m a.1 i (omega arith) (omega arith)
      ]

  -- ---- the run

  pub record Ran (s : G.State) (w : Work G) : Type 0 where
    pub good : L.Good w.state
    pub led : replay G w.gates s ≡ w.state
    pub legal : gates_legal cnot n w.gates ≡ true

  ran_after : (s : G.State) (w t : Work G) → Ran s w → Inv G n L w.state t → Ran s (after G w t)
  ran_after s w t r v = record {
    good = v.good;
    led = replay_append G w.gates t.gates s ∙ ap (replay G t.gates) r.led ∙ v.led;
    legal = legal_append n w.gates t.gates r.legal v.legal;
  }

  -- a turn at a cost other than 0 keeps a trial
  kept : (w : Work G) (ts : List (Work G)) → (ts ≡ [] → ⊥) → All (Trial w.state) ts → (t : Work G) × (keep_best G ts w ≡ after G w t) × Trial w.state t
  unfolding keep_best
  kept w [] some all = absurd (some refl)
  kept w (t ∷ ts) some all = (best_trial G w.state t ts, refl, best_trial_all G w.state (Trial w.state) t ts all.0 all.1)

  turned : (w : Work G) → L.Good w.state → G.cost w.state ≢ 0 → (t : Work G) × (turn G n w ≡ after G w t) × Trial w.state t
  unfolding turn
  turned w good ne =
      let k = kept w (trials G n w.state 0 n)
      (λ e. ne (L.settled w.state good (λ i hi. trials_none w.state 0 n e i (omega arith) (omega arith))))
      (trials_all w.state good 0 n (omega arith)) in
      (k.0, cond-false (eqb (G.cost w.state) 0) w (keep_best G (trials G n w.state 0 n) w) (ne_eqb _ _ ne) ∙ k.1, k.2)

  idle : (w : Work G) → G.cost w.state ≡ 0 → turn G n w ≡ w
  unfolding turn
  idle w e = cond-true (eqb (G.cost w.state) 0) w (keep_best G (trials G n w.state 0 n) w) (eq-eqb _ _ e)

  pub idles : (k : ℕ) (w : Work G) → G.cost w.state ≡ 0 → turns G n k w ≡ w
  unfolding turns
  idles zero w e = refl
  idles (suc k) w e = ap (turns G n k) (idle w e) ∙ idles k w e

  -- a turn leaves fewer unsolved lines, within the room that there was
  pub record Advanced (w v : Work G) : Type 0 where
    pub fewer : left G n v.state < left G n w.state
    pub fits : length v.gates + room (left G n v.state) ≤ length w.gates + room (left G n w.state)
    pub good : L.Good v.state

  pub turn_advances : (w : Work G) → L.Good w.state → G.cost w.state ≢ 0 → Advanced w (turn G n w)
  turn_advances w good q =
      let p = turned w good q in
      let t : Work G = p.0 in
      let tr : Trial w.state t = p.2 in
      let falls : left G n t.state < left G n w.state = left_falls G n L w.state tr.0 t tr.1 tr.2 tr.3 in
      subst (Advanced w) (sym p.1)
      (record {
        fewer = falls;
        fits = omega (
          arith,
          length-append w.gates t.gates,
          tr.3.few,
          room_step (left G n w.state) (left G n t.state) (count (rest G n w.state tr.0) n) falls
              (rest_fewer G n L w.state tr.0 tr.1 tr.2) (never_one G n L w.state good tr.0 tr.1 tr.2),
        );
        good = tr.3.inv.good;
      })

  pub record Ended (s : G.State) (b : ℕ) (w : Work G) : Type 0 where
    pub ran : Ran s w
    pub zero_cost : G.cost w.state ≡ 0
    pub few : length w.gates ≤ b

  ends : (s : G.State) (k : ℕ) (w : Work G) → Ran s w → left G n w.state ≤ k
      → Ended s (length w.gates + room (left G n w.state)) (turns G n k w)
  unfolding turns
  ends s zero w r h = record {
    ran = r;
    zero_cost = L.settled w.state r.good (none_left G n L w.state (omega arith));
    few = omega arith;
  }
  ends s (suc k) w r h =
      elim (cases_eq (G.cost w.state) 0) [
        | inl e ↦
            subst (Ended s (length w.gates + room (left G n w.state))) (sym (idles (suc k) w e))
            (record { ran = r; zero_cost = e; few = omega arith })
        | inr q ↦
            let p = turned w r.good q in
            let t : Work G = p.0 in
            let tr : Trial w.state t = p.2 in
            let falls : left G n t.state < left G n w.state = left_falls G n L w.state tr.0 t tr.1 tr.2 tr.3 in
            let e = ends s k (after G w t) (ran_after s w t r tr.3.inv) (omega arith) in
            let le : length (w.gates ++ t.gates) + room (left G n t.state) ≤ length w.gates + room (left G n w.state) =
            omega (
              arith,
              length-append w.gates t.gates,
              tr.3.few,
              room_step (left G n w.state) (left G n t.state) (count (rest G n w.state tr.0) n) falls
                  (rest_fewer G n L w.state tr.0 tr.1 tr.2) (never_one G n L w.state r.good tr.0 tr.1 tr.2),
            ) in
            subst (λ (x : Work G). Ended s (length w.gates + room (left G n w.state)) (turns G n k x)) (sym p.1)
            (record { ran = e.ran; zero_cost = e.zero_cost; few = omega (arith, e.few, le) })
      ]

  pub run_ends : (s : G.State) → L.Good s → Ended s (room n) (run G n s)
  unfolding run turns
  run_ends s good =
      let e = ends s n (start G s) (record { good = good; led = refl; legal = refl }) (left_top G n L s) in
      record { ran = e.ran; zero_cost = e.zero_cost; few = omega (arith, e.few, room_mono (left G n s) n (left_top G n L s)) }
