-- The choice of the line, one unsolved line at a time.
use Rattle.std.proofs.Common.{◌≡◌, ℕ, zero, suc, ◌+◌, ◌-◌, ◌*◌, ◌<◌, ◌≤◌, Bool, true, false, cond, not, eqb, ltb, List, Some, None, Option, MatchOption, sym, refl, ap, ◌∙◌, subst, ap₂, add-one, arith}
use Rattle.std.proofs.lemmas.Bool.{cond-true, cond-false, cond_both, not_from_false, not_from_true, ne_eqb}
use Rattle.clearing.specs.Clearing.{Work, solved, better, best_trial, trials, keep_best, after, turn, cons_if}
use Rattle.clearing.specs.Pairs.{cost, pairs}
use Rattle.clearing.specs.Pairs.{Pair as State}
use Rattle.elimination.specs.declared.pair.cleared.Cleared.{Cleared}
use Rattle.elimination.specs.Lines.{trial_of, choose_line, best_line, Tried, steeper, line_of, Remembered}

-- ---- one line against another

module _ (n : ℕ) (s : State) (before : ℕ) (old new : Cleared) (b : before ≡ cost s) (o : Tried n s old) (t : Tried n s new) where
  steep : Bool
  steep = ltb (before * new.count + new.left * old.count) (before * old.count + old.left * new.count)

  better_is : better pairs s (trial_of n s old.line) (trial_of n s new.line) ≡ steep
  unfolding better steep
  better_is =
      sym
      (ap₂ ltb (ap₂ (λ (x y : ℕ). x + y) (ap₂ (λ (x y : ℕ). x * y) b t.count) (ap₂ (λ (x y : ℕ). x * y) t.left o.count))
      (ap₂ (λ (x y : ℕ). x + y) (ap₂ (λ (x y : ℕ). x * y) b o.count) (ap₂ (λ (x y : ℕ). x * y) o.left t.count)))

  pub steeper_is : Tried n s (steeper before old new) × (◌≡◌ {A = Option ℕ} (Some (steeper before old new).line) (choose_line n s (Some old.line) new.line))
  unfolding steep
  steeper_is =
      cond_both steep new old (λ (x : Cleared). Tried n s x × (◌≡◌ {A = Option ℕ} (Some x.line) (choose_line n s (Some old.line) new.line)))
      (λ e. (t, ap Some (sym (cond-true _ new.line old.line (better_is ∙ e)))))
      (λ e. (o, ap Some (sym (cond-false _ new.line old.line (better_is ∙ e)))))

-- the choice so far against one more
pub chosen_is : (n : ℕ) (s : State) (before : ℕ) (best : Option Cleared) (new result : Cleared) → before ≡ cost s → Remembered n s best → Tried n s new
    → MatchOption best (result ≡ new) (λ old. result ≡ steeper before old new) → (◌≡◌ {A = Option ℕ} (Some result.line) (choose_line n s (line_of best) new.line))
chosen_is n s before None new result b r t h = ap (λ (x : Cleared). Some x.line) h
chosen_is n s before (Some old) new result b r t h = ap (λ (x : Cleared). Some x.line) h ∙ (steeper_is n s before old new b r t).1

-- ---- a loop over the lines

pub record Lining (n : ℕ) (s : State) (best : Option Cleared) (k : ℕ) : Type 0 where
  pub remembers : Remembered n s best
  pub whole : best_line n s (line_of best) k (n - k) ≡ best_line n s None 0 n

pub lining_none : (n : ℕ) (s : State) → Lining n s None 0
lining_none n s =
    let e : n - 0 ≡ n = omega arith in
    record { remembers = tt; whole = ap (λ (k : ℕ). best_line n s None 0 k) e }

module _ (n : ℕ) (s : State) (best : Option Cleared) (k : ℕ) (h : Lining n s best k) (lt : k < n) (best'' : Option Cleared) where
  more : line_of best'' ≡ cond (not (solved pairs n s k)) (choose_line n s (line_of best) k) (line_of best) → Remembered n s best'' → Lining n s best'' (k + 1)
  unfolding best_line
  more f r =
      let e : suc (n - (k + 1)) ≡ n - k = omega arith in
      record {
        remembers = r;
        whole = ap₂ (λ (o : Option ℕ) (j : ℕ). best_line n s o j (n - (k + 1))) f (add-one k) ∙ ap (λ (j : ℕ). best_line n s (line_of best) k j) e ∙ h.whole;
      }

  pub lining_yes : (best' : Option Cleared) → solved pairs n s k ≡ false → line_of best' ≡ choose_line n s (line_of best) k → Remembered n s best' → best'' ≡ best'
      → Lining n s best'' (k + 1)
  lining_yes best' off f r e =
      more (ap line_of e ∙ f ∙ sym (cond-true _ _ _ (not_from_false _ off))) (subst (Remembered n s) (sym e) r)

  pub lining_no : solved pairs n s k ≡ true → best'' ≡ best → Lining n s best'' (k + 1)
  lining_no on e = more (ap line_of e ∙ sym (cond-false _ _ _ (not_from_true _ on))) (subst (Remembered n s) (sym e) h.remembers)

pub lining_all : (n : ℕ) (s : State) (best : Option Cleared) (k : ℕ) → Lining n s best k → n ≤ k → line_of best ≡ best_line n s None 0 n
unfolding best_line
lining_all n s best k h le =
    let e : 0 ≡ n - k = omega arith in
    ap (λ (j : ℕ). best_line n s (line_of best) k j) e ∙ h.whole

-- ---- against the trials of a turn

abbrev pub after_maybe : ℕ → Option ℕ → Work pairs → Work pairs
after_maybe n None w = w
after_maybe n (Some d) w = after pairs w (trial_of n w.state d)

cond_map : {A B : Type 0} (f : A → B) (b : Bool) (x y : A) → cond b (f x) (f y) ≡ f (cond b x y)
cond_map f true x y = refl
cond_map f false x y = refl

trial_if : (s : State) (a x : Work pairs) (b : Bool) (xs : List (Work pairs))
    → best_trial pairs s a (cons_if b x xs) ≡ best_trial pairs s (cond b (cond (better pairs s a x) x a) a) xs
unfolding best_trial
trial_if s a x true xs = refl
trial_if s a x false xs = refl

from_some : (n : ℕ) (w : Work pairs) (a k m : ℕ)
    → after pairs w (best_trial pairs w.state (trial_of n w.state a) (trials pairs n w.state k m)) ≡ after_maybe n (best_line n w.state (Some a) k m) w
unfolding best_line best_trial trials
from_some n w a k zero = refl
from_some n w a k (suc m) =
    let p = w.state in
    let t = trial_of n w.state in
    let b = not (solved pairs n w.state k) in
    let q = better pairs w.state (trial_of n w.state a) (trial_of n w.state k) in
    let same : cond b (cond q (t k) (t a)) (t a) ≡ t (cond b (cond q k a) a) =
    ap (λ (x : Work pairs). cond b x (t a)) (cond_map t q k a) ∙ cond_map t b (cond q k a) a in
    ap (after pairs w) (trial_if p (t a) (t k) b (trials pairs n p (suc k) m) ∙ ap (λ (x : Work pairs). best_trial pairs p x (trials pairs n p (suc k) m)) same)
    ∙ from_some n w (cond b (cond q k a) a) (suc k) m
    ∙ ap (λ (o : Option ℕ). after_maybe n (best_line n p o (suc k) m) w) (sym (cond_map Some b (cond q k a) a))

from_none : (n : ℕ) (w : Work pairs) (k m : ℕ) → keep_best pairs (trials pairs n w.state k m) w ≡ after_maybe n (best_line n w.state None k m) w
unfolding best_line keep_best trials
from_none n w k zero = refl
from_none n w k (suc m) = go (solved pairs n w.state k) refl (from_none n w (suc k) m)
  where
    p : State
    p = w.state

    go : (b : Bool) → solved pairs n p k ≡ b
        → keep_best pairs (trials pairs n p (suc k) m) w ≡ after_maybe n (best_line n p None (suc k) m) w
        → keep_best pairs (cons_if (not (solved pairs n p k)) (trial_of n p k) (trials pairs n p (suc k) m)) w
        ≡ after_maybe n (best_line n p (cond (not (solved pairs n p k)) (choose_line n p None k) None) (suc k) m) w
    go true e ih = rw e ih
    go false e ih = rw e (from_some n w k (suc k) m)

-- a turn keeps the line chosen
pub turn_is : (n : ℕ) (w : Work pairs) → (cost w.state ≡ 0 → ⊥) → turn pairs n w ≡ after_maybe n (best_line n w.state None 0 n) w
unfolding turn
turn_is n w q = cond-false (eqb (cost w.state) 0) w _ (ne_eqb _ _ q) ∙ from_none n w 0 n

-- where all lines are solved there is none to choose
pub none_chosen : (n : ℕ) (s : State) (o : Option ℕ) (k m : ℕ) → ((i : ℕ) → k ≤ i → i < k + m → solved pairs n s i ≡ true) → best_line n s o k m ≡ o
unfolding best_line
none_chosen n s o k zero h = refl
none_chosen n s o k (suc m) h =
    ap (λ (x : Option ℕ). best_line n s x (suc k) m) (cond-false (not (solved pairs n s k)) (choose_line n s o k) o (not_from_true _ (h k (omega arith) (omega arith))))
    ∙ none_chosen n s o (suc k) m (λ i l₁ l₂. h i (omega arith) (omega arith))
