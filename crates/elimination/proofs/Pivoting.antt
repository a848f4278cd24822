-- The choice of stage 2, a line at a time.
use Rattle.std.proofs.Common.{◌≡◌, ℕ, suc, ◌+◌, ◌-◌, ◌<◌, ◌≤◌, Bool, true, false, cond, ltb, List, [], ◌∷◌, Some, None, Option, sym, refl, ap, ◌∙◌, subst, ap₂, add-one, arith}
use Rattle.std.proofs.lemmas.Bool.{cond-true, cond-false}
use Rattle.gates.specs.declared.end.End.TheVariants.{Input, Output}
use Rattle.clearing.specs.Clearing.{Placed, Work, adding, line, put, best, put_best, pivots, pivot, cons_if}
use Rattle.clearing.specs.Pairs.{pairs, cost}
use Rattle.clearing.specs.Pairs.{Pair as State}
use Rattle.elimination.specs.declared.pair.Pair.{Pair}
use Rattle.elimination.specs.declared.pair.choice.Choice.{Choice}
use Rattle.elimination.specs.States.{state_of}
use Rattle.elimination.specs.Choices.{choose, best_of, gate_of, Fits}

of_if : (s : State) (o : Option Placed) (b : Bool) (g : Placed) (gs : List Placed) → best_of s o (cons_if b g gs) ≡ best_of s (cond b (choose s o g) o) gs
of_if s o true g gs = refl
of_if s o false g gs = refl

-- the choice after line i
abbrev pub after : State → ℕ → Option Placed → ℕ → Option Placed
after s d o i =
    let o₁ = cond (line pairs Output s i d) (choose s o (adding Output i d)) o in
    cond (line pairs Input s i d) (choose s o₁ (adding Input i d)) o₁

pub record Pivoting (n : ℕ) (s : State) (d : ℕ) (best : Option Choice) (i : ℕ) : Type 0 where
  pub fits : Fits n s best
  pub whole : best_of s (gate_of best) (pivots pairs s d i (n - i)) ≡ best_of s None (pivots pairs s d 0 n)

pub pivoting_none : (n : ℕ) (s : State) (d : ℕ) → Pivoting n s d None 0
pivoting_none n s d =
    let e : n - 0 ≡ n = omega arith in
    record { fits = tt; whole = ap (λ (k : ℕ). best_of s None (pivots pairs s d 0 k)) e }

pub pivoting_more : (n : ℕ) (s : State) (d : ℕ) (best : Option Choice) (i : ℕ) (best' : Option Choice) → Pivoting n s d best i → i < n → Fits n s best'
    → gate_of best' ≡ after s d (gate_of best) i → Pivoting n s d best' (i + 1)
unfolding pivots
pivoting_more n s d best i best' h lt fits f =
    let e : suc (n - (i + 1)) ≡ n - i = omega arith in
    let o = gate_of best in
    let o₁ = cond (line pairs Output s i d) (choose s (gate_of best) (adding Output i d)) (gate_of best) in
    record {
      fits = fits;
      whole = ap₂ (λ (o : Option Placed) (k : ℕ). best_of s o (pivots pairs s d k (n - (i + 1)))) f (add-one i)
          ∙ sym (of_if s o (pairs.entry s i d) (adding Output i d) (cons_if (pairs.entry s d i) (adding Input i d) (pivots pairs s d (suc i) (n - (i + 1))))
          ∙ of_if s o₁ (pairs.entry s d i) (adding Input i d) (pivots pairs s d (suc i) (n - (i + 1))))
          ∙ ap (λ (k : ℕ). best_of s o (pivots pairs s d i k)) e
          ∙ h.whole;
    }

pub pivoting_all : (n : ℕ) (s : State) (d : ℕ) (best : Option Choice) (i : ℕ) → Pivoting n s d best i → n ≤ i
    → gate_of best ≡ best_of s None (pivots pairs s d 0 n)
unfolding pivots
pivoting_all n s d best i h le =
    let e : 0 ≡ n - i = omega arith in
    ap (λ (k : ℕ). best_of s (gate_of best) (pivots pairs s d i k)) e ∙ h.whole

-- a turn of the program's loop, which asks twice; each time the pair is left as it was
pub pivoting_turn : (p p₁ p₂ : Pair) (d : ℕ) (best : Option Choice) (i : ℕ) (o₁ o₂ : Option Choice) → p₁ ≡ p → p₂ ≡ p
    → Pivoting p.lines (state_of p) d best i → i < p.lines
    → gate_of o₁ ≡ cond (line pairs Output (state_of p₁) i d) (choose (state_of p₁) (gate_of best) (adding Output i d)) (gate_of best)
    → gate_of o₂ ≡ cond (line pairs Input (state_of p₂) i d) (choose (state_of p₂) (gate_of o₁) (adding Input i d)) (gate_of o₁)
    → Fits p₂.lines (state_of p₂) o₂ → Pivoting p.lines (state_of p) d o₂ (i + 1)
pivoting_turn p p₁ p₂ d best i o₁ o₂ a b h lt e₁ e₂ f =
    pivoting_more p.lines (state_of p) d best i o₂ h lt (subst (λ (q : Pair). Fits q.lines (state_of q) o₂) b f)
    (e₂ ∙ ap₂ (λ (q : Pair) (o : Option Placed). cond (line pairs Input (state_of q) i d) (choose (state_of q) o (adding Input i d)) o) b
    (e₁ ∙ ap (λ (q : Pair). cond (line pairs Output (state_of q) i d) (choose (state_of q) (gate_of best) (adding Output i d)) (gate_of best)) a))

-- ---- stage 2 puts in what is chosen

best_of_some : (s : State) (f : Placed) (gs : List Placed) → best_of s (Some f) gs ≡ Some (best pairs s f gs)
unfolding best
best_of_some s f [] = refl
best_of_some s f (g ∷ gs) = best_of_some s (cond (ltb (cost (pairs.place g s)) (cost (pairs.place f s))) g f) gs

abbrev pub put_maybe : Option Placed → Work pairs → Work pairs
put_maybe None w = w
put_maybe (Some g) w = put pairs g w

put_best_is : (gs : List Placed) (w : Work pairs) → put_best pairs gs w ≡ put_maybe (best_of w.state None gs) w
unfolding put_best
put_best_is [] w = refl
put_best_is (g ∷ gs) w = sym (ap (λ (o : Option Placed). put_maybe o w) (best_of_some w.state g gs))

module _ (n d : ℕ) (w : Work pairs) where
  pub lit_already : line pairs Output w.state d d ≡ true → w ≡ pivot pairs n d w
  unfolding pivot
  lit_already h = sym (cond-true _ w _ h)

  pub lit_now : (o : Option Placed) → line pairs Output w.state d d ≡ false → o ≡ best_of w.state None (pivots pairs w.state d 0 n) → put_maybe o w ≡ pivot pairs n d w
  unfolding pivot
  lit_now o off e =
      ap (λ (x : Option Placed). put_maybe x w) e ∙ sym (put_best_is (pivots pairs w.state d 0 n) w) ∙ sym (cond-false _ w _ off)
