-- The choice among the helpers, a line at a time.
use Rattle.std.proofs.Common.{◌≡◌, ℕ, suc, ◌+◌, ◌-◌, ◌<◌, ◌≤◌, Bool, true, false, cond, not, ◌&&◌, eqb, ltb, ◌≢◌, List, sym, refl, ap, ◌∙◌, subst, ap₂, add-one, arith}
use Rattle.std.proofs.lemmas.Bool.{cond-true, cond-false, cond_both, and_from, not_from_false, ne_eqb}
use Rattle.gates.specs.declared.end.End.{End}
use Rattle.clearing.specs.Clearing.{Placed, adding, line, best, helpers, cons_if}
use Rattle.clearing.specs.Pairs.{pairs, cost}
use Rattle.clearing.specs.Pairs.{Pair as State}
use Rattle.elimination.specs.declared.addition.Addition.{Addition}
use Rattle.elimination.specs.declared.pair.choice.Choice.{Choice}
use Rattle.elimination.specs.Additions.{placed, Within}

-- the cost that a gate would lead to
abbrev pub cost_by : State → Placed → ℕ
cost_by s g = cost (pairs.place g s)

-- what is left to choose from, from line j on
abbrev pub from_line : ℕ → State → End → ℕ → ℕ → Placed → ℕ → Placed
from_line n s e d i g j = best pairs s g (helpers pairs e s d i j (n - j))

-- the choice so far, and the lines from j on still to be looked at
pub record Helping (n : ℕ) (s : State) (e : End) (d i : ℕ) (found : Choice) (j : ℕ) : Type 0 where
  pub within : Within n found.addition
  pub cheapest : found.cost ≡ cost_by s (placed found.addition)
  pub whole : from_line n s e d i (placed found.addition) j ≡ from_line n s e d i (adding e d i) (i + 1)

best_if : (s : State) (g x : Placed) (b : Bool) (xs : List Placed)
    → best pairs s g (cons_if b x xs) ≡ best pairs s (cond b (cond (ltb (cost_by s x) (cost_by s g)) x g) g) xs
unfolding best
best_if s g x true xs = refl
best_if s g x false xs = refl

-- the choice after line j
abbrev chosen : State → End → ℕ → ℕ → Placed → ℕ → Placed
chosen s e d i g j = cond (not (eqb j d) && line pairs e s j d) (cond (ltb (cost_by s (adding e j i)) (cost_by s g)) (adding e j i) g) g

from_more : (n : ℕ) (s : State) (e : End) (d i : ℕ) (g : Placed) (j : ℕ) → j < n → from_line n s e d i g j ≡ from_line n s e d i (chosen s e d i g j) (j + 1)
unfolding helpers
from_more n s e d i g j h =
    let a : n - j ≡ suc (n - (j + 1)) = omega arith in
    ap (λ (k : ℕ). best pairs s g (helpers pairs e s d i j k)) a
    ∙ best_if s g (adding e j i) (not (eqb j d) && line pairs e s j d) (helpers pairs e s d i (suc j) (n - (j + 1)))
    ∙ ap (λ (k : ℕ). best pairs s (chosen s e d i g j) (helpers pairs e s d i k (n - (j + 1)))) (sym (add-one j))

-- an addition of line b to line c, which is what the program makes
pub placed_is : (a : Addition) (e : End) (b c : ℕ) → a.end ≡ e → a.from ≡ b → a.to ≡ c → placed a ≡ adding e b c
placed_is a e b c p q r = λ i. adding (p i) (q i) (r i)

pub from_first : (m n : ℕ) (s : State) (a : Addition) (e : End) (d i : ℕ) → m ≡ n → a.end ≡ e → a.from ≡ d → a.to ≡ i
    → from_line m s a.end a.from a.to (placed a) (a.to + 1) ≡ from_line n s e d i (adding e d i) (i + 1)
from_first m n s a e d i l p q r = λ k. from_line (l k) s (p k) (q k) (r k) (adding (p k) (q k) (r k)) (r k + 1)

pub within_is : (n : ℕ) (a : Addition) (b c : ℕ) → a.from ≡ b → a.to ≡ c → b < n → c < n → Within n a
within_is n a b c p q hb hc = record { from = omega arith; to = omega arith }

module _ (n : ℕ) (s : State) (e : End) (d i : ℕ) where
  pub helping_all : (found : Choice) (j : ℕ) → Helping n s e d i found j → n ≤ j → placed found.addition ≡ from_line n s e d i (adding e d i) (i + 1)
  unfolding best helpers
  helping_all found j h le =
      let none : 0 ≡ n - j = omega arith in
      ap (λ (k : ℕ). best pairs s (placed found.addition) (helpers pairs e s d i j k)) none ∙ h.whole

  -- the ways through a turn; found' is what the program holds after it
  module _ (found : Choice) (j : ℕ) (h : Helping n s e d i found j) (lt : j < n) where
    more : (found' : Choice) → Within n found'.addition → placed found'.addition ≡ chosen s e d i (placed found.addition) j
        → found'.cost ≡ cost_by s (placed found'.addition) → Helping n s e d i found' (j + 1)
    more found' w f c = record {
      within = w;
      cheapest = c;
      whole = ap (λ (g : Placed). from_line n s e d i g (j + 1)) f ∙ sym (from_more n s e d i (placed found.addition) j lt) ∙ h.whole;
    }

    pub helping_no : (found' : Choice) → (not (eqb j d) && line pairs e s j d) ≡ false → found' ≡ found → Helping n s e d i found' (j + 1)
    helping_no found' off q =
        subst (λ (x : Choice). Helping n s e d i x (j + 1)) (sym q) (more found h.within (sym (cond-false _ _ _ off)) h.cheapest)

    pub helping_yes : (new found' : Choice) → j ≢ d → line pairs e s j d ≡ true → Within n new.addition → placed new.addition ≡ adding e j i
        → new.cost ≡ cost_by s (placed new.addition) → found' ≡ cond (ltb new.cost found.cost) new found → Helping n s e d i found' (j + 1)
    helping_yes new found' off one w g c is =
        subst (λ (x : Choice). Helping n s e d i x (j + 1)) (sym is)
        (cond_both (ltb new.cost found.cost) new found (λ (x : Choice). Helping n s e d i x (j + 1))
        (λ b. more new w (g ∙ sym (opened ∙ cond-true _ _ _ (test ∙ b))) c)
        (λ b. more found h.within (sym (opened ∙ cond-false _ _ _ (test ∙ b))) h.cheapest))
      where
        opened : chosen s e d i (placed found.addition) j ≡ cond (ltb (cost_by s (adding e j i)) (cost_by s (placed found.addition))) (adding e j i) (placed found.addition)
        opened = cond-true _ _ _ (and_from (not (eqb j d)) (line pairs e s j d) (not_from_false (eqb j d) (ne_eqb j d off)) one)

        test : ltb (cost_by s (adding e j i)) (cost_by s (placed found.addition)) ≡ ltb new.cost found.cost
        test = ap₂ ltb (ap (cost_by s) (sym g) ∙ sym c) (sym h.cheapest)
