-- A turn of a stage, and the stages in a row, against the definition.
use Rattle.std.proofs.Common.{◌≡◌, ℕ, suc, ◌+◌, ◌-◌, ◌*◌, ◌<◌, ◌≤◌, true, false, not, ◌&&◌, ◌||◌, eqb, leb, ◌≢◌, List, [], length, sym, refl, ap, ◌∙◌, subst, ap₂, add-one, arith}
use Rattle.std.proofs.lemmas.Bool.{cond-true, cond-false, and_from, or_from, not_from_false, ne_eqb}
use Rattle.arrayvec.specs.ArrayVec.{ArrayVec}
use Rattle.gates.specs.declared.end.End.{End}
use Rattle.gates.specs.declared.end.End.TheVariants.{Input, Output}
use Rattle.clearing.specs.Clearing.{Placed, Work, adding, line, put, best, helpers, rising, sweep_at, solved, try, greedy_at, pivot, clear}
use Rattle.clearing.specs.Pairs.{pairs}
use Rattle.elimination.specs.declared.pair.Pair.{Pair}
use Rattle.elimination.specs.declared.pair.clear.Found.{Found}
use Rattle.elimination.specs.declared.placed.Placed.{Placed as Held}
use Rattle.elimination.specs.Finds.{at_ends, work_of, Done}
use Rattle.elimination.specs.Lines.{trial_of}
use Rattle.elimination.specs.States.{state_of}

abbrev Step : Type 0
Step = Work pairs → Work pairs

-- ---- stage 1

module _ (g : Placed) (w : Work pairs) where
  pub try_yes : leb (pairs.cost (pairs.place g w.state) + 2) (pairs.cost w.state) ≡ true → put pairs g w ≡ try pairs g w
  unfolding try
  try_yes h = sym (cond-true _ (put pairs g w) w h)

  pub try_no : leb (pairs.cost (pairs.place g w.state) + 2) (pairs.cost w.state) ≡ false → w ≡ try pairs g w
  unfolding try
  try_no h = sym (cond-false _ (put pairs g w) w h)

module _ (n d i j : ℕ) (w : Work pairs) where
  pub greedy_yes : i ≢ d → solved pairs n w.state i ≡ false → try pairs (adding Input i d) (try pairs (adding Output i d) w) ≡ greedy_at pairs n d i j w
  unfolding greedy_at
  greedy_yes off left = sym (cond-false (eqb i d || solved pairs n w.state i) w _ (or_from _ _ (ne_eqb i d off) left))

  pub greedy_no : (eqb i d || solved pairs n w.state i) ≡ true → w ≡ greedy_at pairs n d i j w
  unfolding greedy_at
  greedy_no on = sym (cond-true (eqb i d || solved pairs n w.state i) w _ on)

-- ---- stages 3 and 4

module _ (e : End) (d i j : ℕ) (w : Work pairs) where
  pub sweep_yes : (g : Placed) → i ≢ d → line pairs e w.state i d ≡ true
      → g ≡ best pairs w.state (adding e d i) (helpers pairs e w.state d i (i + 1) j) → put pairs g w ≡ sweep_at pairs e d i j w
  unfolding sweep_at
  sweep_yes g off one is =
      ap (λ (g : Placed). put pairs g w) (is ∙ ap (λ (k : ℕ). best pairs w.state (adding e d i) (helpers pairs e w.state d i k j)) (add-one i))
      ∙ sym (cond-true (not (eqb i d) && line pairs e w.state i d) _ w (and_from (not (eqb i d)) _ (not_from_false (eqb i d) (ne_eqb i d off)) one))

  pub sweep_no : (not (eqb i d) && line pairs e w.state i d) ≡ false → w ≡ sweep_at pairs e d i j w
  unfolding sweep_at
  sweep_no off = sym (cond-false (not (eqb i d) && line pairs e w.state i d) _ w off)

-- ---- what the program holds

-- nothing done, where the step does nothing
pub done_none : (k : ℕ) (step : Step) (f f' : Found) → f' ≡ f → work_of f ≡ step (work_of f) → Done k step f f'
done_none k step f f' same is =
    subst (Done k step f) (sym same) (record { lines = refl; few = omega arith; work = is })

-- a step told as another
pub done_as : (k : ℕ) (step step' : Step) (f f' : Found) → step (work_of f) ≡ step' (work_of f) → Done k step f f' → Done k step' f f'
done_as k step step' f f' is h = record { lines = h.lines; few = h.few; work = h.work ∙ is }

-- a step of q, which is p
pub done_from : (k : ℕ) (step : Step) (p q : Pair) (all : ArrayVec Held) (f' : Found) → q ≡ p
    → Done k step (record { pair = q; gates = all }) f' → Done k step (record { pair = p; gates = all }) f'
done_from k step p q all f' same h = subst (λ (x : Pair). Done k step (record { pair = x; gates = all }) f') same h

-- one step after another
pub done_both : (j k : ℕ) (step step' : Step) (f f₁ f₂ : Found) → Done j step f f₁ → Done k step' f₁ f₂ → Done (j + k) (λ w. step' (step w)) f f₂
done_both j k step step' f f₁ f₂ a b = record {
  lines = b.lines ∙ a.lines;
  few = omega arith;
  work = b.work ∙ ap step' a.work;
}

-- ---- a loop that goes through the lines once, where each finds no more than k gates

pub record Doing (f : ℕ → ℕ → Step) (k n : ℕ) (begun now : Found) (i : ℕ) : Type 0 where
  pub lines : now.pair.lines ≡ n
  pub few : length now.gates.items ≤ length begun.gates.items + k * i
  pub rest : rising f i (n - i) (work_of now) ≡ rising f 0 n (work_of begun)

module _ (f : ℕ → ℕ → Step) (k n : ℕ) (begun : Found) where
  pub doing_none : begun.pair.lines ≡ n → Doing f k n begun begun 0
  doing_none e =
      let z : n - 0 ≡ n = omega arith in
      record { lines = e; few = omega arith; rest = ap (λ (j : ℕ). rising f 0 j (work_of begun)) z }

  pub doing_more : (now : Found) (i : ℕ) → Doing f k n begun now i → i < n → (next : Found) → Done k (f i (n - (i + 1))) now next → Doing f k n begun next (i + 1)
  unfolding rising
  doing_more now i h lt next done =
      let a : suc (n - (i + 1)) ≡ n - i = omega arith in
      record {
        lines = done.lines ∙ h.lines;
        few = omega (arith, done.few, h.few);
        rest = ap (λ (x : Work pairs). rising f (i + 1) (n - (i + 1)) x) done.work
            ∙ ap (λ (j : ℕ). rising f j (n - (i + 1)) (f i (n - (i + 1)) (work_of now))) (add-one i)
            ∙ ap (λ (j : ℕ). rising f i j (work_of now)) a
            ∙ h.rest;
      }

  pub doing_all : (now : Found) (i : ℕ) → Doing f k n begun now i → i ≡ n → begun.pair.lines ≡ n → Done (k * n) (rising f 0 n) begun now
  unfolding rising
  doing_all now i h all e =
      let a : 0 ≡ n - i = omega arith in
      record {
        lines = h.lines ∙ sym e;
        few = subst (λ (j : ℕ). length now.gates.items ≤ length begun.gates.items + k * j) all h.few;
        work = ap (λ (j : ℕ). rising f i j (work_of now)) a ∙ h.rest;
      }

-- ---- the four stages in a row, each told of the number of lines that it was shown

module _ (d : ℕ) (f f₁ f₂ f₃ f₄ : Found) where
  pub stages : Done (2 * f.pair.lines) (rising (greedy_at pairs f.pair.lines d) 0 f.pair.lines) f f₁ → Done 1 (pivot pairs f₁.pair.lines d) f₁ f₂
      → Done f₂.pair.lines (rising (sweep_at pairs Output d) 0 f₂.pair.lines) f₂ f₃
      → Done f₃.pair.lines (rising (sweep_at pairs Input d) 0 f₃.pair.lines) f₃ f₄
      → Done (4 * f.pair.lines + 1) (clear pairs f.pair.lines d) f f₄
  unfolding clear
  stages a b e g =
      let n₂ : f₂.pair.lines ≡ f.pair.lines = b.lines ∙ a.lines in
      let n₃ : f₃.pair.lines ≡ f.pair.lines = e.lines ∙ n₂ in
      record {
        lines = g.lines ∙ n₃;
        few = omega (arith, a.few, b.few, e.few, g.few);
        work = g.work ∙ ap₂ (λ (k : ℕ) (w : Work pairs). rising (sweep_at pairs Input d) 0 k w) n₃
            (e.work ∙ ap₂ (λ (k : ℕ) (w : Work pairs). rising (sweep_at pairs Output d) 0 k w) n₂
            (b.work ∙ ap₂ (λ (k : ℕ) (w : Work pairs). pivot pairs k d w) a.lines a.work));
      }

-- a line cleared anew, from a pair on n lines
pub trial_is : (n : ℕ) (p : Pair) (most : ℕ) (begun cleared : Found) (d : ℕ) → p.lines ≡ n → begun.pair ≡ p → begun.gates.items ≡ []
    → Done most (clear pairs begun.pair.lines d) begun cleared → work_of cleared ≡ trial_of n (state_of p) d
trial_is n p most begun cleared d e same none h =
    h.work
    ∙ ap₂ (λ (q : Pair) (all : List Held). clear pairs q.lines d (record { state = state_of q; gates = at_ends all })) same none
    ∙ ap (λ (k : ℕ). trial_of k (state_of p) d) e
