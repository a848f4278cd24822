-- What the two layouts tell of the matrix and its inverse.
use Rattle.std.proofs.Common.{◌≡◌, ℕ, zero, suc, ◌+◌, ◌*◌, ◌^◌, ◌<◌, ◌≤◌, ◌&&◌, eqb, List, get_or, take, sym, ap, ◌∙◌, subst, inl, inr, arith}
use mathlib.Core.Path.{transport}
use lib.Bits.{bit_xor, xor_lt}
use lib.Count.{ones, ones-le}
use lib.Pow.{pow-lt}
use Rattle.std.proofs.lemmas.List.{get_or-take}
use Rattle.std.proofs.lemmas.Bool.{and_from, and_parts, cases_Bool, both_ways, eq-eqb, eqb-true}
use Rattle.gates.specs.declared.end.End.{End}
use Rattle.gates.specs.declared.end.End.TheVariants.{Input, Output}
use Rattle.words.specs.Words.{has}
use Rattle.clearing.specs.Clearing.{adding, line, solved}
use Rattle.clearing.specs.Pairs.{cost, pairs, Inverses}
use Rattle.clearing.specs.Pairs.{Pair as State}
use Rattle.clearing.proofs.Words.{has_power, same_has}
use Rattle.clearing.proofs.Loops.{below_true, below_from}
use Rattle.clearing.proofs.Tests.{beq_true, beq_from}
use Rattle.clearing.proofs.Pairs.{stays}
use Rattle.elimination.specs.declared.addition.Addition.{Addition}
use Rattle.elimination.specs.declared.half.Half.{Half}
use Rattle.elimination.specs.declared.pair.Pair.{Pair}
use Rattle.elimination.specs.Additions.{placed, Within}
use Rattle.elimination.specs.Halves.{row_added, column_added, Added, Spread, off, weigh, weight_of, weight_once}
use Rattle.elimination.specs.Layouts.{both, Below, Layout, held, Sound}
use Rattle.elimination.specs.States.{state_of, half_at}
use Rattle.elimination.proofs.Additions.{take_added, take_flipped}
use Rattle.elimination.proofs.Sums.{total}
use Rattle.elimination.proofs.Layouts.{Long, long_flip, long_added, layout_flip, layout_added, cost_by_rows, cost_by_columns, off_added}

pub long : (p : Pair) → Long p.lines p.rows.first p.columns.first p.columns.second p.rows.second
long p = record {
  rows = omega (arith, p.rows.full, p.sound.few);
  columns = omega (arith, p.columns.full, p.sound.few);
  rows' = omega (arith, p.columns.filled, p.sound.few);
  columns' = omega (arith, p.rows.filled, p.sound.few);
}

-- ---- entries

pub line_is : (p : Pair) (e : End) (i k : ℕ) → i < p.lines → k < p.lines
    → has (get_or (half_at e p).first i 0) k ≡ line pairs e (state_of p) i k
line_is p Output i k hi hk = ap (λ (w : ℕ). has w k) (sym (get_or-take p.lines p.rows.first i 0 hi))
line_is p Input i k hi hk =
    sym (p.sound.layout.across k i hk hi) ∙ ap (λ (w : ℕ). has w i) (sym (get_or-take p.lines p.rows.first k 0 hk))

module _ (p : Pair) (d : ℕ) (hd : d < p.lines) where
  small_at : (e : End) → get_or (half_at e p).first d 0 < 2 ^ p.lines
  small_at Output = p.sound.layout.small_rows d hd
  small_at Input = p.sound.layout.small_columns d hd

  unit_line : (e : End) → get_or (half_at e p).first d 0 ≡ 2 ^ d → (k : ℕ) → k < p.lines → line pairs e (state_of p) d k ≡ eqb d k
  unit_line e q k hk = sym (line_is p e d k hd hk) ∙ ap (λ (w : ℕ). has w k) q ∙ has_power d k

  line_unit : (e : End) → ((k : ℕ) → k < p.lines → line pairs e (state_of p) d k ≡ eqb d k) → get_or (half_at e p).first d 0 ≡ 2 ^ d
  line_unit e h =
      same_has p.lines (get_or (half_at e p).first d 0) (2 ^ d) (small_at e) (pow-lt hd)
      (λ k hk. line_is p e d k hd hk ∙ h k hk ∙ sym (has_power d k))

  -- the program's test of a solved line
  pub solved_is : (eqb (get_or p.rows.first d 0) (2 ^ d) && eqb (get_or p.columns.first d 0) (2 ^ d)) ≡ solved pairs p.lines (state_of p) d
  unfolding solved
  solved_is =
      elim (cases_Bool (eqb (get_or p.rows.first d 0) (2 ^ d) && eqb (get_or p.columns.first d 0) (2 ^ d))) [
        | inl e ↦
            let q = and_parts (eqb (get_or p.rows.first d 0) (2 ^ d)) (eqb (get_or p.columns.first d 0) (2 ^ d)) e in
            e ∙ sym (below_from p.lines _ (λ k hk. and_from _ _ (beq_from _ _ (unit_line Output (eqb-true _ _ q.0) k hk)) (beq_from _ _ (unit_line Input (eqb-true _ _ q.1) k hk))))
        | inr e ↦
            elim (cases_Bool (solved pairs p.lines (state_of p) d)) [
              | inl t ↦
                  let all = below_true p.lines _ t in
                  absurd (both_ways (eqb (get_or p.rows.first d 0) (2 ^ d) && eqb (get_or p.columns.first d 0) (2 ^ d)) e
                  (and_from _ _
                  (eq-eqb _ _ (line_unit Output (λ k hk. beq_true _ _ (and_parts _ _ (all k hk)).0)))
                  (eq-eqb _ _ (line_unit Input (λ k hk. beq_true _ _ (and_parts _ _ (all k hk)).1)))))
              | inr t ↦ e ∙ sym t
            ]
      ]

-- ---- the cost is small

total_le : (n b : ℕ) (f : ℕ → ℕ) → ((k : ℕ) → k < n → f k ≤ b) → total n f ≤ b * n
unfolding total
total_le zero b f h = omega arith
total_le (suc n) b f h = omega (arith, total_le n b f (λ k hk. h k (omega arith)), h n (omega arith))

off_le : (n : ℕ) (xs : List ℕ) → n ≤ 64 → Below n xs → total n (off xs) ≤ 64 * n
off_le n xs h s =
    total_le n 64 (off xs)
    (λ k hk. let x : ones (bit_xor (get_or xs k 0) (2 ^ k)) ≤ n = ones-le n (bit_xor (get_or xs k 0) (2 ^ k)) (xor_lt n (get_or xs k 0) (2 ^ k) (s k hk) (pow-lt hk)) in omega arith)

pub layout_cost : (n : ℕ) (r c r' c' : List ℕ) → n ≤ 64 → Long n r c r' c' → Layout n r c r' c' → cost (both (take n r) (take n r')) ≤ 8192
layout_cost n r c r' c' h o l = omega (arith, cost_by_rows n r c r' c' o l, off_le n r h l.small_rows, off_le n c' h l.small_columns')

pub cost_small : (p : Pair) → cost (state_of p) ≤ 8192
cost_small p = layout_cost p.lines p.rows.first p.columns.first p.columns.second p.rows.second p.sound.few (long p) p.sound.layout

-- ---- a gate

module _ (p : Pair) (a b : ℕ) (ha : a < p.lines) (hb : b < p.lines) where
  -- the state after it, as the layouts tell it
  pub output_state : both (take p.lines (row_added a b p.rows.first)) (take p.lines (column_added a b p.columns.second))
      ≡ pairs.place (adding Output a b) (state_of p)
  output_state = λ i. record { matrix = take_added p.lines p.rows.first a b ha hb i; inverse = take_flipped p.lines p.columns.second a b i }

  pub input_state : both (take p.lines (column_added b a p.rows.first)) (take p.lines (row_added b a p.columns.second))
      ≡ pairs.place (adding Input a b) (state_of p)
  input_state = λ i. record { matrix = take_flipped p.lines p.rows.first b a i; inverse = take_added p.lines p.columns.second b a hb ha i }

  o : Long p.lines p.rows.first p.columns.first p.columns.second p.rows.second
  o = long p

  pub output_layout : Layout p.lines (row_added a b p.rows.first) (column_added b a p.columns.first) (column_added a b p.columns.second) (row_added b a p.rows.second)
  output_layout = layout_added p.lines p.rows.first p.columns.first p.columns.second p.rows.second a b o ha hb p.sound.layout

  pub input_layout : Layout p.lines (column_added b a p.rows.first) (row_added a b p.columns.first) (row_added b a p.columns.second) (column_added a b p.rows.second)
  input_layout =
      layout_flip p.lines (row_added a b p.columns.first) (column_added b a p.rows.first) (column_added a b p.rows.second) (row_added b a p.columns.second)
      (layout_added p.lines p.columns.first p.rows.first p.rows.second p.columns.second a b
      (long_flip p.lines p.rows.first p.columns.first p.columns.second p.rows.second o) ha hb
      (layout_flip p.lines p.rows.first p.columns.first p.columns.second p.rows.second p.sound.layout))

  output_long : Long p.lines (row_added a b p.rows.first) (column_added b a p.columns.first) (column_added a b p.columns.second) (row_added b a p.rows.second)
  output_long = long_added p.lines p.rows.first p.columns.first p.columns.second p.rows.second a b o

  input_long : Long p.lines (column_added b a p.rows.first) (row_added a b p.columns.first) (row_added b a p.columns.second) (column_added a b p.rows.second)
  input_long =
      long_flip p.lines (row_added a b p.columns.first) (column_added b a p.rows.first) (column_added a b p.rows.second) (row_added b a p.columns.second)
      (long_added p.lines p.columns.first p.rows.first p.rows.second p.columns.second a b
      (long_flip p.lines p.rows.first p.columns.first p.columns.second p.rows.second o))

  -- the cost after it, by the two words that change
  pub cost_after_is : (e : End)
      → cost (pairs.place (adding e a b) (state_of p)) + weigh a b (half_at e p).first (half_at e p).second
      ≡ cost (state_of p) + weigh a b (row_added a b (half_at e p).first) (row_added b a (half_at e p).second)
  cost_after_is Output =
      let new : cost (pairs.place (adding Output a b) (state_of p)) ≡ total p.lines (off (row_added a b p.rows.first)) + total p.lines (off (row_added b a p.rows.second)) =
      ap cost (sym output_state) ∙ cost_by_rows p.lines _ _ _ _ output_long output_layout in
      let old = cost_by_rows p.lines _ _ _ _ o p.sound.layout in
      omega (arith, new, old, off_added p.lines p.rows.first p.rows.second a b ha hb)
  cost_after_is Input =
      let new : cost (pairs.place (adding Input a b) (state_of p)) ≡ total p.lines (off (row_added a b p.columns.first)) + total p.lines (off (row_added b a p.columns.second)) =
      ap cost (sym input_state) ∙ cost_by_columns p.lines _ _ _ _ input_long input_layout in
      let old = cost_by_columns p.lines _ _ _ _ o p.sound.layout in
      omega (arith, new, old, off_added p.lines p.columns.first p.columns.second a b ha hb)

  pub cost_after_small : (e : End) → cost (pairs.place (adding e a b) (state_of p)) ≤ 8192
  cost_after_small Output = subst (λ (x : State). cost x ≤ 8192) output_state (layout_cost p.lines _ _ _ _ p.sound.few output_long output_layout)
  cost_after_small Input = subst (λ (x : State). cost x ≤ 8192) input_state (layout_cost p.lines _ _ _ _ p.sound.few input_long input_layout)

-- by the weights that the program tells
pub weights_is : (p : Pair) (a : Addition) → Within p.lines a
    → cost (pairs.place (placed a) (state_of p)) + weight_of a (half_at a.end p) ≡ p.cost + weight_once a (half_at a.end p)
weights_is p a w = cost_after_is p a.from a.to w.from w.to a.end ∙ ap (λ (k : ℕ). k + weight_once a (half_at a.end p)) (sym p.sound.counted)

pub placed_small : (p : Pair) (a : Addition) → Within p.lines a → cost (pairs.place (placed a) (state_of p)) ≤ 8192
placed_small p a w = cost_after_small p a.from a.to w.from w.to a.end

-- ---- an addition made

both_is : {a b c d : List ℕ} → a ≡ c → b ≡ d → both a b ≡ both c d
both_is p q = λ i. both (p i) (q i)

layout_at : (n : ℕ) {r₁ c₁ r₂ c₂ r₃ c₃ r₄ c₄ : List ℕ} → r₁ ≡ r₃ → c₁ ≡ c₃ → r₂ ≡ r₄ → c₂ ≡ c₄ → Layout n r₁ c₁ r₂ c₂ → Layout n r₃ c₃ r₄ c₄
layout_at n e₁ e₂ e₃ e₄ l = transport (λ i. Layout n (e₁ i) (e₂ i) (e₃ i) (e₄ i)) l

-- two layouts on n lines, and a cost, to which an addition leads from p
pub record Made (p : Pair) (a : Addition) (n k : ℕ) (r c : Half) : Type 0 where
  pub sound : Sound n k r c
  pub state : held n r c ≡ pairs.place (placed a) (state_of p)

module _ (p : Pair) (a : Addition) (w : Within p.lines a) (k : ℕ) (costs : k ≡ cost (pairs.place (placed a) (state_of p))) (r c : Half) where
  made : (e : End) → a.end ≡ e → held p.lines r c ≡ pairs.place (adding e a.from a.to) (state_of p)
      → Layout p.lines r.first c.first c.second r.second → Made p a p.lines k r c
  made e at st l =
      let is : held p.lines r c ≡ pairs.place (placed a) (state_of p) = st ∙ ap (λ (e : End). pairs.place (adding e a.from a.to) (state_of p)) (sym at) in
      record {
        sound = record {
          few = p.sound.few;
          inverses = subst (Inverses p.lines) (sym is) (stays p.lines p.sound.few a.end a.from a.to (state_of p) w.from w.to a.apart p.sound.inverses);
          layout = l;
          counted = costs ∙ ap cost (sym is);
        };
        state = is;
      }

  -- q is p, which the program has left as it was
  module _ (q : Pair) (same : q ≡ p) where
    pub made_output : a.end ≡ Output → Added a q.rows r → Spread a q.columns c → Made p a q.lines k r c
    made_output at =
        subst (λ (q : Pair). Added a q.rows r → Spread a q.columns c → Made p a q.lines k r c) (sym same)
        (λ x y. made Output at
        (both_is (ap (take p.lines) x.first) (ap (take p.lines) y.second) ∙ output_state p a.from a.to w.from w.to)
        (layout_at p.lines (sym x.first) (sym y.first) (sym y.second) (sym x.second) (output_layout p a.from a.to w.from w.to)))

    pub made_input : a.end ≡ Input → Added a q.columns c → Spread a q.rows r → Made p a q.lines k r c
    made_input at =
        subst (λ (q : Pair). Added a q.columns c → Spread a q.rows r → Made p a q.lines k r c) (sym same)
        (λ x y. made Input at
        (both_is (ap (take p.lines) y.first) (ap (take p.lines) x.second) ∙ input_state p a.from a.to w.from w.to)
        (layout_at p.lines (sym y.first) (sym x.first) (sym x.second) (sym y.second) (input_layout p a.from a.to w.from w.to)))
