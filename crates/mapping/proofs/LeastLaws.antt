-- The first number at which a cost is least.
use Rattle.std.proofs.Common.{◌≡◌, ℕ, zero, suc, ◌+◌, ◌-◌, ◌<◌, ◌≤◌, cond, ltb, sym, refl, ap, ◌∙◌, subst, subst₂, ⊎_elim, le_refl, arith}
use Rattle.std.proofs.lemmas.Bool.{cond_both, ltb-true, ltb-false, cases_lt, cases_order}
use Rattle.mapping.specs.Least.{Least, better, least}

pub least_start : (t : ℕ → ℕ) (i : ℕ) → Least t i (i + 1) i
least_start t i =
    record {
      from = omega arith;
      below = omega arith;
      before = λ k h l. absurd (omega arith);
      after = λ k h l. let e : i ≡ k = omega arith in subst (λ m. t i ≤ t m) e (omega arith);
    }

-- one number more, at which the cost is smaller, or not
pub least_new : (t : ℕ → ℕ) (i m b : ℕ) → Least t i m b → t m < t b → Least t i (m + 1) m
least_new t i m b l h =
    record {
      from = omega arith;
      below = omega arith;
      before = λ k p q. ⊎_elim (λ r. omega (arith, l.before k p r)) (λ r. omega (arith, l.after k r q)) (cases_lt k b);
      after = λ k p q. let e : m ≡ k = omega arith in subst (λ x. t m ≤ t x) e (omega arith);
    }

pub least_old : (t : ℕ → ℕ) (i m b : ℕ) → Least t i m b → t b ≤ t m → Least t i (m + 1) b
least_old t i m b l h =
    record {
      from = l.from;
      below = omega arith;
      before = l.before;
      after = λ k p q. ⊎_elim (λ r. l.after k p r) (λ r. let e : m ≡ k = omega arith in subst (λ x. t b ≤ t x) e h) (cases_lt k m);
    }

better_least : (t : ℕ → ℕ) (i k j b m : ℕ) → j + k ≡ m → Least t i j b → Least t i m (better t k j b)
better_least t i zero j b m e l = let f : j ≡ m = omega arith in subst (λ x. Least t i x b) f l
better_least t i (suc k) j b m e l =
    better_least t i k (j + 1) (cond (ltb (t j) (t b)) j b) m (omega arith)
    (cond_both (ltb (t j) (t b)) j b (λ x. Least t i (j + 1) x)
    (λ q. least_new t i j b l (ltb-true (t j) (t b) q))
    (λ q. least_old t i j b l (ltb-false (t j) (t b) q)))

pub least_is : (t : ℕ → ℕ) (i m : ℕ) → i < m → Least t i m (least t i m)
unfolding least
least_is t i m h = better_least t i (m - (i + 1)) (i + 1) i m (omega arith) (least_start t i)

-- there is only one
pub least_one : (t : ℕ → ℕ) (i m a b : ℕ) → Least t i m a → Least t i m b → a ≡ b
least_one t i m a b l r =
    ⊎_elim (λ e. e)
    (⊎_elim (λ h. absurd (omega (arith, r.before a l.from h, l.after b (lt_le a b h) r.below)))
    (λ h. absurd (omega (arith, l.before b r.from h, r.after a (lt_le b a h) l.below))))
    (cases_order a b)
  where
    lt_le : (x y : ℕ) → x < y → x ≤ y
    lt_le x y h = omega arith

-- nothing is smaller than 0
pub least_zero : (t : ℕ → ℕ) (i m j : ℕ) → j < m → t j ≡ 0 → i ≤ j → ((k : ℕ) → i ≤ k → k < j → 0 < t k) → Least t i m j
least_zero t i m j h e from before =
    record {
      from = from;
      below = h;
      before = λ k p q. omega (arith, before k p q);
      after = λ k p q. omega arith;
    }

-- costs that agree on the numbers in question
pub least_same : (t u : ℕ → ℕ) (i m j : ℕ) → ((k : ℕ) → k < m → t k ≡ u k) → Least t i m j → Least u i m j
least_same t u i m j e l =
    record {
      from = l.from;
      below = l.below;
      before = λ k p q. let ek = e k (through k j m q l.below) in let ej = e j l.below in omega (arith, l.before k p q);
      after = λ k p q. let ek = e k q in let ej = e j l.below in omega (arith, l.after k p q);
    }
  where
    through : (k j m : ℕ) → k < j → j < m → k < m
    through k j m p q = omega arith

-- no cost above that of the first number
pub least_first : (t : ℕ → ℕ) (i m j : ℕ) → Least t i m j → t j ≤ t i
least_first t i m j l =
    ⊎_elim
    (λ h. omega (arith, l.before i (le_refl i) h))
    (λ h. let e : j ≡ i = omega (arith, l.from) in ap_le t j i e)
    (cases_lt i j)
  where
    ap_le : (u : ℕ → ℕ) (a b : ℕ) → a ≡ b → u a ≤ u b
    ap_le u a b e = subst (λ x. u a ≤ u x) e (le_refl (u a))

-- ---- a search from i on that has come to w, with the best number b and its cost l so far

pub record Looking (t : ℕ → ℕ) (i w b l : ℕ) : Type 0 where
  pub cost : l ≡ t b
  pub first : w ≡ i → b ≡ i
  pub found : i < w → Least t i w b
  pub none : (k : ℕ) → i ≤ k → k < w → 0 < t k

pub look_start : (t : ℕ → ℕ) (i l : ℕ) → l ≡ t i → Looking t i i i l
look_start t i l e = record { cost = e; first = λ _. refl; found = λ q. absurd (omega arith); none = λ k p q. absurd (omega arith) }

none_more : (t : ℕ → ℕ) (i w : ℕ) → ((k : ℕ) → i ≤ k → k < w → 0 < t k) → 0 < t w → (k : ℕ) → i ≤ k → k < w + 1 → 0 < t k
none_more t i w h here k p q = ⊎_elim (λ r. h k p r) (λ r. let e : w ≡ k = omega arith in subst (λ x. 0 < t x) e here) (cases_lt k w)

-- the cost r at w is smaller, or not
pub look_better : (t : ℕ → ℕ) (i w b l r b' l' : ℕ) → Looking t i w b l → i ≤ w → r ≡ t w → (r ≡ 0 → ⊥) → r < l → b' ≡ w → l' ≡ r → Looking t i (w + 1) b' l'
look_better t i w b l r b' l' s h e pos less eb el =
    record {
      cost = el ∙ e ∙ ap t (sym eb);
      first = λ q. absurd (omega arith);
      found = λ _.
          subst (Least t i (w + 1)) (sym eb)
          (⊎_elim
          (λ q. least_new t i w b (s.found q) (omega (arith, s.cost)))
          (λ q. absurd (let f : w ≡ i = omega arith in let same : t b ≡ t w = ap t (s.first f ∙ sym f) in omega (arith, s.cost)))
          (cases_lt i w));
      none = none_more t i w s.none (omega arith);
    }

pub look_worse : (t : ℕ → ℕ) (i w b l r b' l' : ℕ) → Looking t i w b l → i ≤ w → r ≡ t w → (r ≡ 0 → ⊥) → l ≤ r → b' ≡ b → l' ≡ l → Looking t i (w + 1) b' l'
look_worse t i w b l r b' l' s h e pos more eb el =
    record {
      cost = el ∙ s.cost ∙ ap t (sym eb);
      first = λ q. absurd (omega arith);
      found = λ _.
          subst (Least t i (w + 1)) (sym eb)
          (⊎_elim
          (λ q. least_old t i w b (s.found q) (omega (arith, s.cost)))
          (λ q. let f : w ≡ i = omega arith in subst₂ (λ x y. Least t i (x + 1) y) (sym f) (sym (s.first f)) (least_start t i))
          (cases_lt i w));
      none = none_more t i w s.none (omega arith);
    }

-- the search is over, or has come to a cost of 0
pub look_all : (t : ℕ → ℕ) (i m b l : ℕ) → Looking t i m b l → i < m → b ≡ least t i m
look_all t i m b l s h = least_one t i m b (least t i m) (s.found h) (least_is t i m h)

pub look_zero : (t : ℕ → ℕ) (i m w b l : ℕ) → Looking t i w b l → i ≤ w → w < m → t w ≡ 0 → w ≡ least t i m
look_zero t i m w b l s h k e =
    let lt : i < m = omega arith in
    least_one t i m w (least t i m) (least_zero t i m w k e h s.none) (least_is t i m lt)
