-- Loops over rising lines, choices from a list, and counts of lines.
use Rattle.std.proofs.Common.{◌≡◌, ℕ, zero, suc, ◌+◌, ◌<◌, ◌≤◌, Bool, true, false, cond, ltb, List, [], ◌∷◌, ◌++◌, length, sym, refl, ap, ◌∙◌, subst, inl, inr, not-suc-le-zero, add-zero, arith}
use Rattle.std.proofs.lemmas.Bool.{cases_eq, cond_both, and_parts, and_from, cases_Bool}
use Rattle.gates.specs.Cnots.{cnot}
use Rattle.pieces.specs.Runs.{gates_legal}
use Rattle.clearing.specs.Clearing.{Placed, replay, one, count, rising, below, cons_if, Grid, best, Work, best_trial, better}

-- a fact of each element
abbrev pub All : {A : Type 0} → (A → Type 0) → List A → Type 0
All P [] = Unit {0}
All P (x ∷ xs) = P x × All P xs

-- what each turn of a loop carries on from line i to line i + 1 holds at the end
pub rising_ind : {A : Type 0} (P : ℕ → A → Type 0) (f : ℕ → ℕ → A → A) (n : ℕ)
    → ((i m : ℕ) (w : A) → i + suc m ≡ n → P i w → P (suc i) (f i m w))
    → (k m : ℕ) (w : A) → k + m ≡ n → P k w → P n (rising f k m w)
unfolding rising
rising_ind P f n step k zero w e h = subst (λ (x : ℕ). P x w) (sym (add-zero k) ∙ e) h
rising_ind P f n step k (suc m) w e h = rising_ind P f n step (suc k) m (f k m w) (omega arith) (step k m w e h)

pub below_true : (n : ℕ) (p : ℕ → Bool) → below n p ≡ true → (k : ℕ) → k < n → p k ≡ true
unfolding below
below_true zero p e k h = absurd (not-suc-le-zero h)
below_true (suc n) p e k h =
    elim (cases_eq k n) [ inl q ↦ ap p q ∙ (and_parts (p n) (below n p) e).0 | inr q ↦ below_true n p (and_parts (p n) (below n p) e).1 k (omega arith) ]

pub below_from : (n : ℕ) (p : ℕ → Bool) → ((k : ℕ) → k < n → p k ≡ true) → below n p ≡ true
unfolding below
below_from zero p h = refl
below_from (suc n) p h = and_from (p n) (below n p) (h n (omega arith)) (below_from n p (λ k hk. h k (omega arith)))

pub all_if : {A : Type 0} (P : A → Type 0) (b : Bool) (x : A) (xs : List A) → (b ≡ true → P x) → All P xs → All P (cons_if b x xs)
all_if P true x xs h hs = (h refl, hs)
all_if P false x xs h hs = hs

pub legal_append : (n : ℕ) (xs ys : List Placed) → gates_legal cnot n xs ≡ true → gates_legal cnot n ys ≡ true → gates_legal cnot n (xs ++ ys) ≡ true
legal_append n [] ys h k = k
legal_append n (x ∷ xs) ys h k =
    let q = and_parts (cnot.legal n x.1) (gates_legal cnot n xs) h in
    and_from (cnot.legal n x.1) (gates_legal cnot n (xs ++ ys)) q.0 (legal_append n xs ys q.1 k)

pub replay_append : (G : Grid) (xs ys : List Placed) (s : G.State) → replay G (xs ++ ys) s ≡ replay G ys (replay G xs s)
replay_append G [] ys s = refl
replay_append G (x ∷ xs) ys s = replay_append G xs ys (G.place x s)

pub if_nil : {A : Type 0} (b : Bool) (x : A) (xs : List A) → cons_if b x xs ≡ [] → (b ≡ false) × (xs ≡ [])
if_nil true x xs e = absurd (omega (arith, ap length e))
if_nil false x xs e = (refl, e)

pub best_all : (G : Grid) (s : G.State) (P : Placed → Type 0) (g : Placed) (gs : List Placed) → P g → All P gs → P (best G s g gs)
unfolding best
best_all G s P g [] h hs = h
best_all G s P g (x ∷ gs) h hs =
    best_all G s P (cond (ltb (G.cost (G.place x s)) (G.cost (G.place g s))) x g) gs
    (cond_both (ltb (G.cost (G.place x s)) (G.cost (G.place g s))) x g P (λ e. hs.0) (λ e. h)) hs.1

pub best_trial_all : (G : Grid) (s : G.State) (P : Work G → Type 0) (a : Work G) (bs : List (Work G)) → P a → All P bs → P (best_trial G s a bs)
unfolding best_trial
best_trial_all G s P a [] h hs = h
best_trial_all G s P a (b ∷ bs) h hs =
    best_trial_all G s P (cond (better G s a b) b a) bs (cond_both (better G s a b) b a P (λ e. hs.0) (λ e. h)) hs.1

-- ---- counts

pub count_yes : (p : ℕ → Bool) (n : ℕ) → p n ≡ true → count p (suc n) ≡ suc (count p n)
unfolding count
count_yes p n e = rw e (omega arith)

pub count_more : (p : ℕ → Bool) (n : ℕ) → count p n ≤ count p (suc n)
unfolding count
count_more p n = omega arith

pub count_zero : (p : ℕ → Bool) → count p 0 ≡ 0
unfolding count
count_zero p = refl

-- where q passes p passes
one_le : (a b : Bool) → (a ≡ true → b ≡ true) → one a ≤ one b
one_le true b h = rw (h refl) (omega arith)
one_le false b h = omega arith

pub count_le : (p q : ℕ → Bool) (n : ℕ) → ((k : ℕ) → k < n → p k ≡ true → q k ≡ true) → count p n ≤ count q n
unfolding count
count_le p q zero h = omega arith
count_le p q (suc n) h =
    let a : one (p n) ≤ one (q n) = one_le (p n) (q n) (h n (omega arith)) in
    let b : count p n ≤ count q n = count_le p q n (λ k hk. h k (omega arith)) in
    omega arith

-- and q passes at one number more
pub count_lt : (p q : ℕ → Bool) (n d : ℕ) → ((k : ℕ) → k < n → p k ≡ true → q k ≡ true) → d < n → p d ≡ false → q d ≡ true
    → count p n < count q n
unfolding count
count_lt p q zero d h hd x y = absurd (not-suc-le-zero hd)
count_lt p q (suc n) d h hd no' yes' =
    let a : one (p n) ≤ one (q n) = one_le (p n) (q n) (h n (omega arith)) in
    let b : count p n ≤ count q n = count_le p q n (λ k hk. h k (omega arith)) in
    elim (cases_eq d n) [
      | inl e ↦ rw (subst (λ (x : ℕ). p x ≡ false) e no', subst (λ (x : ℕ). q x ≡ true) e yes') (omega arith)
      | inr e ↦ let c : count p n < count q n = count_lt p q n d (λ k hk. h k (omega arith)) (omega arith) no' yes' in omega arith
    ]

pub count_none : (p : ℕ → Bool) (n : ℕ) → count p n ≡ 0 → (k : ℕ) → k < n → p k ≡ false
unfolding count
count_none p zero e k hk = absurd (not-suc-le-zero hk)
count_none p (suc n) e k hk =
    elim (cases_Bool (p n)) [
      | inl q ↦ absurd (omega (arith, ap (λ (b : Bool). one b + count p n) (sym q) ∙ e))
      | inr q ↦
          let r : count p n ≡ 0 = omega (arith, ap (λ (b : Bool). one b + count p n) (sym q) ∙ e) in
          elim (cases_eq k n) [ inl x ↦ ap p x ∙ q | inr x ↦ count_none p n r k (omega arith) ]
    ]

pub count_top : (p : ℕ → Bool) (n : ℕ) → count p n ≤ n
unfolding count
count_top p zero = omega arith
count_top p (suc n) = omega (arith, one_le (p n) true (λ _. refl), count_top p n)
