-- Clearing the lines of a matrix, over any matrix that tells its entries, takes a gate at either end and tells its cost.
use Rattle.std.specs.Prelude.{ℕ, zero, suc, ◌+◌, ◌*◌, Bool, true, cond, not, ◌&&◌, ◌||◌, List, [], ◌∷◌, ◌++◌, length, ◌==◌, nat_le, nat_lt}
use Rattle.std.specs.Bool.{beq}
use Rattle.gates.specs.declared.cnot.Cnot.{Cnot}
use Rattle.gates.specs.declared.end.End.{End}
use Rattle.gates.specs.declared.end.End.TheVariants.{Input, Output}

-- A CNOT gate, and the end at which it goes in.
abbrev pub Placed : Type 0
Placed = End × Cnot

-- The gate that adds line a to line b: at the output end row a to row b, at the input end column a to column b.
abbrev pub adding : End → ℕ → ℕ → Placed
adding Output a b = (Output, record { control = a; target = b })
adding Input a b = (Input, record { control = b; target = a })

-- What clearing asks of a matrix. The gain of a gate is the cost before it less the cost after it, so that of some gates
-- the one with the largest gain is the one that leads to the least cost.
pub record Grid : Type 1 where
  pub State : Type 0
  pub entry : State → ℕ → ℕ → Bool
  pub place : Placed → State → State
  pub cost : State → ℕ

-- A state, and the gates that led to it in the order found.
pub record Work (G : Grid) : Type 0 where
  pub state : G.State
  pub gates : List Placed

-- The test passes at each number below n.
unfoldable pub below : ℕ → (ℕ → Bool) → Bool
below zero p = true
below (suc k) p = p k && below k p

-- How many numbers below n pass the test.
abbrev pub one : Bool → ℕ
one b = cond b 1 0

unfoldable pub count : (ℕ → Bool) → ℕ → ℕ
count p zero = 0
count p (suc n) = one (p n) + count p n

-- For m lines i rising from k, `f i j` in turn, where j lines stand above i.
unfoldable pub rising : {A : Type 0} → (ℕ → ℕ → A → A) → ℕ → ℕ → A → A
rising f k zero w = w
rising f k (suc m) w = rising f (suc k) m (f k m w)

abbrev pub cons_if : {A : Type 0} → Bool → A → List A → List A
cons_if b x xs = cond b (x ∷ xs) xs

module _ (G : Grid) where
  -- Row r at the output end, column r at the input end, at place k.
  abbrev pub line : End → G.State → ℕ → ℕ → Bool
  line Output s r k = G.entry s r k
  line Input s r k = G.entry s k r

  -- The state after some gates, in the order found.
  abbrev pub replay : List Placed → G.State → G.State
  replay [] s = s
  replay (g ∷ gs) s = replay gs (G.place g s)

  abbrev pub put : Placed → Work G → Work G
  put g w = record { state = G.place g w.state; gates = w.gates ++ (g ∷ []) }

  -- Of some gates the one with the largest gain, the first among equals.
  unfoldable pub best : G.State → Placed → List Placed → Placed
  best s g [] = g
  best s g (h ∷ hs) = best s (cond (nat_lt (G.cost (G.place h s)) (G.cost (G.place g s))) h g) hs

  unfoldable pub put_best : List Placed → Work G → Work G
  put_best [] w = w
  put_best (g ∷ gs) w = put (best w.state g gs) w

  -- A gate is kept if its gain is at least 2.
  unfoldable pub try : Placed → Work G → Work G
  try g w = cond (nat_le (G.cost (G.place g w.state) + 2) (G.cost w.state)) (put g w) w

  -- Row d and column d are those of identity.
  unfoldable pub solved : ℕ → G.State → ℕ → Bool
  solved n s d = below n (λ k. beq (G.entry s d k) (d == k) && beq (G.entry s k d) (d == k))

  -- How many of n lines are unsolved.
  unfoldable pub left : ℕ → G.State → ℕ
  left n s = count (λ i. not (solved n s i)) n

  -- Stage 1 at line i: unless it is d or solved, the output gate (i, d) is tried, then the input gate (d, i).
  unfoldable pub greedy_at : ℕ → ℕ → ℕ → ℕ → Work G → Work G
  greedy_at n d i j w = cond (i == d || solved n w.state i) w (try (adding Input i d) (try (adding Output i d) w))

  -- Stage 2: the gates that bring a one to (d, d), for m lines i rising from k: the output gate (i, d) where entry (i, d)
  -- is 1, then the input gate (d, i) where entry (d, i) is 1.
  unfoldable pub pivots : G.State → ℕ → ℕ → ℕ → List Placed
  pivots s d k zero = []
  pivots s d k (suc m) = cons_if (G.entry s k d) (adding Output k d) (cons_if (G.entry s d k) (adding Input k d) (pivots s d (suc k) m))

  -- The one with the largest gain is kept, if entry (d, d) is 0.
  unfoldable pub pivot : ℕ → ℕ → Work G → Work G
  pivot n d w = cond (G.entry w.state d d) w (put_best (pivots w.state d 0 n) w)

  -- Stages 3 and 4: the gates that add to line i one of m lines from k, other than d, with a one at d.
  unfoldable pub helpers : End → G.State → ℕ → ℕ → ℕ → ℕ → List Placed
  helpers e s d i k zero = []
  helpers e s d i k (suc m) = cons_if (not (k == d) && line e s k d) (adding e k i) (helpers e s d i (suc k) m)

  -- At line i, with j lines above it: where it has a one at d, the best of line d and the lines above i is added to it.
  unfoldable pub sweep_at : End → ℕ → ℕ → ℕ → Work G → Work G
  sweep_at e d i j w =
      cond (not (i == d) && line e w.state i d) (put (best w.state (adding e d i) (helpers e w.state d i (suc i) j)) w) w

  -- Line d is cleared in four stages.
  unfoldable pub clear : ℕ → ℕ → Work G → Work G
  clear n d w = rising (sweep_at Input d) 0 n (rising (sweep_at Output d) 0 n (pivot n d (rising (greedy_at n d) 0 n w)))

  abbrev pub start : G.State → Work G
  start s = record { state = s; gates = [] }

  -- Of two trials from s, the second has the larger cost drop per gate.
  unfoldable pub better : G.State → Work G → Work G → Bool
  better s a b =
      nat_lt (G.cost s * length b.gates + G.cost b.state * length a.gates) (G.cost s * length a.gates + G.cost a.state * length b.gates)

  unfoldable pub best_trial : G.State → Work G → List (Work G) → Work G
  best_trial s a [] = a
  best_trial s a (b ∷ bs) = best_trial s (cond (better s a b) b a) bs

  -- Each unsolved line of m lines from k, cleared from s as a trial.
  unfoldable pub trials : ℕ → G.State → ℕ → ℕ → List (Work G)
  trials n s k zero = []
  trials n s k (suc m) = cons_if (not (solved n s k)) (clear n k (start s)) (trials n s (suc k) m)

  abbrev pub after : Work G → Work G → Work G
  after w t = record { state = t.state; gates = w.gates ++ t.gates }

  unfoldable pub keep_best : List (Work G) → Work G → Work G
  keep_best [] w = w
  keep_best (t ∷ ts) w = after w (best_trial w.state t ts)

  -- One turn of a run: at cost 0 nothing, else the line with the largest cost drop per gate, the smaller line on equal
  -- ratios.
  unfoldable pub turn : ℕ → Work G → Work G
  turn n w = cond (G.cost w.state == 0) w (keep_best (trials n w.state 0 n) w)

  unfoldable pub turns : ℕ → ℕ → Work G → Work G
  turns n zero w = w
  turns n (suc k) w = turns n k (turn n w)

  -- Each turn solves a line, so that n turns are enough.
  unfoldable pub run : ℕ → G.State → Work G
  run n s = turns n n (start s)
