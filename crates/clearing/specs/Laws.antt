-- Why clearing is right: what clearing a line, a turn and a whole run come to.
use Rattle.std.specs.Prelude.{◌≡◌, ℕ, ◌+◌, ◌-◌, ◌*◌, ◌<◌, ◌≤◌, true, false, length}
use Rattle.words.specs.Maps.{Identity}
use Rattle.gates.specs.Cnots.{cnot}
use Rattle.pieces.specs.Runs.{gates_legal}
use Rattle.matrices.specs.Matrices.{image}
use Rattle.clearing.specs.Clearing.{Work, replay, solved, left, start, clear, run}
use Rattle.clearing.specs.Pairs.{Pair, Inverses, cost, pairs}

-- What clearing the unsolved line d of p leaves: d is solved, solved lines stay solved, and where m lines were unsolved
-- the gates, all of them legal, are at least 1 and at most 4 m - 3.
pub record Solves (n : ℕ) (p : Pair) (d : ℕ) (t : Work pairs) : Type 0 where
  pub now : solved pairs n t.state d ≡ true
  pub still : (k : ℕ) → k < n → solved pairs n p k ≡ true → solved pairs n t.state k ≡ true
  pub fewer : left pairs n t.state < left pairs n p
  pub some : 1 ≤ length t.gates
  pub few : length t.gates + 3 ≤ 4 * left pairs n p
  pub reached : replay pairs t.gates p ≡ t.state
  pub legal : gates_legal cnot n t.gates ≡ true
  pub inverses : Inverses n t.state

-- On at most 64 lines, since a gate is legal on no more.
abbrev pub ClearSolves : Type 0
ClearSolves = (n : ℕ) → n ≤ 64 → (p : Pair) → Inverses n p → (d : ℕ) → d < n → solved pairs n p d ≡ false → Solves n p d (clear pairs n d (start pairs p))

-- The places that are enough while m lines are unsolved.
abbrev pub room : ℕ → ℕ
room m = (m - 1) * (2 * m + 1)

-- What a run from p leaves: identity, reached by legal gates, of which there are at most (n - 1) (2 n + 1).
pub record Finished (n : ℕ) (p : Pair) (w : Work pairs) : Type 0 where
  pub identity : Identity n (image w.state.matrix)
  pub free : cost w.state ≡ 0
  pub reached : replay pairs w.gates p ≡ w.state
  pub legal : gates_legal cnot n w.gates ≡ true
  pub few : length w.gates ≤ room n
  pub inverses : Inverses n w.state

abbrev pub RunEnds : Type 0
RunEnds = (n : ℕ) → n ≤ 64 → (p : Pair) → Inverses n p → Finished n p (run pairs n p)
