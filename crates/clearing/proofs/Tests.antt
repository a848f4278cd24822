-- The test for a solved line and what it says.
use Rattle.std.proofs.Common.{◌≡◌, ℕ, Bool, true, false, ◌&&◌, eqb, sym, refl}
use mathlib.Core.Bool.{beq}
use Rattle.std.proofs.lemmas.Bool.{both_ways, and_parts, and_from}
use Rattle.gates.specs.declared.end.End.{End}
use Rattle.gates.specs.declared.end.End.TheVariants.{Input, Output}
use Rattle.clearing.specs.Clearing.{Grid, line, solved, below}
use Rattle.clearing.proofs.Lawful.{Solved}
use Rattle.clearing.proofs.Loops.{below_true, below_from}

pub beq_true : (a b : Bool) → beq a b ≡ true → a ≡ b
beq_true true true e = refl
beq_true true false e = absurd (both_ways false refl e)
beq_true false true e = absurd (both_ways false refl e)
beq_true false false e = refl

pub beq_from : (a b : Bool) → a ≡ b → beq a b ≡ true
beq_from true true e = refl
beq_from true false e = sym e
beq_from false true e = e
beq_from false false e = refl

pub solved_true : (G : Grid) (n : ℕ) (s : G.State) (d : ℕ) → solved G n s d ≡ true → Solved G n s d
unfolding below solved
solved_true G n s d h e k hk = side e
  where
    both : (beq (G.entry s d k) (eqb d k) ≡ true) × (beq (G.entry s k d) (eqb d k) ≡ true)
    both = and_parts _ _ (below_true n (λ k. beq (G.entry s d k) (eqb d k) && beq (G.entry s k d) (eqb d k)) h k hk)

    side : (e : End) → line G e s d k ≡ eqb d k
    side Output = beq_true (G.entry s d k) (eqb d k) both.0
    side Input = beq_true (G.entry s k d) (eqb d k) both.1

pub solved_from : (G : Grid) (n : ℕ) (s : G.State) (d : ℕ) → Solved G n s d → solved G n s d ≡ true
unfolding solved below
solved_from G n s d h =
    below_from n (λ k. beq (G.entry s d k) (eqb d k) && beq (G.entry s k d) (eqb d k))
    (λ k hk. and_from _ _ (beq_from (G.entry s d k) (eqb d k) (h Output k hk)) (beq_from (G.entry s k d) (eqb d k) (h Input k hk)))
