use Rattle.std.proofs.Common.{◌≡◌, ℕ, ◌<◌, ◌≤◌, get_or, None, Some, Option, MatchOption, IsSome, refl, rules, tests}
use Rattle.std.proofs.lemmas.Iterator.{first_from_Range}
use Rattle.words.specs.Words.{bit}
use Rattle.matrices.specs.Meanings.{rows_of}
use Rattle.matrices.proofs.Clearings.{some_pivot}
use Rattle.matrices.proofs.matrix.inverse.Solving.pivot_row.Goals as goal
use Rattle.matrices.proofs.matrix.inverse.Solving.pivot_row.Goals.{After-find}

-- what the search of the rows tells
searched : (c : After-find) → MatchOption c.find.result ((k : ℕ) → c.args.self.now.done ≤ k → k < c.args.self.now.left.lines → bit (get_or (rows_of c.args.self.now.left) k 0) c.args.self.now.done ≡ 0)
    (λ r. (c.args.self.now.done ≤ r) × (r < c.args.self.now.left.lines) × (bit (get_or (rows_of c.args.self.now.left) r 0) c.args.self.now.done ≡ 1)
    × ((k : ℕ) → c.args.self.now.done ≤ k → k < r → bit (get_or (rows_of c.args.self.now.left) k 0) c.args.self.now.done ≡ 0))
searched c =
    let s = c.args.self.now in
    first_from_Range _ _ _ c.find.result (λ r. bit (get_or (rows_of s.left) r 0) s.done ≡ 1) (λ r. bit (get_or (rows_of s.left) r 0) s.done ≡ 0)
    c.find.ensures.ran (λ x q k. search (rules, tests)) (λ x q k. search (rules, tests))

is_some : (o : Option ℕ) (P : Type 0) (Q : ℕ → Type 0) → MatchOption o P Q → (P → ⊥) → IsSome o
is_some None P Q h none = absurd (none h)
is_some (Some r) P Q h none = refl

pub unwrap-requires : goal.unwrap-requires
unwrap-requires c =
    let s = c.args.self.now in
    is_some c.find.result _ _ (searched c) (some_pivot s.left s.done c.requires s.solved)

pub returns-clause-first : goal.returns-clause-first
returns-clause-first c = let h = searched (goal.at.returns-clause-first c).After-find in (rw c.unwrap.ensures at h).3
