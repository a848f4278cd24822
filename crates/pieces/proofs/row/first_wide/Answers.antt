use Rattle.std.proofs.Common.{◌≡◌, ℕ, ◌+◌, ◌^◌, Bool, true, false, not, ltb, List, [], ◌∷◌, Some, cond, refl, ◌∙◌, rules, tests}
use Rattle.std.specs.List.{position_from}
use Rattle.std.proofs.lemmas.Iterator.{YieldsList-from_slice}
use Rattle.std.proofs.lemmas.Iterator.Adapters.{position_from-zero}
use Rattle.std.proofs.lemmas.Iterator.Search.{position_from_yields_List}
use Rattle.pieces.specs.Rows.{first_wide}
use Rattle.pieces.proofs.row.first_wide.Goals as goal

abbrev is_wide : ℕ → ℕ → Bool
is_wide n row = not (ltb row (2 ^ n))

first_from : (n at : ℕ) (rows : List ℕ) → position_from (is_wide n) at rows ≡ first_wide n at rows
first_from n at [] = refl
first_from n at (row ∷ rows) =
    elim (ltb row (2 ^ n)) as (λ b. cond (not b) (Some at) (position_from (is_wide n) (at + 1) rows) ≡ cond b (first_wide n (at + 1) rows) (Some at))
    [ true ↦ first_from n (at + 1) rows | false ↦ refl ]

pub returns : goal.returns
returns c =
    let rows = c.args.rows.now in
    position_from_yields_List (is_wide c.args.n) _ _ _ c.position.ensures.ran (YieldsList-from_slice rows cc) (λ x b q k. search (rules, tests))
    ∙ position_from-zero (is_wide c.args.n) rows ∙ first_from c.args.n 0 rows
