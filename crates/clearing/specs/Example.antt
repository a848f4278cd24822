-- A worked 5-line matrix.
use Rattle.std.specs.Prelude.{◌≡◌, [], ◌∷◌}
use Rattle.gates.specs.declared.end.End.TheVariants.{Input, Output}
use Rattle.clearing.specs.Clearing.{Work, start, clear}
use Rattle.clearing.specs.Pairs.{Pair, cost, pairs}

-- Rows 10011, 01101, 01110, 10110, 11001, column 0 first, and those of the inverse.
abbrev pub five : Pair
five = record { matrix = 25 ∷ 22 ∷ 14 ∷ 13 ∷ 19 ∷ []; inverse = 7 ∷ 11 ∷ 21 ∷ 26 ∷ 28 ∷ [] }

abbrev pub cleared : Work pairs
cleared = clear pairs 5 0 (start pairs five)

-- Its cost is 20. Clearing line 0 finds output gates (0, 3) and (0, 4), then input gates (3, 0) and (4, 0), and leaves cost 16.
abbrev pub Line0 : Type 0
Line0 =
    (cost five ≡ 20)
    × (cleared.gates
    ≡ (Output, record { control = 0; target = 3 }) ∷ (Output, record { control = 0; target = 4 })
    ∷ (Input, record { control = 3; target = 0 }) ∷ (Input, record { control = 4; target = 0 }) ∷ [])
    × (cost cleared.state ≡ 16)
