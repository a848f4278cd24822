-- Circuits: gates in the order in which a word passes them.
use Rattle.std.specs.Prelude.{ℕ, Bool, List}
use Rattle.std.specs.List.{fold, list_all}
use Rattle.gates.specs.Gates.{Kind}

-- What the gates make of a word on n lines.
abbrev pub through : {G : Type 0} → Kind G → ℕ → List G → ℕ → ℕ
through K n gs x = fold (λ w g. K.act n g w) x gs

abbrev pub all_legal : {G : Type 0} → Kind G → ℕ → List G → Bool
all_legal K n = list_all (K.legal n)
