-- How gates are written in text.
use Rattle.std.specs.Prelude.{ℕ, zero, suc, cond, List, [], ◌++◌, codes, decimal}
use Rattle.words.specs.Words.{has}
use Rattle.gates.specs.declared.cnot.Cnot.{Cnot}
use Rattle.gates.specs.declared.mct.Mct.{Mct}

-- A CNOT gate as (control, target).
abbrev pub cnot_text : Cnot → List ℕ
cnot_text g = codes "(" ++ (decimal g.control ++ (codes ", " ++ (decimal g.target ++ codes ")")))

-- The controls of an MCT gate among the first lines, each with a space after it.
abbrev pub controls_text : Mct → ℕ → List ℕ
controls_text g zero = []
controls_text g (suc line) = controls_text g line ++ cond (has g.controls line) (decimal line ++ codes " ") []

-- An MCT gate as (controls -> target), with a space after each control.
abbrev pub mct_text : Mct → List ℕ
mct_text g = codes "(" ++ (controls_text g 8 ++ (codes "-> " ++ (decimal g.target ++ codes ")")))
