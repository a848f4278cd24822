-- A piece of one line, by the images of its two words.
use Rattle.std.specs.Prelude.{◌≡◌, ℕ, ◌-◌, ◌*◌, ◌^◌, cond, [], ◌∷◌, Some, None, Ok, Err, Option, Result, ◌==◌, slice_index}
use Rattle.gates.specs.declared.end.End.TheVariants.{Output}
use Rattle.gates.specs.declared.mct.Mct.{Mct}
use Rattle.gates.specs.declared.refusal.Refusal.{Refusal}
use Rattle.pieces.specs.Meanings.{Meaning}
use Rattle.pieces.specs.Rows.{first_wide, unless_wide}
use Rattle.pieces.specs.Runs.{Plan}
use Rattle.wires.specs.declared.wire.Wire.{Wire}

-- One line, and the image of each of its words.
abbrev pub wire_meaning : Wire → Meaning
wire_meaning w = record { lines = 1; map = λ x. cond (x == 0) (slice_index w.images 0) (slice_index w.images 1) }

-- Why a piece is not made of these images of 0 and 1: the first that is no word on one line.
abbrev pub unfit : (a b : ℕ) → Option Refusal
unfit a b = unless_wide (first_wide 1 0 (a ∷ b ∷ []))

-- A piece made of two images has them, or is declined for the first that is too large.
abbrev pub Made : (a b : ℕ) → Result Wire Refusal → Type 0
Made a b (Ok w) = (unfit a b ≡ None) × (w.images ≡ a ∷ b ∷ [])
Made a b (Err why) = unfit a b ≡ Some why

-- A NOT gate on the one line.
abbrev pub invert : Mct
invert = record { controls = 0; target = 0 }

-- One NOT gate at the output where 0 and 1 are exchanged, otherwise none.
abbrev pub wire_plan : Plan Mct
wire_plan = record { gates = λ n f. cond (f 0 == 0) [] ((Output, invert) ∷ []); budget = λ n. n * (2 ^ n - 1) }
