-- What a map costs, what a gate gains on it, and how both are told.
use Rattle.std.specs.Prelude.{◌≡◌, ℕ, ◌*◌, true, false, ℤ, pos, ◌-ℤ◌, neg_ℤ, ◌≤ℤ◌, Some, None, Ok, Err, Option, Result}
use Rattle.words.specs.Maps.{Clash}
use Rattle.gates.specs.Cnots.{cnot}
use Rattle.gates.specs.Refusals.{unless_clash}
use Rattle.gates.specs.declared.cnot.Cnot.{Cnot}
use Rattle.gates.specs.declared.end.End.{End}
use Rattle.gates.specs.declared.refusal.Refusal.{Refusal}
use Rattle.gates.specs.declared.refusal.Refusal.TheVariants.{IllegalGate}
use Rattle.pieces.specs.Meanings.{Meaning, moved}
use Rattle.clearing.specs.Pairs.{cost}
use Rattle.clearing.specs.Plans.{pair_of}

-- The cost of a map on n lines: in how many entries its matrix and the inverse differ from identity.
abbrev pub map_cost : ℕ → (ℕ → ℕ) → ℕ
map_cost n f = cost (pair_of n f)

-- The cost before a gate less the cost after it.
abbrev pub map_gain : ℕ → (ℕ → ℕ) → End → Cnot → ℤ
map_gain n f e g = pos (map_cost n f) -ℤ pos (map_cost n (moved cnot n e g f))

-- A number, unless a call declines.
abbrev pub told : {A : Type 0} → Option Refusal → A → Result A Refusal
told None x = Ok x
told (Some why) x = Err why

-- A map under which two words share an image is declined; of any other the number is told.
abbrev pub UnlessClash : {A : Type 0} → Meaning → A → Result A Refusal → Type 0
UnlessClash m x r = (clash : Option (ℕ × ℕ)) × Clash m.lines m.map clash × (r ≡ told (unless_clash clash None) x)

abbrev pub CostTold : Meaning → Result ℕ Refusal → Type 0
CostTold m r = UnlessClash m (map_cost m.lines m.map) r

-- An illegal gate is declined first.
pub record GainTold (m : Meaning) (e : End) (g : Cnot) (r : Result ℤ Refusal) : Type 0 where
  pub illegal : cnot.legal m.lines g ≡ false → r ≡ Err IllegalGate
  pub legal : cnot.legal m.lines g ≡ true → UnlessClash m (map_gain m.lines m.map e g) r

-- A gain on n lines is at least -2 n and at most 2 n.
abbrev pub Between : ℕ → ℤ → Type 0
Between n x = (neg_ℤ (pos (2 * n)) ≤ℤ x) × (x ≤ℤ pos (2 * n))
