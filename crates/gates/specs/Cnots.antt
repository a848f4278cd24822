-- CNOT gates.
use Rattle.std.specs.Prelude.{ℕ, Bool, cond, not, ◌&&◌, ◌==◌, nat_le, nat_lt}
use Rattle.words.specs.Words.{has, unit}
use Rattle.gates.specs.Gates.{Kind}
use Rattle.gates.specs.Flips.{flip}
use Rattle.gates.specs.Probes.{Probes}
use Rattle.gates.specs.declared.cnot.Cnot.{Cnot}

-- On 1 to 64 lines, control and target are two of them.
abbrev pub cnot_legal : ℕ → Cnot → Bool
cnot_legal n g = nat_le 1 n && (nat_le n 64 && (nat_lt g.control n && (nat_lt g.target n && not (g.control == g.target))))

abbrev pub cnot : Kind Cnot
cnot = record {
  most = 64;
  legal = cnot_legal;
  act = λ n g w. flip (cnot_legal n g) (has w g.control) n g.target w;
}

-- The unit words. On more than 64 lines no gate is legal, and none is needed.
abbrev pub cnot_probes : Probes
cnot_probes = record { count = λ n. cond (nat_le n 64) n 0; word = unit }
