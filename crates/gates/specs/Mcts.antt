-- MCT gates.
use Rattle.std.specs.Prelude.{ℕ, ◌^◌, Bool, cond, not, ◌&&◌, ◌==◌, bit_and, nat_le, nat_lt}
use Rattle.words.specs.Words.{has}
use Rattle.gates.specs.Gates.{Kind}
use Rattle.gates.specs.Flips.{flip}
use Rattle.gates.specs.Probes.{Probes}
use Rattle.gates.specs.declared.mct.Mct.{Mct}

-- On 1 to 8 lines, controls and target are among them, and the target is no control.
abbrev pub mct_legal : ℕ → Mct → Bool
mct_legal n g = nat_le 1 n && (nat_le n 8 && (nat_lt g.controls (2 ^ n) && (nat_lt g.target n && not (has g.controls g.target))))

abbrev pub mct : Kind Mct
mct = record {
  most = 8;
  legal = mct_legal;
  act = λ n g w. flip (mct_legal n g) (bit_and w g.controls == g.controls) n g.target w;
}

-- Every word. On more than 8 lines no gate is legal, and none is needed.
abbrev pub mct_probes : Probes
mct_probes = record { count = λ n. cond (nat_le n 8) (2 ^ n) 0; word = λ k. k }
