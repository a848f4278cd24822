-- What a legal gate keeps to.
use Rattle.std.proofs.Common.{◌≡◌, ℕ, ◌^◌, ◌<◌, ◌≤◌, true}
use Rattle.std.proofs.lemmas.Bool.{and_parts, leb-true, ltb-true}
use Rattle.gates.specs.declared.cnot.Cnot.{Cnot}
use Rattle.gates.specs.declared.mct.Mct.{Mct}
use Rattle.gates.specs.Cnots.{cnot}
use Rattle.gates.specs.Mcts.{mct}

pub cnot_parts : (n : ℕ) (g : Cnot) → cnot.legal n g ≡ true → (n ≤ 64) × (g.control < n) × (g.target < n)
cnot_parts n g h =
    let a = and_parts _ _ (and_parts _ _ h).1 in
    let b = and_parts _ _ a.1 in
    let c = and_parts _ _ b.1 in
    (leb-true _ _ a.0, ltb-true _ _ b.0, ltb-true _ _ c.0)

pub mct_parts : (n : ℕ) (g : Mct) → mct.legal n g ≡ true → (n ≤ 8) × (g.controls < 2 ^ n) × (g.target < n)
mct_parts n g h =
    let a = and_parts _ _ (and_parts _ _ h).1 in
    let b = and_parts _ _ a.1 in
    let c = and_parts _ _ b.1 in
    (leb-true _ _ a.0, ltb-true _ _ b.0, ltb-true _ _ c.0)
