use Rattle.std.proofs.Common.{◌≡◌, ◌*◌, ◌≤◌}
use Rattle.elimination.specs.Halves.{off}
use Rattle.elimination.proofs.Sums.{total}
use Rattle.elimination.proofs.pair.new.count_off.Given as goal

abbrev pub invariant-loop-i : goal.invariant-loop-i
invariant-loop-i l = (l.count ≡ total l.i (off l.rows)) × (l.count ≤ 64 * l.i)
