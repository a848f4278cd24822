use Rattle.std.proofs.Common.{◌≡◌, ◌+◌, ◌*◌, ◌≤◌, drop}
use Rattle.answers.specs.Sums.{unfit_from, unfit_heads}
use Rattle.answers.proofs.contents.first_unfit.Given as goal

-- the answers before the index fit
abbrev pub invariant-loop-i : goal.invariant-loop-i
invariant-loop-i l = record {
  others : unfit_heads l.room l.heads.items ≡ unfit_from l.room (l.i + 2) l.first l.pen.at l.start (drop l.i l.heads.items);
  line : l.first ≤ 18 + l.i * 4294967296;
  place : l.pen.at ≤ 65 + l.i * 197;
  body : l.start ≤ 4096 + l.i * 65536;
}
