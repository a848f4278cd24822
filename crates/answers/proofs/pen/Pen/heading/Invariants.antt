use Rattle.std.proofs.Common.{◌≡◌, ◌+◌, ◌*◌, ◌≤◌, length, take}
use Rattle.sheet.specs.Render.{lines_text}
use Rattle.answers.specs.Answers.{head_lines}
use Rattle.answers.specs.Pens.{Writes}
use Rattle.answers.proofs.Headings.{counts}
use Rattle.answers.proofs.pen.Pen.heading.Given as goal

abbrev pub invariant-loop-head : goal.invariant-loop-head
invariant-loop-head l = record {
  written : Writes l.fn.self (lines_text (head_lines (length l.heads.items) (take l.head-index l.heads.items))) l.self;
  place : l.first ≡ length l.heads.items + 2 + counts (take l.head-index l.heads.items);
  small : l.first ≤ 18 + l.head-index * 4294967296;
}
