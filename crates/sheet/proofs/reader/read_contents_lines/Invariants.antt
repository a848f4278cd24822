use Rattle.std.proofs.Common.{◌≡◌, ◌+◌, ◌-◌, ◌*◌, ◌≤◌, length}
use Rattle.sheet.specs.Text.{pieces}
use Rattle.sheet.specs.Sheet.{contents_lines}
use Rattle.sheet.proofs.Bodies.{after}
use Rattle.sheet.proofs.reader.read_contents_lines.Given as goal

abbrev pub invariant-loop-item : goal.invariant-loop-item
invariant-loop-item l =
    (contents_lines l.k 2 (l.k + 2) (pieces 10 l.fn.sheet.lines.now) ≡ after l.items.items (contents_lines (l.k - l._item) l.rest.number l.first (pieces 10 l.rest.lines.now)))
    × (l.first ≤ 18 + l._item * 100000) × (length l.items.items ≡ l._item) × (l.rest.number ≡ l._item + 2)
