use Rattle.std.proofs.Common.{◌≡◌, ◌+◌, ◌-◌, List, length}
use Rattle.sheet.specs.declared.entry.Entry.{Entry}
use Rattle.sheet.specs.Text.{pieces}
use Rattle.sheet.specs.Body.{body_lines, laid}
use Rattle.sheet.proofs.Bodies.{after}
use Rattle.sheet.proofs.body.read_lines.Given as goal

-- what the lines so far hold is laid into the places
abbrev pub invariant-loop-at : goal.invariant-loop-at
invariant-loop-at l =
    (done : List Entry) × (length done ≡ l.at)
    × (body_lines l.body.contents.kind l.body.contents.lines l.body.first 0 l.count (pieces 10 l.body.part.now)
    ≡ after done (body_lines l.body.contents.kind l.body.contents.lines l.body.first l.at (l.count - l.at) (pieces 10 l.rest.lines.now)))
    × (l.entries ≡ laid l.initial.entries done) × (l.rest.number ≡ l.body.first + l.at)
