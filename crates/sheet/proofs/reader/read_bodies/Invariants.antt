use Rattle.std.proofs.Common.{◌≡◌, ◌+◌, ◌*◌, ◌≤◌, ◌++◌, length, drop, Ok}
use Rattle.sheet.specs.Text.{pieces}
use Rattle.sheet.specs.Fault.{and_then}
use Rattle.sheet.specs.Sheet.{bodies}
use Rattle.sheet.specs.Parts.{parts_from, sheet_items}
use Rattle.sheet.proofs.reader.read_bodies.Given as goal

abbrev pub invariant-loop-told : goal.invariant-loop-told
invariant-loop-told l =
    (and_then (bodies l.contents (length l.contents + 2) (pieces 10 (drop l.from l.sheet))) (λ hs. Ok (parts_from (length l.contents + 2) l.from hs))
    ≡ and_then (bodies (drop l.told-index l.contents) l.first (pieces 10 (drop l.start l.sheet))) (λ hs. Ok (sheet_items l.items ++ parts_from l.first l.start hs)))
    × (l.first ≤ 18 + l.told-index * 100000) × (l.items.count ≡ l.told-index) × (l.start ≤ length l.sheet)
