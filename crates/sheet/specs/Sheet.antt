-- What a sheet holds, or its first fault: it is checked for its length, and then line by line.
use Rattle.std.specs.Prelude.{◌≡◌, ℕ, zero, suc, ◌+◌, ◌<◌, Bool, true, cond, ◌&&◌, List, [], ◌∷◌, length, Ok, Err, Result, nat_le, nat_lt}
use Rattle.gates.specs.declared.refusal.Refusal.TheVariants.{WrongForm}
use Rattle.sheet.specs.declared.fault.Fault.{Fault}
use Rattle.sheet.specs.declared.fault.Layer.TheVariants as layer
use Rattle.sheet.specs.declared.contents.Contents.{Contents}
use Rattle.sheet.specs.declared.entry.Entry.{Entry}
use Rattle.sheet.specs.Text.{pieces}
use Rattle.sheet.specs.Fault.{fault, and_then, line_by}
use Rattle.sheet.specs.Form.{fits, head, contents}
use Rattle.sheet.specs.Body.{body_lines, ended}

-- k contents lines from line i on. The first of their bodies begins at the line `first`, each other where the one before it ends.
abbrev pub contents_lines : (k i first : ℕ) → List (List ℕ) → Result (List Contents × List (List ℕ)) Fault
contents_lines zero i first ps = Ok ([], ps)
contents_lines (suc k) i first ps =
    and_then (line_by layer.Contents i (contents first) ps) (λ x. and_then (contents_lines k (suc i) (first + x.0.count) x.1) (λ y. Ok (x.0 ∷ y.0, y.1)))

-- What every contents line that is read keeps to.
abbrev pub Sound : Contents → Type 0
Sound c = (fits c.kind c.lines c.count ≡ true) × (c.count < 100000)

-- An item, with what its body lines hold.
abbrev pub Held : Type 0
Held = Contents × List Entry

-- The bodies from line i on, and nothing after them.
abbrev pub bodies : List Contents → ℕ → List (List ℕ) → Result (List Held) Fault
bodies [] i ps = cond (ended ps) (Ok []) (Err (fault WrongForm i layer.Body))
bodies (c ∷ cs) i ps =
    and_then (body_lines c.kind c.lines i 0 c.count ps) (λ x. and_then (bodies cs (i + c.count) x.1) (λ ys. Ok ((c, x.0) ∷ ys)))

-- Line 1 holds k, then come k contents lines, and then the bodies.
abbrev pub sheet_lines : List (List ℕ) → Result (List Held) Fault
sheet_lines ps =
    and_then (line_by layer.Contents 1 head ps) (λ k. and_then (contents_lines k.0 2 (k.0 + 2) k.1) (λ cs. bodies cs.0 (k.0 + 2) cs.1))

-- A sheet has 1 to 16,384 bytes.
abbrev pub right_length : List ℕ → Bool
right_length s = nat_lt 0 (length s) && nat_le (length s) 16384

-- A sheet of that length, in lines ended by byte 10.
abbrev pub sheet_of : List ℕ → Result (List Held) Fault
sheet_of s = cond (right_length s) (sheet_lines (pieces 10 s)) (Err (fault WrongForm 1 layer.Contents))
