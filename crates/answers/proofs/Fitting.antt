-- An answer sheet of which every part fits.
use Rattle.std.proofs.Common.{◌≡◌, ℕ, ◌+◌, ◌≤◌, Bool, true, false, cond, ◌&&◌, ◌||◌, ltb, ◌⊎◌, List, [], ◌∷◌, ◌++◌, map, length, take, drop, replicate, Some, None, Ok, Err, decimal, Option, sym, refl, ap, ◌∙◌, subst, inl, inr, ⊎_elim, zero-add, arith, length-append}
use lib.ListN.{length-map}
use Rattle.std.specs.List.{sum_by}
use Rattle.std.proofs.lemmas.List.Sums.{sum_by-cons, sum_by_push}
use Rattle.std.proofs.lemmas.Fmt.{decimal_digit}
use Rattle.std.proofs.lemmas.List.{append-nil, length_push, map_push, take_all}
use Rattle.std.proofs.lemmas.Bool.{ltb-false, lt-ltb, and_cases, or_parts}
use Rattle.gates.specs.declared.refusal.Refusal.TheVariants.{AnswerTooLong}
use Rattle.sheet.specs.declared.fault.Layer.TheVariants.{Work}
use Rattle.sheet.specs.declared.fault.Fault.{Fault}
use Rattle.sheet.specs.Fault.{fault}
use Rattle.sheet.specs.Render.{lines_text}
use Rattle.answers.specs.declared.draft.Draft.{Draft}
use Rattle.answers.specs.declared.head.Head.{Head}
use Rattle.answers.specs.Answers.{Answer, body, head, contents_line, contents_lines, head_lines, heading, bodies, render, usable, line_end, body_end, misfits, unfit_after, unfit, Written, WrittenAt}
use Rattle.answers.specs.Drafts.{Drafts}
use Rattle.answers.specs.Laid.{laid, Puts}
use Rattle.answers.specs.Sums.{ends_past, unfit_from, unfit_heads}
use Rattle.sheet.proofs.ValidBack.{lines_append}
use Rattle.answers.proofs.Drafting.{bodies_push}
use Rattle.answers.proofs.Headings.{counts, contents_push}
use Rattle.answers.proofs.Laying.{laid_fits}

-- bytes that do not end past the room
pub not_past : (room at size : ℕ) → ends_past room at size ≡ false → (size ≡ 0) ⊎ (at + size ≤ room)
not_past room at size e = ⊎_elim (λ z. inl (let n = ltb-false 0 size z in omega arith)) (λ p. inr (ltb-false room (at + size) p)) (and_cases (ltb 0 size) (ltb room (at + size)) e)

-- a body that fits is no longer than the room
pub fitting_size : (room at size : ℕ) → false ≡ ends_past room at size → size ≤ room
fitting_size room at size e = ⊎_elim (λ z. omega arith) (λ l. omega arith) (not_past room at size (sym e))

line_ends : (room at size : ℕ) → ends_past room at (size + 1) ≡ false → at + (size + 1) ≤ room
line_ends room at size e = ⊎_elim (λ z. absurd (omega arith)) (λ l. l) (not_past room at (size + 1) e)

body_ends : (room at size : ℕ) → at ≤ room → ends_past room at size ≡ false → at + size ≤ room
body_ends room at size l e = ⊎_elim (λ z. omega arith) (λ k. k) (not_past room at size e)

none_left : (t : Bool) (i : ℕ) (o : Option ℕ) → cond t (Some i) o ≡ None → (t ≡ false) × (o ≡ None)
none_left true i o e = let z : ◌≡◌ {A = ℕ} 0 1 = cc in absurd (omega arith)
none_left false i o e = (refl, e)

pub unfit_some : (room : ℕ) (hs : List Head) → (length hs ≡ 0 → ⊥) → unfit_heads room hs ≡ unfit_from room 2 (length hs + 2) (length (decimal (length hs)) + 1) (length (lines_text (heading hs))) hs
unfit_some room [] n = absurd (n refl)
unfit_some room (h ∷ hs) n = refl

module _ (room i first at start : ℕ) (h : Head) (hs : List Head) (e : unfit_from room i first at start (h ∷ hs) ≡ None) where
  parts : ((ends_past room at (length (contents_line first h) + 1) || ends_past room start h.size) ≡ false) × (unfit_from room (i + 1) (first + h.count) (at + (length (contents_line first h) + 1)) (start + h.size) hs ≡ None)
  parts = none_left _ i _ e

  line_fits : at + (length (contents_line first h) + 1) ≤ room
  line_fits = line_ends room at (length (contents_line first h)) (or_parts _ _ parts.0).0

  body_fits : start ≤ room → start + h.size ≤ room
  body_fits l = body_ends room start h.size l (or_parts _ _ parts.0).1

  others_fit : unfit_from room (i + 1) (first + h.count) (at + (length (contents_line first h) + 1)) (start + h.size) hs ≡ None
  others_fit = parts.1

-- the contents lines fit
lines_fit : (room i first at start : ℕ) (hs : List Head) → unfit_from room i first at start hs ≡ None → at ≤ room → at + length (lines_text (contents_lines first hs)) ≤ room
lines_fit room i first at start [] e l = omega arith
lines_fit room i first at start (h ∷ hs) e l =
    let rest = lines_fit room (i + 1) (first + h.count) (at + (length (contents_line first h) + 1)) (start + h.size) hs (others_fit room i first at start h hs e) (line_fits room i first at start h hs e) in
    omega (arith, rest, length-append (contents_line first h ++ 10 ∷ []) (lines_text (contents_lines (first + h.count) hs)), length-append (contents_line first h) (10 ∷ []))

abbrev pub sizes : List Head → ℕ
sizes hs = sum_by (λ h. h.size) hs

-- the bodies fit
bodies_fit : (room i first at start : ℕ) (hs : List Head) → unfit_from room i first at start hs ≡ None → start ≤ room → start + sizes hs ≤ room
bodies_fit room i first at start [] e l = omega arith
bodies_fit room i first at start (h ∷ hs) e l =
    let rest = bodies_fit room (i + 1) (first + h.count) (at + (length (contents_line first h) + 1)) (start + h.size) hs (others_fit room i first at start h hs e) (body_fits room i first at start h hs e l) in
    omega (arith, rest, sum_by-cons (λ h. h.size) h hs)

sheet_fits : (room : ℕ) (hs : List Head) → unfit_heads room hs ≡ None → length (lines_text (heading hs)) + sizes hs ≤ room
sheet_fits room [] e =
    let fits = line_ends room 0 1 (none_left (ends_past room 0 2) 1 None e).0 in
    omega (arith, fits, length-append (decimal 0 ++ 10 ∷ []) [], length-append (decimal 0) (10 ∷ []), ap length (decimal_digit 0 (omega arith)))
sheet_fits room (h ∷ hs) e =
    let k = length (h ∷ hs) in
    let at = length (decimal k) + 1 in
    let start = length (lines_text (heading (h ∷ hs))) in
    let first-line = line_fits room 2 (k + 2) at start h hs e in
    let lines = lines_fit room 2 (k + 2) at start (h ∷ hs) e (omega (arith, first-line)) in
    bodies_fit room 2 (k + 2) at start (h ∷ hs) e
    (omega (arith, lines, length-append (decimal k ++ 10 ∷ []) (lines_text (contents_lines (k + 2) (h ∷ hs))), length-append (decimal k) (10 ∷ [])))

sizes_are : (xs : List Answer) → sizes (map head xs) ≡ length (lines_text (bodies xs))
sizes_are [] = refl
sizes_are (x ∷ xs) = omega (arith, sizes_are xs, sum_by-cons (λ h. h.size) (head x) (map head xs), ap length (lines_append (body x) (bodies xs)), length-append (lines_text (body x)) (lines_text (bodies xs)))

-- what ends where, by running sums
one_line : (l : List ℕ) → length (lines_text (l ∷ [])) ≡ length l + 1
one_line l = omega (arith, length-append (l ++ 10 ∷ []) [], length-append l (10 ∷ []))

line_push : (k : ℕ) (ys : List Answer) (a : Answer)
    → length (lines_text (head_lines k (map head (ys ++ a ∷ [])))) ≡ length (lines_text (head_lines k (map head ys))) + (length (contents_line (k + 2 + counts (map head ys)) (head a)) + 1)
line_push k ys a =
    let line = contents_line (k + 2 + counts (map head ys)) (head a) in
    ap (λ hs. length (lines_text (head_lines k hs))) (map_push head ys a) ∙ ap (λ ls. length (lines_text (decimal k ∷ ls))) (contents_push (k + 2) (map head ys) (head a))
    ∙ ap length (lines_append (head_lines k (map head ys)) (line ∷ [])) ∙ length-append (lines_text (head_lines k (map head ys))) (lines_text (line ∷ [])) ∙ ap (λ n. length (lines_text (head_lines k (map head ys))) + n) (one_line line)

body_push : (ls : List (List ℕ)) (ys : List Answer) (a : Answer) → length (lines_text (ls ++ bodies (ys ++ a ∷ []))) ≡ length (lines_text (ls ++ bodies ys)) + (head a).size
body_push ls ys a =
    omega (
      arith,
      ap length (lines_append ls (bodies (ys ++ a ∷ []))),
      length-append (lines_text ls) (lines_text (bodies (ys ++ a ∷ []))),
      ap length (bodies_push ys a),
      length-append (lines_text (bodies ys)) (lines_text (body a)),
      ap length (lines_append ls (bodies ys)),
      length-append (lines_text ls) (lines_text (bodies ys)),
    )

after_is : (room : ℕ) (xs ys zs : List Answer) → unfit_after room xs ys zs ≡ unfit_from room (length ys + 2) (length xs + 2 + counts (map head ys)) (line_end xs ys) (body_end xs ys) (map head zs)
after_is room xs ys [] = refl
after_is room xs ys (a ∷ zs) =
    let first = length xs + 2 + counts (map head ys) in
    let size = length (contents_line first (head a)) + 1 in
    let line = line_push (length xs) ys a in
    let end = body_push (heading (map head xs)) ys a in
    let some : ltb 0 size ≡ true = lt-ltb 0 size (omega arith) in
    let test : misfits room xs ys a ≡ (ends_past room (line_end xs ys) size || ends_past room (body_end xs ys) (head a).size) =
    (λ j. ltb room (line j) || (ltb 0 (head a).size && ltb room (end j))) ∙ ap (λ t. (t && ltb room (line_end xs ys + size)) || ends_past room (body_end xs ys) (head a).size) (sym some) in
    let place : length (ys ++ a ∷ []) + 2 ≡ length ys + 2 + 1 = omega (arith, length_push ys a) in
    let next : length xs + 2 + counts (map head (ys ++ a ∷ [])) ≡ first + (head a).count = omega (arith, ap counts (map_push head ys a), sum_by_push (λ h. h.count) (map head ys) (head a)) in
    let rest = after_is room xs (ys ++ a ∷ []) zs ∙ (λ j. unfit_from room (place j) (next j) (line j) (end j) (map head zs)) in
    λ j. cond (test j) (Some (length ys + 2)) (rest j)

pub unfit_is : (room : ℕ) (xs : List Answer) → unfit room xs ≡ unfit_heads room (map head xs)
unfit_is room [] =
    let two : length (render []) ≡ 2 = omega (arith, length-append (decimal 0 ++ 10 ∷ []) [], length-append (decimal 0) (10 ∷ []), ap length (decimal_digit 0 (omega arith))) in
    ap (λ n. cond (ltb room n) (Some 1) None) two
unfit_is room (a ∷ zs) =
    let xs = a ∷ zs in
    let first : length xs + 2 + 0 ≡ length (map head xs) + 2 = omega (arith, length-map xs head) in
    let at : line_end xs [] ≡ length (decimal (length (map head xs))) + 1 = one_line (decimal (length xs)) ∙ ap (λ n. length (decimal n) + 1) (sym (length-map xs head)) in
    let start : body_end xs [] ≡ length (lines_text (heading (map head xs))) = ap (λ ls. length (lines_text ls)) (append-nil (heading (map head xs))) in
    after_is room xs [] xs ∙ (λ j. unfit_from room 2 (first j) (at j) (start j) (map head xs))

-- a draft that fits is written
pub written_fits : (d : Draft) (xs : List Answer) → Drafts d xs → (old new : List ℕ) (r room : ℕ) → room ≡ usable old → unfit_heads room d.heads.items ≡ None
    → Puts old 0 (lines_text (heading d.heads.items) ++ take d.size d.bodies) r new → Written xs old (Ok r) new
written_fits d xs drafts old new r room usable-is none puts =
    let hs = map head xs in
    let fits : unfit_heads (usable old) hs ≡ None = (λ j. unfit_heads (sym usable-is j) (sym drafts.heads j)) ∙ none in
    let whole = lines_append (heading hs) (bodies xs) in
    let within : length (render xs) ≤ usable old = omega (arith, sheet_fits (usable old) hs fits, sizes_are xs, ap length whole, length-append (lines_text (heading hs)) (lines_text (bodies xs))) in
    let all : take d.size d.bodies ≡ lines_text (bodies xs) = drafts.bytes ∙ take_all 65536 (lines_text (bodies xs)) (omega (arith, ap length whole, length-append (lines_text (heading hs)) (lines_text (bodies xs)))) in
    let text : lines_text (heading d.heads.items) ++ take d.size d.bodies ≡ render xs = (λ j. lines_text (heading (drafts.heads j)) ++ all j) ∙ sym whole in
    let end : r ≡ length (render xs) = puts.place ∙ zero-add _ ∙ ap length text in
    let from : 0 + length (render xs) ≡ length (render xs) = zero-add _ in
    subst (λ o. WrittenAt o xs old (Ok r) new) (sym (unfit_is (usable old) xs ∙ fits))
    (ap Ok end, puts.bytes ∙ ap (laid old 0) text ∙ laid_fits old 0 (render xs) (omega arith) ∙ ap (λ k. render xs ++ drop k old) from)

-- a draft that does not fit is declined
pub written_declined : (d : Draft) (xs : List Answer) → Drafts d xs → (old new : List ℕ) (f : Fault) (i room : ℕ) → room ≡ usable old → f ≡ fault AnswerTooLong i Work → unfit_heads room d.heads.items ≡ Some i
    → new ≡ replicate room 0 ++ drop room old → Written xs old (Err f) new
written_declined d xs drafts old new f i room usable-is told some zeros =
    subst (λ o. WrittenAt o xs old (Err f) new) (sym (unfit_is (usable old) xs ∙ (λ j. unfit_heads (sym usable-is j) (sym drafts.heads j)) ∙ some))
    (ap Err told, zeros ∙ ap (λ k. replicate k 0 ++ drop k old) usable-is)
