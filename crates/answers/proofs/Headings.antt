-- Line 1 and the contents lines, one by one, and what fits.
use Rattle.std.proofs.Common.{◌≡◌, ℕ, ◌+◌, ◌*◌, ◌^◌, ◌<◌, ◌≤◌, Bool, true, false, cond, ◌&&◌, ◌||◌, ltb, List, [], ◌∷◌, ◌++◌, length, get_or, take, drop, decimal, Some, None, Option, sym, ap, ◌∙◌, add-zero, arith, length-append}
use Rattle.std.specs.List.{sum_by}
use Rattle.std.proofs.lemmas.List.Sums.{sum_by-cons, sum_by_more}
use Rattle.std.proofs.lemmas.List.{append-nil, take_all, take_more, drop_more, drop_all}
use Rattle.std.proofs.Math.Bool.{or-true}
use Rattle.std.proofs.lemmas.Bool.{lt-ltb}
use Rattle.std.proofs.lemmas.Grind.{flat_map-append}
use Rattle.sheet.specs.Render.{lines_text}
use Rattle.answers.specs.declared.head.Head.{Head}
use Rattle.answers.specs.Answers.{contents_line, contents_lines, head_lines, heading}
use Rattle.answers.specs.declared.pen.Pen.{Pen}
use Rattle.answers.specs.Pens.{wrote, Writes}
use Rattle.answers.specs.LineLaws.{decimal_long}
use Rattle.answers.specs.Sums.{ends_past, unfit_from}
use Rattle.answers.proofs.Pens.{wrote_append, place_of}

abbrev pub counts : List Head → ℕ
counts hs = sum_by (λ h. h.count) hs

pub contents_push : (first : ℕ) (hs : List Head) (h : Head) → contents_lines first (hs ++ h ∷ []) ≡ contents_lines first hs ++ contents_line (first + counts hs) h ∷ []
contents_push first [] h = ap (λ k. contents_line k h ∷ []) (sym (add-zero first))
contents_push first (g ∷ hs) h =
    let at : first + g.count + counts hs ≡ first + counts (g ∷ hs) = omega (arith, sum_by-cons (λ h. h.count) g hs) in
    ap (λ z. contents_line first g ∷ z) (contents_push (first + g.count) hs h ∙ ap (λ k. contents_lines (first + g.count) hs ++ contents_line k h ∷ []) at)

lines_push : (ls : List (List ℕ)) (l : List ℕ) → lines_text (ls ++ l ∷ []) ≡ lines_text ls ++ (l ++ 10 ∷ [])
lines_push ls l = flat_map-append (λ l. l ++ 10 ∷ []) ls (l ∷ []) ∙ ap (λ z. lines_text ls ++ z) (append-nil (l ++ 10 ∷ []))

-- line 1 before any contents line
pub wrote_head : (s : List ℕ × ℕ) (k : ℕ) → wrote s (lines_text (head_lines k [])) ≡ wrote s (decimal k ++ 10 ∷ [])
wrote_head s k = ap (wrote s) (append-nil (decimal k ++ 10 ∷ []))

-- the contents line at i, after those before it
pub wrote_contents : (s : List ℕ × ℕ) (k : ℕ) (hs : List Head) (i : ℕ) (d : Head) (first : ℕ) → i < length hs → first ≡ k + 2 + counts (take i hs)
    → wrote (wrote s (lines_text (head_lines k (take i hs)))) (contents_line first (get_or hs i d) ++ 10 ∷ []) ≡ wrote s (lines_text (head_lines k (take (i + 1) hs)))
wrote_contents s k hs i d first l at =
    let before = take i hs in
    let h = get_or hs i d in
    let line = contents_line (k + 2 + counts before) h in
    ap (λ f. wrote (wrote s (lines_text (head_lines k before))) (contents_line f h ++ 10 ∷ [])) at
    ∙ sym (wrote_append s (lines_text (head_lines k before)) (line ++ 10 ∷ []))
    ∙ ap (wrote s) (sym (lines_push (head_lines k before) line))
    ∙ ap (λ ls. wrote s (lines_text (decimal k ∷ ls))) (sym (contents_push (k + 2) before h))
    ∙ ap (λ z. wrote s (lines_text (head_lines k z))) (sym (take_more hs i d l))

-- what the loop over the contents lines writes
pub ruleset contents_steps = (wrote_head, wrote_contents, sum_by_more, take_all)

-- how long a contents line and the heading are
pub contents_long : (first : ℕ) (h : Head) → length (contents_line first h) ≤ 196
contents_long first h =
    omega (
      arith,
      decimal_long h.lines,
      decimal_long h.count,
      decimal_long first,
      length-append (decimal h.lines) (32 ∷ (decimal h.count ++ (32 ∷ decimal first))),
      length-append (decimal h.count) (32 ∷ decimal first),
    )

lines_long : (first : ℕ) (hs : List Head) → length (lines_text (contents_lines first hs)) ≤ length hs * 197
lines_long first [] = omega arith
lines_long first (h ∷ hs) =
    let line = contents_line first h in
    let others = lines_text (contents_lines (first + h.count) hs) in
    omega (arith, contents_long first h, lines_long (first + h.count) hs, length-append (line ++ 10 ∷ []) others, length-append line (10 ∷ []))

pub heading_long : (hs : List Head) → length (lines_text (heading hs)) ≤ 65 + length hs * 197
heading_long hs =
    let k = length hs in
    let others = lines_text (contents_lines (k + 2) hs) in
    omega (arith, decimal_long k, lines_long (k + 2) hs, length-append (decimal k ++ 10 ∷ []) others, length-append (decimal k) (10 ∷ []))

-- where a pen is after them
pub head_end : (p q : Pen) (k : ℕ) → Writes p (decimal k ++ 10 ∷ []) q → p.at ≡ 0 → q.at ≡ length (decimal k) + 1
head_end p q k writes start =
    let long = length-append (decimal k) (10 ∷ []) in
    omega (arith, place_of p q _ writes (omega (arith, start, long, decimal_long k)), start, long)

pub contents_end : (p q : Pen) (first : ℕ) (h : Head) → Writes p (contents_line first h ++ 10 ∷ []) q → p.at < 2 ^ 32 → q.at ≡ p.at + (length (contents_line first h) + 1)
contents_end p q first h writes start =
    let long = length-append (contents_line first h) (10 ∷ []) in
    omega (arith, place_of p q _ writes (omega (arith, start, long, contents_long first h)), long)

pub heading_end : (p q : Pen) (hs : List Head) → Writes p (lines_text (heading hs)) q → p.at ≡ 0 → length hs ≤ 16 → q.at ≡ length (lines_text (heading hs))
heading_end p q hs writes start few = omega (arith, place_of p q _ writes (omega (arith, start, few, heading_long hs)), start)

-- the first answer that does not fit, looked for one by one: the contents line of the answer at i ends at `end`
module _ (room n first at start : ℕ) (hs : List Head) (i : ℕ) (d : Head) (l : i < length hs) (end : ℕ) (q : end ≡ at + (length (contents_line first (get_or hs i d)) + 1)) where
  step : Bool → Option ℕ
  step t = cond t (Some n) (unfit_from room (n + 1) (first + (get_or hs i d).count) end (start + (get_or hs i d).size) (drop (i + 1) hs))

  here : unfit_from room n first at start (drop i hs) ≡ step (ends_past room 0 end || ends_past room start (get_or hs i d).size)
  unfolding step
  here =
      let size = length (contents_line first (get_or hs i d)) + 1 in
      let some : ltb 0 size ≡ true = lt-ltb 0 size (omega arith) in
      let some-end : ltb 0 end ≡ true = lt-ltb 0 end (omega (arith, q)) in
      let same : at + size ≡ 0 + end = omega (arith, q) in
      let line : ends_past room at size ≡ ends_past room 0 end = (λ j. some j && ltb room (same j)) ∙ ap (λ t. t && ltb room (0 + end)) (sym some-end) in
      ap (unfit_from room n first at start) (drop_more hs i d l)
      ∙ (λ j. cond (line j || ends_past room start (get_or hs i d).size) (Some n)
      (unfit_from room (n + 1) (first + (get_or hs i d).count) (sym q j) (start + (get_or hs i d).size) (drop (i + 1) hs)))

  pub unfit_line : true ≡ ends_past room 0 end → unfit_from room n first at start (drop i hs) ≡ Some n
  unfolding step
  unfit_line e = here ∙ ap (λ t. step (t || ends_past room start (get_or hs i d).size)) (sym e)

  pub unfit_body : true ≡ ends_past room start (get_or hs i d).size → unfit_from room n first at start (drop i hs) ≡ Some n
  unfolding step
  unfit_body e = here ∙ ap (λ t. step (ends_past room 0 end || t)) (sym e) ∙ ap step (or-true (ends_past room 0 end))

  pub unfit_later : false ≡ ends_past room 0 end → false ≡ ends_past room start (get_or hs i d).size
      → unfit_from room n first at start (drop i hs) ≡ unfit_from room (n + 1) (first + (get_or hs i d).count) end (start + (get_or hs i d).size) (drop (i + 1) hs)
  unfolding step
  unfit_later h e = here ∙ (λ j. step (sym h j || sym e j))
