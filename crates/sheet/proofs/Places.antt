-- Where the lines and the bodies of a sheet stand in it.
use Rattle.std.proofs.Common.{◌≡◌, ℕ, ◌+◌, ◌<◌, ◌≤◌, cond, eqb, List, [], ◌∷◌, ◌++◌, length, get_or, drop, Ok, Err, Result, sym, refl, ap, ◌∙◌, append_assoc, append-nil, arith, length-append, length-drop}
use Rattle.std.specs.List.{join_with_byte}
use Rattle.std.proofs.lemmas.Bool.{eq-eqb, ne_eqb}
use Rattle.std.proofs.lemmas.List.{drop_more, drop_all}
use Rattle.sheet.specs.declared.fault.Fault.{Fault}
use Rattle.sheet.specs.declared.fault.Layer.TheVariants as layer
use Rattle.gates.specs.declared.refusal.Refusal.TheVariants.{WrongForm}
use Rattle.sheet.specs.declared.contents.Contents.{Contents}
use Rattle.sheet.specs.declared.item.Item.{Item}
use Rattle.sheet.specs.declared.entry.Entry.{Entry}
use Rattle.sheet.specs.Text.{pieces}
use Rattle.sheet.specs.Fault.{fault, and_then}
use Rattle.sheet.specs.Body.{body_lines}
use Rattle.sheet.specs.Sheet.{Held, bodies}
use Rattle.sheet.specs.Render.{lines_text, body_text}
use Rattle.sheet.specs.Parts.{parts_from, body_rest}
use Rattle.sheet.proofs.Back.{rejoined_pieces}
use Rattle.sheet.proofs.Accepted.{ok_then, ok_same, err_then}
use Rattle.sheet.proofs.Whole.{body_lines_back}
use Rattle.sheet.proofs.Lines.{pieces_cons}
use Rattle.sheet.proofs.Sheets.{ended_pieces}

-- ended lines, and the pieces after them
rejoined_more : (ls : List (List ℕ)) (q : List ℕ) (qs : List (List ℕ)) → join_with_byte 10 (ls ++ q ∷ qs) ≡ lines_text ls ++ join_with_byte 10 (q ∷ qs)
rejoined_more [] q qs = refl
rejoined_more (l ∷ []) q qs = sym (append_assoc l (10 ∷ []) _) ∙ ap (λ z. z ++ join_with_byte 10 (q ∷ qs)) (sym (append-nil (l ++ 10 ∷ [])))
rejoined_more (l ∷ m ∷ ls) q qs = ap (λ z. l ++ (10 ∷ z)) (rejoined_more (m ∷ ls) q qs) ∙ sym (append_assoc l (10 ∷ []) _) ∙ sym (append_assoc (l ++ 10 ∷ []) (lines_text (m ∷ ls)) _)

-- a text that begins with some lines
pub text_split : (s rest : List ℕ) (ls : List (List ℕ)) → pieces 10 s ≡ ls ++ pieces 10 rest → s ≡ lines_text ls ++ rest
text_split s rest ls e =
    let q = pieces_cons 10 rest in
    sym (rejoined_pieces 10 s) ∙ ap (join_with_byte 10) (e ∙ ap (λ z. ls ++ z) q.2) ∙ rejoined_more ls q.0 q.1 ∙ ap (λ z. lines_text ls ++ join_with_byte 10 z) (sym q.2) ∙ ap (λ z. lines_text ls ++ z) (rejoined_pieces 10 rest)

-- a body that is read is its text, and stands before the rest
pub body_split : (c : Contents) (i : ℕ) (s rest : List ℕ) → body_rest c i s ≡ Ok (pieces 10 rest)
    → (es : List Entry) × (body_lines c.kind c.lines i 0 c.count (pieces 10 s) ≡ Ok (es, pieces 10 rest)) × (s ≡ body_text (c, es) ++ rest)
body_split c i s rest e =
    let t = ok_then (body_lines c.kind c.lines i 0 c.count (pieces 10 s)) _ (pieces 10 rest) e in
    let p : body_lines c.kind c.lines i 0 c.count (pieces 10 s) ≡ Ok (t.0.0, pieces 10 rest) = t.1 ∙ ap (λ z. Ok (t.0.0, z)) (ok_same t.0.1 (pieces 10 rest) t.2) in
    (t.0.0, p, text_split s rest _ (body_lines_back c.kind c.lines i 0 c.count (pieces 10 s) t.0.0 (pieces 10 rest) p))

-- an item, with its body after the bodies of those before it
abbrev pub placed_item : ℕ → ℕ → Held → Item
placed_item first at h = record { contents = h.0; first = first; start = at; end = at + length (body_text h) }

onto_one : (done : List Item) (first at : ℕ) (h : Held) (r : Result (List Held) Fault)
    → and_then (and_then r (λ ys. Ok (h ∷ ys))) (λ hs. Ok (done ++ parts_from first at hs)) ≡ and_then r (λ ys. Ok ((done ++ placed_item first at h ∷ []) ++ parts_from (first + h.0.count) (at + length (body_text h)) ys))
onto_one done first at h (Ok ys) = ap Ok (sym (append_assoc done (placed_item first at h ∷ []) _))
onto_one done first at h (Err x) = refl

-- `total` is the items, of which those from i on are left, whose bodies begin at the line `first` and the byte `at` of s
module _ (total : Result (List Item) Fault) (done : List Item) (cs : List Contents) (i first at : ℕ) (s : List ℕ)
    (so_far : total ≡ and_then (bodies (drop i cs) first (pieces 10 (drop at s))) (λ hs. Ok (done ++ parts_from first at hs))) where
  module _ (left : i < length cs) (d : Contents) where
    here : Contents
    here = get_or cs i d

    reads : Result (List Entry × List (List ℕ)) Fault
    unfolding here
    reads = body_lines here.kind here.lines first 0 here.count (pieces 10 (drop at s))

    then_bodies : Result (List Entry × List (List ℕ)) Fault → Result (List Item) Fault
    unfolding here
    then_bodies z = and_then (and_then z (λ x. and_then (bodies (drop (i + 1) cs) (first + here.count) x.1) (λ ys. Ok ((here, x.0) ∷ ys)))) (λ hs. Ok (done ++ parts_from first at hs))

    next : total ≡ then_bodies reads
    unfolding here reads then_bodies
    next = so_far ∙ ap (λ l. and_then (bodies l first (pieces 10 (drop at s))) (λ hs. Ok (done ++ parts_from first at hs))) (drop_more cs i d left)

    pub places_stop : (f : Fault) → body_rest (get_or cs i d) first (drop at s) ≡ Err f → total ≡ Err f
    unfolding here reads then_bodies
    places_stop f e = next ∙ ap then_bodies (err_then reads (λ x. x.1) f e)

    -- the next body ends at the byte `end`
    pub places_more : (end : ℕ) (items : List Item) (n : ℕ) → at ≤ end → end ≤ length s → body_rest (get_or cs i d) first (drop at s) ≡ Ok (pieces 10 (drop end s))
        → items ≡ done ++ record { contents = get_or cs i d; first = first; start = at; end = end } ∷ [] → n ≡ (get_or cs i d).count
        → total ≡ and_then (bodies (drop (i + 1) cs) (first + n) (pieces 10 (drop end s))) (λ hs. Ok (items ++ parts_from (first + n) end hs))
    unfolding here reads then_bodies
    places_more end items n ordered within e p q =
        let c = get_or cs i d in
        let rest = drop end s in
        let b = body_split c first (drop at s) rest e in
        let h : Held = (c, b.0) in
        let long : at + length (body_text h) ≡ end = omega (arith, ap length b.2, length-append (body_text h) rest, length-drop at s, length-drop end s) in
        let all : done ++ placed_item first at h ∷ [] ≡ items = ap (λ z. done ++ record { contents = c; first = first; start = at; end = z } ∷ []) long ∙ sym p in
        next ∙ ap then_bodies b.1 ∙ onto_one done first at h (bodies (drop (i + 1) cs) (first + c.count) (pieces 10 rest))
        ∙ (λ j. and_then (bodies (drop (i + 1) cs) (first + sym q j) (pieces 10 rest)) (λ hs. Ok (all j ++ parts_from (first + sym q j) (long j) hs)))

  -- all bodies are read
  module _ (all : length cs ≤ i) where
    at_end : total ≡ and_then (cond (eqb (length (drop at s)) 0) (Ok []) (Err (fault WrongForm first layer.Body))) (λ hs. Ok (done ++ parts_from first at hs))
    at_end =
        so_far ∙ ap (λ l. and_then (bodies l first (pieces 10 (drop at s))) (λ hs. Ok (done ++ parts_from first at hs))) (drop_all i cs all)
        ∙ ap (λ t. and_then (cond t (Ok []) (Err (fault WrongForm first layer.Body))) (λ hs. Ok (done ++ parts_from first at hs))) (ended_pieces (drop at s))

    pub places_over : at < length s → total ≡ Err (fault WrongForm first layer.Body)
    places_over l =
        at_end
        ∙ ap (λ t. and_then (cond t (Ok []) (Err (fault WrongForm first layer.Body))) (λ hs. Ok (done ++ parts_from first at hs))) (ne_eqb (length (drop at s)) 0 (λ z. omega (arith, z, length-drop at s)))

    pub places_all : length s ≤ at → total ≡ Ok done
    places_all l =
        let none : length (drop at s) ≡ 0 = omega (arith, length-drop at s) in
        at_end ∙ ap (λ t. and_then (cond t (Ok []) (Err (fault WrongForm first layer.Body))) (λ hs. Ok (done ++ parts_from first at hs))) (eq-eqb (length (drop at s)) 0 none) ∙ ap Ok (append-nil done)
