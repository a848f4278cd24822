-- A rendering whose lines are each read is read as what it renders.
use Rattle.std.proofs.Common.{◌≡◌, ℕ, suc, ◌+◌, ◌<◌, ◌≤◌, List, [], ◌∷◌, ◌++◌, map, length, Ok, decimal, Result, sym, refl, ap, ◌∙◌, append_assoc, arith, length-append}
use lib.ListN.{length-map}
use Rattle.std.specs.List.{AllByRecursion, flat_map}
use Rattle.std.proofs.lemmas.Bool.{cond-true, and_from, lt-ltb, le-leb}
use Rattle.sheet.specs.declared.fault.Layer.{Layer}
use Rattle.sheet.specs.declared.fault.Layer.TheVariants as layer
use Rattle.gates.specs.declared.refusal.Refusal.{Refusal}
use Rattle.sheet.specs.declared.contents.Contents.{Contents}
use Rattle.sheet.specs.declared.contents.Kind.{Kind}
use Rattle.sheet.specs.declared.entry.Entry.{Entry}
use Rattle.sheet.specs.Fault.{and_then, placed, line_by}
use Rattle.sheet.specs.Form.{head, contents}
use Rattle.sheet.specs.Body.{body_line, body_lines}
use Rattle.sheet.specs.Sheet.{Held, contents_lines, bodies, sheet_lines, sheet_of}
use Rattle.sheet.specs.Render.{entry_text, contents_text, contents_texts, body_texts, sheet_texts, render}
use Rattle.sheet.proofs.Forth.{Lack, pieces_joined, head_forth}

-- each contents line is read from its text, and each body line
abbrev pub ContentsRead : ℕ → List Contents → Type 0
ContentsRead first [] = Unit {0}
ContentsRead first (c ∷ cs) = (contents first (contents_text first c) ≡ Ok c) × ContentsRead (first + c.count) cs

abbrev pub LinesRead : Kind → ℕ → List Entry → Type 0
LinesRead k n es = AllByRecursion (λ x. (at : ℕ) → body_line k n at (entry_text n x) ≡ Ok x) es

abbrev pub BodyRead : Held → Type 0
BodyRead h = (length h.1 ≡ h.0.count) × LinesRead h.0.kind h.0.lines h.1

-- some pieces and the empty one after them
pub more : (ls qs : List (List ℕ)) → 0 < length qs → (p : List ℕ) × (ps : List (List ℕ)) × (ls ++ qs ≡ p ∷ ps)
more [] [] h = absurd (omega arith)
more [] (q ∷ qs) h = (q, qs, refl)
more (l ∷ ls) qs h = (l, ls ++ qs, refl)

line_forth : {A : Type 0} (w : Layer) (i : ℕ) (f : List ℕ → Result A Refusal) (l : List ℕ) (a : A) (ls qs : List (List ℕ)) → 0 < length qs → f l ≡ Ok a → line_by w i f (l ∷ (ls ++ qs)) ≡ Ok (a, ls ++ qs)
line_forth w i f l a ls qs h e =
    let m = more ls qs h in
    ap (λ z. line_by w i f (l ∷ z)) m.2 ∙ ap (λ r. and_then (placed w i r) (λ b. Ok (b, m.0 ∷ m.1))) e ∙ ap (λ z. Ok (a, z)) (sym m.2)

pub body_forth : (k : Kind) (n first at : ℕ) (es : List Entry) (qs : List (List ℕ)) → 0 < length qs → LinesRead k n es → body_lines k n first at (length es) (map (entry_text n) es ++ qs) ≡ Ok (es, qs)
body_forth k n first at [] qs h r = refl
body_forth k n first at (x ∷ es) qs h r =
    ap (λ z. and_then z (λ x. and_then (body_lines k n first (suc at) (length es) x.1) (λ y. Ok (x.0 ∷ y.0, y.1)))) (line_forth layer.Body (first + at) (body_line k n at) (entry_text n x) x (map (entry_text n) es) qs h (r.0 at))
    ∙ ap (λ z. and_then z (λ y. Ok (x ∷ y.0, y.1))) (body_forth k n first (suc at) es qs h r.1)

contents_all : (i first : ℕ) (cs : List Contents) (qs : List (List ℕ)) → 0 < length qs → ContentsRead first cs → contents_lines (length cs) i first (contents_texts first cs ++ qs) ≡ Ok (cs, qs)
contents_all i first [] qs h r = refl
contents_all i first (c ∷ cs) qs h r =
    ap (λ z. and_then z (λ x. and_then (contents_lines (length cs) (suc i) (first + x.0.count) x.1) (λ y. Ok (x.0 ∷ y.0, y.1)))) (line_forth layer.Contents i (contents first) (contents_text first c) c (contents_texts (first + c.count) cs) qs h r.0)
    ∙ ap (λ z. and_then z (λ y. Ok (c ∷ y.0, y.1))) (contents_all (suc i) (first + c.count) cs qs h r.1)

end_some : (ls : List (List ℕ)) → 0 < length (ls ++ [] ∷ [])
end_some [] = omega arith
end_some (l ∷ ls) = omega arith

bodies_forth : (i : ℕ) (hs : List Held) → AllByRecursion BodyRead hs → bodies (map (λ h. h.0) hs) i (body_texts hs ++ [] ∷ []) ≡ Ok hs
bodies_forth i [] r = refl
bodies_forth i (h ∷ hs) r =
    let c = h.0 in
    let rest = body_texts hs ++ [] ∷ [] in
    let body : body_lines c.kind c.lines i 0 c.count (map (entry_text c.lines) h.1 ++ rest) ≡ Ok (h.1, rest) = ap (λ m. body_lines c.kind c.lines i 0 m (map (entry_text c.lines) h.1 ++ rest)) (sym r.0.0) ∙ body_forth c.kind c.lines i 0 h.1 rest (end_some (body_texts hs)) r.0.1 in
    ap (bodies (c ∷ map (λ h. h.0) hs) i) (append_assoc (map (entry_text c.lines) h.1) (body_texts hs) ([] ∷ []))
    ∙ ap (λ z. and_then z (λ x. and_then (bodies (map (λ h. h.0) hs) (i + c.count) x.1) (λ ys. Ok ((c, x.0) ∷ ys)))) body
    ∙ ap (λ z. and_then z (λ ys. Ok (h ∷ ys))) (bodies_forth (i + c.count) hs r.1)

lines_forth : (hs : List Held) → 1 ≤ length hs → length hs ≤ 16 → ContentsRead (length hs + 2) (map (λ h. h.0) hs) → AllByRecursion BodyRead hs → sheet_lines (sheet_texts hs ++ [] ∷ []) ≡ Ok hs
lines_forth hs a b c d =
    let k = length hs in
    let cs = map (λ h. h.0) hs in
    let rest = body_texts hs ++ [] ∷ [] in
    let split : (contents_texts (k + 2) cs ++ body_texts hs) ++ [] ∷ [] ≡ contents_texts (k + 2) cs ++ rest = append_assoc (contents_texts (k + 2) cs) (body_texts hs) ([] ∷ []) in
    let listed : contents_lines k 2 (k + 2) (contents_texts (k + 2) cs ++ rest) ≡ Ok (cs, rest) = ap (λ m. contents_lines m 2 (k + 2) (contents_texts (k + 2) cs ++ rest)) (sym (length-map hs (λ h. h.0))) ∙ contents_all 2 (k + 2) cs rest (end_some (body_texts hs)) c in
    ap (λ z. sheet_lines (decimal k ∷ z)) split
    ∙ ap (λ z. and_then z (λ k. and_then (contents_lines k.0 2 (k.0 + 2) k.1) (λ cs. bodies cs.0 (k.0 + 2) cs.1))) (line_forth layer.Contents 1 head (decimal k) k (contents_texts (k + 2) cs) rest (end_some (body_texts hs)) (head_forth k a b))
    ∙ ap (λ z. and_then z (λ cs. bodies cs.0 (k + 2) cs.1)) listed
    ∙ bodies_forth (k + 2) hs d

render_some : (hs : List Held) → 0 < length (render hs)
render_some hs = omega (arith, length-append (decimal (length hs) ++ 10 ∷ []) (flat_map (λ l. l ++ 10 ∷ []) (contents_texts (length hs + 2) (map (λ h. h.0) hs) ++ body_texts hs)), length-append (decimal (length hs)) (10 ∷ []))

pub sheet_forth : (hs : List Held) → 1 ≤ length hs → length hs ≤ 16 → ContentsRead (length hs + 2) (map (λ h. h.0) hs) → AllByRecursion BodyRead hs → AllByRecursion (Lack 10) (sheet_texts hs) → length (render hs) ≤ 16384 → sheet_of (render hs) ≡ Ok hs
sheet_forth hs a b c d lacks short =
    cond-true _ _ _ (and_from _ _ (lt-ltb 0 (length (render hs)) (render_some hs)) (le-leb (length (render hs)) 16384 short))
    ∙ ap sheet_lines (pieces_joined (sheet_texts hs) lacks) ∙ lines_forth hs a b c d
