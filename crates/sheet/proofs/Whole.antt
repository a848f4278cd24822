-- A whole sheet that is read is the rendering of what is read.
use Rattle.std.proofs.Common.{◌≡◌, ℕ, zero, suc, ◌+◌, Bool, true, false, cond, List, [], ◌∷◌, ◌++◌, map, length, Ok, Err, decimal, Result, sym, ap, ◌∙◌, append_assoc}
use lib.ListN.{length-map}
use Rattle.std.specs.List.{join_with_byte}
use Rattle.std.proofs.lemmas.Bool.{eqb-true, false≢true}
use Rattle.std.proofs.lemmas.List.{nil_from_length}
use Rattle.sheet.specs.declared.fault.Fault.{Fault}
use Rattle.sheet.specs.declared.fault.Layer.TheVariants as layer
use Rattle.gates.specs.declared.refusal.Refusal.TheVariants.{WrongForm}
use Rattle.sheet.specs.declared.contents.Contents.{Contents}
use Rattle.sheet.specs.declared.contents.Kind.{Kind}
use Rattle.sheet.specs.declared.contents.Kind.TheVariants.{Matrix, Table, Cnots, Mcts}
use Rattle.sheet.specs.declared.entry.Entry.{Entry}
use Rattle.sheet.specs.declared.entry.Entry.TheVariants as e
use Rattle.sheet.specs.Text.{pieces}
use Rattle.sheet.specs.Fault.{fault, line_by}
use Rattle.sheet.specs.Form.{head, contents, row, image, cnot, mct}
use Rattle.sheet.specs.Body.{body_line, body_lines, ended}
use Rattle.sheet.specs.Sheet.{Held, contents_lines, bodies, sheet_lines, sheet_of}
use Rattle.sheet.specs.Render.{entry_text, contents_texts, body_texts, sheet_texts, render}
use Rattle.sheet.proofs.Back.{rejoined_pieces, rejoined_lines}
use Rattle.sheet.proofs.Sound.{contents_lines_sound}
use Rattle.sheet.proofs.MctBack.{mct_back}
use Rattle.sheet.proofs.Accepted.{ok_cond, ok_then, ok_same, err_ok, line_back, head_back, contents_back, row_back, image_back, cnot_back}

body_line_back : (k : Kind) (n at : ℕ) (l : List ℕ) (x : Entry) → body_line k n at l ≡ Ok x → l ≡ entry_text n x
body_line_back Matrix n at l x p = let t = ok_then (row n l) (λ w. Ok (e.Word w)) x p in row_back n l t.0 t.1 ∙ ap (entry_text n) (ok_same (e.Word t.0) x t.2)
body_line_back Table n at l x p = let t = ok_then (image n at l) (λ w. Ok (e.Image w)) x p in image_back n at l t.0 t.1 ∙ ap (entry_text n) (ok_same (e.Image t.0) x t.2)
body_line_back Cnots n at l x p = let t = ok_then (cnot n l) (λ w. Ok (e.Cnot w)) x p in cnot_back n l t.0 t.1 ∙ ap (entry_text n) (ok_same (e.Cnot t.0) x t.2)
body_line_back Mcts n at l x p = let t = ok_then (mct n l) (λ w. Ok (e.Mct w)) x p in mct_back n l t.0 t.1 ∙ ap (entry_text n) (ok_same (e.Mct t.0) x t.2)

pub body_lines_back : (k : Kind) (n first at c : ℕ) (ps : List (List ℕ)) (es : List Entry) (qs : List (List ℕ)) → body_lines k n first at c ps ≡ Ok (es, qs) → ps ≡ map (entry_text n) es ++ qs
body_lines_back k n first at zero ps es qs p = let s = ok_same ([], ps) (es, qs) p in ap (λ z. z.1) s ∙ ap (λ z. map (entry_text n) z.0 ++ qs) s
body_lines_back k n first at (suc c) ps es qs p =
    let t = ok_then (line_by layer.Body (first + at) (body_line k n at) ps) _ (es, qs) p in
    let u = ok_then (body_lines k n first (suc at) c t.0.1) _ (es, qs) t.2 in
    let s = ok_same (t.0.0 ∷ u.0.0, u.0.1) (es, qs) u.2 in
    let b = line_back layer.Body (first + at) (body_line k n at) ps t.0.0 t.0.1 t.1 in
    b.1 ∙ (λ j. body_line_back k n at b.0 t.0.0 b.2 j ∷ body_lines_back k n first (suc at) c t.0.1 u.0.0 u.0.1 u.1 j)
    ∙ ap (λ z. map (entry_text n) z.0 ++ z.1) s

pub contents_lines_back : (k i first : ℕ) (ps : List (List ℕ)) (cs : List Contents) (qs : List (List ℕ)) → contents_lines k i first ps ≡ Ok (cs, qs) → ps ≡ contents_texts first cs ++ qs
contents_lines_back zero i first ps cs qs p = let s = ok_same ([], ps) (cs, qs) p in ap (λ z. z.1) s ∙ ap (λ z. contents_texts first z.0 ++ qs) s
contents_lines_back (suc k) i first ps cs qs p =
    let t = ok_then (line_by layer.Contents i (contents first) ps) _ (cs, qs) p in
    let u = ok_then (contents_lines k (suc i) (first + t.0.0.count) t.0.1) _ (cs, qs) t.2 in
    let s = ok_same (t.0.0 ∷ u.0.0, u.0.1) (cs, qs) u.2 in
    let b = line_back layer.Contents i (contents first) ps t.0.0 t.0.1 t.1 in
    b.1 ∙ (λ j. contents_back first b.0 t.0.0 b.2 j ∷ contents_lines_back k (suc i) (first + t.0.0.count) t.0.1 u.0.0 u.0.1 u.1 j)
    ∙ ap (λ z. contents_texts first z.0 ++ z.1) s

ended_back : (ps : List (List ℕ)) → ended ps ≡ true → ps ≡ [] ∷ []
ended_back [] p = absurd (false≢true p)
ended_back (l ∷ []) p = ap (λ z. z ∷ []) (nil_from_length l (eqb-true (length l) 0 p))
ended_back (l ∷ m ∷ ps) p = absurd (false≢true p)

pub bodies_back : (cs : List Contents) (i : ℕ) (ps : List (List ℕ)) (hs : List Held) → bodies cs i ps ≡ Ok hs → (ps ≡ body_texts hs ++ [] ∷ []) × (map (λ h. h.0) hs ≡ cs)
bodies_back [] i ps hs p =
    let q = ok_cond (ended ps) [] hs (fault WrongForm i layer.Body) p in
    (ended_back ps q.0 ∙ ap (λ z. body_texts z ++ [] ∷ []) q.1, ap (map (λ h. h.0)) (sym q.1))
bodies_back (c ∷ cs) i ps hs p =
    let t = ok_then (body_lines c.kind c.lines i 0 c.count ps) _ hs p in
    let u = ok_then (bodies cs (i + c.count) t.0.1) _ hs t.2 in
    let v = ok_same ((c, t.0.0) ∷ u.0) hs u.2 in
    let r = bodies_back cs (i + c.count) t.0.1 u.0 u.1 in (
      body_lines_back c.kind c.lines i 0 c.count ps t.0.0 t.0.1 t.1 ∙ ap (λ z. map (entry_text c.lines) t.0.0 ++ z) r.0
          ∙ sym (append_assoc (map (entry_text c.lines) t.0.0) (body_texts u.0) ([] ∷ [])) ∙ ap (λ z. body_texts z ++ [] ∷ []) v,
      ap (map (λ h. h.0)) (sym v) ∙ ap (λ z. c ∷ z) r.1,
    )

pub lines_back : (ps : List (List ℕ)) (hs : List Held) → sheet_lines ps ≡ Ok hs → ps ≡ sheet_texts hs ++ [] ∷ []
lines_back ps hs p =
    let t = ok_then (line_by layer.Contents 1 head ps) _ hs p in
    let k = t.0.0 in
    let u = ok_then (contents_lines k 2 (k + 2) t.0.1) _ hs t.2 in
    let sound = contents_lines_sound k 2 (k + 2) t.0.1 u.0.0 u.0.1 u.1 in
    let b = line_back layer.Contents 1 head ps k t.0.1 t.1 in
    let r = bodies_back u.0.0 (k + 2) u.0.1 hs u.2 in
    let long : k ≡ length hs = sym sound.0 ∙ ap length (sym r.1) ∙ length-map hs (λ h. h.0) in
    let rest = contents_lines_back k 2 (k + 2) t.0.1 u.0.0 u.0.1 u.1 ∙ ap (λ z. contents_texts (k + 2) u.0.0 ++ z) r.0 ∙ sym (append_assoc (contents_texts (k + 2) u.0.0) (body_texts hs) ([] ∷ [])) in
    b.1 ∙ (λ j. head_back b.0 k b.2 j ∷ rest j)
    ∙ (λ j. decimal (long j) ∷ ((contents_texts (long j + 2) (sym r.1 j) ++ body_texts hs) ++ [] ∷ []))

pub cond_back : (t : Bool) (r : Result (List Held) Fault) (x : Fault) (hs : List Held) → cond t r (Err x) ≡ Ok hs → r ≡ Ok hs
cond_back true r x hs p = p
cond_back false r x hs p = absurd (err_ok x hs p)

pub sheet_back : (s : List ℕ) (hs : List Held) → sheet_of s ≡ Ok hs → s ≡ render hs
sheet_back s hs p =
    sym (rejoined_pieces 10 s) ∙ ap (join_with_byte 10) (lines_back (pieces 10 s) hs (cond_back _ (sheet_lines (pieces 10 s)) _ hs p)) ∙ rejoined_lines (sheet_texts hs)
