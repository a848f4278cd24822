-- What is read from a sheet is valid, and the reader's answer keeps to the law.
use Rattle.std.proofs.Common.{◌≡◌, ℕ, zero, suc, ◌+◌, ◌-◌, ◌^◌, ◌<◌, ◌≤◌, Bool, true, false, cond, eqb, ltb, List, [], ◌∷◌, ◌++◌, map, length, take, drop, Some, None, Ok, Err, decimal, Option, Result, sym, refl, ap, ◌∙◌, subst, append_assoc, pow-suc, arith, length-append}
use lib.ListN.{length-map}
use Rattle.std.specs.List.{AllByRecursion}
use Rattle.std.proofs.lemmas.List.{drop_at, take_at}
use Rattle.std.proofs.lemmas.Bool.{and_parts, and_from, leb-true, le-leb, lt-ltb, ltb-true, eqb-true}
use Rattle.gates.specs.Cnots as cnots
use Rattle.gates.specs.declared.cnot.Cnot.{Cnot}
use Rattle.gates.specs.declared.refusal.Refusal.TheVariants.{WrongForm, WideRow, IllegalGate}
use Rattle.sheet.specs.declared.fault.Fault.{Fault}
use Rattle.sheet.specs.declared.fault.Layer.TheVariants as layer
use Rattle.sheet.specs.declared.contents.Contents.{Contents}
use Rattle.sheet.specs.declared.contents.Kind.{Kind}
use Rattle.sheet.specs.declared.contents.Kind.TheVariants.{Matrix, Table, Cnots, Mcts}
use Rattle.sheet.specs.declared.entry.Entry.{Entry}
use Rattle.sheet.specs.declared.entry.Entry.TheVariants as e
use Rattle.sheet.specs.declared.sheet.Sheet.{Sheet}
use Rattle.sheet.specs.Text.{pieces, numeral}
use Rattle.sheet.specs.Fault.{fault, and_then, line_by}
use Rattle.sheet.specs.Form.{numbers, pair, head, bit, bits, row_of, row, image_of, image, cnot_of, cnot, mct}
use Rattle.sheet.specs.Body.{body_line, body_lines, ended, body_of}
use Rattle.sheet.specs.Sheet.{Held, Sound, contents_lines, bodies, sheet_lines, sheet_of}
use Rattle.sheet.specs.Render.{render, lines_text, entry_text, contents_texts, body_texts, body_text, heading_text}
use Rattle.sheet.specs.Parts.{parts_from, parts, sheet_parts, sheet_items, items_of, BodiesIn}
use Rattle.sheet.specs.Laws.{entry_kind, Legal, Valid, ValidSheet, Accepted, Lawful}
use Rattle.sheet.proofs.Accepted.{ok_cond, ok_then, ok_same, err_ok, row_some, line_back}
use Rattle.sheet.proofs.Back.{below_back, bit_back}
use Rattle.sheet.proofs.Forth.{pieces_joined}
use Rattle.sheet.proofs.Holding.{held_all}
use Rattle.sheet.proofs.MctBack.{mct_legal}
use Rattle.sheet.proofs.Render.{body_forth}
use Rattle.sheet.proofs.Sound.{contents_lines_sound, head_small}
use Rattle.sheet.proofs.Whole.{bodies_back, cond_back, sheet_back}
use Rattle.sheet.proofs.ValidForth.{valid_forth, body_read, entries_lack, few_lines, sum}

bits_below : (l : List ℕ) (w : ℕ) → bits l ≡ Some w → w < 2 ^ length l
bits_below [] w p = let z : 0 ≡ w = cc in omega (arith, z)
bits_below (d ∷ l) w p =
    let b = below_back (bit d) (bits l) w p in
    let low = (bit_back d b.0 b.2).1 in
    let high = bits_below l b.1 b.3 in
    omega (arith, pow-suc 2 (length l), b.4, low, high)

row_legal_at : (t : Bool) (n : ℕ) (l : List ℕ) (w : ℕ) → (t ≡ true → length l ≡ n) → cond t (row_of (bits l)) (Err WrongForm) ≡ Ok w → w < 2 ^ n
row_legal_at true n l w h p = subst (λ m. w < 2 ^ m) (h refl) (bits_below l w (row_some (bits l) w p))
row_legal_at false n l w h p = absurd (err_ok _ _ p)

image_legal : (n at : ℕ) (o : Option ℕ) (x : ℕ) → image_of n at o ≡ Ok x → x < 2 ^ n
image_legal n at None x p = absurd (err_ok _ _ p)
image_legal n at (Some y) x p = let q = ok_cond (ltb y (2 ^ n)) y x (WideRow at) p in subst (λ z. z < 2 ^ n) q.1 (ltb-true y (2 ^ n) q.0)

cnot_legal : (n : ℕ) (o : Option (ℕ × ℕ)) (g : Cnot) → cnot_of n o ≡ Ok g → (cnots.cnot).legal n g ≡ true
cnot_legal n None g p = absurd (err_ok _ _ p)
cnot_legal n (Some x) g p =
    let h : Cnot = record { control = x.0; target = x.1 } in
    let q = ok_cond ((cnots.cnot).legal n h) h g IllegalGate p in
    subst (λ z. (cnots.cnot).legal n z ≡ true) q.1 q.0

abbrev Fine : Kind → ℕ → Entry → Type 0
Fine k n x = (entry_kind x ≡ k) × Legal n x

line_legal : (k : Kind) (n at : ℕ) (l : List ℕ) (x : Entry) → body_line k n at l ≡ Ok x → Fine k n x
line_legal Matrix n at l x p =
    let t = ok_then (row n l) (λ w. Ok (e.Word w)) x p in
    subst (Fine Matrix n) (ok_same (e.Word t.0) x t.2) (refl, row_legal_at (eqb (length l) n) n l t.0 (eqb-true (length l) n) t.1)
line_legal Table n at l x p =
    let t = ok_then (image n at l) (λ w. Ok (e.Image w)) x p in
    subst (Fine Table n) (ok_same (e.Image t.0) x t.2) (refl, image_legal n at (numeral l) t.0 t.1)
line_legal Cnots n at l x p =
    let t = ok_then (cnot n l) (λ w. Ok (e.Cnot w)) x p in
    subst (Fine Cnots n) (ok_same (e.Cnot t.0) x t.2) (refl, cnot_legal n (pair (numbers l)) t.0 t.1)
line_legal Mcts n at l x p =
    let t = ok_then (mct n l) (λ w. Ok (e.Mct w)) x p in
    subst (Fine Mcts n) (ok_same (e.Mct t.0) x t.2) (refl, mct_legal n l t.0 t.1)

body_legal : (k : Kind) (n first at c : ℕ) (ps : List (List ℕ)) (es : List Entry) (qs : List (List ℕ)) → body_lines k n first at c ps ≡ Ok (es, qs) → (length es ≡ c) × AllByRecursion (Fine k n) es
body_legal k n first at zero ps es qs p = let s = ok_same ([], ps) (es, qs) p in subst (λ (z : List Entry × List (List ℕ)). (length z.0 ≡ zero) × AllByRecursion (Fine k n) z.0) s (refl, tt)
body_legal k n first at (suc c) ps es qs p =
    let t = ok_then (line_by layer.Body (first + at) (body_line k n at) ps) _ (es, qs) p in
    let u = ok_then (body_lines k n first (suc at) c t.0.1) _ (es, qs) t.2 in
    let s = ok_same (t.0.0 ∷ u.0.0, u.0.1) (es, qs) u.2 in
    let b = line_back layer.Body (first + at) (body_line k n at) ps t.0.0 t.0.1 t.1 in
    let r = body_legal k n first (suc at) c t.0.1 u.0.0 u.0.1 u.1 in
    subst (λ (z : List Entry × List (List ℕ)). (length z.0 ≡ suc c) × AllByRecursion (Fine k n) z.0) s (ap suc r.0, (line_legal k n at b.0 t.0.0 b.2, r.1))

bodies_valid : (cs : List Contents) (i : ℕ) (ps : List (List ℕ)) (hs : List Held) → AllByRecursion Sound cs → bodies cs i ps ≡ Ok hs → AllByRecursion Valid hs
bodies_valid [] i ps hs f p = subst (AllByRecursion Valid) (ok_cond (ended ps) [] hs (fault WrongForm i layer.Body) p).1 tt
bodies_valid (c ∷ cs) i ps hs f p =
    let t = ok_then (body_lines c.kind c.lines i 0 c.count ps) _ hs p in
    let u = ok_then (bodies cs (i + c.count) t.0.1) _ hs t.2 in
    let b = body_legal c.kind c.lines i 0 c.count ps t.0.0 t.0.1 t.1 in
    subst (AllByRecursion Valid) (ok_same ((c, t.0.0) ∷ u.0) hs u.2) (record { fitting = f.0.0; count = b.0; entries = b.1 }, bodies_valid cs (i + c.count) t.0.1 u.0 f.1 u.1)

cond_test : (t : Bool) (r : Result (List Held) Fault) (x : Fault) (hs : List Held) → cond t r (Err x) ≡ Ok hs → t ≡ true
cond_test true r x hs p = refl
cond_test false r x hs p = absurd (err_ok x hs p)

-- what is read from a sheet makes one
sheet_valid : (s : List ℕ) (hs : List Held) → sheet_of s ≡ Ok hs → ValidSheet hs
sheet_valid s hs p =
    let same = sheet_back s hs p in
    let q = cond_back _ (sheet_lines (pieces 10 s)) _ hs p in
    let t = ok_then (line_by layer.Contents 1 head (pieces 10 s)) _ hs q in
    let k = t.0.0 in
    let u = ok_then (contents_lines k 2 (k + 2) t.0.1) _ hs t.2 in
    let sound = contents_lines_sound k 2 (k + 2) t.0.1 u.0.0 u.0.1 u.1 in
    let r = bodies_back u.0.0 (k + 2) u.0.1 hs u.2 in
    let long : k ≡ length hs = sym sound.0 ∙ ap length (sym r.1) ∙ length-map hs (λ h. h.0) in
    let few = head_small (pieces 10 s) k t.0.1 t.1 in
    let test = cond_test _ (sheet_lines (pieces 10 s)) _ hs p in
    record {
      some_items = omega (arith, few.0, long);
      few = omega (arith, few.1, long);
      items = bodies_valid u.0.0 (k + 2) u.0.1 hs sound.1 u.2;
      short = subst (λ z. length z ≤ 16384) same (leb-true _ _ (and_parts _ _ test).1);
    }

-- the text of lines is cut where the lines are
pub lines_append : (as' bs : List (List ℕ)) → lines_text (as' ++ bs) ≡ lines_text as' ++ lines_text bs
lines_append [] bs = refl
lines_append (a ∷ as') bs = ap (λ z. (a ++ 10 ∷ []) ++ z) (lines_append as' bs) ∙ sym (append_assoc (a ++ 10 ∷ []) (lines_text as') (lines_text bs))

bodies_text : List Held → List ℕ
bodies_text [] = []
bodies_text (h ∷ hs) = body_text h ++ bodies_text hs

bodies_cut : (hs : List Held) → lines_text (body_texts hs) ≡ bodies_text hs
unfolding bodies_text
bodies_cut [] = refl
bodies_cut (h ∷ hs) = lines_append (map (entry_text h.0.lines) h.1) (body_texts hs) ∙ ap (λ z. body_text h ++ z) (bodies_cut hs)

render_cut : (hs : List Held) → render hs ≡ heading_text hs ++ bodies_text hs
render_cut hs =
    lines_append (decimal (length hs) ∷ contents_texts (length hs + 2) (map (λ h. h.0) hs)) (body_texts hs) ∙ ap (λ z. heading_text hs ++ z) (bodies_cut hs)

-- the body of a valid item is read as what the item holds
body_holds : (first : ℕ) (h : Held) → Valid h → first + h.0.count < 2 ^ 64 → body_of h.0.kind h.0.lines h.0.count first (body_text h) ≡ Ok h.1
body_holds first h v room =
    let c = h.0 in
    let r = body_read h v in
    let lines = pieces_joined (map (entry_text c.lines) h.1) (entries_lack h v) in
    let read : body_lines c.kind c.lines first 0 c.count (pieces 10 (body_text h)) ≡ Ok (h.1, [] ∷ []) =
    (λ j. body_lines c.kind c.lines first 0 (sym r.0 j) (lines j)) ∙ body_forth c.kind c.lines first 0 h.1 ([] ∷ []) (omega arith) r.1 in
    held_all c.kind c.lines c.count first (body_text h) (and_from _ _ v.fitting (lt-ltb (first + c.count) (2 ^ 64) room)) h.1 [] read refl

-- each body stands where its item says
bodies_stand : (s before : List ℕ) (first at : ℕ) (hs : List Held) → at ≡ length before → s ≡ before ++ bodies_text hs → first + sum hs < 2 ^ 64 → AllByRecursion Valid hs → BodiesIn s hs (parts_from first at hs)
unfolding bodies_text sum
bodies_stand s before first at [] q e room v = tt
bodies_stand s before first at (h ∷ hs) q e room v =
    let b = body_text h in
    let n = length b in
    let rest = bodies_text hs in
    let end : at + n ≡ length (before ++ b) = omega (arith, q, length-append before b) in
    let long = ap length e ∙ length-append before (b ++ rest) in
    let same : at + n - at ≡ n = omega arith in
    let bytes : take (at + n - at) (drop at s) ≡ b = (λ j. take (same j) (drop at (e j))) ∙ ap (take n) (drop_at before (b ++ rest) at (sym q)) ∙ take_at b rest n refl in (
      record {
        contents = refl;
        lies = and_from _ _ (le-leb at (at + n) (omega arith)) (le-leb (at + n) (length s) (omega (arith, long, q, length-append b rest)));
        bytes = bytes;
        holds = ap (body_of h.0.kind h.0.lines h.0.count first) bytes ∙ body_holds first h v.0 (omega (arith, room));
      },
      bodies_stand s (before ++ b) (first + h.0.count) (at + n) hs end (e ∙ sym (append_assoc before b rest)) (omega (arith, room)) v.1,
    )

accepted : (s : List ℕ) (t : Sheet) (hs : List Held) → ValidSheet hs → s ≡ render hs → sheet_items t ≡ parts hs → Accepted s t hs
accepted s t hs v p q =
    let room : length hs + 2 + sum hs < 2 ^ 64 = omega (arith, few_lines hs v.items v.short, v.few) in
    record {
      valid = v;
      text = p;
      items = q;
      bodies = subst (BodiesIn s hs) (sym q) (bodies_stand s (heading_text hs) (length hs + 2) _ hs refl (p ∙ render_cut hs) room v.items);
    }

-- the reader's answer keeps to the law
pub lawful : (s : List ℕ) (r : Result Sheet Fault) → items_of r ≡ sheet_parts s → Lawful s r
lawful s r p =
    record {
      accepted = λ t q.
          let o = ok_then (sheet_of s) (λ hs. Ok (parts hs)) (sheet_items t) (sym p ∙ ap items_of q) in
          (o.0, accepted s t o.0 (sheet_valid s o.0 o.1) (sheet_back s o.0 o.1) (sym (ok_same (parts o.0) (sheet_items t) o.2)));
      accepts = λ hs v q.
          let read : sheet_of s ≡ Ok hs = ap sheet_of q ∙ valid_forth hs v.some_items v.few v.items v.short in
          let o = ok_then r (λ t. Ok (sheet_items t)) (parts hs) (p ∙ ap (λ z. and_then z (λ hs. Ok (parts hs))) read) in
          (o.0, o.1, accepted s o.0 hs v q (ok_same (sheet_items o.0) (parts hs) o.2));
    }
