-- A body is read from its own lines alone.
use Rattle.std.proofs.Common.{◌≡◌, ℕ, zero, suc, ◌+◌, ◌-◌, ◌<◌, ◌≤◌, true, false, cond, eqb, List, [], ◌∷◌, ◌++◌, length, take, drop, Ok, Err, Result, sym, refl, ap, ◌∙◌, subst, inl, ⊎_elim, append_assoc, arith, length-append, length-drop}
use Rattle.std.specs.List.{AllByRecursion}
use Rattle.std.proofs.lemmas.List.{take_all, take_at, drop_at}
use Rattle.std.proofs.lemmas.Bool.{eqb-false}
use Rattle.gates.specs.declared.refusal.Refusal.{Refusal}
use Rattle.sheet.specs.declared.body.Body.{Body}
use Rattle.sheet.specs.declared.contents.Contents.{Contents}
use Rattle.sheet.specs.declared.contents.Kind.{Kind}
use Rattle.sheet.specs.declared.entry.Entry.{Entry}
use Rattle.sheet.specs.declared.item.Item.{Item}
use Rattle.sheet.specs.declared.fault.Fault.{Fault}
use Rattle.sheet.specs.declared.fault.Layer.TheVariants as layer
use Rattle.sheet.specs.Text.{onto, pieces, LinesEnd}
use Rattle.sheet.specs.Fault.{and_then, placed, line_by}
use Rattle.sheet.specs.Body.{body_line, body_lines, alone, told, body_of, held_by, how_many}
use Rattle.sheet.specs.Parts.{body_rest, item_holds, CutFrom}
use Rattle.sheet.specs.Render.{lines_text}
use Rattle.sheet.proofs.Accepted.{ok_then, ok_same, err_ok, err_then}
use Rattle.sheet.proofs.Bodies.{before}
use Rattle.sheet.proofs.Forth.{Lack, pieces_joined}
use Rattle.sheet.proofs.Holding.{held_lines, held_stop}
use Rattle.sheet.proofs.Lines.{pieces_cons}
use Rattle.sheet.proofs.Places.{text_split}
use Rattle.sheet.proofs.Render.{more}

-- no piece has the byte that parts them
onto_lacks : (sep b : ℕ) (ps : List (List ℕ)) → (b ≡ sep → ⊥) → AllByRecursion (Lack sep) ps → AllByRecursion (Lack sep) (onto b ps)
onto_lacks sep b [] d h = ((d, tt), tt)
onto_lacks sep b (p ∷ ps) d h = ((d, h.0), h.1)

pieces_lack : (sep : ℕ) (s : List ℕ) → AllByRecursion (Lack sep) (pieces sep s)
pieces_lack sep [] = (tt, tt)
pieces_lack sep (b ∷ bs) =
    elim (eqb b sep) as (λ t. eqb b sep ≡ t → AllByRecursion (Lack sep) (cond t ([] ∷ pieces sep bs) (onto b (pieces sep bs)))) [
      | true ↦ λ q. (tt, pieces_lack sep bs)
      | false ↦ λ q. onto_lacks sep b (pieces sep bs) (eqb-false b sep q) (pieces_lack sep bs)
    ] refl

every_front : {A : Type 0} (P : A → Type 0) (xs ys : List A) → AllByRecursion P (xs ++ ys) → AllByRecursion P xs
every_front P [] ys h = tt
every_front P (x ∷ xs) ys h = (h.0, every_front P xs ys h.1)

-- a reading, with the pieces after it
abbrev with_rest : {A : Type 0} → List (List ℕ) → Result A Fault → Result (A × List (List ℕ)) Fault
with_rest qs r = and_then r (λ a. Ok (a, qs))

abbrev rest_only : {A : Type 0} → Result (A × List (List ℕ)) Fault → Result (List (List ℕ)) Fault
rest_only r = and_then r (λ x. Ok x.1)

-- ended lines are read without a look at what follows them
module _ (k : Kind) (n first : ℕ) where
  each : ℕ → List (List ℕ) → Result (List Entry) Fault
  each at [] = Ok []
  each at (l ∷ ls) = and_then (placed layer.Body (first + at) (body_line k n at l)) (λ a. and_then (each (suc at) ls) (λ es. Ok (a ∷ es)))

  under : (a : Entry) (r : Result (List Entry) Fault) (qs : List (List ℕ)) → before a (with_rest qs r) ≡ with_rest qs (and_then r (λ es. Ok (a ∷ es)))
  under a (Ok es) qs = refl
  under a (Err f) qs = refl

  one_more : (r : Result Entry Fault) (zs qs : List (List ℕ)) (read : List (List ℕ) → Result (List Entry × List (List ℕ)) Fault) (all : Result (List Entry) Fault) → read zs ≡ with_rest qs all
      → and_then (with_rest zs r) (λ x. before x.0 (read x.1)) ≡ with_rest qs (and_then r (λ a. and_then all (λ es. Ok (a ∷ es))))
  one_more (Ok a) zs qs read all h = ap (before a) h ∙ under a all qs
  one_more (Err f) zs qs read all h = refl

  line_at : (i : ℕ) (f : List ℕ → Result Entry Refusal) (l : List ℕ) (zs : List (List ℕ)) (p : List ℕ) (ps : List (List ℕ)) → zs ≡ p ∷ ps → line_by layer.Body i f (l ∷ zs) ≡ with_rest zs (placed layer.Body i (f l))
  line_at i f l zs p ps e = ap (λ z. line_by layer.Body i f (l ∷ z)) e ∙ ap (λ z. with_rest z (placed layer.Body i (f l))) (sym e)

  lines_each : (at : ℕ) (ls qs : List (List ℕ)) → 0 < length qs → body_lines k n first at (length ls) (ls ++ qs) ≡ with_rest qs (each at ls)
  unfolding each
  lines_each at [] qs h = refl
  lines_each at (l ∷ ls) qs h =
      let m = more ls qs h in
      ap (λ z. and_then z (λ x. before x.0 (body_lines k n first (suc at) (length ls) x.1))) (line_at (first + at) (body_line k n at) l (ls ++ qs) m.0 m.1 m.2)
      ∙ one_more (placed layer.Body (first + at) (body_line k n at l)) (ls ++ qs) qs (body_lines k n first (suc at) (length ls)) (each (suc at) ls) (lines_each (suc at) ls qs h)

  -- there are enough lines where all are read
  enough : (c at : ℕ) (ps : List (List ℕ)) (x : List Entry × List (List ℕ)) → 1 ≤ length ps → body_lines k n first at c ps ≡ Ok x → c < length ps
  enough zero at ps x h e = h
  enough (suc c) at [] x h e = absurd (err_ok _ _ e)
  enough (suc c) at (l ∷ []) x h e = absurd (err_ok _ _ e)
  enough (suc c) at (l ∷ p ∷ ps) x h e =
      let t = ok_then (line_by layer.Body (first + at) (body_line k n at) (l ∷ p ∷ ps)) _ x e in
      let s = ok_then (placed layer.Body (first + at) (body_line k n at l)) (λ a. Ok (a, p ∷ ps)) t.0 t.1 in
      let same : length (p ∷ ps) ≡ length t.0.1 = ap (λ z. length z.1) (ok_same (s.0, p ∷ ps) t.0 s.2) in
      let u = ok_then (body_lines k n first (suc at) c t.0.1) _ x t.2 in
      let r = enough c (suc at) t.0.1 u.0 (omega (arith, same)) u.1 in
      omega (arith, r, same)

  fails : {A : Type 0} (r : Result A Fault) → ((a : A) → r ≡ Ok a → ⊥) → (f : Fault) × (r ≡ Err f)
  fails (Ok a) h = absurd (h a refl)
  fails (Err f) h = (f, refl)

  all_there : (i : ℕ) (r : Result (List Entry) Fault) → alone i (with_rest ([] ∷ []) r) ≡ r
  all_there i (Ok es) = refl
  all_there i (Err f) = refl

  -- a body that is cut from a text is read as in the text
  pub cut_reads : (count : ℕ) (t : List ℕ) (m : ℕ) → told k n count first ≡ true → LinesEnd t count m
      → body_lines k n first 0 count (pieces 10 t) ≡ with_rest (pieces 10 (drop m t)) (body_of k n count first (take m t))
  cut_reads count t m fine ends =
      ⊎_elim
      (λ cut.
      let ls = cut.0 in
      let rest = drop m t in
      let split = text_split t rest ls cut.1.split in
      let long : length (lines_text ls) ≡ m = omega (arith, ap length split, length-append (lines_text ls) rest, length-drop m t, cut.1.within) in
      let part : take m t ≡ lines_text ls = ap (take m) split ∙ take_at (lines_text ls) rest m long in
      let lack = every_front (Lack 10) ls (pieces 10 rest) (subst (AllByRecursion (Lack 10)) cut.1.split (pieces_lack 10 t)) in
      let q = pieces_cons 10 rest in
      let some : 0 < length (pieces 10 rest) = omega (arith, ap length q.2) in
      let outer : body_lines k n first 0 count (pieces 10 t) ≡ with_rest (pieces 10 rest) (each 0 ls) = (λ j. body_lines k n first 0 (sym cut.2 j) (cut.1.split j)) ∙ lines_each 0 ls (pieces 10 rest) some in
      let inner : body_lines k n first 0 count (pieces 10 (take m t)) ≡ with_rest ([] ∷ []) (each 0 ls) = (λ j. body_lines k n first 0 (sym cut.2 j) ((ap (pieces 10) part ∙ pieces_joined ls lack) j)) ∙ lines_each 0 ls ([] ∷ []) (omega arith) in
      let held : body_of k n count first (take m t) ≡ each 0 ls = held_lines k n count first (take m t) fine ∙ ap (alone (first + count)) inner ∙ all_there (first + count) (each 0 ls) in
      outer ∙ ap (with_rest (pieces 10 rest)) (sym held))
      (λ short.
      let q = pieces_cons 10 t in
      let f = fails (body_lines k n first 0 count (pieces 10 t)) (λ x e. let z = enough count 0 (pieces 10 t) x (omega (arith, ap length q.2)) e in omega (arith, z, short.1)) in
      let held : body_of k n count first (take m t) ≡ Err f.0 = ap (body_of k n count first) (take_all m t (omega (arith, short.0))) ∙ held_stop k n count first t fine f.0 f.1 in
      f.1 ∙ ap (with_rest (pieces 10 (drop m t))) (sym held))
      ends

-- what the reader of a body tells of the text that the body is cut from
module _ (c : Contents) (first : ℕ) (t : List ℕ) (m : ℕ) (fine : told c.kind c.lines c.count first ≡ true) (ends : LinesEnd t c.count m) where
  here : Result (List Entry) Fault
  here = body_of c.kind c.lines c.count first (take m t)

  rest_is : body_rest c first t ≡ rest_only (with_rest (pieces 10 (drop m t)) here)
  unfolding here
  rest_is = ap rest_only (cut_reads c.kind c.lines first c.count t m fine ends)

  pub next_rest : (count : ℕ) → how_many (body_of c.kind c.lines c.count first (take m t)) ≡ Ok count → body_rest c first t ≡ Ok (pieces 10 (drop m t))
  unfolding here
  next_rest count e =
      let o = ok_then here (λ es. Ok (length es)) count e in
      rest_is ∙ ap (λ z. rest_only (with_rest (pieces 10 (drop m t)) z)) o.1

  pub next_stop : (f : Fault) → how_many (body_of c.kind c.lines c.count first (take m t)) ≡ Err f → body_rest c first t ≡ Err f
  unfolding here
  next_stop f e = rest_is ∙ ap (λ z. rest_only (with_rest (pieces 10 (drop m t)) z)) (err_then here (λ es. length es) f e)

-- the body that is cut from a sheet holds what its item tells
pub body_held : (s : List ℕ) (p : Item) (b : Body) → CutFrom s p b → held_by b ≡ item_holds s p
body_held s p b h = (λ j. body_of (h.contents j).kind (h.contents j).lines (h.contents j).count (h.first j) (h.bytes j))

pub cut_held : (s : List ℕ) (c : Contents) (first start m : ℕ) (b : Body) → CutFrom s (record { contents = c; first = first; start = start; end = start + m }) b → held_by b ≡ body_of c.kind c.lines c.count first (take m (drop start s))
cut_held s c first start m b h =
    let same : start + m - start ≡ m = omega arith in
    body_held s _ b h ∙ ap (λ k. body_of c.kind c.lines c.count first (take k (drop start s))) same

-- the lines of a text are passed one by one
module _ (text rest : List ℕ) (ls : List (List ℕ)) (i : ℕ) (passed : length ls ≡ i) (split : pieces 10 text ≡ ls ++ pieces 10 rest) where
  pub pass_more : (l after : List ℕ) → pieces 10 rest ≡ l ∷ pieces 10 after → (length (ls ++ l ∷ []) ≡ i + 1) × (pieces 10 text ≡ (ls ++ l ∷ []) ++ pieces 10 after)
  pass_more l after e = (omega (arith, length-append ls (l ∷ []), passed), split ∙ ap (λ z. ls ++ z) e ∙ sym (append_assoc ls (l ∷ []) (pieces 10 after)))

  pub pass_within : length rest ≤ length text
  pass_within = omega (arith, ap length (text_split text rest ls split), length-append (lines_text ls) rest)

  pub pass_end : (count : ℕ) → count ≡ i → LinesEnd text count (length text - length rest)
  pass_end count e =
      let whole = text_split text rest ls split in
      let at : length (lines_text ls) ≡ length text - length rest = omega (arith, ap length whole, length-append (lines_text ls) rest) in
      let left : drop (length text - length rest) text ≡ rest = ap (drop (length text - length rest)) whole ∙ drop_at (lines_text ls) rest (length text - length rest) at in
      inl (ls, record { within = omega arith; split = split ∙ ap (λ z. ls ++ pieces 10 z) (sym left) }, passed ∙ sym e)
