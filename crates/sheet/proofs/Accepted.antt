-- A sheet that is read is the rendering of what is read.
use Rattle.std.proofs.Common.{◌≡◌, ℕ, ◌^◌, Bool, true, false, cond, ◌&&◌, eqb, ltb, List, [], ◌∷◌, length, Some, None, Ok, Err, decimal, Option, Result, sym, refl, ap, ◌∙◌, arith, rules}
use Rattle.std.specs.Char.{is_ascii_uppercase}
use Rattle.std.proofs.lemmas.Bool.{and_parts, eqb-true}
use Rattle.sheet.specs.declared.fault.Layer.{Layer}
use Rattle.gates.specs.declared.refusal.Refusal.{Refusal}
use Rattle.gates.specs.declared.refusal.Refusal.TheVariants.{WrongForm, WrongContents, WideRow, IllegalGate}
use Rattle.sheet.specs.declared.contents.Contents.{Contents}
use Rattle.gates.specs.declared.cnot.Cnot.{Cnot}
use Rattle.sheet.specs.declared.contents.Kind.{Kind}
use Rattle.sheet.specs.declared.contents.Kind.TheVariants.{Matrix, Table, Cnots, Mcts}
use Rattle.sheet.specs.Text.{numeral}
use Rattle.sheet.specs.Fault.{and_then, placed, line_by}
use Rattle.sheet.specs.Form.{numbers, pair, triple, head_of, head, letter, kind_of, fits, contents_with, contents_of, after_letter, fields, contents, bits, row_of, row, image_of, image, cnot_of, cnot}
use Rattle.sheet.specs.Render.{numbers_text, row_text, contents_text}
use Rattle.sheet.proofs.Numeral.{decimal_numeral}
use Rattle.sheet.proofs.Back.{numbers_back, bits_back}

-- what an accepted reading was made of
pub ok_cond : {A E : Type 0} (t : Bool) (a b : A) (x : E) → cond t (Ok a) (Err x) ≡ Ok b → (t ≡ true) × (a ≡ b)
ok_cond true a b x p = (refl, cc)
ok_cond false a b x p = absurd (let z : ◌≡◌ {A = ℕ} 0 1 = cc in omega arith)

pub ok_then : {A B E : Type 0} (r : Result A E) (f : A → Result B E) (b : B) → and_then r f ≡ Ok b → (a : A) × (r ≡ Ok a) × (f a ≡ Ok b)
ok_then (Ok a) f b p = (a, refl, p)
ok_then (Err x) f b p = absurd (let z : ◌≡◌ {A = ℕ} 0 1 = cc in omega arith)

pub ok_same : {A E : Type 0} (a b : A) → ◌≡◌ {A = Result A E} (Ok a) (Ok b) → a ≡ b
ok_same a b p = cc

ok_placed : {A : Type 0} (w : Layer) (i : ℕ) (r : Result A Refusal) (a : A) → placed w i r ≡ Ok a → r ≡ Ok a
ok_placed w i (Ok x) a p = ap Ok (ok_same x a p)
ok_placed w i (Err x) a p = absurd (let z : ◌≡◌ {A = ℕ} 0 1 = cc in omega arith)

pub line_back : {A : Type 0} (w : Layer) (i : ℕ) (f : List ℕ → Result A Refusal) (ps : List (List ℕ)) (a : A) (qs : List (List ℕ)) → line_by w i f ps ≡ Ok (a, qs) → (l : List ℕ) × (ps ≡ l ∷ qs) × (f l ≡ Ok a)
line_back w i f [] a qs p = absurd (let z : ◌≡◌ {A = ℕ} 0 1 = cc in omega arith)
line_back w i f (l ∷ []) a qs p = absurd (let z : ◌≡◌ {A = ℕ} 0 1 = cc in omega arith)
line_back w i f (l ∷ m ∷ ps) a qs p =
    let t = ok_then (placed w i (f l)) (λ b. Ok (b, m ∷ ps)) (a, qs) p in
    let s = ok_same (t.0, m ∷ ps) (a, qs) t.2 in
    (l, ap (λ z. l ∷ z.1) s, ok_placed w i (f l) t.0 t.1 ∙ ap (λ z. Ok z.0) s)

pub none_some : {X : Type 0} (x : X) → ◌≡◌ {A = Option X} None (Some x) → ⊥
none_some x p = let z : ◌≡◌ {A = ℕ} 0 1 = cc in omega arith

pub err_ok : {A E : Type 0} (x : E) (a : A) → ◌≡◌ {A = Result A E} (Err x) (Ok a) → ⊥
err_ok x a p = let z : ◌≡◌ {A = ℕ} 0 1 = cc in omega arith

pub err_then : {A B E : Type 0} (r : Result A E) (f : A → B) (x : E) → and_then r (λ a. Ok (f a)) ≡ Err x → r ≡ Err x
err_then (Ok a) f x p = absurd (err_ok x (f a) (sym p))
err_then (Err y) f x p = ap Err (let q : y ≡ x = cc in q)

some_same : {X : Type 0} (x y : X) → ◌≡◌ {A = Option X} (Some x) (Some y) → x ≡ y
some_same x y p = cc

-- line 1
head_some : (o : Option ℕ) (k : ℕ) → head_of o ≡ Ok k → o ≡ Some k
head_some None k p = absurd (err_ok _ _ p)
head_some (Some n) k p = ap Some (ok_cond _ n k WrongForm p).1

pub head_back : (l : List ℕ) (k : ℕ) → head l ≡ Ok k → l ≡ decimal k
head_back l k p = (decimal_numeral l k (head_some (numeral l) k p)).0

-- a contents line
triple_some : (o : Option (List ℕ)) (x : ℕ × ℕ × ℕ) → triple o ≡ Some x → o ≡ Some (x.0 ∷ x.1 ∷ x.2 ∷ [])
triple_some None x p = absurd (none_some x p)
triple_some (Some []) x p = absurd (none_some x p)
triple_some (Some (a ∷ [])) x p = absurd (none_some x p)
triple_some (Some (a ∷ b ∷ [])) x p = absurd (none_some x p)
triple_some (Some (a ∷ b ∷ c ∷ [])) x p = ap (λ y. Some (y.0 ∷ y.1 ∷ y.2 ∷ [])) (some_same (a, b, c) x p)
triple_some (Some (a ∷ b ∷ c ∷ d ∷ ds)) x p = absurd (none_some x p)

letter_some : (b : ℕ) (o : Option (ℕ × ℕ × ℕ)) (x : ℕ × ℕ × ℕ × ℕ) → after_letter b o ≡ Some x → (b ≡ x.0) × (o ≡ Some (x.1, x.2, x.3))
letter_some b None x p = absurd (none_some x p)
letter_some b (Some y) x p = let q = some_same (b, y.0, y.1, y.2) x p in (ap (λ z. z.0) q, ap (λ z. Some (z.1, z.2, z.3)) q)

pub space_some : {X : Type 0} (t : Bool) (o : Option X) (x : X) → cond t o None ≡ Some x → (t ≡ true) × (o ≡ Some x)
space_some true o x p = (refl, p)
space_some false o x p = absurd (none_some x p)

fields_back : (l : List ℕ) (x : ℕ × ℕ × ℕ × ℕ) → fields l ≡ Some x → l ≡ x.0 ∷ 32 ∷ numbers_text (x.1 ∷ x.2 ∷ x.3 ∷ [])
fields_back [] x p = absurd (none_some x p)
fields_back (b ∷ []) x p = absurd (none_some x p)
fields_back (b ∷ s ∷ rest) x p =
    let t = space_some (is_ascii_uppercase b && eqb s 32) (after_letter b (triple (numbers rest))) x p in
    let q = letter_some b (triple (numbers rest)) x t.1 in
    let space = eqb-true s 32 (and_parts _ _ t.0).1 in
    let text = numbers_back rest (x.1 ∷ x.2 ∷ x.3 ∷ []) (triple_some (numbers rest) (x.1, x.2, x.3) q.1) in
    (λ j. q.0 j ∷ space j ∷ text j)

kind_back : (b : ℕ) (k : Kind) → kind_of b ≡ Some k → b ≡ letter k
kind_back b Matrix p = search rules
kind_back b Table p = search rules
kind_back b Cnots p = search rules
kind_back b Mcts p = search rules

entry_back : (first : ℕ) (k : Option Kind) (n count at : ℕ) (c : Contents) → contents_with first k n count at ≡ Ok c → (k ≡ Some c.kind) × (n ≡ c.lines) × (count ≡ c.count) × (at ≡ first)
entry_back first None n count at c p = absurd (err_ok _ _ p)
entry_back first (Some k) n count at c p =
    let q = ok_cond (fits k n count && eqb at first) (record { kind = k; lines = n; count = count }) c WrongContents p in
    (ap (λ z. Some z.kind) q.1, ap (λ z. z.lines) q.1, ap (λ z. z.count) q.1, eqb-true at first (and_parts _ _ q.0).1)

pub entry_some : (first : ℕ) (o : Option (ℕ × ℕ × ℕ × ℕ)) (c : Contents) → contents_of first o ≡ Ok c → (x : ℕ × ℕ × ℕ × ℕ) × (o ≡ Some x) × (contents_with first (kind_of x.0) x.1 x.2 x.3 ≡ Ok c)
entry_some first None c p = absurd (err_ok _ _ p)
entry_some first (Some x) c p = (x, refl, p)

pub contents_back : (first : ℕ) (l : List ℕ) (c : Contents) → contents first l ≡ Ok c → l ≡ contents_text first c
contents_back first l c p =
    let x = entry_some first (fields l) c p in
    let q = entry_back first (kind_of x.0.0) x.0.1 x.0.2 x.0.3 c x.2 in
    fields_back l x.0 x.1 ∙ (λ j. kind_back x.0.0 c.kind q.0 j ∷ 32 ∷ numbers_text (q.1 j ∷ q.2 j ∷ q.3 j ∷ []))

-- body lines
pub row_some : (o : Option ℕ) (w : ℕ) → row_of o ≡ Ok w → o ≡ Some w
row_some None w p = absurd (err_ok _ _ p)
row_some (Some v) w p = ap Some (ok_same v w p)

row_back_at : (t : Bool) (n : ℕ) (l : List ℕ) (w : ℕ) → (t ≡ true → length l ≡ n) → cond t (row_of (bits l)) (Err WrongForm) ≡ Ok w → l ≡ row_text n w
row_back_at true n l w h p = bits_back l w (row_some (bits l) w p) ∙ ap (λ m. row_text m w) (h refl)
row_back_at false n l w h p = absurd (err_ok _ _ p)

pub row_back : (n : ℕ) (l : List ℕ) (w : ℕ) → row n l ≡ Ok w → l ≡ row_text n w
row_back n l w p = row_back_at (eqb (length l) n) n l w (eqb-true (length l) n) p

pub image_some : (n at : ℕ) (o : Option ℕ) (x : ℕ) → image_of n at o ≡ Ok x → o ≡ Some x
image_some n at None x p = absurd (err_ok _ _ p)
image_some n at (Some y) x p = ap Some (ok_cond (ltb y (2 ^ n)) y x (WideRow at) p).1

pub image_back : (n at : ℕ) (l : List ℕ) (x : ℕ) → image n at l ≡ Ok x → l ≡ decimal x
image_back n at l x p = (decimal_numeral l x (image_some n at (numeral l) x p)).0

pub pair_some : (o : Option (List ℕ)) (x : ℕ × ℕ) → pair o ≡ Some x → o ≡ Some (x.0 ∷ x.1 ∷ [])
pair_some None x p = absurd (none_some x p)
pair_some (Some []) x p = absurd (none_some x p)
pair_some (Some (a ∷ [])) x p = absurd (none_some x p)
pair_some (Some (a ∷ b ∷ [])) x p = ap (λ y. Some (y.0 ∷ y.1 ∷ [])) (some_same (a, b) x p)
pair_some (Some (a ∷ b ∷ c ∷ cs)) x p = absurd (none_some x p)

cnot_some : (n : ℕ) (o : Option (ℕ × ℕ)) (g : Cnot) → cnot_of n o ≡ Ok g → o ≡ Some (g.control, g.target)
cnot_some n None g p = absurd (err_ok _ _ p)
cnot_some n (Some x) g p = ap (λ z. Some (z.control, z.target)) (ok_cond _ (record { control = x.0; target = x.1 }) g IllegalGate p).1

pub cnot_back : (n : ℕ) (l : List ℕ) (g : Cnot) → cnot n l ≡ Ok g → l ≡ numbers_text (g.control ∷ g.target ∷ [])
cnot_back n l g p = numbers_back l _ (pair_some (numbers l) (g.control, g.target) (cnot_some n (pair (numbers l)) g p))
