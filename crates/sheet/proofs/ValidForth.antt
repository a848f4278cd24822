-- The rendering of valid items is read as those.
use Rattle.std.proofs.Common.{◌≡◌, ℕ, zero, suc, ◌+◌, ◌/◌, ◌^◌, ◌<◌, ◌≤◌, List, [], ◌∷◌, ◌++◌, map, length, Ok, decimal, sym, refl, ap, ◌∙◌, subst, arith, length-append}
use native.Mathlib.Nat.{pow-le-pow_right}
use lib.ListN.{length-map}
use Rattle.std.specs.List.{AllByRecursion, flat_map}
use Rattle.std.proofs.slice.Lists.{all_by_recursion_push}
use Rattle.std.proofs.lemmas.Bool.{and_parts, leb-true}
use Rattle.sheet.specs.declared.contents.Kind.{Kind}
use Rattle.sheet.specs.declared.contents.Kind.TheVariants.{Matrix, Table, Cnots, Mcts}
use Rattle.sheet.specs.declared.entry.Entry.{Entry}
use Rattle.sheet.specs.declared.entry.Entry.TheVariants as e
use Rattle.sheet.specs.Fault.{and_then}
use Rattle.sheet.specs.Form.{letter, most}
use Rattle.sheet.specs.Body.{body_line}
use Rattle.sheet.specs.Sheet.{Held, sheet_of}
use Rattle.sheet.specs.Render.{numbers_text, row_text, members, entry_text, contents_texts, body_texts, sheet_texts, render}
use Rattle.sheet.specs.Laws.{entry_kind, Legal, Valid}
use Rattle.sheet.proofs.Legality.{cnot_parts, mct_parts}
use Rattle.sheet.proofs.Forth.{Small, Lack, decimal_lacks, contents_forth, row_forth, image_forth, cnot_forth}
use Rattle.sheet.proofs.MctForth.{mct_forth, members_small}
use Rattle.sheet.proofs.Render.{ContentsRead, BodyRead, sheet_forth}

-- 2 ^ n is at most 256 on at most 8 lines
at_most : (n x : ℕ) → n ≤ 8 → x < 2 ^ n → x < 256
at_most n x l h = let p : 2 ^ n ≤ 2 ^ 8 = pow-le-pow_right (omega arith) l in omega arith

entry_forth : (n at : ℕ) (x : Entry) → n ≤ most (entry_kind x) → Legal n x → body_line (entry_kind x) n at (entry_text n x) ≡ Ok x
entry_forth n at (e.Word w) l h = ap (λ r. and_then r (λ w. Ok (e.Word w))) (row_forth n w h)
entry_forth n at (e.Image x) l h = let s = at_most n x l h in ap (λ r. and_then r (λ w. Ok (e.Image w))) (image_forth n at x (omega arith) h)
entry_forth n at (e.Cnot g) l h = ap (λ r. and_then r (λ w. Ok (e.Cnot w))) (cnot_forth n g h)
entry_forth n at (e.Mct g) l h = ap (λ r. and_then r (λ w. Ok (e.Mct w))) (mct_forth n g h)

pub every_map : {A : Type 0} (P Q : A → Type 0) (xs : List A) → ((x : A) → P x → Q x) → AllByRecursion P xs → AllByRecursion Q xs
every_map P Q [] f h = tt
every_map P Q (x ∷ xs) f h = (f x h.0, every_map P Q xs f h.1)

pub few : (h : Held) → Valid h → h.0.lines ≤ most h.0.kind
few h v = leb-true _ _ (and_parts _ _ (and_parts _ _ v.fitting).0).1

pub body_read : (h : Held) → Valid h → BodyRead h
body_read h v = (
  v.count,
  every_map _ _ h.1 (λ x p at. subst (λ k. body_line k h.0.lines at (entry_text h.0.lines x) ≡ Ok x) p.0 (entry_forth h.0.lines at x (subst (λ k. h.0.lines ≤ most k) (sym p.0) (few h v)) p.1)) v.entries,
)

-- no line has the byte 10
lack_append : (b : ℕ) (xs ys : List ℕ) → Lack b xs → Lack b ys → Lack b (xs ++ ys)
lack_append b [] ys h k = k
lack_append b (x ∷ xs) ys h k = (h.0, lack_append b xs ys h.1 k)

numbers_lack : (ns : List ℕ) → AllByRecursion Small ns → Lack 10 (numbers_text ns)
numbers_lack [] h = tt
numbers_lack (n ∷ []) h = decimal_lacks 10 n (omega arith) h.0
numbers_lack (n ∷ m ∷ ns) h = lack_append 10 (decimal n) (32 ∷ numbers_text (m ∷ ns)) (decimal_lacks 10 n (omega arith) h.0) (λ z. omega (arith, z), numbers_lack (m ∷ ns) h.1)

row_lack : (n w : ℕ) → Lack 10 (row_text n w)
row_lack zero w = tt
row_lack (suc n) w = (λ z. omega (arith, z), row_lack n (w / 2))

entry_lack : (n : ℕ) (x : Entry) → n ≤ most (entry_kind x) → Legal n x → Lack 10 (entry_text n x)
entry_lack n (e.Word w) l h = row_lack n w
entry_lack n (e.Image x) l h = let s = at_most n x l h in decimal_lacks 10 x (omega arith) (omega arith)
entry_lack n (e.Cnot g) l h = let p = cnot_parts n g h in numbers_lack (g.control ∷ g.target ∷ []) (omega (arith, p.0, p.1), (omega (arith, p.0, p.2), tt))
entry_lack n (e.Mct g) l h =
    let p = mct_parts n g h in
    numbers_lack (members 8 0 g.controls ++ g.target ∷ []) (all_by_recursion_push Small (members 8 0 g.controls) g.target (members_small 8 0 g.controls (omega arith)) (omega (arith, p.0, p.2)))

letter_lack : (k : Kind) → letter k ≡ 10 → ⊥
letter_lack Matrix p = omega (arith, p)
letter_lack Table p = omega (arith, p)
letter_lack Cnots p = omega (arith, p)
letter_lack Mcts p = omega (arith, p)

texts_lack : (k : Kind) (n : ℕ) (xs : List Entry) → n ≤ most k → AllByRecursion (λ x. (entry_kind x ≡ k) × Legal n x) xs → AllByRecursion (Lack 10) (map (entry_text n) xs)
texts_lack k n [] l h = tt
texts_lack k n (x ∷ xs) l h = (entry_lack n x (subst (λ k. n ≤ most k) (sym h.0.0) l) h.0.1, texts_lack k n xs l h.1)

pub entries_lack : (h : Held) → Valid h → AllByRecursion (Lack 10) (map (entry_text h.0.lines) h.1)
entries_lack h v = texts_lack h.0.kind h.0.lines h.1 (few h v) v.entries

every_append : {A : Type 0} (P : A → Type 0) (xs ys : List A) → AllByRecursion P xs → AllByRecursion P ys → AllByRecursion P (xs ++ ys)
every_append P [] ys h k = k
every_append P (x ∷ xs) ys h k = (h.0, every_append P xs ys h.1 k)

bodies_lack : (hs : List Held) → AllByRecursion Valid hs → AllByRecursion (Lack 10) (body_texts hs)
bodies_lack [] v = tt
bodies_lack (h ∷ hs) v = every_append (Lack 10) (map (entry_text h.0.lines) h.1) (body_texts hs) (entries_lack h v.0) (bodies_lack hs v.1)

-- the numbers of the contents are small
unfoldable pub sum : List Held → ℕ
sum [] = 0
sum (h ∷ hs) = h.0.count + sum hs

most_64 : (k : Kind) → most k ≤ 64
most_64 Matrix = omega arith
most_64 Table = omega arith
most_64 Cnots = omega arith
most_64 Mcts = omega arith

contents_read : (first : ℕ) (hs : List Held) → first + sum hs < 100000 → AllByRecursion Valid hs → ContentsRead first (map (λ h. h.0) hs)
unfolding sum
contents_read first [] l v = tt
contents_read first (h ∷ hs) l v = (
  contents_forth first h.0 (omega (arith, few h v.0, most_64 h.0.kind)) (omega (arith, l)) (omega (arith, l)) v.0.fitting,
  contents_read (first + h.0.count) hs (omega (arith, l)) v.1,
)

contents_lack : (first : ℕ) (hs : List Held) → first + sum hs < 100000 → AllByRecursion Valid hs → AllByRecursion (Lack 10) (contents_texts first (map (λ h. h.0) hs))
unfolding sum
contents_lack first [] l v = tt
contents_lack first (h ∷ hs) l v = (
  (letter_lack h.0.kind, (λ z. omega (arith, z), numbers_lack (h.0.lines ∷ h.0.count ∷ first ∷ []) (omega (arith, few h v.0, most_64 h.0.kind), (omega (arith, l), (omega (arith, l), tt))))),
  contents_lack (first + h.0.count) hs (omega (arith, l)) v.1,
)

lines_long : (hs : List Held) → AllByRecursion Valid hs → length (body_texts hs) ≡ sum hs
unfolding sum
lines_long [] v = refl
lines_long (h ∷ hs) v =
    length-append (map (entry_text h.0.lines) h.1) (body_texts hs) ∙ (λ j. (length-map h.1 (entry_text h.0.lines) ∙ v.0.count) j + lines_long hs v.1 j)

-- a line takes a byte at least
joined_long : (ls : List (List ℕ)) → length ls ≤ length (flat_map (λ l. l ++ 10 ∷ []) ls)
joined_long [] = omega arith
joined_long (l ∷ ls) = omega (arith, length-append (l ++ 10 ∷ []) (flat_map (λ l. l ++ 10 ∷ []) ls), length-append l (10 ∷ []), joined_long ls)

-- a sheet has few lines
pub few_lines : (hs : List Held) → AllByRecursion Valid hs → length (render hs) ≤ 16384 → sum hs ≤ 16384
few_lines hs v short =
    let count = length-append (contents_texts (length hs + 2) (map (λ h. h.0) hs)) (body_texts hs) in
    omega (arith, joined_long (sheet_texts hs), count, lines_long hs v)

pub valid_forth : (hs : List Held) → 1 ≤ length hs → length hs ≤ 16 → AllByRecursion Valid hs → length (render hs) ≤ 16384 → sheet_of (render hs) ≡ Ok hs
valid_forth hs a b v short =
    let k = length hs in
    let room : k + 2 + sum hs < 100000 = omega (arith, few_lines hs v short, b) in
    sheet_forth hs a b (contents_read (k + 2) hs room v) (every_map Valid BodyRead hs body_read v)
    (decimal_lacks 10 k (omega arith) (omega (arith, b)), every_append (Lack 10) (contents_texts (k + 2) (map (λ h. h.0) hs)) (body_texts hs) (contents_lack (k + 2) hs room v) (bodies_lack hs v)) short
