-- The text of lines and of numbers is read as those.
use Rattle.std.proofs.Common.{◌≡◌, ℕ, zero, suc, ◌+◌, ◌*◌, ◌/◌, ◌%◌, ◌^◌, ◌<◌, ◌≤◌, true, List, [], ◌∷◌, ◌++◌, map, length, Some, Ok, decimal, refl, ap, ◌∙◌, append_assoc, pow-suc, arith}
use Rattle.std.specs.List.{flat_map, join_with_byte, AllByRecursion}
use Rattle.std.specs.Char.{is_ascii_digit, is_ascii_uppercase}
use Rattle.std.specs.Str.{all_ascii_digits}
use Rattle.std.proofs.lemmas.Bool.{cond-true, cond-false, eq-eqb, ne_eqb, and_parts, and_from, leb-true, le-leb, lt-ltb}
use Rattle.std.proofs.lemmas.Fmt.{digits_decimal}
use Rattle.sheet.specs.Text.{onto, pieces}
use Rattle.sheet.specs.declared.contents.Kind.{Kind}
use Rattle.sheet.specs.declared.contents.Kind.TheVariants.{Matrix, Table, Cnots, Mcts}
use Rattle.sheet.specs.declared.contents.Contents.{Contents}
use Rattle.gates.specs.declared.cnot.Cnot.{Cnot}
use Rattle.sheet.specs.Form.{both, numerals, numbers, pair, triple, head_of, head, letter, kind_of, fits, contents_with, contents_of, after_letter, contents, bit, below_word, bits, row_of, row, image_of, image, cnot_of, cnot}
use Rattle.sheet.specs.Render.{numbers_text, row_text, contents_text}
use Rattle.gates.specs.Cnots as cnots
use Rattle.sheet.proofs.Numeral.{own, numeral_decimal}
use Rattle.sheet.proofs.Legality.{cnot_parts}

-- a numeral can write it
abbrev pub Small : ℕ → Type 0
Small n = n < 100000

-- the byte is not in the text
abbrev pub Lack : ℕ → List ℕ → Type 0
Lack b l = AllByRecursion (λ x. x ≡ b → ⊥) l

pub pieces_app : (sep : ℕ) (l r : List ℕ) → Lack sep l → pieces sep (l ++ sep ∷ r) ≡ l ∷ pieces sep r
pieces_app sep [] r h = cond-true _ _ _ (eq-eqb sep sep refl)
pieces_app sep (b ∷ bs) r h = cond-false _ _ _ (ne_eqb b sep h.0) ∙ ap (onto b) (pieces_app sep bs r h.1)

pub pieces_lone : (sep : ℕ) (l : List ℕ) → Lack sep l → pieces sep l ≡ l ∷ []
pieces_lone sep [] h = refl
pieces_lone sep (b ∷ bs) h = cond-false _ _ _ (ne_eqb b sep h.0) ∙ ap (onto b) (pieces_lone sep bs h.1)

-- ended lines
pub pieces_joined : (ls : List (List ℕ)) → AllByRecursion (Lack 10) ls → pieces 10 (flat_map (λ l. l ++ 10 ∷ []) ls) ≡ ls ++ [] ∷ []
pieces_joined [] h = refl
pieces_joined (l ∷ ls) h =
    ap (pieces 10) (append_assoc l (10 ∷ []) (flat_map (λ l. l ++ 10 ∷ []) ls)) ∙ pieces_app 10 l (flat_map (λ l. l ++ 10 ∷ []) ls) h.0 ∙ ap (λ z. l ∷ z) (pieces_joined ls h.1)

pieces_rejoined : (sep : ℕ) (p : List ℕ) (ps : List (List ℕ)) → Lack sep p → AllByRecursion (Lack sep) ps → pieces sep (join_with_byte sep (p ∷ ps)) ≡ p ∷ ps
pieces_rejoined sep p [] h k = pieces_lone sep p h
pieces_rejoined sep p (q ∷ ps) h k = pieces_app sep p (join_with_byte sep (q ∷ ps)) h ∙ ap (λ z. p ∷ z) (pieces_rejoined sep q ps k.0 k.1)

digits_lack : (sep : ℕ) (ds : List ℕ) → sep < 48 → all_ascii_digits ds ≡ true → Lack sep ds
digits_lack sep [] l h = tt
digits_lack sep (d ∷ ds) l h =
    let p = and_parts (is_ascii_digit d) (all_ascii_digits ds) h in
    (λ e. omega (arith, leb-true 48 d (and_parts _ _ p.0).0, e), digits_lack sep ds l p.1)

-- a numeral has no space and no end of line
pub decimal_lacks : (sep n : ℕ) → sep < 48 → n < 100000 → Lack sep (decimal n)
decimal_lacks sep n l h = digits_lack sep (decimal n) l (digits_decimal own n (omega arith))

decimals_lack : (ns : List ℕ) → AllByRecursion Small ns → AllByRecursion (Lack 32) (map decimal ns)
decimals_lack [] h = tt
decimals_lack (n ∷ ns) h = (decimal_lacks 32 n (omega arith) h.0, decimals_lack ns h.1)

numerals_map : (ns : List ℕ) → AllByRecursion Small ns → numerals (map decimal ns) ≡ Some ns
numerals_map [] h = refl
numerals_map (n ∷ ns) h = (λ j. both (numeral_decimal n h.0 j) (numerals_map ns h.1 j))

-- the text of some numbers is read as those
pub numbers_forth : (n : ℕ) (ns : List ℕ) → AllByRecursion Small (n ∷ ns) → numbers (numbers_text (n ∷ ns)) ≡ Some (n ∷ ns)
numbers_forth n ns h =
    ap numerals (pieces_rejoined 32 (decimal n) (map decimal ns) (decimal_lacks 32 n (omega arith) h.0) (decimals_lack ns h.1)) ∙ numerals_map (n ∷ ns) h

pub head_forth : (k : ℕ) → 1 ≤ k → k ≤ 16 → head (decimal k) ≡ Ok k
head_forth k l h = ap head_of (numeral_decimal k (omega arith)) ∙ cond-true _ _ _ (and_from _ _ (le-leb 1 k l) (le-leb k 16 h))

capital : (k : Kind) → is_ascii_uppercase (letter k) ≡ true
capital Matrix = refl
capital Table = refl
capital Cnots = refl
capital Mcts = refl

kind_forth : (k : Kind) → kind_of (letter k) ≡ Some k
kind_forth Matrix = refl
kind_forth Table = refl
kind_forth Cnots = refl
kind_forth Mcts = refl

pub contents_forth : (first : ℕ) (c : Contents) → Small c.lines → Small c.count → Small first → fits c.kind c.lines c.count ≡ true → contents first (contents_text first c) ≡ Ok c
contents_forth first c n m f h =
    let three = numbers_forth c.lines (c.count ∷ first ∷ []) (n, (m, (f, tt))) in
    ap (contents_of first) (cond-true _ _ _ (and_from _ _ (capital c.kind) refl) ∙ ap (λ o. after_letter (letter c.kind) (triple o)) three)
    ∙ ap (λ k. contents_with first k c.lines c.count first) (kind_forth c.kind) ∙ cond-true _ _ _ (and_from _ _ h (eq-eqb first first refl))

bit_forth : (b : ℕ) → b < 2 → bit (48 + b) ≡ Some b
bit_forth zero l = refl
bit_forth (suc zero) l = refl
bit_forth (suc (suc b)) l = absurd (omega arith)

bits_forth : (n w : ℕ) → w < 2 ^ n → bits (row_text n w) ≡ Some w
bits_forth zero w h = ap Some (let z : 0 ≡ w = omega arith in z)
bits_forth (suc n) w h =
    let p = pow-suc 2 n in
    let half : w / 2 < 2 ^ n = omega (arith, p) in
    let whole : w % 2 + w / 2 * 2 ≡ w = omega arith in
    (λ j. below_word (bit_forth (w % 2) (omega arith) j) (bits_forth n (w / 2) half j)) ∙ ap Some whole

pub length_row : (n w : ℕ) → length (row_text n w) ≡ n
length_row zero w = refl
length_row (suc n) w = ap suc (length_row n (w / 2))

pub row_forth : (n w : ℕ) → w < 2 ^ n → row n (row_text n w) ≡ Ok w
row_forth n w h = cond-true _ _ _ (eq-eqb _ n (length_row n w)) ∙ ap row_of (bits_forth n w h)

pub image_forth : (n at x : ℕ) → Small x → x < 2 ^ n → image n at (decimal x) ≡ Ok x
image_forth n at x s h = ap (image_of n at) (numeral_decimal x s) ∙ cond-true _ _ _ (lt-ltb x (2 ^ n) h)

pub cnot_forth : (n : ℕ) (g : Cnot) → (cnots.cnot).legal n g ≡ true → cnot n (numbers_text (g.control ∷ g.target ∷ [])) ≡ Ok g
cnot_forth n g h =
    let p = cnot_parts n g h in
    ap (λ o. cnot_of n (pair o)) (numbers_forth g.control (g.target ∷ []) (omega (arith, p.0, p.1), (omega (arith, p.0, p.2), tt))) ∙ cond-true _ _ _ h
