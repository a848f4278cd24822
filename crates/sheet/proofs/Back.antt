-- A sheet that is read is the rendering of what is read: lines and fields.
use Rattle.std.proofs.Common.{◌≡◌, ℕ, ◌+◌, ◌*◌, ◌/◌, ◌%◌, ◌≤◌, true, false, cond, eqb, List, [], ◌∷◌, ◌++◌, map, length, Some, None, decimal, Option, sym, refl, ap, ◌∙◌, append_assoc, append-nil, arith, rules}
use Rattle.std.specs.List.{flat_map, join_with_byte}
use Rattle.std.proofs.lemmas.Bool.{eqb-true}
use Rattle.sheet.specs.Text.{onto, pieces, numeral}
use Rattle.sheet.specs.Form.{both, numerals, numbers, bit, below_word, bits}
use Rattle.sheet.specs.Render.{numbers_text, row_text}
use Rattle.sheet.proofs.Lines.{pieces_cons}
use Rattle.sheet.proofs.Numeral.{decimal_numeral}

rejoined_onto : (sep b : ℕ) (p : List ℕ) (ps : List (List ℕ)) → join_with_byte sep (onto b (p ∷ ps)) ≡ b ∷ join_with_byte sep (p ∷ ps)
rejoined_onto sep b p [] = refl
rejoined_onto sep b p (q ∷ ps) = refl

-- the pieces of a text, put together again
pub rejoined_pieces : (sep : ℕ) (s : List ℕ) → join_with_byte sep (pieces sep s) ≡ s
rejoined_pieces sep [] = refl
rejoined_pieces sep (b ∷ bs) =
    let q = pieces_cons sep bs in
    let back : join_with_byte sep (q.0 ∷ q.1) ≡ bs = ap (join_with_byte sep) (sym q.2) ∙ rejoined_pieces sep bs in
    elim (eqb b sep) as (λ t. eqb b sep ≡ t → join_with_byte sep (cond t ([] ∷ pieces sep bs) (onto b (pieces sep bs))) ≡ b ∷ bs) [
      | true ↦ λ e. ap (λ z. join_with_byte sep ([] ∷ z)) q.2 ∙ (λ j. sym (eqb-true b sep e) j ∷ back j)
      | false ↦ λ e. ap (λ z. join_with_byte sep (onto b z)) q.2 ∙ rejoined_onto sep b q.0 q.1 ∙ ap (λ z. b ∷ z) back
    ] refl

-- ended lines, and the empty piece after the last
pub rejoined_lines : (ls : List (List ℕ)) → join_with_byte 10 (ls ++ [] ∷ []) ≡ flat_map (λ l. l ++ 10 ∷ []) ls
rejoined_lines [] = refl
rejoined_lines (l ∷ []) = sym (append-nil _)
rejoined_lines (l ∷ m ∷ ls) = ap (λ z. l ++ (10 ∷ z)) (rejoined_lines (m ∷ ls)) ∙ sym (append_assoc l (10 ∷ []) _)

both_back : (o : Option ℕ) (os : Option (List ℕ)) (ns : List ℕ) → both o os ≡ Some ns → (n : ℕ) × (ms : List ℕ) × (o ≡ Some n) × (os ≡ Some ms) × (ns ≡ n ∷ ms)
both_back None os ns e = absurd (let z : ◌≡◌ {A = ℕ} 0 1 = cc in omega arith)
both_back (Some n) None ns e = absurd (let z : ◌≡◌ {A = ℕ} 0 1 = cc in omega arith)
both_back (Some n) (Some ms) ns e = (n, ms, refl, refl, cc)

numerals_back : (ps : List (List ℕ)) (ns : List ℕ) → numerals ps ≡ Some ns → ps ≡ map decimal ns
numerals_back [] ns e = ap (map decimal) (let n : [] ≡ ns = cc in n)
numerals_back (p ∷ ps) ns e =
    let b = both_back (numeral p) (numerals ps) ns e in
    (λ j. (decimal_numeral p b.0 b.2).0 j ∷ numerals_back ps b.1 b.3 j) ∙ ap (map decimal) (sym b.4)

-- a line of numbers is their text
pub numbers_back : (l ns : List ℕ) → numbers l ≡ Some ns → l ≡ numbers_text ns
numbers_back l ns e = sym (rejoined_pieces 32 l) ∙ ap (join_with_byte 32) (numerals_back (pieces 32 l) ns e)

-- a row is the digits of its word
pub below_back : (o w : Option ℕ) (v : ℕ) → below_word o w ≡ Some v → (b : ℕ) × (u : ℕ) × (o ≡ Some b) × (w ≡ Some u) × (v ≡ b + u * 2)
below_back None w v e = absurd (let z : ◌≡◌ {A = ℕ} 0 1 = cc in omega arith)
below_back (Some b) None v e = absurd (let z : ◌≡◌ {A = ℕ} 0 1 = cc in omega arith)
below_back (Some b) (Some u) v e = (b, u, refl, refl, cc)

pub bit_back : (d b : ℕ) → bit d ≡ Some b → (d ≡ 48 + b) × (b ≤ 1)
bit_back d b e = search rules

pub bits_back : (l : List ℕ) (w : ℕ) → bits l ≡ Some w → l ≡ row_text (length l) w
bits_back [] w e = refl
bits_back (d ∷ l) w e =
    let b = below_back (bit d) (bits l) w e in
    let digit = bit_back d b.0 b.2 in
    let low : w % 2 ≡ b.0 = omega (arith, b.4, digit.1) in
    let high : w / 2 ≡ b.1 = omega (arith, b.4, digit.1) in
    (λ j. (digit.0 ∙ ap (λ x. 48 + x) (sym low)) j ∷ (bits_back l b.1 b.3 ∙ ap (row_text (length l)) (sym high)) j)
