-- The law of lines: a line of a body has fewer than 256 bytes.
use Rattle.std.specs.Prelude.{◌≡◌, ℕ, zero, suc, ◌+◌, ◌*◌, ◌/◌, ◌%◌, ◌<◌, ◌≤◌, Bool, true, false, cond, List, [], ◌∷◌, ◌++◌, length, decimal, ◌==◌}
use Rattle.std.specs.List.{flat_map}
use Rattle.std.specs.Fmt.{digits, digits_onto, digit_glyph}
use Rattle.std.proofs.Common.{refl, ap, ◌∙◌, append_assoc, arith, length-append}
use Rattle.std.proofs.lemmas.Fmt.{decimal_digit}
use Rattle.gates.specs.declared.cnot.Cnot.{Cnot}
use Rattle.gates.specs.declared.mct.Mct.{Mct}
use Rattle.sheet.specs.Render.{numbers_text, members, row_text, cnot_text, mct_text}
use Rattle.sheet.proofs.Forth.{length_row}

either : (P : List ℕ → Type 0) (b : Bool) (xs ys : List ℕ) → P xs → P ys → P (cond b xs ys)
either P true xs ys p q = p
either P false xs ys p q = q

digits_long : (k base : ℕ) (upper : Bool) (n : ℕ) (acc : List ℕ) → length (digits_onto k base upper n acc) ≤ k + length acc
digits_long zero base upper n acc = omega arith
digits_long (suc k) base upper n acc =
    let more = digit_glyph upper (n % base) ∷ acc in
    either (λ z. length z ≤ suc k + length acc) (n / base == 0) more (digits_onto k base upper (n / base) more) (omega arith) (omega (arith, digits_long k base upper (n / base) more))

-- A number has at most 64 digits.
pub decimal_long : (n : ℕ) → length (decimal n) ≤ 64
unfolding digits
decimal_long n = omega (arith, digits_long 64 10 false n [])

pub decimal_short : (n : ℕ) → length (decimal n) < 256
decimal_short n = omega (arith, decimal_long n)

pub row_short : (n w : ℕ) → n < 256 → length (row_text n w) < 256
row_short n w l = omega (arith, length_row n w)

-- Numbers, with a space after each.
abbrev pub spaced : List ℕ → List ℕ
spaced ns = flat_map (λ n. decimal n ++ 32 ∷ []) ns

pub spaced_last : (ns : List ℕ) (n : ℕ) → numbers_text (ns ++ n ∷ []) ≡ spaced ns ++ decimal n
spaced_last [] n = refl
spaced_last (m ∷ []) n = simp append_assoc
spaced_last (m ∷ k ∷ ns) n = ap (λ z. decimal m ++ (32 ∷ z)) (spaced_last (k ∷ ns) n) ∙ simp append_assoc

pub cnot_short : (g : Cnot) → length (cnot_text g) < 256
cnot_short g = omega (arith, decimal_long g.control, decimal_long g.target, length-append (decimal g.control) (32 ∷ decimal g.target))

-- Each of the lowest ten lines is a digit and a space.
members_long : (k j w : ℕ) → j + k ≤ 10 → length (spaced (members k j w)) ≤ 2 * k
members_long zero j w l = omega arith
members_long (suc k) j w l =
    let rest = members k (suc j) (w / 2) in
    let more : length (spaced rest) ≤ 2 * k = members_long k (suc j) (w / 2) (omega arith) in
    either (λ z. length (spaced z) ≤ 2 * suc k) (w % 2 == 0) rest (j ∷ rest) (omega arith)
    (omega (arith, more, ap length (decimal_digit j (omega arith)), length-append (decimal j ++ 32 ∷ []) (spaced rest), length-append (decimal j) (32 ∷ [])))

pub mct_short : (g : Mct) → length (mct_text g) < 256
mct_short g =
    let controls = members 8 0 g.controls in
    omega (arith, members_long 8 0 g.controls (omega arith), decimal_long g.target, ap length (spaced_last controls g.target), length-append (spaced controls) (decimal g.target))
