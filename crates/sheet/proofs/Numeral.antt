-- Laws of `numeral`.
use Rattle.std.proofs.Common.{◌≡◌, ℕ, ◌+◌, ◌-◌, ◌*◌, ◌^◌, ◌<◌, ◌≤◌, Bool, true, false, cond, not, ◌&&◌, ◌||◌, List, [], ◌∷◌, length, get_or, Some, None, decimal, sym, refl, ap, ◌∙◌, ⊎_elim, pow-suc, add-one, arith, rules}
use native.Mathlib.Nat.{pow-le-pow_right}
use Rattle.std.specs.Str.{all_ascii_digits}
use Rattle.std.proofs.lemmas.Str.Parse.{IsNumeralModel, numerals_by_fold, digits_value_short}
use Rattle.std.proofs.lemmas.Fmt.{decimal-digits_value, digits_decimal, digits_value-decimal, length-decimal-le, decimal_nonempty, first_decimal, decimal_digit}
use Rattle.std.proofs.lemmas.Bool.{cond-true, and_parts, leb-true, ltb-true, eqb-true, eq-eqb, false≢true, and_from, lt-ltb, le-leb, cases_lt}
use Rattle.std.specs.Char.{is_ascii_digit}
use Rattle.sheet.specs.Text.{digits_after, sized, numeral}

-- i digits write a number below 10 ^ i
pub below_more : (n d i : ℕ) → n < 10 ^ i → d ≤ 9 → n * 10 + d < 10 ^ (i + 1)
below_more n d i h l = rw (add-one, pow-suc) (omega arith)

pub below_five : (n i : ℕ) → n < 10 ^ i → i ≤ 5 → n < 100000
below_five n i h l = let p : 10 ^ i ≤ 10 ^ 5 = pow-le-pow_right (omega arith) l in omega arith

-- digits with no test
pub read_on : ℕ → List ℕ → ℕ
read_on n [] = n
read_on n (d ∷ ds) = read_on (n * 10 + (d - 48)) ds

pub own : IsNumeralModel (λ ds. all_ascii_digits ds ≡ true) (read_on 0)
unfolding read_on
own = numerals_by_fold _ (search rules) read_on (search rules)

digits_after_is : (n : ℕ) (ds : List ℕ) → digits_after n ds ≡ cond (all_ascii_digits ds) (Some (read_on n ds)) None
unfolding read_on
digits_after_is n [] = refl
digits_after_is n (d ∷ ds) =
    elim (is_ascii_digit d) as (λ t. cond t (digits_after (n * 10 + (d - 48)) ds) None ≡ cond (t && all_ascii_digits ds) (Some (read_on (n * 10 + (d - 48)) ds)) None)
    [ true ↦ digits_after_is (n * 10 + (d - 48)) ds | false ↦ refl ]

some_from_cond : (b : Bool) (x n : ℕ) → cond b (Some x) None ≡ Some n → (b ≡ true) × (x ≡ n)
some_from_cond true x n e = (refl, cc)
some_from_cond false x n e = absurd (let z : ◌≡◌ {A = ℕ} 0 1 = cc in omega arith)

some_from_both : (a b : Bool) (x n : ℕ) → cond a (cond b (Some x) None) None ≡ Some n → (a ≡ true) × (b ≡ true) × (x ≡ n)
some_from_both true b x n e = let p = some_from_cond b x n e in (refl, p.0, p.1)
some_from_both false b x n e = absurd (let z : ◌≡◌ {A = ℕ} 0 1 = cc in omega arith)

lead : (a b : Bool) → (not a || b) ≡ true → a ≡ true → b ≡ true
lead true b h e = h
lead false b h e = absurd (false≢true e)

-- a numeral is the decimal of its number, which is below 100,000
pub decimal_numeral : (ds : List ℕ) (n : ℕ) → numeral ds ≡ Some n → (ds ≡ decimal n) × (n < 100000)
decimal_numeral ds n e =
    let p = some_from_both (sized ds) (all_ascii_digits ds) (read_on 0 ds) n (ap (λ o. cond (sized ds) o None) (sym (digits_after_is 0 ds)) ∙ e) in
    let parts = and_parts _ _ p.0 in
    let short = and_parts _ _ parts.0 in
    let small : read_on 0 ds < 10 ^ 5 = digits_value_short own ds 5 p.1 (leb-true _ _ short.1) in
    let back = decimal-digits_value own ds p.1 (ltb-true _ _ short.0) (λ z. eqb-true _ _ (lead _ _ parts.1 (eq-eqb _ _ z))) (omega arith) in
    (sym back ∙ ap decimal p.2, omega (arith, p.2))

-- the decimal of a number below 100,000 is a numeral, which writes it
lead_from : (a b : Bool) → (a ≡ true → b ≡ true) → (not a || b) ≡ true
lead_from true b h = h refl
lead_from false b h = refl

one_digit : (n : ℕ) → n < 100000 → get_or (decimal n) 0 0 ≡ 48 → length (decimal n) ≡ 1
one_digit n l e =
    ⊎_elim
    (λ some. absurd (omega (arith, first_decimal n some (omega arith), e)))
    (λ none. let z : n ≡ 0 = omega arith in ap (λ k. length (decimal k)) z ∙ ap length (decimal_digit 0 (omega arith)))
    (cases_lt 0 n)

pub numeral_decimal : (n : ℕ) → n < 100000 → numeral (decimal n) ≡ Some n
numeral_decimal n l =
    let ds = decimal n in
    let some = decimal_nonempty n (omega arith) in
    let short = length-decimal-le 5 n (omega arith) (omega arith) (omega arith) in
    let digits = digits_decimal own n (omega arith) in
    let fits : sized ds ≡ true = and_from _ _ (and_from _ _ (lt-ltb 0 (length ds) some) (le-leb (length ds) 5 short)) (lead_from _ _ (λ z. eq-eqb (length ds) 1 (one_digit n l (eqb-true _ _ z)))) in
    cond-true _ _ _ fits ∙ digits_after_is 0 ds ∙ cond-true _ _ _ digits ∙ ap Some (digits_value-decimal own n (omega arith))
