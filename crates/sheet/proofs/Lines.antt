-- Laws of the forms of lines.
use Rattle.std.proofs.Common.{◌≡◌, ℕ, suc, ◌+◌, ◌-◌, ◌*◌, ◌^◌, ◌<◌, ◌≤◌, true, false, cond, eqb, ltb, List, [], ◌∷◌, ◌++◌, length, get_or, take, drop, Some, None, Err, Option, sym, refl, ap, ◌∙◌, one-mul, pow-suc, add-one, arith, rules}
use lib.Bits.{bit_or, or_shifted_r}
use native.Mathlib.Nat.{pow-le-pow_right}
use Rattle.std.proofs.lemmas.List.{take_rest}
use Rattle.std.proofs.lemmas.Bool.{cond-true, cond-false, eq-eqb, and_from, le-leb, lt-leb, lt-ltb, le-ltb, ltb-true, ltb-false}
use Rattle.sheet.specs.Text.{onto, pieces, numeral}
use Rattle.sheet.specs.Form.{both, numerals, numbers, bit, below_word, bits, triple, after_letter, fields, mct_of, byte, with_line}
use Rattle.gates.specs.declared.refusal.Refusal.TheVariants.{WrongForm}
use Rattle.std.specs.Char.{is_ascii_uppercase}

both_not_nil : (o : Option ℕ) (ns : Option (List ℕ)) → both o ns ≡ Some [] → ⊥
both_not_nil None ns e = let z : ◌≡◌ {A = ℕ} 0 1 = cc in omega arith
both_not_nil (Some n) None e = let z : ◌≡◌ {A = ℕ} 0 1 = cc in omega arith
both_not_nil (Some n) (Some ns) e = let z : ◌≡◌ {A = ℕ} 0 1 = cc in omega arith

onto_cons : (b : ℕ) (ps : List (List ℕ)) → (p : List ℕ) × (qs : List (List ℕ)) × (onto b ps ≡ p ∷ qs)
onto_cons b [] = (b ∷ [], [], refl)
onto_cons b (p ∷ ps) = (b ∷ p, ps, refl)

-- a text has at least one piece
pub pieces_cons : (sep : ℕ) (s : List ℕ) → (p : List ℕ) × (ps : List (List ℕ)) × (pieces sep s ≡ p ∷ ps)
pieces_cons sep [] = ([], [], refl)
pieces_cons sep (b ∷ bs) =
    elim (eqb b sep) as (λ t. (p : List ℕ) × (ps : List (List ℕ)) × (cond t ([] ∷ pieces sep bs) (onto b (pieces sep bs)) ≡ p ∷ ps)) [ true ↦ ([], pieces sep bs, refl) | false ↦ onto_cons b (pieces sep bs) ]

-- a line has at least one number
pub numbers_not_nil : (s : List ℕ) → numbers s ≡ Some [] → ⊥
numbers_not_nil s e =
    let p = pieces_cons 32 s in
    both_not_nil (numeral p.0) (numerals p.1) (sym (ap numerals p.2) ∙ e)

-- a bit is 0 or 1
pub bit_small : (d b : ℕ) → bit d ≡ Some b → b ≤ 1
bit_small d b e = search rules

-- with one bit more, 64 bits hold it
pub bit_fits : (d b w k : ℕ) → bit d ≡ Some b → w < 2 ^ k → k < 64 → b + w * 2 < 2 ^ 64
bit_fits d b w k e h l =
    let small = bit_small d b e in
    let p : 2 ^ suc k ≤ 2 ^ 64 = pow-le-pow_right (omega arith) l in
    omega (arith, small, pow-suc 2 k, p)

pub below_none : (o : Option ℕ) → below_word o None ≡ None
below_none None = refl
below_none (Some b) = refl

-- what is no row from some digit on is no row
pub bits_none : (front : List ℕ) (b : ℕ) (done : List ℕ) → bit b ≡ None → bits (front ++ b ∷ done) ≡ None
bits_none [] b done e = ap (λ o. below_word o (bits done)) e
bits_none (d ∷ front) b done e = ap (below_word (bit d)) (bits_none front b done e) ∙ below_none (bit d)

pub fields_at : (l : List ℕ) → 2 ≤ length l → is_ascii_uppercase (get_or l 0 0) ≡ true → get_or l 1 0 ≡ 32 → fields l ≡ after_letter (get_or l 0 0) (triple (numbers (take (length l - 2) (drop 2 l))))
fields_at [] h u e = absurd (omega arith)
fields_at (b ∷ []) h u e = absurd (omega arith)
fields_at (b ∷ s ∷ rest) h u e =
    cond-true _ _ _ (and_from _ _ u (eq-eqb s 32 e)) ∙ ap (λ r. after_letter b (triple (numbers r))) (sym (take_rest (b ∷ s ∷ rest) 2))

-- one control more
mct_step_of : (n set least c : ℕ) (o : Option (List ℕ)) → (o ≡ Some [] → ⊥) → least ≤ c → mct_of n set least (both (Some c) o) ≡ mct_of n (set + 2 ^ c) (c + 1) o
mct_step_of n set least c None h l = refl
mct_step_of n set least c (Some []) h l = absurd (h refl)
mct_step_of n set least c (Some (x ∷ xs)) h l = cond-true _ _ _ (le-leb _ _ l)

mct_low_of : (n set least c : ℕ) (o : Option (List ℕ)) → (o ≡ Some [] → ⊥) → c < least → mct_of n set least (both (Some c) o) ≡ Err WrongForm
mct_low_of n set least c None h l = refl
mct_low_of n set least c (Some []) h l = absurd (h refl)
mct_low_of n set least c (Some (x ∷ xs)) h l = cond-false _ _ _ (lt-leb _ _ l)

module _ (n set least c : ℕ) (line more : List ℕ) (e : numbers line ≡ both (Some c) (numbers more)) where
  pub mct_step : least ≤ c → mct_of n (set + 2 ^ c) (c + 1) (numbers more) ≡ mct_of n set least (numbers line)
  mct_step l = sym (ap (mct_of n set least) e ∙ mct_step_of n set least c (numbers more) (numbers_not_nil more) l)

  pub mct_low : c < least → mct_of n set least (numbers line) ≡ Err WrongForm
  mct_low l = ap (mct_of n set least) e ∙ mct_low_of n set least c (numbers more) (numbers_not_nil more) l

-- the set with one line more, above all of its lines, as a byte
byte_same : (v w : ℕ) → Some v ≡ byte w → (v ≡ w) × (w < 256)
byte_same v w p =
    elim (ltb w 256) as (λ t. ltb w 256 ≡ t → Some v ≡ cond t (Some w) None → (v ≡ w) × (w < 256)) [
      | true ↦ λ q p. (cc, ltb-true w 256 q)
      | false ↦ λ q p. absurd (let z : ◌≡◌ {A = ℕ} 0 1 = cc in omega arith)
    ] refl p

byte_none : (w : ℕ) → None ≡ byte w → 256 ≤ w
byte_none w p =
    elim (ltb w 256) as (λ t. ltb w 256 ≡ t → None ≡ cond t (Some w) None → 256 ≤ w) [
      | true ↦ λ q p. absurd (let z : ◌≡◌ {A = ℕ} 0 1 = cc in omega arith)
      | false ↦ λ q p. ltb-false w 256 q
    ] refl p

byte_wide : (w : ℕ) → 256 ≤ w → None ≡ byte w
byte_wide w l = sym (cond-false _ _ _ (le-ltb w 256 l))

set_more : (v w least c : ℕ) → w < 2 ^ least → least ≤ c → c < 8 → Some v ≡ byte w → Some (bit_or v (2 ^ c)) ≡ byte (w + 2 ^ c)
set_more v w least c l h small p =
    let q = byte_same v w p in
    let big : 2 ^ least ≤ 2 ^ c = pow-le-pow_right (omega arith) h in
    let under : v < 2 ^ c = omega (arith, q.0) in
    let joined : bit_or v (2 ^ c) ≡ 2 ^ c + v = ap (bit_or v) (sym (one-mul (2 ^ c))) ∙ or_shifted_r 1 c v under ∙ ap (λ z. z + v) (one-mul (2 ^ c)) in
    let eight : 2 ^ suc c ≤ 2 ^ 8 = pow-le-pow_right (omega arith) small in
    let room : w + 2 ^ c < 256 = omega (arith, pow-suc 2 c, eight) in
    let same : bit_or v (2 ^ c) ≡ w + 2 ^ c = omega (arith, joined, q.0) in
    ap Some same ∙ sym (cond-true _ _ _ (lt-ltb (w + 2 ^ c) 256 room))

set_wide : (w c : ℕ) → 8 ≤ c → 256 ≤ w + 2 ^ c
set_wide w c h = let big : 2 ^ 8 ≤ 2 ^ c = pow-le-pow_right (omega arith) h in omega arith

pub with_more : (o : Option ℕ) (w least c : ℕ) → w < 2 ^ least → least ≤ c → o ≡ byte w → with_line o c ≡ byte (w + 2 ^ c)
with_more None w least c l h p = byte_wide (w + 2 ^ c) (omega (arith, byte_none w p))
with_more (Some v) w least c l h p =
    elim (ltb c 8) as (λ t. ltb c 8 ≡ t → cond t (Some (bit_or v (2 ^ c))) None ≡ byte (w + 2 ^ c)) [
      | true ↦ λ q. set_more v w least c l h (ltb-true c 8 q) p
      | false ↦ λ q. byte_wide (w + 2 ^ c) (set_wide w c (ltb-false c 8 q))
    ] refl

pub set_room : (w least c : ℕ) → w < 2 ^ least → least ≤ c → w + 2 ^ c < 2 ^ (c + 1)
set_room w least c l h = let big : 2 ^ least ≤ 2 ^ c = pow-le-pow_right (omega arith) h in rw (add-one, pow-suc) (omega arith)
