-- The digits of a row and the controls of a gate, one by one.
use Rattle.std.proofs.Common.{◌≡◌, ℕ, zero, suc, ◌+◌, ◌/◌, ◌%◌, ◌<◌, Bool, true, false, cond, if◌then◌else◌, ◌==◌, eqb, List, [], ◌∷◌, ◌++◌, decimal, refl, sym, ap, ◌∙◌, arith}
use Rattle.std.proofs.lemmas.List.{append-nil}
use Rattle.std.proofs.lemmas.Grind.{flat_map-append}
use Rattle.words.specs.Words.{bit, has}
use Rattle.words.proofs.Bits.{bit_lt, bit_lowest, bit_half}
use Rattle.sheet.specs.Render.{numbers_text, members, row_text}
use Rattle.answers.specs.LineLaws.{spaced, spaced_last}
use Rattle.answers.specs.Pens.{wrote}
use Rattle.answers.proofs.Pens.{wrote_append, wrote_none}

row_more : (n w : ℕ) → row_text (suc n) w ≡ row_text n w ++ (48 + bit w n) ∷ []
row_more zero w = ap (λ b. (48 + b) ∷ []) (sym (bit_lowest w))
row_more (suc n) w =
    let up : n + 1 ≡ suc n = omega arith in
    ap (λ z. (48 + w % 2) ∷ z) (row_more n (w / 2) ∙ ap (λ b. row_text n (w / 2) ++ (48 + b) ∷ []) (bit_half w n ∙ ap (bit w) up))

digit_is : (d : ℕ) → d < 2 → 48 + (if eqb d 1 then 1 else 0) ≡ 48 + d
digit_is zero l = refl
digit_is (suc zero) l = refl
digit_is (suc (suc d)) l = absurd (omega arith)

pub wrote_digit : (s : List ℕ × ℕ) (n w : ℕ) → wrote s (row_text (n + 1) w) ≡ wrote (wrote s (row_text n w)) ((48 + (if has w n then 1 else 0)) ∷ [])
wrote_digit s n w =
    let up : n + 1 ≡ suc n = omega arith in
    ap (λ k. wrote s (row_text k w)) up ∙ ap (wrote s) (row_more n w) ∙ wrote_append s (row_text n w) _
    ∙ ap (λ d. wrote (wrote s (row_text n w)) (d ∷ [])) (sym (digit_is (bit w n) (bit_lt w n)))

lowest_is : (d j : ℕ) → d < 2 → cond (eqb d 0) [] (j ∷ []) ≡ cond (eqb d 1) (j ∷ []) []
lowest_is zero j l = refl
lowest_is (suc zero) j l = refl
lowest_is (suc (suc d)) j l = absurd (omega arith)

cond_append : (b : Bool) (j : ℕ) (xs ys : List ℕ) → cond b (xs ++ ys) (j ∷ (xs ++ ys)) ≡ cond b xs (j ∷ xs) ++ ys
cond_append true j xs ys = refl
cond_append false j xs ys = refl

members_more : (k j w : ℕ) → members (suc k) j w ≡ members k j w ++ cond (has w k) ((j + k) ∷ []) []
members_more zero j w =
    let here : j ≡ j + 0 = omega arith in
    lowest_is (w % 2) j (omega arith) ∙ (λ i. cond (eqb (sym (bit_lowest w) i) 1) (here i ∷ []) [])
members_more (suc k) j w =
    let up : k + 1 ≡ suc k = omega arith in
    let place : suc j + k ≡ j + suc k = omega arith in
    let half : has (w / 2) k ≡ has w (suc k) = ap (λ b. eqb b 1) (bit_half w k ∙ ap (bit w) up) in
    let rest : members (suc k) (suc j) (w / 2) ≡ members k (suc j) (w / 2) ++ cond (has w (suc k)) ((j + suc k) ∷ []) [] =
    members_more k (suc j) (w / 2) ∙ (λ i. members k (suc j) (w / 2) ++ cond (half i) (place i ∷ []) []) in
    ap (λ z. cond (w % 2 == 0) z (j ∷ z)) rest ∙ cond_append (w % 2 == 0) j (members k (suc j) (w / 2)) (cond (has w (suc k)) ((j + suc k) ∷ []) [])

spaced_more : (n w : ℕ) → spaced (members (n + 1) 0 w) ≡ spaced (members n 0 w) ++ spaced (cond (has w n) (n ∷ []) [])
spaced_more n w =
    let up : n + 1 ≡ suc n = omega arith in
    let place : 0 + n ≡ n = omega arith in
    ap (λ k. spaced (members k 0 w)) up ∙ ap spaced (members_more n 0 w ∙ ap (λ k. members n 0 w ++ cond (has w n) (k ∷ []) []) place)
    ∙ flat_map-append (λ n. decimal n ++ 32 ∷ []) (members n 0 w) (cond (has w n) (n ∷ []) [])

pub wrote_control : (s : List ℕ × ℕ) (n w : ℕ) → has w n ≡ true → wrote s (spaced (members (n + 1) 0 w)) ≡ wrote (wrote (wrote s (spaced (members n 0 w))) (decimal n)) (32 ∷ [])
wrote_control s n w is =
    ap (wrote s) (spaced_more n w ∙ ap (λ t. spaced (members n 0 w) ++ spaced (cond t (n ∷ []) [])) is ∙ ap (λ z. spaced (members n 0 w) ++ z) (append-nil (decimal n ++ 32 ∷ [])))
    ∙ wrote_append s (spaced (members n 0 w)) (decimal n ++ 32 ∷ []) ∙ wrote_append (wrote s (spaced (members n 0 w))) (decimal n) (32 ∷ [])

pub wrote_no_control : (s : List ℕ × ℕ) (n w : ℕ) → has w n ≡ false → wrote s (spaced (members (n + 1) 0 w)) ≡ wrote s (spaced (members n 0 w))
wrote_no_control s n w is =
    ap (wrote s) (spaced_more n w ∙ ap (λ t. spaced (members n 0 w) ++ spaced (cond t (n ∷ []) [])) is ∙ append-nil (spaced (members n 0 w)))

-- the target, after the controls on all eight lines
pub wrote_gate : (s : List ℕ × ℕ) (n w t : ℕ) → n ≡ 8 → wrote (wrote s (spaced (members n 0 w))) (decimal t) ≡ wrote s (numbers_text (members 8 0 w ++ t ∷ []))
wrote_gate s n w t all =
    ap (λ k. wrote (wrote s (spaced (members k 0 w))) (decimal t)) all ∙ sym (wrote_append s (spaced (members 8 0 w)) (decimal t)) ∙ ap (wrote s) (sym (spaced_last (members 8 0 w) t))

-- what the loops over the digits of a row and the controls of a gate write
pub ruleset digit_steps = (wrote_none, wrote_digit)

pub ruleset control_steps = (wrote_none, wrote_control, wrote_no_control, wrote_gate)
