-- The text of a gate with any controls is read as that gate.
use Rattle.std.proofs.Common.{◌≡◌, ℕ, zero, suc, ◌+◌, ◌*◌, ◌/◌, ◌%◌, ◌^◌, ◌<◌, ◌≤◌, true, false, cond, eqb, List, [], ◌∷◌, ◌++◌, Some, Ok, Result, sym, refl, ap, ◌∙◌, ⊎_elim, mul_assoc, mul_comm, add-mul, one-mul, pow-suc, zero-mul, mul-one, arith}
use native.Mathlib.Nat.{pow-le-pow_right}
use Rattle.std.specs.List.{AllByRecursion}
use Rattle.std.proofs.slice.Lists.{all_by_recursion_push}
use Rattle.std.proofs.lemmas.Bool.{le-leb, cond-true, cond-false, eq-eqb, ne_eqb, cases_eq}
use Rattle.gates.specs.Mcts as mcts
use Rattle.gates.specs.declared.mct.Mct.{Mct}
use Rattle.gates.specs.declared.refusal.Refusal.{Refusal}
use Rattle.sheet.specs.declared.entry.Entry.TheVariants as e
use Rattle.sheet.specs.Form.{numbers, legal, mct_after, mct_of, mct}
use Rattle.sheet.specs.Render.{numbers_text, members, entry_text}
use Rattle.sheet.proofs.Forth.{Small, numbers_forth}
use Rattle.sheet.proofs.Legality.{mct_parts}

-- a gate whose controls are the set v
abbrev gate_at : ℕ → ℕ → ℕ → Result Mct Refusal
gate_at n v t = legal mcts.mct n (record { controls = v; target = t })

snoc_cons : (xs : List ℕ) (t : ℕ) → (y : ℕ) × (ys : List ℕ) × (xs ++ t ∷ [] ≡ y ∷ ys)
snoc_cons [] t = (t, [], refl)
snoc_cons (x ∷ xs) t = (x, xs ++ t ∷ [], refl)

control_forth : (n set least c t : ℕ) (xs : List ℕ) → least ≤ c → mct_after n set least (c ∷ (xs ++ t ∷ [])) ≡ mct_after n (set + 2 ^ c) (c + 1) (xs ++ t ∷ [])
control_forth n set least c t xs l =
    let q = snoc_cons xs t in
    ap (λ z. mct_after n set least (c ∷ z)) q.2 ∙ cond-true _ _ _ (le-leb _ _ l) ∙ ap (mct_after n (set + 2 ^ c) (c + 1)) (sym q.2)

-- h * 2^(j+1) is 2h * 2^j
double : (h j : ℕ) → h * 2 ^ suc j ≡ (h * 2) * 2 ^ j
double h j = ap (λ p. h * p) (pow-suc 2 j ∙ mul_comm (2 ^ j) 2) ∙ sym (mul_assoc h 2 (2 ^ j))

mct_run : (k j w n t set least : ℕ) → least ≤ j → w < 2 ^ k → mct_after n set least (members k j w ++ t ∷ []) ≡ gate_at n (set + w * 2 ^ j) t
mct_run zero j w n t set least l h =
    let z : w ≡ 0 = omega arith in
    let m = ap (λ v. v * 2 ^ j) z ∙ zero-mul (2 ^ j) in
    let same : set ≡ set + w * 2 ^ j = omega (arith, m) in
    ap (λ v. gate_at n v t) same
mct_run (suc k) j w n t set least l h =
    let pk = pow-suc 2 k in
    let half : w / 2 < 2 ^ k = omega (arith, pk) in
    ⊎_elim
    (λ even.
    let w2 : w ≡ w / 2 * 2 = omega (arith, even) in
    let v : w / 2 * 2 ^ suc j ≡ w * 2 ^ j = double (w / 2) j ∙ ap (λ x. x * 2 ^ j) (sym w2) in
    ap (λ z. mct_after n set least (z ++ t ∷ [])) (cond-true (eqb (w % 2) 0) (members k (suc j) (w / 2)) (j ∷ members k (suc j) (w / 2)) (eq-eqb (w % 2) 0 even))
    ∙ mct_run k (suc j) (w / 2) n t set least (omega (arith, l)) half
    ∙ ap (λ x. gate_at n (set + x) t) v)
    (λ odd.
    let w2 : w ≡ 1 + w / 2 * 2 = omega (arith, odd) in
    let v : w * 2 ^ j ≡ 2 ^ j + w / 2 * 2 ^ suc j = ap (λ x. x * 2 ^ j) w2 ∙ add-mul 1 (w / 2 * 2) (2 ^ j) ∙ (λ i. one-mul (2 ^ j) i + sym (double (w / 2) j) i) in
    let total : set + 2 ^ j + w / 2 * 2 ^ suc j ≡ set + w * 2 ^ j = omega (arith, v) in
    ap (λ z. mct_after n set least (z ++ t ∷ [])) (cond-false (eqb (w % 2) 0) (members k (suc j) (w / 2)) (j ∷ members k (suc j) (w / 2)) (ne_eqb (w % 2) 0 odd))
    ∙ control_forth n set least j t (members k (suc j) (w / 2)) l
    ∙ mct_run k (suc j) (w / 2) n t (set + 2 ^ j) (j + 1) (omega arith) half
    ∙ ap (λ x. gate_at n x t) total)
    (cases_eq (w % 2) 0)

pub members_small : (k j w : ℕ) → j + k ≤ 8 → AllByRecursion Small (members k j w)
members_small zero j w h = tt
members_small (suc k) j w h =
    let rest = members_small k (suc j) (w / 2) (omega (arith, h)) in
    elim (eqb (w % 2) 0) as (λ b. AllByRecursion Small (cond b (members k (suc j) (w / 2)) (j ∷ members k (suc j) (w / 2)))) [ true ↦ rest | false ↦ (omega (arith, h), rest) ]

some_forth : (ns : List ℕ) (t : ℕ) → AllByRecursion Small (ns ++ t ∷ []) → numbers (numbers_text (ns ++ t ∷ [])) ≡ Some (ns ++ t ∷ [])
some_forth [] t h = numbers_forth t [] h
some_forth (n ∷ ns) t h = numbers_forth n (ns ++ t ∷ []) h

pub mct_forth : (n : ℕ) (g : Mct) → (mcts.mct).legal n g ≡ true → mct n (entry_text n (e.Mct g)) ≡ Ok g
mct_forth n g h =
    let p = mct_parts n g h in
    let eight : 2 ^ n ≤ 2 ^ 8 = pow-le-pow_right (omega arith) p.0 in
    let list = members 8 0 g.controls in
    let all : AllByRecursion Small (list ++ g.target ∷ []) = all_by_recursion_push Small list g.target (members_small 8 0 g.controls (omega arith)) (omega (arith, p.2, p.0)) in
    ap (mct_of n 0 0) (some_forth list g.target all)
    ∙ mct_run 8 0 g.controls n g.target 0 0 (omega arith) (omega (arith, p.1, eight))
    ∙ ap (λ v. gate_at n v g.target) (let one : 0 + g.controls * 2 ^ 0 ≡ g.controls = omega (arith, mul-one g.controls) in one)
    ∙ cond-true _ _ _ h
