-- A gate line that is read is the text of its gate.
use Rattle.std.proofs.Common.{◌≡◌, ℕ, zero, suc, ◌+◌, ◌-◌, ◌*◌, ◌/◌, ◌%◌, ◌^◌, ◌<◌, ◌≤◌, Bool, true, false, cond, leb, List, [], ◌∷◌, ◌++◌, Some, None, Ok, Err, Option, Result, sym, refl, ap, ◌∙◌, subst, ⊎_elim, pow-suc, arith}
use native.Mathlib.Nat.{sub-zero, pow-le-pow_right}
use Rattle.std.proofs.lemmas.Bool.{leb-true, cond-true, cond-false, eq-eqb, ne_eqb, cases_lt}
use Rattle.gates.specs.Mcts as mcts
use Rattle.gates.specs.declared.mct.Mct.{Mct}
use Rattle.gates.specs.declared.refusal.Refusal.{Refusal}
use Rattle.gates.specs.declared.refusal.Refusal.TheVariants.{WrongForm, IllegalGate}
use Rattle.sheet.specs.declared.entry.Entry.TheVariants as e
use Rattle.sheet.specs.Form.{numbers, mct_after, mct_of, mct}
use Rattle.sheet.specs.Render.{numbers_text, members, entry_text}
use Rattle.sheet.proofs.Back.{numbers_back}
use Rattle.sheet.proofs.Accepted.{ok_cond, err_ok}
use Rattle.sheet.proofs.Legality.{mct_parts}

-- rising from `least` on, and below n
abbrev Rises : ℕ → ℕ → List ℕ → Type 0
Rises n least [] = Unit {0}
Rises n least (c ∷ cs) = (least ≤ c) × (c < n) × Rises n (c + 1) cs

-- rising from `least` on
abbrev Climbs : ℕ → List ℕ → Type 0
Climbs least [] = Unit {0}
Climbs least (c ∷ cs) = (least ≤ c) × Climbs (c + 1) cs

-- the word of a set, from line j on
abbrev shift : ℕ → List ℕ → ℕ
shift j [] = 0
shift j (c ∷ cs) = 2 ^ (c - j) + shift j cs

ok_first : (t : Bool) (r : Result Mct Refusal) (g : Mct) → cond t r (Err WrongForm) ≡ Ok g → (t ≡ true) × (r ≡ Ok g)
ok_first true r g p = (refl, p)
ok_first false r g p = absurd (err_ok _ _ p)

after_back : (n set least : ℕ) (ns : List ℕ) (g : Mct) → mct_after n set least ns ≡ Ok g → (cs : List ℕ) × (ns ≡ cs ++ g.target ∷ []) × (g.controls ≡ set + shift 0 cs) × Climbs least cs × ((mcts.mct).legal n g ≡ true)
after_back n set least [] g p = absurd (err_ok _ _ p)
after_back n set least (t ∷ []) g p =
    let h : Mct = record { controls = set; target = t } in
    let q = ok_cond ((mcts.mct).legal n h) h g IllegalGate p in
    ([], ap (λ z. z.target ∷ []) q.1, omega (arith, ap (λ z. z.controls) q.1), tt, subst (λ z. (mcts.mct).legal n z ≡ true) q.1 q.0)
after_back n set least (c ∷ x ∷ xs) g p =
    let f = ok_first (leb least c) (mct_after n (set + 2 ^ c) (c + 1) (x ∷ xs)) g p in
    let r = after_back n (set + 2 ^ c) (c + 1) (x ∷ xs) g f.1 in
    let low : 2 ^ (c - 0) ≡ 2 ^ c = ap (λ k. 2 ^ k) (sub-zero c) in
    (c ∷ r.0, ap (λ z. c ∷ z) r.1, omega (arith, r.2, low), (leb-true _ _ f.0, r.3), r.4)

-- the lines of a set below 2 ^ n are below n
rises : (n least : ℕ) (cs : List ℕ) → shift 0 cs < 2 ^ n → Climbs least cs → Rises n least cs
rises n least [] l h = tt
rises n least (c ∷ cs) l h =
    let low : 2 ^ (c - 0) ≡ 2 ^ c = ap (λ k. 2 ^ k) (sub-zero c) in (
      h.0,
      ⊎_elim (λ z. z) (λ z. let big : 2 ^ n ≤ 2 ^ c = pow-le-pow_right (omega arith) z in absurd (omega (arith, low))) (cases_lt c n),
      rises n (c + 1) cs (omega (arith, low)) h.1,
    )

rises_from : (n a b : ℕ) (cs : List ℕ) → a ≤ b → Rises n b cs → Rises n a cs
rises_from n a b [] l h = tt
rises_from n a b (c ∷ cs) l h = (omega (arith, h.0), h.1, h.2)

shift_double : (n j : ℕ) (cs : List ℕ) → Rises n (suc j) cs → shift j cs ≡ 2 * shift (suc j) cs
shift_double n j [] h = refl
shift_double n j (c ∷ cs) h =
    let one : c - j ≡ suc (c - suc j) = omega (arith, h.0) in
    let twice : 2 ^ (c - j) ≡ 2 ^ (c - suc j) * 2 = ap (λ k. 2 ^ k) one ∙ pow-suc 2 (c - suc j) in
    let rest = shift_double n j cs (rises_from n (suc j) (c + 1) cs (omega (arith, h.0)) h.2) in
    omega (arith, twice, rest)

members_back : (k j : ℕ) (cs : List ℕ) (n : ℕ) → n ≡ j + k → Rises n j cs → members k j (shift j cs) ≡ cs
members_back zero j [] n q h = refl
members_back zero j (c ∷ cs) n q h = absurd (omega (arith, h.0, h.1, q))
members_back (suc k) j [] n q h = members_back k (suc j) [] n (omega (arith, q)) tt
members_back (suc k) j (c ∷ cs) n q h =
    ⊎_elim
    (λ above.
    let up : Rises n (suc j) (c ∷ cs) = (omega (arith, above), h.1, h.2) in
    let double = shift_double n j (c ∷ cs) up in
    let even : shift j (c ∷ cs) % 2 ≡ 0 = omega (arith, double) in
    let half : shift j (c ∷ cs) / 2 ≡ shift (suc j) (c ∷ cs) = omega (arith, double) in
    cond-true _ _ _ (eq-eqb _ 0 even) ∙ ap (members k (suc j)) half ∙ members_back k (suc j) (c ∷ cs) n (omega (arith, q)) up)
    (λ here.
    let same : j ≡ c = omega (arith, h.0, here) in
    let up = rises_from n (suc j) (c + 1) cs (omega (arith, same)) h.2 in
    let double = shift_double n j cs up in
    let none : c - j ≡ 0 = omega (arith, same) in
    let unit : 2 ^ (c - j) ≡ 1 = ap (λ i. 2 ^ i) none in
    let odd : shift j (c ∷ cs) % 2 ≡ 1 = omega (arith, double, unit) in
    let half : shift j (c ∷ cs) / 2 ≡ shift (suc j) cs = omega (arith, double, unit) in
    cond-false _ _ _ (ne_eqb (shift j (c ∷ cs) % 2) 0 (λ z. omega (arith, odd, z))) ∙ ap (λ w. j ∷ members k (suc j) w) half
    ∙ (λ i. same i ∷ members_back k (suc j) cs n (omega (arith, q)) up i))
    (cases_lt j c)

rises_more : (n m least : ℕ) (cs : List ℕ) → n ≤ m → Rises n least cs → Rises m least cs
rises_more n m least [] l h = tt
rises_more n m least (c ∷ cs) l h = (h.0, omega (arith, h.1), rises_more n m (c + 1) cs l h.2)

of_back : (n set least : ℕ) (o : Option (List ℕ)) (g : Mct) → mct_of n set least o ≡ Ok g → (ns : List ℕ) × (o ≡ Some ns) × (mct_after n set least ns ≡ Ok g)
of_back n set least None g p = absurd (err_ok _ _ p)
of_back n set least (Some ns) g p = (ns, refl, p)

pub mct_legal : (n : ℕ) (l : List ℕ) (g : Mct) → mct n l ≡ Ok g → (mcts.mct).legal n g ≡ true
mct_legal n l g p = let o = of_back n 0 0 (numbers l) g p in (after_back n 0 0 o.0 g o.2).4

pub mct_back : (n : ℕ) (l : List ℕ) (g : Mct) → mct n l ≡ Ok g → l ≡ entry_text n (e.Mct g)
mct_back n l g p =
    let o = of_back n 0 0 (numbers l) g p in
    let r = after_back n 0 0 o.0 g o.2 in
    let parts = mct_parts n g r.4 in
    let word : g.controls ≡ shift 0 r.0 = omega (arith, r.2) in
    let below : shift 0 r.0 < 2 ^ n = omega (arith, word, parts.1) in
    let set : members 8 0 g.controls ≡ r.0 = ap (members 8 0) word ∙ members_back 8 0 r.0 8 refl (rises_more n 8 0 r.0 parts.0 (rises n 0 r.0 below r.3)) in
    numbers_back l o.0 o.1 ∙ ap numbers_text (r.1 ∙ ap (λ cs. cs ++ g.target ∷ []) (sym set))
