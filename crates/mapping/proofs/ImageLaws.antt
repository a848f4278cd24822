-- What a gate makes of a list of images, at either end.
use Rattle.std.proofs.Common.{◌≡◌, ℕ, ◌+◌, ◌/◌, ◌%◌, ◌^◌, ◌<◌, ◌≤◌, min, true, cond, eqb, ◌⊎◌, List, length, get_or, set, sym, refl, ap, ◌∙◌, subst, inl, inr, ⊎_elim, arith, length-set, get_or-set_other, get_or-set_same, pow_mono}
use lib.Arith.{bin_ind}
use lib.Bits.{bit_and, bit_or, bit_xor, and_step, and_le_l, and_le_r, or_step, or_lt, or_add_and, xor_lt}
use lib.Pow.{pow-lt}
use Rattle.std.proofs.lemmas.List.Edits.{Swapped, swapped_from_swap}
use Rattle.std.specs.List.{swap}
use Rattle.std.proofs.lemmas.Bool.{cases_eq, cases_order, cond-true, cond-false, cases_Bool, eqb-true, eqb-false}
use Rattle.words.specs.Words.{bit, unit}
use Rattle.words.specs.Maps.{Same}
use Rattle.words.proofs.Bits.{bit_lt, bit_of_and, bit_of_xor, bit_power, bit_power_other, same_bits}
use Rattle.words.proofs.Flips.{flip_twice, mask_flip, unit_power}
use Rattle.gates.specs.Mcts.{mct, mct_legal}
use Rattle.gates.specs.declared.mct.Mct.{Mct}
use Rattle.gates.specs.MctLaws.{mct_lawful, legal_says}
use Rattle.mapping.proofs.OnesLaws.{bit_of_or}
use Rattle.mapping.proofs.GateLaws.{act_flips, act_leaves}

-- what a legal gate makes of a word
abbrev pub flip_of : Mct → ℕ → ℕ
flip_of g v = cond (eqb (bit_and v g.controls) g.controls) (bit_xor v (2 ^ g.target)) v

-- ---- the words that have all ones of m, in order

or_above : (a b : ℕ) → a ≤ bit_or a b
or_above a b = omega (arith, or_add_and a b, and_le_r a b)

and_halves : (w m : ℕ) → bit_and w m ≡ m → (bit_and (w / 2) (m / 2) ≡ m / 2) × (min (w % 2) (m % 2) ≡ m % 2)
and_halves w m e = (omega (arith, and_step w m), omega (arith, and_step w m))

-- after w comes w + 1 with the ones of m
pub next_least : (w m x : ℕ) → bit_and w m ≡ m → bit_and x m ≡ m → w < x → bit_or (w + 1) m ≤ x
next_least =
    bin_ind (λ (w : ℕ). (m x : ℕ) → bit_and w m ≡ m → bit_and x m ≡ m → w < x → bit_or (w + 1) m ≤ x)
    (λ m x e f h.
    let none : 0 ≡ m = e in
    subst (λ (k : ℕ). bit_or 1 k ≤ x) none (omega arith))
    (λ w ih m x e f h.
    let p = and_halves w m e in
    let q = and_halves x m f in
    let step = or_step (w + 1) m in
    ⊎_elim
    (λ even.
    let half : (w + 1) / 2 ≡ w / 2 = omega arith in
    let same : bit_or (w / 2) (m / 2) ≡ w / 2 = omega (arith, or_add_and (w / 2) (m / 2), p.0) in
    let high : bit_or ((w + 1) / 2) (m / 2) ≡ w / 2 = ap (λ (k : ℕ). bit_or k (m / 2)) half ∙ same in
    omega (arith, p.1))
    (λ odd.
    let half : (w + 1) / 2 ≡ w / 2 + 1 = omega arith in
    let rest : bit_or (w / 2 + 1) (m / 2) ≤ x / 2 = ih (m / 2) (x / 2) p.0 q.0 (omega arith) in
    let high : bit_or ((w + 1) / 2) (m / 2) ≤ x / 2 = subst (λ (k : ℕ). bit_or k (m / 2) ≤ x / 2) (sym half) rest in
    omega (arith, q.1))
    (cases_eq (w % 2) 0))

pub next_above : (w m : ℕ) → w < bit_or (w + 1) m
next_above w m = omega (arith, or_above (w + 1) m)

pub next_covers : (w m : ℕ) → bit_and (bit_or (w + 1) m) m ≡ m
next_covers w m = same_bits _ _ (λ i. omega (arith, bit_of_and (bit_or (w + 1) m) m i, bit_of_or (w + 1) m i))

-- ---- a word with a line set

module _ (x t : ℕ) where
  or_has : bit x t ≡ 1 → bit_or x (2 ^ t) ≡ x
  or_has e =
      same_bits _ _ (λ i.
      bit_of_or x (2 ^ t) i
      ∙ ⊎_elim
      (λ s. let at : bit x i ≡ 1 = ap (bit x) s ∙ e in omega (arith, bit_lt (2 ^ t) i))
      (λ ne. omega (arith, bit_power_other t i ne))
      (cases_eq i t))

  or_lacks : bit x t ≡ 0 → bit_or x (2 ^ t) ≡ bit_xor x (2 ^ t)
  or_lacks e =
      same_bits _ _ (λ i.
      bit_of_or x (2 ^ t) i
      ∙ ⊎_elim
      (λ s. let at : bit x i ≡ 0 = ap (bit x) s ∙ e in omega (arith, bit_lt (2 ^ t) i, bit_of_xor x (2 ^ t) i))
      (λ ne. omega (arith, bit_power_other t i ne, bit_lt x i, bit_of_xor x (2 ^ t) i))
      (cases_eq i t))

  or_cases : (bit_or x (2 ^ t) ≡ x) ⊎ (bit_or x (2 ^ t) ≡ bit_xor x (2 ^ t))
  or_cases = ⊎_elim (λ e. inr (or_lacks e)) (λ ne. inl (or_has (omega (arith, bit_lt x t)))) (cases_eq (bit x t) 0)

-- ---- an input gate exchanges the images of words that have all controls and differ in the target

-- the exchanges of the words whose pair has its larger word below w are made
pub record Exchanged (n : ℕ) (g : Mct) (xs ys : List ℕ) (w : ℕ) : Type 0 where
  pub made : (x : ℕ) → x < 2 ^ n → bit_or x (2 ^ g.target) < w → get_or ys x 0 ≡ get_or xs (mct.act n g x) 0
  pub left : (x : ℕ) → x < 2 ^ n → w ≤ bit_or x (2 ^ g.target) → get_or ys x 0 ≡ get_or xs x 0

module _ (n : ℕ) (g : Mct) (legal : mct_legal n g ≡ true) where
  flip_below : 2 ^ g.target < 2 ^ n
  flip_below = pow-lt (legal_says n g legal).target

  pub fixed_below : bit_or g.controls (2 ^ g.target) < 2 ^ n
  fixed_below = or_lt n g.controls (2 ^ g.target) (legal_says n g legal).controls flip_below

  -- a word with all controls has its pair among those with the fixed lines
  pair_covers : (x : ℕ) → bit_and x g.controls ≡ g.controls → bit_and (bit_or x (2 ^ g.target)) (bit_or g.controls (2 ^ g.target)) ≡ bit_or g.controls (2 ^ g.target)
  pair_covers x e =
      let c = g.controls in
      let b = 2 ^ g.target in
      same_bits _ _ (λ i.
      omega (arith, bit_of_and (bit_or x b) (bit_or c b) i, bit_of_or x b i, bit_of_or c b i, bit_of_and x c i, ap (λ (v : ℕ). bit v i) e, bit_lt x i, bit_lt c i, bit_lt b i))

  -- a word whose pair lacks a fixed line stays
  pair_lacks : (x : ℕ) → (bit_and (bit_or x (2 ^ g.target)) (bit_or g.controls (2 ^ g.target)) ≡ bit_or g.controls (2 ^ g.target) → ⊥) → mct.act n g x ≡ x
  pair_lacks x ne = act_leaves n g x (λ e. ne (pair_covers x e))

  pub none_exchanged : (xs : List ℕ) → Exchanged n g xs xs (bit_or g.controls (2 ^ g.target))
  none_exchanged xs = record {
    made = λ x h l.
        let m = bit_or g.controls (2 ^ g.target) in
        let p = bit_or x (2 ^ g.target) in
        ap (λ (y : ℕ). get_or xs y 0) (sym (pair_lacks x (λ e. omega (arith, and_le_l p m))));
    left = λ x h l. refl;
  }

  pub all_exchanged : (xs ys : List ℕ) (w : ℕ) → 2 ^ n ≤ w → Exchanged n g xs ys w → Same n (λ x. get_or ys x 0) (λ x. get_or xs (mct.act n g x) 0)
  all_exchanged xs ys w h s x l = s.made x l (omega (arith, or_lt n x (2 ^ g.target) l flip_below))

  module _ (w : ℕ) (covers : bit_and w (bit_or g.controls (2 ^ g.target)) ≡ bit_or g.controls (2 ^ g.target)) where
    has_target : bit w g.target ≡ 1
    has_target =
        let t = g.target in
        let c = g.controls in
        let b = 2 ^ t in
        omega (arith, bit_of_and w (bit_or c b) t, bit_of_or c b t, bit_power t, ap (λ (v : ℕ). bit v t) covers, bit_lt w t, bit_lt c t)

    has_controls : bit_and w g.controls ≡ g.controls
    has_controls =
        let c = g.controls in
        let b = 2 ^ g.target in
        same_bits _ _ (λ i. omega (arith, bit_of_and w c i, bit_of_and w (bit_or c b) i, bit_of_or c b i, ap (λ (v : ℕ). bit v i) covers, bit_lt w i, bit_lt c i, bit_lt b i))

    other_lacks : bit (bit_xor w (2 ^ g.target)) g.target ≡ 0
    other_lacks = omega (arith, bit_of_xor w (2 ^ g.target) g.target, bit_power g.target, has_target)

    pair_w : bit_or w (2 ^ g.target) ≡ w
    pair_w = or_has w g.target has_target

    pair_other : bit_or (bit_xor w (2 ^ g.target)) (2 ^ g.target) ≡ w
    pair_other = or_lacks (bit_xor w (2 ^ g.target)) g.target other_lacks ∙ flip_twice w (2 ^ g.target)

    pair_of : (x : ℕ) → bit_or x (2 ^ g.target) ≡ w → (x ≡ w) ⊎ (x ≡ bit_xor w (2 ^ g.target))
    pair_of x e =
        ⊎_elim (λ s. inl (sym s ∙ e))
        (λ s. inr (sym (flip_twice x (2 ^ g.target)) ∙ ap (λ (v : ℕ). bit_xor v (2 ^ g.target)) (sym s ∙ e)))
        (or_cases x g.target)

    module _ (word : w < 2 ^ n) where
      pub other_below : bit_xor w (2 ^ g.target) < 2 ^ n
      other_below = xor_lt n w (2 ^ g.target) word flip_below

      pub pair_swapped : (xs ys : List ℕ) (b : ℕ) → 2 ^ n ≤ length xs → b ≡ 2 ^ g.target → ys ≡ swap xs w (bit_xor w b) → Swapped (λ i. get_or xs i 0) (λ i. get_or ys i 0) w (bit_xor w (2 ^ g.target))
      pair_swapped xs ys b long bit e =
          swapped_from_swap xs ys w (bit_xor w (2 ^ g.target)) 0 (omega arith) (omega (arith, other_below)) (e ∙ ap (λ (v : ℕ). swap xs w (bit_xor w v)) bit)

      act_w : mct.act n g w ≡ bit_xor w (2 ^ g.target)
      act_w = act_flips n g w legal word has_controls

      act_other : mct.act n g (bit_xor w (2 ^ g.target)) ≡ w
      act_other =
          act_flips n g (bit_xor w (2 ^ g.target)) legal other_below (mask_flip w g.controls g.target (legal_says n g legal).apart ∙ has_controls)
          ∙ flip_twice w (2 ^ g.target)

      module _ (xs ys zs : List ℕ) (swapped : Swapped (λ i. get_or ys i 0) (λ i. get_or zs i 0) w (bit_xor w (2 ^ g.target))) (s : Exchanged n g xs ys w) where
        -- another pair
        apart : (x : ℕ) → (bit_or x (2 ^ g.target) ≡ w → ⊥) → get_or zs x 0 ≡ get_or ys x 0
        apart x ne = swapped.2 x (λ e. ne (ap (λ (v : ℕ). bit_or v (2 ^ g.target)) e ∙ pair_w)) (λ e. ne (ap (λ (v : ℕ). bit_or v (2 ^ g.target)) e ∙ pair_other))

        here : (x : ℕ) → (x ≡ w) ⊎ (x ≡ bit_xor w (2 ^ g.target)) → get_or zs x 0 ≡ get_or xs (mct.act n g x) 0
        here x at =
            let o = bit_xor w (2 ^ g.target) in
            let P : ℕ → Type 0 = λ v. get_or zs v 0 ≡ get_or xs (mct.act n g v) 0 in
            ⊎_elim
            (λ e. subst P (sym e) (swapped.0 ∙ s.left o other_below (omega (arith, pair_other)) ∙ ap (λ (v : ℕ). get_or xs v 0) (sym act_w)))
            (λ e. subst P (sym e) (swapped.1 ∙ s.left w word (omega (arith, pair_w)) ∙ ap (λ (v : ℕ). get_or xs v 0) (sym act_other)))
            at

        pub exchanged_more : Exchanged n g xs zs (bit_or (w + 1) (bit_or g.controls (2 ^ g.target)))
        exchanged_more =
            let m = bit_or g.controls (2 ^ g.target) in
            record {
              made = λ x h l.
                  let p = bit_or x (2 ^ g.target) in
                  ⊎_elim (λ e. here x (pair_of x e))
                  (⊎_elim
                  (λ less. apart x (λ e. omega arith) ∙ s.made x h less)
                  (λ more.
                  let stays : mct.act n g x ≡ x = pair_lacks x (λ e. omega (arith, next_least w m p covers e more)) in
                  apart x (λ e. omega arith) ∙ s.left x h (omega arith) ∙ ap (λ (v : ℕ). get_or xs v 0) (sym stays)))
                  (cases_order p w);
              left = λ x h l.
                  let more = next_above w m in
                  apart x (λ e. omega arith) ∙ s.left x h (omega arith);
            }

  -- ---- an output gate passes every image through

  pub act_is : (v : ℕ) → v < 2 ^ n → mct.act n g v ≡ flip_of g v
  act_is v h =
      let c = g.controls in
      ⊎_elim
      (λ q. act_flips n g v legal h (eqb-true (bit_and v c) c q) ∙ sym (cond-true (eqb (bit_and v c) c) _ _ q))
      (λ q. act_leaves n g v (eqb-false (bit_and v c) c q) ∙ sym (cond-false (eqb (bit_and v c) c) _ _ q))
      (cases_Bool (eqb (bit_and v c) c))

  pub unit_is : unit g.target ≡ 2 ^ g.target
  unit_is = let l = legal_says n g legal in unit_power g.target (omega (arith, l.target, l.most))

-- the images before i are passed through the gate
pub record Passed (g : Mct) (xs ys : List ℕ) (i : ℕ) : Type 0 where
  pub long : length ys ≡ length xs
  pub made : (x : ℕ) → x < i → get_or ys x 0 ≡ flip_of g (get_or xs x 0)
  pub left : (x : ℕ) → i ≤ x → get_or ys x 0 ≡ get_or xs x 0

module _ (g : Mct) (xs : List ℕ) where
  module _ (ys : List ℕ) (i : ℕ) (p : Passed g xs ys i) where
    pub passed_more : (v : ℕ) → i < length ys → v ≡ flip_of g (get_or ys i 0) → Passed g xs (set ys i v) (i + 1)
    passed_more v h e =
        record {
          long = length-set ys i v ∙ p.long;
          made = λ x k.
              ⊎_elim
              (λ q. ap (λ (j : ℕ). get_or (set ys i v) j 0) q ∙ get_or-set_same ys i v 0 h ∙ e ∙ ap (flip_of g) (p.left i (omega arith)) ∙ ap (λ (j : ℕ). flip_of g (get_or xs j 0)) (sym q))
              (λ ne. get_or-set_other ys i x v 0 ne ∙ p.made x (omega arith))
              (cases_eq x i);
          left = λ x k. get_or-set_other ys i x v 0 (λ q. omega arith) ∙ p.left x (omega arith);
        }

    module _ (n : ℕ) (legal : mct_legal n g ≡ true) (all : length ys ≤ i) (many : 2 ^ n ≤ length xs) (below : (x : ℕ) → x < 2 ^ n → get_or xs x 0 < 2 ^ n) where
      pub all_passed : Same n (λ x. get_or ys x 0) (λ x. mct.act n g (get_or xs x 0))
      all_passed x h = p.made x (omega (arith, p.long)) ∙ sym (act_is n g legal (get_or xs x 0) (below x h))

      pub passed_below : (x : ℕ) → x < 2 ^ n → get_or ys x 0 < 2 ^ n
      passed_below x h = subst (λ (v : ℕ). v < 2 ^ n) (sym (all_passed x h)) (mct_lawful.keeps n g (get_or xs x 0) (below x h))

pub words_few : (n : ℕ) → n ≤ 8 → 2 ^ n ≤ 256
words_few n h = pow_mono h
