-- The first clash of a linear map, found line by line.
use Rattle.std.proofs.Common.{◌≡◌, ℕ, suc, ◌+◌, ◌*◌, ◌/◌, ◌%◌, ◌^◌, ◌<◌, ◌≤◌, cond, eqb, List, [], ◌∷◌, ◌++◌, length, get_or, Some, sym, refl, ap, ◌∙◌, subst, ap₂, pow-suc, add-one, arith}
use native.Mathlib.Nat.{div-eq_of_lt-le}
use lib.Bits.{bit_xor, xor_lt, xor_self}
use lib.Pow.{pow-lt}
use Rattle.std.specs.List.{All}
use Rattle.std.proofs.lemmas.List.{get_or_default, length_push}
use Rattle.std.proofs.lemmas.List.Elements.{at_read, All-push, All-pop, AllWithin-none, AllWithin-more}
use Rattle.std.proofs.lemmas.List.Quantifiers.{all_pairs_push}
use Rattle.words.specs.Words.{bit, has}
use Rattle.words.specs.Maps.{Apart, Clash}
use Rattle.words.proofs.Bits.{bit_lt, bit_of_xor, bit_none, bit_above, bit_power}
use Rattle.words.proofs.Parities.{digit_case}
use Rattle.words.proofs.Tops.{drop_top, without_top, equal_by_sum}
use Rattle.matrices.specs.Columns.{Kept, Reduced}
use Rattle.matrices.specs.declared.matrix.clash.Held.{Held}
use Rattle.matrices.specs.declared.matrix.clash.Imaged.{Imaged}

abbrev Lacks : ℕ → Held → Type 0
Lacks image h = bit image h.pivot ≡ 0

-- the highest bit of a word
pub top_one : (x t : ℕ) → 2 ^ t ≤ x → x < 2 * 2 ^ t → bit x t ≡ 1
top_one x t low high = let one : x / 2 ^ t ≡ 1 = div-eq_of_lt-le (2 ^ t) (omega arith) (omega arith) in ap (λ (z : ℕ). z % 2) one

module _ (f : ℕ → ℕ) (sums : (x y : ℕ) → f (bit_xor x y) ≡ bit_xor (f x) (f y)) where
  pub kept_none : Kept f []
  kept_none = record {
    word = λ j d l. absurd (omega arith);
    image = λ j d l. absurd (omega arith);
    pivot = λ j d l. absurd (omega arith);
    later = λ i j d p l. absurd (omega arith);
    alone = λ y l h. omega arith;
  }

  module _ (basis : List Held) (kept : Kept f basis) where
    -- words with one image have a sum without any pivot in its image
    pub kept_apart : Apart (2 ^ length basis) f
    kept_apart u v lt lv e =
        let y = bit_xor u v in
        let none : f y ≡ 0 = sums u v ∙ ap (λ (z : ℕ). bit_xor z (f v)) e ∙ xor_self (f v) in
        let gone : y ≡ 0 = kept.alone y (xor_lt (length basis) u v (omega arith) lv) (λ j d l. ap (λ (w : ℕ). bit w (get_or basis j d).pivot) none ∙ bit_none (get_or basis j d).pivot) in
        let same : u ≡ v = equal_by_sum u v gone in
        omega arith

    -- ---- taking the pivots out of the image of a word, one by one

    pub reduce_none : (k : ℕ) → k ≡ 2 ^ length basis → Reduced f basis 0 (record { word = k; image = f k })
    reduce_none k e =
        subst (λ (w : ℕ). Reduced f basis 0 (record { word = w; image = f w })) (sym e)
        (record { top = bit_power (length basis); below = pow-lt (omega arith); is = refl; lacks = AllWithin-none (Lacks (f (2 ^ length basis))) basis 0 })

    module _ (i : ℕ) (found : Imaged) (h : Held) (within : i < length basis) (here : h ≡ get_or basis i h) (so_far : Reduced f basis i found) where
      held : (P : Held → Type 0) → All P basis → P h
      held P all = subst P (sym here) (all i h within)

      reduce_skip : bit found.image h.pivot ≡ 0 → Reduced f basis (i + 1) found
      reduce_skip e = record {
        top = so_far.top;
        below = so_far.below;
        is = so_far.is;
        lacks = AllWithin-more (Lacks found.image) basis 0 i so_far.lacks (at_read basis (Lacks found.image) i h within here e);
      }

      reduce_add : bit found.image h.pivot ≡ 1 → Reduced f basis (i + 1) (record { word = bit_xor found.word h.word; image = bit_xor found.image h.image })
      reduce_add e =
          let t = length basis in
          let v = bit_xor found.image h.image in
          let low = held (λ (g : Held). g.word < 2 ^ t) kept.word in
          record {
            top = bit_of_xor found.word h.word t ∙ ap₂ (λ (x y : ℕ). (x + y) % 2) so_far.top (bit_above t h.word t low (omega arith));
            below = xor_lt (suc t) found.word h.word so_far.below (omega (arith, low, pow-suc 2 t));
            is = ap₂ bit_xor so_far.is (held (λ (g : Held). g.image ≡ f g.word) kept.image) ∙ sym (sums found.word h.word);
            lacks = AllWithin-more (Lacks v) basis 0 i
                (λ j d z lj.
                let p = (get_or basis j d).pivot in
                let same = here ∙ get_or_default basis i h d within in
                bit_of_xor found.image h.image p
                ∙ ap₂ (λ (x y : ℕ). (x + y) % 2) (so_far.lacks j d z lj) (ap (λ (g : Held). bit g.image p) same ∙ kept.later j i d lj within))
                (at_read basis (Lacks v) i h within here
                (bit_of_xor found.image h.image h.pivot ∙ ap₂ (λ (x y : ℕ). (x + y) % 2) e (held (λ (g : Held). bit g.image g.pivot ≡ 1) kept.pivot)));
          }

      pub reduce_more : (found' : Imaged)
          → found'.word ≡ cond (has found.image h.pivot) (bit_xor found.word h.word) found.word
          → found'.image ≡ cond (has found.image h.pivot) (bit_xor found.image h.image) found.image
          → Reduced f basis (i + 1) found'
      reduce_more found' ek ev =
          let b = bit found.image h.pivot in
          let at : ℕ → Imaged = λ d. record { word = cond (eqb d 1) (bit_xor found.word h.word) found.word; image = cond (eqb d 1) (bit_xor found.image h.image) found.image } in
          let step = digit_case b (bit_lt found.image h.pivot) (λ (d : ℕ). b ≡ d → Reduced f basis (i + 1) (at d)) reduce_skip reduce_add refl in
          let is : found' ≡ at b = ap₂ (λ (k v : ℕ). record { word = k; image = v }) ek ev in
          subst (Reduced f basis (i + 1)) (sym is) step

    -- ---- a word without any pivot in its image

    module _ (found : Imaged) (reduced : Reduced f basis (length basis) found) where
      pub clash_here : (n : ℕ) (p : ℕ × ℕ) → length basis < n → found.image ≡ 0
          → p.0 ≡ bit_xor found.word (2 ^ length basis) → p.1 ≡ 2 ^ length basis → Clash n f (Some p)
      clash_here n p l e low high =
          let t = length basis in
          let clash : Clash n f (Some (bit_xor found.word (2 ^ t), 2 ^ t)) = (
            without_top t found.word (2 ^ t) reduced.below (pow-lt (omega arith)) reduced.top (bit_power t),
            pow-lt l,
            sums found.word (2 ^ t) ∙ ap (λ (z : ℕ). bit_xor z (f (2 ^ t))) (sym reduced.is ∙ e),
            kept_apart,
          ) in
          subst (λ (q : ℕ × ℕ). Clash n f (Some q)) (sym (ap₂ (λ (x y : ℕ). (x, y)) low high)) clash

      module _ (h : Held) (word : h.word ≡ found.word) (image : h.image ≡ found.image) (one : bit h.image h.pivot ≡ 1) where
        -- only 0 lacks the new pivot too
        alone_more : (y : ℕ) → y < 2 ^ suc (length basis) → All (Lacks (f y)) basis → Lacks (f y) h → y ≡ 0
        alone_more y ly lacks here =
            let t = length basis in
            let k = found.word in
            let v = found.image in
            digit_case (bit y t) (bit_lt y t) (λ (d : ℕ). bit y t ≡ d → y ≡ 0)
            (λ none. kept.alone y (drop_top t y ly none) lacks)
            (λ top.
            let z = bit_xor y k in
            let fz : f z ≡ bit_xor (f y) v = sums y k ∙ ap (bit_xor (f y)) (sym reduced.is) in
            let gone : z ≡ 0 = kept.alone z (without_top t y k ly reduced.below top reduced.top)
            (λ j d l.
            let q = (get_or basis j d).pivot in
            ap (λ (w : ℕ). bit w q) fz ∙ bit_of_xor (f y) v q ∙ ap₂ (λ (a b : ℕ). (a + b) % 2) (lacks j d l) (reduced.lacks j d (omega arith) l)) in
            let same : f y ≡ h.image = ap f (equal_by_sum y k gone) ∙ sym reduced.is ∙ sym image in
            absurd (omega (arith, sym here ∙ ap (λ (w : ℕ). bit w h.pivot) same ∙ one)))
            refl

        pub kept_more : Kept f (basis ++ h ∷ [])
        kept_more =
            let lines : 2 ^ length (basis ++ h ∷ []) ≡ 2 ^ suc (length basis) = ap (λ (n : ℕ). 2 ^ n) (length_push basis h ∙ add-one (length basis)) in
            record {
              word = All-push (λ (g : Held). g.word < 2 ^ length (basis ++ h ∷ [])) basis h
                  (λ j d l. omega (arith, kept.word j d l, lines, pow-suc 2 (length basis))) (omega (arith, reduced.below, lines));
              image = All-push (λ (g : Held). g.image ≡ f g.word) basis h kept.image (image ∙ reduced.is ∙ ap f (sym word));
              pivot = All-push (λ (g : Held). bit g.image g.pivot ≡ 1) basis h kept.pivot one;
              later = all_pairs_push (λ (g k : Held). bit k.image g.pivot ≡ 0) basis h kept.later
                  (λ j d l. ap (λ (w : ℕ). bit w (get_or basis j d).pivot) image ∙ reduced.lacks j d (omega arith) l);
              alone = λ y ly lacks.
                  let parts = All-pop (Lacks (f y)) (basis ++ h ∷ []) basis (Some h) refl lacks in
                  alone_more y (omega (arith, ly, lines)) parts.0 parts.1;
            }
