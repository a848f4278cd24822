-- The mapping of a word to one that is not above it.
use Rattle.std.proofs.Common.{◌≡◌, ℕ, zero, suc, ◌+◌, ◌-◌, ◌^◌, ◌<◌, ◌≤◌, min, true, cond, leb, List, [], ◌∷◌, length, sym, refl, ap, ◌∙◌, subst, ap₂, ⊎_elim, le_refl, lt_of_lt_of_le, div-one, arith, length-append, pow_mono}
use lib.Bits.{bit_and, bit_xor, and_le_l, and_le_r, and_self, xor_lt}
use lib.Count.{ones, ones-le}
use Rattle.std.specs.List.{AllByRecursion}
use Rattle.std.proofs.ByRecursion.{All-append}
use Rattle.std.proofs.lemmas.Bool.{cases_lt, cond_both, cond-true, cond-false, leb-true, le-leb, lt-leb, and_from}
use Rattle.words.specs.Words.{bit}
use Rattle.words.proofs.Bits.{bit_lt, bit_of_and, bit_of_xor, bit_above, same_bits}
use Rattle.gates.specs.Mcts.{mct, mct_legal}
use Rattle.gates.specs.Circuits.{through, all_legal}
use Rattle.gates.specs.declared.mct.Mct.{Mct}
use Rattle.gates.specs.CircuitLaws.{through_append}
use Rattle.mapping.specs.Ones.{outside, drop_lowest}
use Rattle.mapping.specs.Mapping.{shrink_in, shrink, flips, mapping, weigh}
use Rattle.mapping.specs.Laws.{MappingMaps}
use Rattle.mapping.proofs.OnesLaws.{and_and, and_assoc, bit_outside, ones_split}
use Rattle.mapping.proofs.GateLaws.{gate, legal_from, act_spares, flips_all, flips_length, flips_through}

-- ---- the shrunk word

pub drop_lowest_lt : (c k : ℕ) → c ≤ suc k → drop_lowest c ≤ k
drop_lowest_lt c k h = omega (arith, and_le_r c (c - 1))

-- it has ones only where the word has
shrink_in_within : (k c x : ℕ) → bit_and c (shrink_in k c x) ≡ shrink_in k c x
shrink_in_within zero c x = and_self c
shrink_in_within (suc k) c x =
    cond_both (leb x (drop_lowest c)) _ _ (λ (s : ℕ). bit_and c s ≡ s)
    (λ q.
    let d = drop_lowest c in
    let s = shrink_in k d x in
    let ih = shrink_in_within k d x in
    ap (bit_and c) (sym ih) ∙ sym (and_assoc c d s) ∙ ap (λ (w : ℕ). bit_and w s) (and_and c (c - 1)) ∙ ih)
    (λ q. and_self c)

-- it is not below x
shrink_in_above : (k c x : ℕ) → x ≤ c → x ≤ shrink_in k c x
shrink_in_above zero c x h = h
shrink_in_above (suc k) c x h =
    cond_both (leb x (drop_lowest c)) _ _ (λ (s : ℕ). x ≤ s) (λ q. shrink_in_above k (drop_lowest c) x (leb-true x (drop_lowest c) q)) (λ q. h)

pub shrink_within : (y x : ℕ) → bit_and y (shrink y x) ≡ shrink y x
unfolding shrink
shrink_within y x = shrink_in_within y y x

pub shrink_above : (y x : ℕ) → x ≤ y → x ≤ shrink y x
unfolding shrink
shrink_above y x h = shrink_in_above y y x h

pub shrink_below : (y x : ℕ) → shrink y x ≤ y
shrink_below y x = subst (λ (s : ℕ). s ≤ y) (shrink_within y x) (and_le_l y (shrink y x))

-- one clearing, and the end
shrink_more : (k c x : ℕ) → c ≤ k → shrink_in (suc k) c x ≡ shrink_in k c x
shrink_more zero c x h =
    let e : c ≡ 0 = omega arith in
    subst (λ (w : ℕ). shrink_in 1 w x ≡ w) (sym e) (cond_both (leb x 0) 0 0 (λ (w : ℕ). w ≡ 0) (λ _. refl) (λ _. refl))
shrink_more (suc k) c x h = ap (λ (s : ℕ). cond (leb x (drop_lowest c)) s c) (shrink_more k (drop_lowest c) x (drop_lowest_lt c k h))

shrink_enough : (k c d x : ℕ) → k ≡ c + d → shrink_in k c x ≡ shrink c x
unfolding shrink
shrink_enough k c zero x e = let f : k ≡ c = omega arith in ap (λ (m : ℕ). shrink_in m c x) f
shrink_enough k c (suc d) x e =
    let f : k ≡ suc (c + d) = omega arith in
    ap (λ (m : ℕ). shrink_in m c x) f ∙ shrink_more (c + d) c x (omega arith) ∙ shrink_enough (c + d) c d x refl

pub shrink_step : (c x : ℕ) → x ≤ drop_lowest c → shrink c x ≡ shrink (drop_lowest c) x
unfolding shrink
shrink_step zero x h = refl
shrink_step (suc c) x h =
    let l = drop_lowest_lt (suc c) c (le_refl (suc c)) in
    cond-true _ _ _ (le-leb x (drop_lowest (suc c)) h) ∙ shrink_enough c (drop_lowest (suc c)) (c - drop_lowest (suc c)) x (omega arith)

pub shrink_stop : (c x : ℕ) → drop_lowest c < x → shrink c x ≡ c
unfolding shrink
shrink_stop zero x h = refl
shrink_stop (suc c) x h = cond-false _ _ _ (lt-leb x (drop_lowest (suc c)) h)

pub shrink_none : (c x : ℕ) → c ≡ 0 → c ≡ shrink c x
unfolding shrink
shrink_none c x e = e ∙ sym (ap (λ (w : ℕ). shrink_in w w x) e)

-- ---- the two rows of gates

pub legal_all : (n : ℕ) (gs : List Mct) → AllByRecursion (λ g. mct_legal n g ≡ true) gs → all_legal mct n gs ≡ true
legal_all n [] h = refl
legal_all n (g ∷ gs) h = and_from (mct_legal n g) (all_legal mct n gs) h.0 (legal_all n gs h.1)

-- a one outside the controls
free_of : (a c i : ℕ) → bit (outside a c) i ≡ 1 → bit c i ≡ 0
free_of a c i e = omega (arith, bit_outside a c i, bit_lt a i, bit_lt c i)

-- the line of a one is among n
line_below : (n a i : ℕ) → a < 2 ^ n → bit a i ≡ 1 → i < n
line_below n a i h e = ⊎_elim (λ l. l) (λ l. absurd (omega (arith, bit_above n a i h l))) (cases_lt i n)

module _ (n y x : ℕ) (some : 1 ≤ n) (few : n ≤ 8) (le : x ≤ y) (lt : y < 2 ^ n) where
  below_x : x < 2 ^ n
  below_x = omega arith

  below_c : shrink y x < 2 ^ n
  below_c = omega (arith, shrink_below y x)

  below_first : outside (bit_xor x y) (shrink y x) < 2 ^ n
  below_first = omega (arith, xor_lt n x y below_x lt)

  below_second : outside (shrink y x) x < 2 ^ n
  below_second = omega (arith, below_c)

  pub first_legal : (i : ℕ) → bit (outside (bit_xor x y) (shrink y x)) i ≡ 1 → mct_legal n (gate (shrink y x) i) ≡ true
  first_legal i e = legal_from n (gate (shrink y x) i) (record {
    least = some;
    most = few;
    controls = below_c;
    target = line_below n (outside (bit_xor x y) (shrink y x)) i below_first e;
    apart = free_of (bit_xor x y) (shrink y x) i e;
  })

  pub second_legal : (i : ℕ) → bit (outside (shrink y x) x) i ≡ 1 → mct_legal n (gate x i) ≡ true
  second_legal i e = legal_from n (gate x i) (record {
    least = some;
    most = few;
    controls = below_x;
    target = line_below n (outside (shrink y x) x) i below_second e;
    apart = free_of (shrink y x) x i e;
  })

-- how many gates there are, by counts of ones, on words of eight bits
pub mapping_count : (y x : ℕ) → y < 256 → x < 256 → length (mapping y x) ≡ ones (outside (bit_xor x y) (shrink y x)) + ones (outside (shrink y x) x)
unfolding mapping
mapping_count y x hy hx =
    let c = shrink y x in
    let a = outside (bit_xor x y) c in
    let b = outside c x in
    let hxy : bit_xor x y < 2 ^ 8 = xor_lt 8 x y hx hy in
    let ha : a < 2 ^ 8 = omega arith in
    let hb : b < 2 ^ 8 = omega (arith, shrink_below y x) in
    length-append (flips c a) (flips x b)
    ∙ ap₂ (λ (p q : ℕ). p + q) (flips_length 8 0 c a ha ∙ ap ones (div-one a)) (flips_length 8 0 x b hb ∙ ap ones (div-one b))

-- as many as the bits in which the words differ
pub mapping_length : (y x : ℕ) → y < 256 → x < 256 → length (mapping y x) ≡ ones (bit_xor x y)
mapping_length y x hy hx =
    let c = shrink y x in
    mapping_count y x hy hx
    ∙ ones_split (bit_xor x y) (outside (bit_xor x y) c) (outside c x) (λ i.
    omega (
      arith,
      bit_outside (bit_xor x y) c i,
      bit_outside c x i,
      bit_of_xor x y i,
      bit_of_and y c i,
      ap (λ (w : ℕ). bit w i) (shrink_within y x),
      bit_lt x i,
      bit_lt y i,
      bit_lt c i,
    ))

pub mapping_maps : MappingMaps
unfolding mapping
mapping_maps n y x some few le lt =
    let c = shrink y x in
    let a = outside (bit_xor x y) c in
    let b = outside c x in
    let above : x ≤ c = shrink_above y x le in
    let within : bit_and y c ≡ c = shrink_within y x in
    let hx = below_x n y x some few le lt in
    let ha = below_first n y x some few le lt in
    let hb = below_second n y x some few le lt in
    let wide : 2 ^ n ≤ 2 ^ 8 = pow_mono few in
    let ha8 : a < 2 ^ 8 = lt_of_lt_of_le ha wide in
    let hb8 : b < 2 ^ 8 = lt_of_lt_of_le hb wide in
    let hy8 : y < 256 = lt_of_lt_of_le lt wide in
    let hx8 : x < 256 = lt_of_lt_of_le hx wide in
    let firsts = first_legal n y x some few le lt in
    let seconds = second_legal n y x some few le lt in
    let w = bit_xor y a in
    let hw : w < 2 ^ n = xor_lt n y a lt ha in
    let in-y : (i : ℕ) → min (bit y i) (bit c i) ≡ bit c i = λ i. sym (bit_of_and y c i) ∙ ap (λ (v : ℕ). bit v i) within in
    let covers : bit_and w x ≡ x =
    same_bits _ _ (λ i. omega (arith, bit_of_and w x i, bit_of_xor y a i, bit_outside (bit_xor x y) c i, bit_of_xor x y i, in-y i, bit_lt x i, bit_lt y i, bit_lt c i)) in
    let ends : bit_xor w b ≡ x =
    same_bits _ _ (λ i. omega (arith, bit_of_xor w b i, bit_of_xor y a i, bit_outside (bit_xor x y) c i, bit_outside c x i, bit_of_xor x y i, in-y i, bit_lt x i, bit_lt y i, bit_lt c i)) in
    let spare : Mct → Type 0 = λ g. (z : ℕ) → z < x → mct.act n g z ≡ z in
    record {
      legal = legal_all n (mapping y x) (All-append (λ g. mct_legal n g ≡ true) (flips c a) (flips x b)
          (flips_all (λ g. mct_legal n g ≡ true) 8 0 c a firsts)
          (flips_all (λ g. mct_legal n g ≡ true) 8 0 x b seconds));
      sends = through_append mct n (flips c a) (flips x b) y
          ∙ ap (through mct n (flips x b)) (flips_through n c a y ha8 firsts lt within)
          ∙ flips_through n x b w hb8 seconds hw covers
          ∙ ends;
      spares = All-append spare (flips c a) (flips x b)
          (flips_all spare 8 0 c a (λ j e z h. act_spares n (gate c j) z (omega arith)))
          (flips_all spare 8 0 x b (λ j e z h. act_spares n (gate x j) z h));
      few = omega (arith, mapping_length y x hy8 hx8, ones-le n (bit_xor x y) (xor_lt n x y hx lt));
      count = mapping_count y x hy8 hx8;
    }

-- ---- what gates count

-- all gates count alike, so what they count together is their number: the only use of the weight of a gate
pub weigh_length : (gs : List Mct) → weigh gs ≡ length gs
weigh_length [] = refl
weigh_length (g ∷ gs) = omega (arith, weigh_length gs)
