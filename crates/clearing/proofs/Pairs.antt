-- A matrix beside its inverse meets the laws that the theorem asks for.
use Rattle.std.proofs.Common.{◌≡◌, ℕ, zero, suc, ◌^◌, ◌<◌, ◌≤◌, Bool, true, false, eqb, ◌≢◌, ◌⊎◌, List, get_or, sym, ap, ◌∙◌, subst, inl, inr, zero-add, arith, pow_pos}
use mathlib.Core.Bool.{xor}
use lib.Pow.{pow-lt}
use Rattle.std.proofs.lemmas.Bool.{cases_eq, cases_Bool}
use Rattle.words.specs.Maps.{Identity}
use Rattle.gates.specs.Cnots.{cnot_legal}
use Rattle.gates.specs.declared.cnot.Cnot.{Cnot}
use Rattle.gates.specs.declared.end.End.{End}
use Rattle.gates.specs.declared.end.End.TheVariants.{Input, Output}
use Rattle.gates.specs.CnotLaws.{legal_says}
use Rattle.matrices.specs.Matrices.{image, add_row, add_column}
use Rattle.matrices.proofs.Ends.{row_turns, column_turns}
use Rattle.matrices.proofs.Identities.{identity_by_rows, rows_by_identity}
use Rattle.matrices.proofs.Images.{bit_column, image_none}
use Rattle.matrices.proofs.Turns.{turned, turned_below, turned_twice}
use Rattle.clearing.specs.Clearing.{adding, line}
use Rattle.clearing.specs.Pairs.{Pair, Square, Inverses, entry, differing, cost, place_at, pairs}
use Rattle.clearing.proofs.Words.{has_none, same_has, eqb_flip}
use Rattle.clearing.proofs.Squares.{image_below, row_square, column_square}
use Rattle.clearing.proofs.Entries.{row_sum, row_other, column_sum, column_other}
use Rattle.clearing.proofs.Identity.{differing_none, none_differing, rows_by_entries, entries_by_rows}
use Rattle.clearing.proofs.Lawful.{Lawful, Solved}
use Rattle.clearing.proofs.Moves.{adding_legal}

-- ---- the two maps stay inverse

module _ (n : ℕ) (f v : List ℕ) (sf : Square n f) (g : Cnot) (legal : cnot_legal n g ≡ true) where
  rows : (x : ℕ) → image (add_row g f) x ≡ turned g.control g.target (image f x)
  rows x = row_turns g f x (omega (arith, (legal_says n g legal).target, sf.size))

  back : Identity n (λ x. image v (image f x)) → Identity n (λ x. image (add_column g v) (image (add_row g f) x))
  back h x hx =
      ap (image (add_column g v)) (rows x) ∙ column_turns g v (turned g.control g.target (image f x))
      ∙ ap (image v) (turned_twice g.control g.target (legal_says n g legal).differ (image f x)) ∙ h x hx

  forth : Identity n (λ x. image f (image v x)) → Identity n (λ x. image (add_row g f) (image (add_column g v) x))
  forth h x hx =
      let c = g.control in
      let t = g.target in
      rows (image (add_column g v) x) ∙ ap (λ (y : ℕ). turned c t (image f y)) (column_turns g v x)
      ∙ ap (turned c t) (h (turned c t x) (turned_below c t x n (legal_says n g legal).target hx)) ∙ turned_twice c t (legal_says n g legal).differ x

pub stays_placed : (n : ℕ) (p : Pair) → Inverses n p → (e : End) (g : Cnot) → cnot_legal n g ≡ true → Inverses n (place_at e g p)
stays_placed n p v Output g legal = record {
  square = row_square n g legal p.matrix v.square;
  square' = column_square n g legal p.inverse v.square';
  back = back n p.matrix p.inverse v.square g legal v.back;
  forth = forth n p.matrix p.inverse v.square g legal v.forth;
}
stays_placed n p v Input g legal = record {
  square = column_square n g legal p.matrix v.square;
  square' = row_square n g legal p.inverse v.square';
  back = forth n p.inverse p.matrix v.square' g legal v.back;
  forth = back n p.inverse p.matrix v.square' g legal v.forth;
}

pub stays : (n : ℕ) → n ≤ 64 → (e : End) (a b : ℕ) (p : Pair) → a < n → b < n → a ≢ b → Inverses n p → Inverses n (pairs.place (adding e a b) p)
stays n few e a b p ha hb ne v = stays_placed n p v (adding e a b).0 (adding e a b).1 (adding_legal n few e a b ha hb ne)

-- ---- no column is zero

search_below : (n : ℕ) (p : ℕ → Bool) → ((k : ℕ) × (k < n) × (p k ≡ true)) ⊎ ((k : ℕ) → k < n → p k ≡ false)
search_below zero p = inr (λ k hk. absurd (omega arith))
search_below (suc n) p =
    elim (search_below n p) [
      | inl h ↦ inl (h.0, omega arith, h.2)
      | inr h ↦
          elim (cases_Bool (p n)) [
            | inl e ↦ inl (n, omega arith, e)
            | inr e ↦ inr (λ k hk. elim (cases_eq k n) [ inl q ↦ ap p q ∙ e | inr q ↦ h k (omega arith) ])
          ]
    ]

pub column : (n : ℕ) (p : Pair) → Inverses n p → (d : ℕ) → d < n → (i : ℕ) × (i < n) × (entry p.matrix i d ≡ true)
column n p v d hd =
    elim (search_below n (λ i. entry p.matrix i d)) [
      | inl h ↦ h
      | inr h ↦
          let z : image p.matrix (2 ^ d) ≡ 0 =
          same_has n (image p.matrix (2 ^ d)) 0 (image_below n p.matrix v.square (2 ^ d)) (pow_pos n)
          (λ k hk. ap (λ (b : ℕ). eqb b 1) (bit_column p.matrix k d) ∙ h k hk ∙ sym (has_none k)) in
          let e : 2 ^ d ≡ 0 = sym (v.back (2 ^ d) (pow-lt hd)) ∙ ap (image p.inverse) z ∙ image_none p.inverse in
          absurd (omega (arith, pow_pos d))
    ]

-- ---- cost 0

-- unit rows do not differ from those of identity
unit_differing : (n : ℕ) (m : List ℕ) → Square n m → ((r : ℕ) → r < n → get_or m r 0 ≡ 2 ^ r) → differing 0 m ≡ 0
unit_differing n m sq h =
    differing_none 0 m (λ r hr. h r (subst (λ (k : ℕ). r < k) sq.size hr) ∙ ap (λ (j : ℕ). 2 ^ j) (sym (zero-add r)))

module _ (n : ℕ) (p : Pair) (v : Inverses n p) where
  pub rows_free : ((r : ℕ) → r < n → get_or p.matrix r 0 ≡ 2 ^ r) → cost p ≡ 0
  rows_free h =
      let is = identity_by_rows n p.matrix v.square.size h in
      let other : (r : ℕ) → r < n → get_or p.inverse r 0 ≡ 2 ^ r =
      rows_by_identity n p.inverse v.square'.size v.square'.small (λ x hx. ap (image p.inverse) (sym (is x hx)) ∙ v.back x hx) in
      omega (arith, unit_differing n p.matrix v.square h, unit_differing n p.inverse v.square' other)

  pub free_rows : cost p ≡ 0 → (r : ℕ) → r < n → get_or p.matrix r 0 ≡ 2 ^ r
  free_rows e r hr =
      none_differing 0 p.matrix (omega arith) r (subst (λ (k : ℕ). r < k) (sym v.square.size) hr) ∙ ap (λ (j : ℕ). 2 ^ j) (zero-add r)

  pub settled : ((k : ℕ) → k < n → Solved pairs n p k) → cost p ≡ 0
  settled h = rows_free (rows_by_entries n p.matrix v.square (λ r c hr hc. h r hr Output c hc))

  pub free : cost p ≡ 0 → (k : ℕ) → k < n → Solved pairs n p k
  free e k hk Output j hj = entries_by_rows n p.matrix (free_rows e) k j hk
  free e k hk Input j hj = entries_by_rows n p.matrix (free_rows e) j k hj ∙ eqb_flip j k

-- ---- the laws

pub sums : (n : ℕ) (e : End) (a b : ℕ) (p : Pair) → a < n → b < n → a ≢ b → Inverses n p
    → (k : ℕ) → k < n → line pairs e (pairs.place (adding e a b) p) b k ≡ xor (line pairs e p b k) (line pairs e p a k)
sums n Output a b p ha hb ne v k hk = row_sum (record { control = a; target = b }) p.matrix (omega (arith, v.square.size)) k
sums n Input a b p ha hb ne v k hk = column_sum (record { control = b; target = a }) p.matrix k (omega (arith, v.square.size))

pub others : (n : ℕ) (e : End) (a b : ℕ) (p : Pair) → a < n → b < n → a ≢ b → Inverses n p
    → (r k : ℕ) → r < n → k < n → r ≢ b → line pairs e (pairs.place (adding e a b) p) r k ≡ line pairs e p r k
others n Output a b p ha hb ne v r k hr hk rb = row_other (record { control = a; target = b }) p.matrix r k rb
others n Input a b p ha hb ne v r k hr hk rb = column_other (record { control = b; target = a }) p.matrix k r (omega (arith, v.square.size)) rb

abbrev pub laws : (n : ℕ) → n ≤ 64 → Lawful pairs n
laws n few = record {
  lines = few;
  Good = Inverses n;
  stays = stays n few;
  sums = sums n;
  others = others n;
  column = column n;
  settled = settled n;
  free = free n;
}
