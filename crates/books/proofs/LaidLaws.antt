-- Gates laid from both sides of a list of places.
use Rattle.std.proofs.Common.{◌≡◌, ℕ, ◌+◌, ◌-◌, ◌<◌, ◌≤◌, List, [], ◌∷◌, ◌++◌, reverse, length, get_or, take, drop, set, Some, None, sym, refl, ap, ◌∙◌, arith}
use mathlib.Core.List.{reverse-cons}
use Rattle.std.specs.List.{slice_get}
use Rattle.std.proofs.lemmas.List.{length-take-le, length-drop, length-set, length-append, length-reverse, reverse-reverse, take-set-le, drop-set-lt, take_more, take_more_set, drop_more, drop-set, take_all, drop_all, get_or-take, get_or-drop, get_or_append_left, get_or-append_right}
use Rattle.std.proofs.lemmas.Option.{slice_get-get_or, slice_get_past}
use Rattle.gates.specs.declared.end.End.TheVariants.{Input, Output}
use Rattle.books.specs.Ends.{empty, held, circuit, put, strike, last, front}
use Rattle.books.specs.Books.{laid}
use Rattle.books.proofs.EndLaws.{ends_same, last_push, front_push}

module _ {G : Type 0} (xs : List G) where
  pub laid_none : laid xs 0 0 ≡ empty
  laid_none = ends_same _ _ refl (ap reverse (drop_all (length xs - 0) xs (omega arith)))

  -- the slice of the places from n on, as the reverse of gates in the order found
  pub back_slice : (n : ℕ) → take (length xs - n) (drop n xs) ≡ reverse (reverse (drop n xs))
  back_slice n = take_all (length xs - n) (drop n xs) (omega (arith, length-drop n xs)) ∙ sym (reverse-reverse (drop n xs))

  -- i gates from the front, o gates from the back
  module _ (i o : ℕ) where
    -- ---- one gate more at an end

    pub laid_put_in : (g : G) → i + o < length xs → laid (set xs i g) (i + 1) o ≡ put Input g (laid xs i o)
    laid_put_in g h =
        let p : i < length xs = omega arith in
        let q : i < length xs - o = omega arith in
        ends_same _ _ (take_more_set xs i g p)
        (ap (λ n. reverse (drop (n - o) (set xs i g))) (length-set xs i g) ∙ ap reverse (drop-set-lt (length xs - o) xs i g q))

    pub laid_put_out : (g : G) → i + o < length xs → laid (set xs (length xs - o - 1) g) i (o + 1) ≡ put Output g (laid xs i o)
    laid_put_out g h =
        let at = length xs - o - 1 in
        let p : at < length xs = omega arith in
        let q : i ≤ at = omega arith in
        let r : length xs - (o + 1) ≡ at = omega arith in
        let s : at + 1 ≡ length xs - o = omega arith in
        ends_same _ _ (take-set-le i xs at g q)
        (ap (λ n. reverse (drop (n - (o + 1)) (set xs at g))) (length-set xs at g)
        ∙ ap (λ n. reverse (drop n (set xs at g))) r
        ∙ ap reverse (drop-set xs at g p)
        ∙ reverse-cons g (drop (at + 1) xs)
        ∙ ap (λ n. reverse (drop n xs) ++ g ∷ []) s)

    module _ (fits : i + o ≤ length xs) where
      -- ---- how many gates there are

      pub ins_length : length (laid xs i o).ins ≡ i
      ins_length = length-take-le i xs (omega arith)

      pub outs_length : length (laid xs i o).outs ≡ o
      outs_length = length-reverse (drop (length xs - o) xs) ∙ length-drop (length xs - o) xs ∙ omega arith

      pub held_laid : held (laid xs i o) ≡ i + o
      held_laid = omega (arith, ins_length, outs_length)

      pub circuit_length : length (circuit (laid xs i o)) ≡ i + o
      circuit_length = length-append (take i xs) (reverse (laid xs i o).outs) ∙ omega (arith, ins_length, outs_length, length-reverse (laid xs i o).outs)

      -- ---- the gate found last at an end, and the end without it

      ins_last : (d : G) → 0 < i → take i xs ≡ take (i - 1) xs ++ get_or xs (i - 1) d ∷ []
      ins_last d z =
          let p : i - 1 < length xs = omega arith in
          let q : i ≡ i - 1 + 1 = omega arith in
          ap (λ n. take n xs) q ∙ take_more xs (i - 1) d p

      outs_last : (d : G) → 0 < o → reverse (drop (length xs - o) xs) ≡ reverse (drop (length xs - (o - 1)) xs) ++ get_or xs (length xs - o) d ∷ []
      outs_last d z =
          let p : length xs - o < length xs = omega arith in
          let q : length xs - o + 1 ≡ length xs - (o - 1) = omega arith in
          ap reverse (drop_more xs (length xs - o) d p) ∙ reverse-cons (get_or xs (length xs - o) d) (drop (length xs - o + 1) xs)
          ∙ ap (λ n. reverse (drop n xs) ++ get_or xs (length xs - o) d ∷ []) q

      pub last_in : (d : G) → 0 < i → last (laid xs i o).ins ≡ Some (get_or xs (i - 1) d)
      last_in d z = ap last (ins_last d z) ∙ last_push (take (i - 1) xs) (get_or xs (i - 1) d)

      pub last_out : (d : G) → 0 < o → last (laid xs i o).outs ≡ Some (get_or xs (length xs - o) d)
      last_out d z = ap last (outs_last d z) ∙ last_push (reverse (drop (length xs - (o - 1)) xs)) (get_or xs (length xs - o) d)

      pub strike_in : (d : G) → 0 < i → laid xs (i - 1) o ≡ strike Input (laid xs i o)
      strike_in d z = ends_same _ _ (sym (ap front (ins_last d z) ∙ front_push (take (i - 1) xs) (get_or xs (i - 1) d))) refl

      pub strike_out : (d : G) → 0 < o → laid xs i (o - 1) ≡ strike Output (laid xs i o)
      strike_out d z = ends_same _ _ refl (sym (ap front (outs_last d z) ∙ front_push (reverse (drop (length xs - (o - 1)) xs)) (get_or xs (length xs - o) d)))

      -- ---- the gate at a position in circuit order

      circuit_laid : circuit (laid xs i o) ≡ take i xs ++ drop (length xs - o) xs
      circuit_laid = ap (λ l. take i xs ++ l) (reverse-reverse (drop (length xs - o) xs))

      pub nth_in : (k : ℕ) (d : G) → k < i → slice_get (circuit (laid xs i o)) k ≡ Some (get_or xs k d)
      nth_in k d p =
          let q : k < length (take i xs) = omega (arith, ins_length) in
          let r : k < length (circuit (laid xs i o)) = omega (arith, circuit_length) in
          slice_get-get_or (circuit (laid xs i o)) k d r
          ∙ ap Some (get_or_append_left (take i xs) (reverse (laid xs i o).outs) d k q ∙ get_or-take i xs k d p)

      pub nth_out : (k : ℕ) (d : G) → i ≤ k → k - i < o → slice_get (circuit (laid xs i o)) k ≡ Some (get_or xs (length xs - o + (k - i)) d)
      nth_out k d p q =
          let r : k < length (circuit (laid xs i o)) = omega (arith, circuit_length) in
          slice_get-get_or (circuit (laid xs i o)) k d r
          ∙ ap Some (ap (λ l. get_or l k d) circuit_laid
          ∙ get_or-append_right (take i xs) (drop (length xs - o) xs) i k d ins_length p
          ∙ get_or-drop (length xs - o) xs (k - i) d)

      pub nth_none : (k : ℕ) → i + o ≤ k → slice_get (circuit (laid xs i o)) k ≡ None
      nth_none k p = slice_get_past (circuit (laid xs i o)) k (omega (arith, circuit_length))
