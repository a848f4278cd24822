-- A book: how many gates it holds, and what one gate more or fewer makes of its ends.
use Rattle.std.proofs.Common.{◌≡◌, ℕ, ◌+◌, ◌-◌, ◌<◌, ◌≤◌, min, List, length, set, Some, sym, refl, ap, ◌∙◌, subst, ap₂, arith}
use lib.Seq.{take-set-lt}
use Rattle.std.proofs.lemmas.List.{length-take}
use Rattle.gates.specs.declared.end.End.{End}
use Rattle.gates.specs.declared.end.End.TheVariants.{Input, Output}
use Rattle.books.specs.Ends.{empty, found, circuit, put, strike, last}
use Rattle.books.specs.Books.{counted, laid, ends, places, free}
use Rattle.books.specs.Places.{tally, counts, more, fewer, Room, place, written, Pushed}
use Rattle.books.specs.declared.Book.{Book}
use Rattle.books.proofs.EndLaws.{last_within}
use Rattle.books.proofs.LaidLaws.{laid_none, laid_put_in, laid_put_out, ins_length, outs_length, held_laid, circuit_length, strike_in, strike_out}

module _ {G : Type 0} where
  counted_length : (xs : List G) → length (counted xs) ≡ min 16384 (length xs)
  counted_length xs = length-take 16384 xs

  -- a book with these places and counts
  ends_at : (b : Book G) (xs : List G) (n : ℕ × ℕ) → b.places.now ≡ xs → counts b ≡ n → ends b ≡ laid (counted xs) n.0 n.1
  ends_at b xs n = ap₂ (λ l (p : ℕ × ℕ). laid (counted l) p.0 p.1)

  pub ends_none : (b : Book G) → counts b ≡ (0, 0) → ends b ≡ empty
  ends_none b none = ends_at b b.places.now (0, 0) refl none ∙ laid_none (counted b.places.now)

  module _ (b : Book G) where
    fits_counted : b.inputs + b.outputs ≤ length (counted b.places.now)
    fits_counted = rw counted_length b.fits

    -- ---- how many gates there are

    pub tally_length : (e : End) → length (found e (ends b)) ≡ tally e b
    tally_length Input = ins_length (counted b.places.now) b.inputs b.outputs fits_counted
    tally_length Output = outs_length (counted b.places.now) b.inputs b.outputs fits_counted

    pub ins_count : (e : End) → e ≡ Input → length (found e (ends b)) ≡ b.inputs
    ins_count e is = ap (λ e. length (found e (ends b))) is ∙ tally_length Input

    pub outs_count : (e : End) → e ≡ Output → length (found e (ends b)) ≡ b.outputs
    outs_count e is = ap (λ e. length (found e (ends b))) is ∙ tally_length Output

    -- an end that has a last gate counts one
    pub tally_last : (e : End) (g : G) → last (found e (ends b)) ≡ Some g → 0 < tally e b
    tally_last e g is = subst (λ n. 0 < n) (tally_length e) (last_within (found e (ends b)) g is)

    pub free_is : free b ≡ places b - (b.inputs + b.outputs)
    free_is = ap (λ n. places b - n) (held_laid (counted b.places.now) b.inputs b.outputs fits_counted)

    pub circuit_fits : length (circuit (ends b)) ≤ 16384
    circuit_fits = omega (arith, circuit_length (counted b.places.now) b.inputs b.outputs fits_counted, counted_length b.places.now, fits_counted)

    pub room : 1 ≤ free b → Room b
    room h = omega (arith, free_is)

    -- ---- one gate more at an end

    put_laid : (e : End) (g : G) → Room b → laid (counted (set b.places.now (place e b) g)) (more e (counts b)).0 (more e (counts b)).1 ≡ put e g (ends b)
    put_laid Input g h =
        let at : b.inputs < 16384 = omega arith in
        let r : b.inputs + b.outputs < length (counted b.places.now) = rw counted_length h in
        ap (λ l. laid l (b.inputs + 1) b.outputs) (take-set-lt 16384 b.places.now b.inputs g at)
        ∙ laid_put_in (counted b.places.now) b.inputs b.outputs g r
    put_laid Output g h =
        let ys = b.places.now in
        let at : place Output b < 16384 = omega arith in
        let r : b.inputs + b.outputs < length (counted ys) = rw counted_length h in
        ap (λ l. laid l b.inputs (b.outputs + 1)) (take-set-lt 16384 ys (place Output b) g at)
        ∙ ap (λ n. laid (set (counted ys) (n - b.outputs - 1) g) b.inputs (b.outputs + 1)) (sym (counted_length ys))
        ∙ laid_put_out (counted ys) b.inputs b.outputs g r

    pub pushed : (e : End) (g : G) (b' : Book G) → Room b → b'.places ≡ written (place e b) g b.places → counts b' ≡ more e (counts b) → Pushed e g b b'
    pushed e g b' h wrote grew = record {
      ends = ends_at b' (set b.places.now (place e b) g) (more e (counts b)) (ap (λ r. r.now) wrote) grew ∙ put_laid e g h;
      places = wrote;
    }

    -- ---- one gate fewer at an end

    strike_laid : (e : End) (d : G) → 0 < tally e b → laid (counted b.places.now) (fewer e (counts b)).0 (fewer e (counts b)).1 ≡ strike e (ends b)
    strike_laid Input d h = strike_in (counted b.places.now) b.inputs b.outputs fits_counted d h
    strike_laid Output d h = strike_out (counted b.places.now) b.inputs b.outputs fits_counted d h

    pub struck : (e : End) (d : G) (b' : Book G) → 0 < tally e b → b'.places ≡ b.places → counts b' ≡ fewer e (counts b) → ends b' ≡ strike e (ends b)
    struck e d b' h same shrank = ends_at b' b.places.now (fewer e (counts b)) (ap (λ r. r.now) same) shrank ∙ strike_laid e d h

    -- the same where the last gate is known
    pub struck_last : (e : End) (g : G) (b' : Book G) → last (found e (ends b)) ≡ Some g → b'.places ≡ b.places → counts b' ≡ fewer e (counts b) → ends b' ≡ strike e (ends b)
    struck_last e g b' is same shrank = struck e g b' (tally_last e g is) same shrank
