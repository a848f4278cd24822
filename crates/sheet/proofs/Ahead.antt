-- How the numbers of a line are read one by one.
use Rattle.std.proofs.Common.{◌≡◌, ℕ, ◌<◌, Bool, true, false, not, List, [], ◌∷◌, ◌++◌, length, Some, None, Option, refl, sym, ap, ◌∙◌, append-nil, arith, length-append}
use Rattle.std.specs.Bool.{then_some}
use Rattle.std.specs.Borrow.{Bor}
use Rattle.std.specs.Option.{is_some}
use Rattle.std.proofs.lemmas.Bool.{cond-true, cond-false, eq-eqb, ne_eqb, false≢true}
use Rattle.sheet.specs.Form.{both, numbers, rest_numbers, just}
use Rattle.sheet.proofs.Lines.{numbers_not_nil}

-- numbers that are read, before those that follow
abbrev pub ahead : List ℕ → Option (List ℕ) → Option (List ℕ)
ahead [] o = o
ahead (x ∷ xs) o = both (Some x) (ahead xs o)

pub ahead_more : (xs : List ℕ) (x : ℕ) (o : Option (List ℕ)) → ahead xs (both (Some x) o) ≡ ahead (xs ++ x ∷ []) o
ahead_more [] x o = refl
ahead_more (y ∷ xs) x o = ap (both (Some y)) (ahead_more xs x o)

ahead_none : (xs : List ℕ) → ahead xs None ≡ None
ahead_none [] = refl
ahead_none (x ∷ xs) = ap (both (Some x)) (ahead_none xs)

ahead_some : (xs ys : List ℕ) → ahead xs (Some ys) ≡ Some (xs ++ ys)
ahead_some [] ys = refl
ahead_some (x ∷ xs) ys = ap (both (Some x)) (ahead_some xs ys)

-- what is no number is no line of numbers
pub just_unread : (n : ℕ) (xs : List ℕ) → just n (ahead xs None) ≡ None
just_unread n xs = ap (just n) (ahead_none xs)

-- all are read, at the end of the line
just_all : (n : ℕ) (xs : List ℕ) → length xs ≡ n → just n (ahead xs (Some [])) ≡ Some xs
just_all n xs e = ap (just n) (ahead_some xs [] ∙ ap Some (append-nil xs)) ∙ cond-true _ _ _ (eq-eqb (length xs) n e)

-- the line ends too early
pub just_short : (n : ℕ) (xs : List ℕ) → length xs < n → just n (ahead xs (Some [])) ≡ None
just_short n xs l = ap (just n) (ahead_some xs [] ∙ ap Some (append-nil xs)) ∙ cond-false _ _ _ (ne_eqb (length xs) n (λ e. omega arith))

-- the line goes on
just_over : (n : ℕ) (xs : List ℕ) (o : Option (List ℕ)) → length xs ≡ n → (o ≡ Some [] → ⊥) → just n (ahead xs o) ≡ None
just_over n xs None e h = just_unread n xs
just_over n xs (Some []) e h = absurd (h refl)
just_over n xs (Some (y ∷ ys)) e h = ap (just n) (ahead_some xs (y ∷ ys)) ∙ cond-false _ _ _ (ne_eqb (length (xs ++ y ∷ ys)) n (λ z. omega (arith, z, length-append xs (y ∷ ys))))

pub just_end : (n : ℕ) (xs : List ℕ) (rest : Option (Bor (List ℕ))) (ended : Bool) → length xs ≡ n → is_some rest ≡ not ended → then_some ended xs ≡ just n (ahead xs (rest_numbers rest))
just_end n xs None true e h = sym (just_all n xs e)
just_end n xs None false e h = absurd (false≢true h)
just_end n xs (Some r) true e h = absurd (false≢true (sym h))
just_end n xs (Some r) false e h = sym (just_over n xs (numbers r.now) e (numbers_not_nil r.now))
