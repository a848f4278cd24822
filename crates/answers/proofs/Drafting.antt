-- One answer more in a draft.
use Rattle.std.proofs.Common.{◌≡◌, ℕ, suc, ◌+◌, ◌-◌, ◌*◌, ◌^◌, ◌<◌, ◌≤◌, List, [], ◌∷◌, ◌++◌, map, length, take, set, sym, refl, ap, ◌∙◌, ⊎_elim, append_assoc, add-zero, arith, length-append, length-set}
use Rattle.std.proofs.lemmas.List.{append-nil, set_past, take_all, take-append-le, take_more_set, length_push, map_push}
use Rattle.std.proofs.lemmas.Bool.{cases_lt}
use Rattle.sheet.specs.Render.{lines_text}
use Rattle.sheet.proofs.ValidBack.{lines_append}
use Rattle.answers.specs.declared.draft.Draft.{Draft}
use Rattle.answers.specs.declared.head.AnswerKind.{AnswerKind}
use Rattle.answers.specs.Answers.{Answer, body, head, bodies}
use Rattle.answers.specs.Drafts.{Drafts, Is}
use Rattle.answers.specs.Laid.{laid, Puts}
use Rattle.answers.specs.declared.pen.Pen.{Pen}
use Rattle.answers.specs.Pens.{Writes}
use Rattle.answers.proofs.Pens.{puts_of}

-- a buffer of `room` bytes that begins with a text, as far as there is room, and one byte more
kept_one : (room : ℕ) (old : List ℕ) (at b : ℕ) (text : List ℕ) → length old ≡ room → length text ≡ at → take at old ≡ take room text → take (at + 1) (set old at b) ≡ take room (text ++ b ∷ [])
kept_one room old at b text lo lt e =
    ⊎_elim
    (λ l. take_more_set old at b (omega arith) ∙ ap (λ z. z ++ b ∷ []) (e ∙ take_all room text (omega arith)) ∙ sym (take_all room (text ++ b ∷ []) (omega (arith, length_push text b))))
    (λ l. ap (take (at + 1)) (set_past old at b (omega arith)) ∙ take_all (at + 1) old (omega arith) ∙ sym (take_all at old (omega arith)) ∙ e ∙ sym (take-append-le room text (b ∷ []) (omega arith)))
    (cases_lt at room)

-- bytes that are laid after a text
pub laid_kept : (room : ℕ) (old : List ℕ) (at : ℕ) (text bs : List ℕ) → length old ≡ room → length text ≡ at → take at old ≡ take room text → take (at + length bs) (laid old at bs) ≡ take room (text ++ bs)
laid_kept room old at text [] lo lt e = ap (λ k. take k old) (add-zero at) ∙ e ∙ ap (take room) (sym (append-nil text))
laid_kept room old at text (b ∷ bs) lo lt e =
    let one : at + suc (length bs) ≡ at + 1 + length bs = omega arith in
    ap (λ k. take k (laid (set old at b) (at + 1) bs)) one
    ∙ laid_kept room (set old at b) (at + 1) (text ++ b ∷ []) bs (length-set old at b ∙ lo) (length_push text b ∙ ap (λ k. k + 1) lt) (kept_one room old at b text lo lt e)
    ∙ ap (take room) (append_assoc text (b ∷ []) bs)

bodies_append : (xs ys : List Answer) → bodies (xs ++ ys) ≡ bodies xs ++ bodies ys
bodies_append [] ys = refl
bodies_append (x ∷ xs) ys = ap (λ z. body x ++ z) (bodies_append xs ys) ∙ sym (append_assoc (body x) (bodies xs) (bodies ys))

pub bodies_push : (xs : List Answer) (a : Answer) → lines_text (bodies (xs ++ a ∷ [])) ≡ lines_text (bodies xs) ++ lines_text (body a)
bodies_push xs a = ap lines_text (bodies_append xs (a ∷ [])) ∙ lines_append (bodies xs) (body a ++ []) ∙ ap (λ z. lines_text (bodies xs) ++ lines_text z) (append-nil (body a))

-- lines of fewer than 256 bytes
lines_long : {A : Type 0} (f : A → List ℕ) → ((x : A) → length (f x) < 256) → (xs : List A) → length (lines_text (map f xs)) ≤ length xs * 256
lines_long f short [] = omega arith
lines_long f short (x ∷ xs) = omega (arith, short x, lines_long f short xs, length-append (f x ++ 10 ∷ []) (lines_text (map f xs)), length-append (f x) (10 ∷ []))

module _ {A : Type 0} (f : A → List ℕ) (short : (x : A) → length (f x) < 256) (xs : List A) (few : length xs < 2 ^ 32) (p q : Pen) (writes : Writes p (lines_text (map f xs)) q) (counted : p.at ≤ 2 ^ 48) where
  pub lines_laid : Puts p.out.now p.at (lines_text (map f xs)) q.at q.out.now
  lines_laid = puts_of p q _ _ writes (omega (arith, lines_long f short xs)) refl

  pub lines_more : (p.at ≤ q.at) × (q.at ≤ p.at + 2 ^ 40)
  lines_more = (omega (arith, lines_laid.place), omega (arith, lines_laid.place, lines_long f short xs))

-- what is told of an answer
head_is : (a : Answer) (k : AnswerKind) (n : ℕ) (ls : List (List ℕ)) (m z : ℕ) → Is a k n ls → m ≡ length ls → z ≡ length (lines_text ls) → record { kind = k; lines = n; count = m; size = z } ≡ head a
head_is a k n ls m z is em ez =
    let count = em ∙ ap length (sym is.body) in
    let size = ez ∙ ap (λ b. length (lines_text b)) (sym is.body) in
    λ j. record { kind = sym is.kind j; lines = sym is.lines j; count = count j; size = size j }

module _ (old new : Draft) (xs : List Answer) (d : Drafts old xs) (a : Answer) (k : AnswerKind) (n : ℕ) (ls : List (List ℕ)) (is : Is a k n ls) (m : ℕ) (em : m ≡ length ls)
    (laid-after : Puts old.bodies old.size (lines_text ls) new.size new.bodies)
    (heads-are : new.heads.items ≡ old.heads.items ++ record { kind = k; lines = n; count = m; size = new.size - old.size } ∷ []) where
  grown : new.size - old.size ≡ length (lines_text ls)
  grown = omega (arith, laid-after.place)

  pub drafts_more : Drafts new (xs ++ a ∷ [])
  drafts_more =
      record {
        heads = heads-are ∙ (λ j. d.heads j ++ head_is a k n ls m (new.size - old.size) is em grown j ∷ []) ∙ sym (map_push head xs a);
        size = omega (arith, laid-after.place, d.size, length-append (lines_text (bodies xs)) (lines_text (body a)), ap length (bodies_push xs a), ap (λ b. length (lines_text b)) is.body);
        bytes =
            (λ j. take (laid-after.place j) (laid-after.bytes j))
            ∙ laid_kept 65536 old.bodies old.size (lines_text (bodies xs)) (lines_text ls) old.room (sym d.size) d.bytes
            ∙ ap (λ z. take 65536 (lines_text (bodies xs) ++ lines_text z)) (sym is.body) ∙ ap (take 65536) (sym (bodies_push xs a));
      }
