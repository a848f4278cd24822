-- Bytes laid into a buffer.
use Rattle.std.proofs.Common.{◌≡◌, ℕ, suc, ◌+◌, ◌^◌, ◌<◌, ◌≤◌, List, [], ◌∷◌, ◌++◌, length, take, drop, set, decimal, sym, ap, ◌∙◌, append_assoc, add-zero, arith, length-append, length-set}
use Rattle.std.proofs.lemmas.Fmt.{length-decimal-le}
use Rattle.std.proofs.lemmas.List.{take_more_set, drop-set-lt, take-append-drop}
use Rattle.answers.specs.Laid.{laid, Puts}

pub laid_append : (out : List ℕ) (at : ℕ) (ps bs : List ℕ) → laid out at (ps ++ bs) ≡ laid (laid out at ps) (at + length ps) bs
laid_append out at [] bs = ap (λ k. laid out k bs) (sym (add-zero at))
laid_append out at (a ∷ ps) bs = let one : at + 1 + length ps ≡ at + suc (length ps) = omega arith in laid_append (set out at a) (at + 1) ps bs ∙ ap (λ k. laid (laid (set out at a) (at + 1) ps) k bs) one

pub puts_then : (old mid new : List ℕ) (at m e : ℕ) (ps bs : List ℕ) → Puts old at ps m mid → Puts mid m bs e new → Puts old at (ps ++ bs) e new
puts_then old mid new at m e ps bs p q =
    record {
      place = omega (arith, p.place, q.place, length-append ps bs);
      bytes = q.bytes ∙ (λ j. laid (p.bytes j) (p.place j) bs) ∙ sym (laid_append old at ps bs);
    }

pub decimal_short : (n : ℕ) → n < 2 ^ 64 → length (decimal n) ≤ 20
decimal_short n l = length-decimal-le 20 n (omega arith) (omega arith) l

-- bytes that fit stand in the buffer, and the rest is as it was
pub laid_fits : (out : List ℕ) (at : ℕ) (bs : List ℕ) → at + length bs ≤ length out → laid out at bs ≡ take at out ++ (bs ++ drop (at + length bs) out)
laid_fits out at [] l = sym (take-append-drop at out) ∙ ap (λ k. take at out ++ drop k out) (sym (add-zero at))
laid_fits out at (b ∷ bs) l =
    let same : at + 1 + length bs ≡ at + suc (length bs) = omega arith in
    let past : at < at + 1 + length bs = omega arith in
    laid_fits (set out at b) (at + 1) bs (omega (arith, length-set out at b))
    ∙ (λ j. take_more_set out at b (omega arith) j ++ (bs ++ drop-set-lt (at + 1 + length bs) out at b past j))
    ∙ append_assoc (take at out) (b ∷ []) (bs ++ drop (at + 1 + length bs) out)
    ∙ ap (λ k. take at out ++ (b ∷ (bs ++ drop k out))) same
