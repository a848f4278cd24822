-- What the parts of a sheet make together.
use Rattle.std.proofs.Common.{◌≡◌, ℕ, ◌+◌, ◌-◌, ◌≤◌, true, List, ◌∷◌, ◌++◌, length, drop, Ok, Err, decimal, Result, sym, refl, ap, ◌∙◌, arith, length-append}
use lib.ListN.{length-map}
use Rattle.std.proofs.lemmas.Bool.{cond-true}
use Rattle.std.proofs.lemmas.List.{drop_at}
use Rattle.sheet.specs.declared.fault.Fault.{Fault}
use Rattle.sheet.specs.declared.fault.Layer.TheVariants as layer
use Rattle.gates.specs.declared.refusal.Refusal.TheVariants.{WrongForm}
use Rattle.sheet.specs.declared.contents.Contents.{Contents}
use Rattle.sheet.specs.declared.item.Item.{Item}
use Rattle.sheet.specs.Text.{pieces}
use Rattle.sheet.specs.Fault.{fault, and_then, line_by}
use Rattle.sheet.specs.Form.{head}
use Rattle.sheet.specs.Sheet.{Held, contents_lines, bodies, right_length, sheet_lines}
use Rattle.sheet.specs.Render.{lines_text, contents_texts}
use Rattle.sheet.specs.Parts.{parts_from, parts, sheet_parts}
use Rattle.sheet.proofs.Accepted.{line_back, head_back}
use Rattle.sheet.proofs.Whole.{contents_lines_back, bodies_back}
use Rattle.sheet.proofs.Sound.{contents_lines_sound}
use Rattle.sheet.proofs.Places.{text_split}

then_same : {A B E : Type 0} (r : Result A E) (f g : A → Result B E) → ((a : A) → r ≡ Ok a → f a ≡ g a) → and_then r f ≡ and_then r g
then_same (Ok a) f g h = h a refl
then_same (Err e) f g h = refl

after_head : Result (ℕ × List (List ℕ)) Fault → Result (List Item) Fault
after_head z = and_then (and_then z (λ k. and_then (contents_lines k.0 2 (k.0 + 2) k.1) (λ cs. bodies cs.0 (k.0 + 2) cs.1))) (λ hs. Ok (parts hs))

after_contents : ℕ → Result (List Contents × List (List ℕ)) Fault → Result (List Item) Fault
after_contents k z = and_then (and_then z (λ cs. bodies cs.0 (k + 2) cs.1)) (λ hs. Ok (parts hs))

module _ (s : List ℕ) (right : right_length s ≡ true) where
  opened : sheet_parts s ≡ after_head (line_by layer.Contents 1 head (pieces 10 s))
  unfolding after_head
  opened = ap (λ r. and_then r (λ hs. Ok (parts hs))) (cond-true _ (sheet_lines (pieces 10 s)) (Err (fault WrongForm 1 layer.Contents)) right)

  module _ (k : ℕ) (rest : List ℕ) (e : line_by layer.Contents 1 head (pieces 10 s) ≡ Ok (k, pieces 10 rest)) where
    listed : sheet_parts s ≡ after_contents k (contents_lines k 2 (k + 2) (pieces 10 rest))
    unfolding after_head after_contents
    listed = opened ∙ ap after_head e

    module _ (cs : List Contents) (tail : List ℕ) (p : contents_lines k 2 (k + 2) (pieces 10 rest) ≡ Ok (cs, pieces 10 tail)) where
      heading : List ℕ
      heading = lines_text (decimal k ∷ contents_texts (k + 2) cs)

      whole : s ≡ heading ++ tail
      unfolding heading
      whole =
          let b = line_back layer.Contents 1 head (pieces 10 s) k (pieces 10 rest) e in
          text_split s tail (decimal k ∷ contents_texts (k + 2) cs) (b.1 ∙ (λ j. head_back b.0 k b.2 j ∷ contents_lines_back k 2 (k + 2) (pieces 10 rest) cs (pieces 10 tail) p j))

      pub tail_short : length tail ≤ length s
      tail_short = omega (arith, ap length whole, length-append heading tail)

      pub sheet_placed : and_then (bodies cs (length cs + 2) (pieces 10 (drop (length s - length tail) s))) (λ hs. Ok (parts_from (length cs + 2) (length s - length tail) hs)) ≡ sheet_parts s
      unfolding heading after_contents
      sheet_placed =
          let sound = contents_lines_sound k 2 (k + 2) (pieces 10 rest) cs (pieces 10 tail) p in
          let from : length s - length tail ≡ length heading = omega (arith, ap length whole, length-append heading tail) in
          let left : drop (length heading) s ≡ tail = ap (drop (length heading)) whole ∙ drop_at heading tail (length heading) refl in
          let same : (hs : List Held) → bodies cs (k + 2) (pieces 10 tail) ≡ Ok hs → Ok (parts_from (k + 2) (length heading) hs) ≡ Ok (parts hs) =
          λ hs q.
          let r = bodies_back cs (k + 2) (pieces 10 tail) hs q in
          let long : k ≡ length hs = sym sound.0 ∙ ap length (sym r.1) ∙ length-map hs (λ h. h.0) in
          (λ j. Ok (parts_from (long j + 2) (length (lines_text (decimal (long j) ∷ contents_texts (long j + 2) (sym r.1 j)))) hs)) in
          (λ j. and_then (bodies cs (sound.0 j + 2) (pieces 10 (drop (from j) s))) (λ hs. Ok (parts_from (sound.0 j + 2) (from j) hs)))
          ∙ ap (λ z. and_then (bodies cs (k + 2) (pieces 10 z)) (λ hs. Ok (parts_from (k + 2) (length heading) hs))) left
          ∙ then_same (bodies cs (k + 2) (pieces 10 tail)) (λ hs. Ok (parts_from (k + 2) (length heading) hs)) (λ hs. Ok (parts hs)) same
          ∙ sym (listed ∙ ap (after_contents k) p)
