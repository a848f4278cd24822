-- What a body holds, from how its lines are read.
use Rattle.std.proofs.Common.{◌≡◌, ℕ, suc, ◌+◌, ◌≤◌, true, cond, List, [], ◌∷◌, ◌++◌, length, take, set, Ok, Err, Result, sym, refl, ap, ◌∙◌, subst, arith}
use Rattle.std.proofs.lemmas.Bool.{cond-true, cond-false, eq-eqb, ne_eqb}
use Rattle.gates.specs.declared.refusal.Refusal.TheVariants.{WrongForm, WrongContents}
use Rattle.sheet.specs.declared.fault.Fault.{Fault}
use Rattle.sheet.specs.declared.fault.Layer.TheVariants as layer
use Rattle.sheet.specs.declared.contents.Kind.{Kind}
use Rattle.sheet.specs.declared.entry.Entry.{Entry}
use Rattle.sheet.specs.Text.{pieces}
use Rattle.sheet.specs.Fault.{fault}
use Rattle.sheet.specs.Body.{body_lines, ended, alone, told, body_of, how_many, laid, laid_by, Filled}
use Rattle.sheet.proofs.Sheets.{ended_pieces}

module _ (k : Kind) (n count first : ℕ) (part : List ℕ) where
  module _ (t : told k n count first ≡ true) where
    pub held_lines : body_of k n count first part ≡ alone (first + count) (body_lines k n first 0 count (pieces 10 part))
    held_lines = cond-true _ (alone (first + count) (body_lines k n first 0 count (pieces 10 part))) (Err (fault WrongContents first layer.Body)) t

    pub held_stop : (f : Fault) → body_lines k n first 0 count (pieces 10 part) ≡ Err f → body_of k n count first part ≡ Err f
    held_stop f e = held_lines ∙ ap (alone (first + count)) e

    module _ (es : List Entry) (rest : List ℕ) (e : body_lines k n first 0 count (pieces 10 part) ≡ Ok (es, pieces 10 rest)) where
      at_end : body_of k n count first part ≡ cond (ended (pieces 10 rest)) (Ok es) (Err (fault WrongForm (first + count) layer.Body))
      at_end = held_lines ∙ ap (alone (first + count)) e

      pub held_all : length rest ≡ 0 → body_of k n count first part ≡ Ok es
      held_all none = at_end ∙ cond-true _ (Ok es) (Err (fault WrongForm (first + count) layer.Body)) (ended_pieces rest ∙ eq-eqb (length rest) 0 none)

      pub held_over : (length rest ≡ 0 → ⊥) → body_of k n count first part ≡ Err (fault WrongForm (first + count) layer.Body)
      held_over some = at_end ∙ cond-false _ (Ok es) (Err (fault WrongForm (first + count) layer.Body)) (ended_pieces rest ∙ ne_eqb (length rest) 0 some)

-- entries are laid one by one
pub laid_none : (places : List Entry) → places ≡ laid places []
laid_none [] = refl
laid_none (p ∷ ps) = refl

pub laid_more : (places es : List Entry) (e : Entry) → set (laid places es) (length es) e ≡ laid places (es ++ e ∷ [])
laid_more [] es e = refl
laid_more (p ∷ ps) [] e = ap (λ z. e ∷ z) (laid_none ps)
laid_more (p ∷ ps) (x ∷ es) e = ap (λ z. x ∷ z) (laid_more ps es e)

length_laid : (places es : List Entry) → length (laid places es) ≡ length places
length_laid [] es = refl
length_laid (p ∷ ps) [] = refl
length_laid (p ∷ ps) (e ∷ es) = ap suc (length_laid ps es)

-- entries that all have a place stand in the first places
laid_all : (places es : List Entry) → length es ≤ length places → es ≡ take (length es) (laid places es)
laid_all [] [] h = refl
laid_all [] (e ∷ es) h = absurd (omega arith)
laid_all (p ∷ ps) [] h = refl
laid_all (p ∷ ps) (e ∷ es) h = ap (λ z. e ∷ z) (laid_all ps es (omega arith))

pub filled : (r : Result ℕ Fault) (held : Result (List Entry) Fault) (places : List Entry) → r ≡ how_many held → Filled r held (laid_by held places)
filled r (Ok es) places p = subst (λ z. Filled z (Ok es) (laid places es)) (sym p) (λ h. ap Ok (laid_all places es (omega (arith, h, length_laid places es))))
filled r (Err e) places p = subst (λ z. Filled z (Err e) places) (sym p) refl
