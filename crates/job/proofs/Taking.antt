-- Taking back every gate of an end.
use Rattle.std.proofs.Common.{◌≡◌, ℕ, ◌<◌, List, [], ◌∷◌, length, Some, None, sym, refl, ap, ◌∙◌, subst, arith}
use Rattle.std.proofs.lemmas.List.{length_push}
use Rattle.words.specs.Maps.{Same}
use Rattle.gates.specs.declared.end.End.{End}
use Rattle.gates.specs.declared.end.End.TheVariants.{Input, Output}
use Rattle.gates.specs.Gates.{Kind, Lawful}
use Rattle.books.specs.declared.Book.{Book}
use Rattle.books.specs.Ends.{Ends, emptied, found, strike, last, front}
use Rattle.books.specs.Books.{ends, Kept}
use Rattle.books.proofs.EndLaws.{ends_same, last_split}
use Rattle.books.proofs.KeptLaws.{kept_none, kept_more}
use Rattle.pieces.specs.Meanings.{Meaning, moved, Moved}
use Rattle.pieces.specs.Jobs.{whole, shown}
use Rattle.job.specs.Paper.{taken}
use Rattle.job.specs.WholeLaws.{alike_whole, taken_whole}

module _ {G : Type 0} where
  last_none : (xs : List G) → None ≡ last xs → xs ≡ []
  last_none [] h = refl
  last_none (x ∷ []) h = cc
  last_none (x ∷ (y ∷ ys)) h = let z = last_none (y ∷ ys) h in cc

  emptied_none : (e : End) (es : Ends G) → None ≡ last (found e es) → es ≡ emptied e es
  emptied_none Input es h = ends_same es (emptied Input es) (last_none es.ins h) refl
  emptied_none Output es h = ends_same es (emptied Output es) refl (last_none es.outs h)

  emptied_strike : (e : End) (es : Ends G) → emptied e (strike e es) ≡ emptied e es
  emptied_strike Input es = refl
  emptied_strike Output es = refl

  front_less : (xs : List G) (g : G) → Some g ≡ last xs → length (front xs) < length xs
  front_less xs g h = omega (arith, ap length (last_split xs g (sym h)), length_push (front xs) g)

  pub strike_less : (e : End) (es es' : Ends G) (g : G) → Some g ≡ last (found e es) → es' ≡ strike e es → length (found e es') < length (found e es)
  strike_less Input es es' g h s = subst (λ t. length t.ins < length es.ins) (sym s) (front_less es.ins g h)
  strike_less Output es es' g h s = subst (λ t. length t.outs < length es.outs) (sym s) (front_less es.outs g h)

-- how far the gates of an end have been taken back
pub record TakenBack {G : Type 0} (K : Kind G) (e : End) (m : Meaning) (b : Book G) (m' : Meaning) (b' : Book G) : Type 0 where
  pub same_lines : m'.lines ≡ m.lines
  pub rest : emptied e (ends b') ≡ emptied e (ends b)
  pub sent : Same m.lines (whole K m.lines (shown m' b')) (whole K m.lines (shown m b))
  pub same_places : Kept b b'

module _ {G : Type 0} (K : Kind G) (e : End) (m : Meaning) (b : Book G) where
  pub none_taken : TakenBack K e m b m b
  none_taken = record { same_lines = refl; rest = refl; sent = λ x h. refl; same_places = kept_none b }

  module _ (m₁ : Meaning) (b₁ : Book G) (so_far : TakenBack K e m b m₁ b₁) where
    pub one_taken : Lawful K → (g : G) (m₂ : Meaning) (b₂ : Book G) → Some g ≡ last (found e (ends b₁)) → ends b₂ ≡ strike e (ends b₁) → Kept b₁ b₂ →
        Moved K e g m₁ m₂ → TakenBack K e m b m₂ b₂
    one_taken law g m₂ b₂ gate struck kept moves =
        let n = m.lines in
        let map : Same n m₂.map (moved K n e g m₁.map) = subst (λ (k : ℕ). Same k m₂.map (moved K k e g m₁.map)) so_far.same_lines moves.map in
        record {
          same_lines = moves.same_lines ∙ so_far.same_lines;
          rest = ap (emptied e) struck ∙ emptied_strike e (ends b₁) ∙ so_far.rest;
          sent = λ x h.
              alike_whole K n law (shown m₂ b₂) (taken K n e (Some g) (shown m₁ b₁)) (record { map = map; ends = struck }) x h
              ∙ taken_whole K n e g (shown m₁ b₁) x gate ∙ so_far.sent x h;
          same_places = kept_more so_far.same_places kept;
        }

    pub all_taken : None ≡ last (found e (ends b₁)) → ends b₁ ≡ emptied e (ends b)
    all_taken none = emptied_none e (ends b₁) none ∙ so_far.rest
