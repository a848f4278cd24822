-- How the gates of a book are fed, and what was delivered.
use Rattle.std.proofs.Common.{◌≡◌, ℕ, ◌+◌, ◌^◌, ◌<◌, true, reverse, length, get_or, take, Some, None, sym, ap, ◌∙◌, subst, ⊎_elim, arith}
use Rattle.std.specs.List.{slice_get}
use Rattle.std.proofs.lemmas.List.{length-append, length-reverse}
use Rattle.std.proofs.lemmas.Option.{slice_get_within, get_or_from_slice_get, slice_get_cases}
use Rattle.words.specs.Maps.{Keeps, Identity}
use Rattle.gates.specs.Gates.{Kind, Lawful}
use Rattle.gates.specs.Circuits.{through}
use Rattle.gates.specs.CircuitLaws.{through_append, through_keeps}
use Rattle.books.specs.declared.Book.{Book}
use Rattle.books.specs.Ends.{Ends, empty, circuit, held, sound}
use Rattle.books.specs.Books.{ends, Kept}
use Rattle.books.proofs.Sound.{legal_circuit}
use Rattle.pieces.specs.Meanings.{Meaning}
use Rattle.pieces.specs.Jobs.{shown, whole}
use Rattle.takers.specs.Meanings.{Meaning as TakerMeaning, Fed, FedAll}
use Rattle.takers.proofs.Feeding.{next_legal, fed_more}
use Rattle.job.specs.Calls.{Delivered}

pub circuit_held : {G : Type 0} (es : Ends G) → length (circuit es) ≡ held es
circuit_held es = length-append es.ins (reverse es.outs) ∙ ap (λ (k : ℕ). length es.ins + k) (length-reverse es.outs)

-- a circuit is fed by position: the gates before this one are fed
module _ {G : Type 0} (K : Kind G) (m : TakerMeaning) (es : Ends G) (at : ℕ) (a : TakerMeaning) (before : FedAll K m (take at (circuit es)) a) where
  module _ (g : G) (here : Some g ≡ slice_get (circuit es) at) where
    within : at < length (circuit es)
    within = slice_get_within (circuit es) at g (sym here)

    read : g ≡ get_or (circuit es) at g
    read = sym (get_or_from_slice_get (circuit es) at g g (sym here))

    pub fed_legal : sound K m.lines es ≡ true → K.legal a.lines g ≡ true
    fed_legal legal = next_legal K m (circuit es) at g within read a before (legal_circuit K m.lines es ∙ legal)

    pub fed_next : (b : TakerMeaning) → Fed K a g b → FedAll K m (take (at + 1) (circuit es)) b
    fed_next b one = fed_more K m (circuit es) at g within read a before b one

-- below the number of gates there is one at each position
pub fed_past : {G : Type 0} (es : Ends G) (at : ℕ) → at < held es → None ≡ slice_get (circuit es) at → ⊥
fed_past es at h none =
    let k : at < length (circuit es) = omega (arith, circuit_held es) in
    ⊎_elim (λ p. cc) (λ p. omega (arith, p.0)) (slice_get_cases (circuit es) at).1

module _ {G : Type 0} (K : Kind G) (law : Lawful K) (m : Meaning) (b : Book G) (identity : Identity m.lines m.map) where
  -- the whole circuit around a piece at identity is that of the gates alone
  whole_circuit : (x : ℕ) → x < 2 ^ m.lines → through K m.lines (circuit (ends b)) x ≡ whole K m.lines (shown m b) x
  whole_circuit x h =
      let n = m.lines in
      through_append K n (ends b).ins (reverse (ends b).outs) x
      ∙ ap (through K n (reverse (ends b).outs)) (sym (identity (through K n (ends b).ins x) (through_keeps K law n (ends b).ins x h)))

  module _ (s s' : TakerMeaning) (same : m.lines ≡ s.lines) (keeps : Keeps m.lines s.map) (fed : FedAll K s (circuit (ends b)) s') where
    pub delivered : (b' : Book G) → ends b' ≡ empty → Kept b b' → Delivered K m b b' s s'
    delivered b' emptied kept = record {
      fed = fed;
      keeps = keeps;
      follows = λ w h.
          fed.follows w (subst (λ (k : ℕ). w < 2 ^ k) same h)
          ∙ ap (λ (k : ℕ). through K k (circuit (ends b)) (s.map w)) (sym same)
          ∙ whole_circuit (s.map w) (keeps w h);
      emptied = emptied;
      kept = kept;
    }
