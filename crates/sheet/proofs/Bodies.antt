-- How the lines of a body are read one by one.
use Rattle.std.proofs.Common.{◌≡◌, ℕ, suc, ◌+◌, ◌-◌, ◌<◌, ◌≤◌, List, [], ◌∷◌, ◌++◌, Ok, Err, Result, sym, refl, ap, ◌∙◌, append_assoc, append-nil, add-one, arith}
use Rattle.sheet.specs.declared.fault.Fault.{Fault}
use Rattle.sheet.specs.declared.fault.Layer.{Layer}
use Rattle.sheet.specs.declared.fault.Layer.TheVariants.{Body}
use Rattle.gates.specs.declared.refusal.Refusal.{Refusal}
use Rattle.sheet.specs.declared.contents.Kind.{Kind}
use Rattle.sheet.specs.declared.entry.Entry.{Entry}
use Rattle.sheet.specs.Fault.{and_then, placed, line_by}
use Rattle.sheet.specs.Text.{pieces}
use Rattle.sheet.specs.Body.{body_line, body_lines}
use Rattle.sheet.proofs.Lines.{pieces_cons}

abbrev pub Reading : Type 0 → Type 0
Reading A = Result (List A × List (List ℕ)) Fault

-- a reading after those that are done
abbrev pub after : {A : Type 0} → List A → Reading A → Reading A
after done r = and_then r (λ y. Ok (done ++ y.0, y.1))

abbrev pub before : {A : Type 0} → A → Reading A → Reading A
before a r = and_then r (λ y. Ok (a ∷ y.0, y.1))

pub after_none : {A : Type 0} (r : Reading A) → r ≡ after [] r
after_none (Ok y) = refl
after_none (Err e) = refl

pub after_before : {A : Type 0} (done : List A) (a : A) (r : Reading A) → after done (before a r) ≡ after (done ++ a ∷ []) r
after_before done a (Ok y) = ap (λ l. Ok (l, y.1)) (sym (append_assoc done (a ∷ []) y.0))
after_before done a (Err e) = refl

module _ {A : Type 0} (layer : Layer) (i : ℕ) (f : List ℕ → Result A Refusal) (s : List ℕ) where
  -- an ended line
  pub line_reads : (l rest : List ℕ) → pieces 10 s ≡ l ∷ pieces 10 rest → line_by layer i f (pieces 10 s) ≡ and_then (placed layer i (f l)) (λ a. Ok (a, pieces 10 rest))
  line_reads l rest e =
      let q = pieces_cons 10 rest in
      ap (line_by layer i f) (e ∙ ap (λ z. l ∷ z) q.2) ∙ ap (λ z. and_then (placed layer i (f l)) (λ a. Ok (a, z))) (sym q.2)

  -- one that its reader takes, and one that it refuses
  pub line_ok : (l rest : List ℕ) (a : A) → pieces 10 s ≡ l ∷ pieces 10 rest → placed layer i (f l) ≡ Ok a → line_by layer i f (pieces 10 s) ≡ Ok (a, pieces 10 rest)
  line_ok l rest a e r = line_reads l rest e ∙ ap (λ z. and_then z (λ b. Ok (b, pieces 10 rest))) r

  pub line_err : (l rest : List ℕ) (x : Fault) → pieces 10 s ≡ l ∷ pieces 10 rest → placed layer i (f l) ≡ Err x → line_by layer i f (pieces 10 s) ≡ Err x
  line_err l rest x e r = line_reads l rest e ∙ ap (λ z. and_then z (λ b. Ok (b, pieces 10 rest))) r

count_down : (i end : ℕ) → i < end → end - i ≡ suc (end - (i + 1))
count_down i end l = omega arith

module _ (k : Kind) (n first : ℕ) where
  goes : (m at : ℕ) → Result (Entry × List (List ℕ)) Fault → Reading Entry
  goes m at z = and_then z (λ x. before x.0 (body_lines k n first (suc at) m x.1))

  -- `total` is a body, of which the lines from `at` to `count` are left, in the pieces ps
  module _ (total : Reading Entry) (done : List Entry) (at count : ℕ) (ps : List (List ℕ)) (so_far : total ≡ after done (body_lines k n first at (count - at) ps)) where
    module _ (left : at < count) where
      next : total ≡ after done (goes (count - (at + 1)) at (line_by Body (first + at) (body_line k n at) ps))
      unfolding goes
      next = so_far ∙ ap (λ m. after done (body_lines k n first at m ps)) (count_down at count left)

      -- one entry more
      pub body_more : (a : Entry) (qs : List (List ℕ)) → line_by Body (first + at) (body_line k n at) ps ≡ Ok (a, qs) → total ≡ after (done ++ a ∷ []) (body_lines k n first (at + 1) (count - (at + 1)) qs)
      unfolding goes
      body_more a qs e =
          next ∙ ap (λ z. after done (goes (count - (at + 1)) at z)) e ∙ after_before done a (body_lines k n first (suc at) (count - (at + 1)) qs)
          ∙ ap (λ m. after (done ++ a ∷ []) (body_lines k n first m (count - (at + 1)) qs)) (sym (add-one at))

      -- a fault
      pub body_stop : (f : Fault) → line_by Body (first + at) (body_line k n at) ps ≡ Err f → total ≡ Err f
      unfolding goes
      body_stop f e = next ∙ ap (λ z. after done (goes (count - (at + 1)) at z)) e

    -- all lines are read
    pub body_end : count ≤ at → total ≡ Ok (done, ps)
    body_end l =
        let none : count - at ≡ 0 = omega arith in
        so_far ∙ ap (λ m. after done (body_lines k n first at m ps)) none ∙ ap (λ z. Ok (z, ps)) (append-nil done)
