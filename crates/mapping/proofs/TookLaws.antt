-- Gates put into a table and into the book, one after the other.
use Rattle.std.proofs.Common.{◌≡◌, ℕ, zero, suc, ◌+◌, ◌-◌, ◌<◌, ◌≤◌, Bool, true, false, cond, List, [], ◌∷◌, ◌++◌, map, length, sym, refl, ap, ◌∙◌, subst, ap₂, append-nil, add-zero, add-one, arith, length-append}
use mathlib.Core.List.{map-append}
use lib.ListN.{length-map}
use Rattle.words.specs.Words.{has}
use Rattle.words.specs.Maps.{Same}
use Rattle.gates.specs.Mcts.{mct}
use Rattle.gates.specs.declared.end.End.{End}
use Rattle.gates.specs.declared.mct.Mct.{Mct}
use Rattle.gates.specs.MctLaws.{mct_lawful}
use Rattle.books.specs.declared.Book.{Book}
use Rattle.books.specs.Ends.{held}
use Rattle.books.specs.Books.{ends, free}
use Rattle.books.proofs.KeptLaws.{kept_none, kept_more}
use Rattle.pieces.specs.Meanings.{all_moved}
use Rattle.pieces.specs.Jobs.{Alike, all_found, shown}
use Rattle.pieces.proofs.Finding.{alike_trans, found_map, found_append, held_found, all_found_alike}
use Rattle.mapping.specs.Took.{at_end, Took}
use Rattle.mapping.specs.Works.{SameLent}
use Rattle.mapping.specs.declared.work.Work.{Work}
use Rattle.mapping.specs.Mapping.{flips}
use Rattle.mapping.specs.Ones.{lines_from}
use Rattle.tables.specs.Tables.{table_meaning}
use Rattle.tables.specs.declared.table.Table.{Table}
use Rattle.mapping.proofs.GateLaws.{gate}

pub took_none : (t : Table) (b : Book Mct) → Took t b [] t b
took_none t b = record { same_lines = refl; found = record { map = λ x h. refl; ends = refl }; kept = kept_none b }

pub took_more : (ps qs : List (End × Mct)) (t : Table) (b : Book Mct) (t₁ : Table) (b₁ : Book Mct) (t₂ : Table) (b₂ : Book Mct)
    → Took t b ps t₁ b₁ → Took t₁ b₁ qs t₂ b₂ → Took t b (ps ++ qs) t₂ b₂
took_more ps qs t b t₁ b₁ t₂ b₂ p q =
    let n = t.lines in
    let before = shown (table_meaning t) b in
    let middle = shown (table_meaning t₁) b₁ in
    let after = shown (table_meaning t₂) b₂ in
    let last : Alike n after (all_found mct n qs middle) = subst (λ (k : ℕ). Alike k after (all_found mct k qs middle)) p.same_lines q.found in
    record {
      same_lines = q.same_lines ∙ p.same_lines;
      found = subst (Alike n after) (sym (found_append mct n ps qs before))
          (alike_trans n after (all_found mct n qs middle) (all_found mct n qs (all_found mct n ps before)) last
          (all_found_alike mct mct_lawful n qs middle (all_found mct n ps before) p.found));
      kept = kept_more p.kept q.kept;
    }

module _ (ps : List (End × Mct)) (t : Table) (b : Book Mct) (t' : Table) (b' : Book Mct) (took : Took t b ps t' b') where
  pub took_free : free b' ≡ free b - length ps
  took_free =
      let count : held (ends b') ≡ held (ends b) + length ps = ap held took.found.ends ∙ held_found mct t.lines ps (shown (table_meaning t) b) in
      ap₂ ◌-◌ took.kept.room count ∙ omega arith

  pub took_map : Same t.lines (table_meaning t').map (all_moved mct t.lines ps (table_meaning t).map)
  took_map x h = took.found.map x h ∙ ap (λ (f : ℕ → ℕ). f x) (found_map mct t.lines ps (shown (table_meaning t) b))

-- ---- a row of gates, a line at a time

cond_push : (b : Bool) (j : ℕ) (l r : List ℕ) → cond b (j ∷ (l ++ r)) (l ++ r) ≡ cond b (j ∷ l) l ++ r
cond_push true j l r = refl
cond_push false j l r = refl

-- the next line comes last
lines_last : (k i w : ℕ) → lines_from (suc k) i w ≡ lines_from k i w ++ cond (has w (i + k)) ((i + k) ∷ []) []
lines_last zero i w = ap (λ (j : ℕ). cond (has w j) (j ∷ []) []) (sym (add-zero i))
lines_last (suc k) i w =
    let last : i + 1 + k ≡ i + suc k = omega arith in
    ap (λ r. cond (has w i) (i ∷ r) r) (lines_last k (i + 1) w ∙ ap (λ (j : ℕ). lines_from k (i + 1) w ++ cond (has w j) (j ∷ []) []) last)
    ∙ cond_push (has w i) i (lines_from k (i + 1) w) (cond (has w (i + suc k)) ((i + suc k) ∷ []) [])

lines_more : (k w : ℕ) → lines_from (k + 1) 0 w ≡ lines_from k 0 w ++ cond (has w k) (k ∷ []) []
lines_more k w =
    let first : 0 + k ≡ k = omega arith in
    ap (λ (m : ℕ). lines_from m 0 w) (add-one k) ∙ lines_last k 0 w ∙ ap (λ (j : ℕ). lines_from k 0 w ++ cond (has w j) (j ∷ []) []) first

-- the gates of the lines below k
abbrev pub so_far : End → (c w k : ℕ) → List (End × Mct)
so_far e c w k = at_end e (map (gate c) (lines_from k 0 w))

module _ (e : End) (c w k : ℕ) where
  line_taken : has w k ≡ true → so_far e c w (k + 1) ≡ so_far e c w k ++ ((e, gate c k) ∷ [])
  line_taken h =
      ap (λ ls. at_end e (map (gate c) ls)) (lines_more k w ∙ ap (λ b. lines_from k 0 w ++ cond b (k ∷ []) []) h)
      ∙ ap (at_end e) (map-append (gate c) (lines_from k 0 w) (k ∷ []))
      ∙ map-append (λ g. (e, g)) (map (gate c) (lines_from k 0 w)) (gate c k ∷ [])

  line_left : has w k ≡ false → so_far e c w (k + 1) ≡ so_far e c w k
  line_left h =
      ap (λ ls. at_end e (map (gate c) ls))
      (lines_more k w ∙ ap (λ b. lines_from k 0 w ++ cond b (k ∷ []) []) h ∙ append-nil (lines_from k 0 w))

  module _ (t : Table) (b : Book Mct) (t₁ : Table) (b₁ : Book Mct) (so : Took t b (so_far e c w k) t₁ b₁) where
    pub took_line : (t₂ : Table) (b₂ : Book Mct) → has w k ≡ true → Took t₁ b₁ ((e, gate c k) ∷ []) t₂ b₂ → Took t b (so_far e c w (k + 1)) t₂ b₂
    took_line t₂ b₂ h q =
        subst (λ ps. Took t b ps t₂ b₂) (sym (line_taken h)) (took_more (so_far e c w k) ((e, gate c k) ∷ []) t b t₁ b₁ t₂ b₂ so q)

    pub took_no_line : has w k ≡ false → Took t b (so_far e c w (k + 1)) t₁ b₁
    took_no_line h = subst (λ ps. Took t b ps t₁ b₁) (sym (line_left h)) so

-- the gates of the lines so far are no more than all
lines_grow : (k t w : ℕ) → length (lines_from k 0 w) ≤ length (lines_from (k + t) 0 w)
lines_grow k zero w = let z : k ≡ k + 0 = omega arith in subst (λ (m : ℕ). length (lines_from k 0 w) ≤ length (lines_from m 0 w)) z (omega arith)
lines_grow k (suc t) w =
    let z : k + t + 1 ≡ k + suc t = omega arith in
    let step = ap length (lines_more (k + t) w) ∙ length-append (lines_from (k + t) 0 w) (cond (has w (k + t)) ((k + t) ∷ []) []) in
    subst (λ (m : ℕ). length (lines_from k 0 w) ≤ length (lines_from m 0 w)) z (omega (arith, lines_grow k t w, step))

so_far_length : (e : End) (c w k : ℕ) → length (so_far e c w k) ≡ length (lines_from k 0 w)
so_far_length e c w k = length-map (map (gate c) (lines_from k 0 w)) (λ g. (e, g)) ∙ length-map (lines_from k 0 w) (gate c)

-- room for all gates of the row leaves room for the next
pub line_room : (e : End) (c w k : ℕ) → k < 8 → has w k ≡ true → length (so_far e c w k) < length (flips c w)
line_room e c w k h b =
    let t = 8 - (k + 1) in
    let z : k + 1 + t ≡ 8 = omega arith in
    let grow : length (lines_from (k + 1) 0 w) ≤ length (lines_from 8 0 w) =
    subst (λ (m : ℕ). length (lines_from (k + 1) 0 w) ≤ length (lines_from m 0 w)) z (lines_grow (k + 1) t w) in
    let one : length (so_far e c w (k + 1)) ≡ length (so_far e c w k) + 1 = ap length (line_taken e c w k b) ∙ length-append (so_far e c w k) ((e, gate c k) ∷ []) in
    let all : length (flips c w) ≡ length (lines_from 8 0 w) = length-map (lines_from 8 0 w) (gate c) in
    omega (arith, so_far_length e c w (k + 1))

pub at_end_length : (e : End) (gs : List Mct) → length (at_end e gs) ≡ length gs
at_end_length e gs = length-map gs (λ g. (e, g))

-- ---- the same of what a run works on

pub same_lent : (w : Work) → SameLent w w
same_lent w = record { table = refl; book = refl }

pub lent_more : (w w' w₂ : Work) → SameLent w w' → SameLent w' w₂ → SameLent w w₂
lent_more w w' w₂ p q = record { table = q.table ∙ p.table; book = q.book ∙ p.book }
