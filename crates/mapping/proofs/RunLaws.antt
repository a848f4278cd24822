-- The rows of a run, one after the other.
use Rattle.std.proofs.Common.{◌≡◌, ℕ, ◌+◌, ◌-◌, ◌*◌, ◌^◌, ◌<◌, ◌≤◌, List, [], ◌∷◌, ◌++◌, length, get_or, sym, refl, ap, ◌∙◌, subst, append-nil, mul-le-mul_left, mul-suc, add-one, arith, length-append, get_or-take}
use Rattle.words.specs.Maps.{Same, Keeps, Apart, Identity}
use Rattle.gates.specs.Mcts.{mct}
use Rattle.gates.specs.declared.end.End.{End}
use Rattle.gates.specs.declared.end.End.TheVariants.{Input, Output}
use Rattle.gates.specs.declared.mct.Mct.{Mct}
use Rattle.books.specs.declared.Book.{Book}
use Rattle.books.specs.Books.{free}
use Rattle.pieces.specs.Meanings.{all_moved}
use Rattle.pieces.specs.Runs.{Ran}
use Rattle.tables.specs.Tables.{table_meaning}
use Rattle.tables.specs.declared.table.Table.{Table}
use Rattle.mapping.specs.Took.{at_end, Took}
use Rattle.mapping.specs.Mapping.{mapping}
use Rattle.mapping.specs.Rows.{total, choice, row, rows, table_plan}
use Rattle.mapping.proofs.LeastLaws.{Looking, look_zero, look_all}
use Rattle.mapping.proofs.MappingLaws.{weigh_length}
use Rattle.mapping.proofs.RowLaws.{Done, done_above, done_none, done_same, choice_is, choice_few, row_next, row_length, rows_more, last_fixed, run_brings, plan_local}
use Rattle.mapping.proofs.TookLaws.{took_none, took_more, took_free, took_map}

-- the images of a table
abbrev pub image : Table → ℕ → ℕ
image t = (table_meaning t).map

-- k rows of t are mapped, which gave t' and b'
pub record MappedRows (t : Table) (b : Book Mct) (k : ℕ) (t' : Table) (b' : Book Mct) : Type 0 where
  pub took : Took t b (rows t.lines k 0 (image t)) t' b'
  pub done : Done t.lines k (image t')
  pub few : length (rows t.lines k 0 (image t)) ≤ t.lines * k

-- what is read of them is the image of a word
pub image_is : (t : Table) (x : ℕ) → x < 2 ^ t.lines → image t x ≡ get_or t.images x 0
image_is t x h = get_or-take (2 ^ t.lines) t.images x 0 h

-- images are words
table_keeps : (t : Table) → Keeps t.lines (image t)
table_keeps t x h = subst (λ (y : ℕ). y < 2 ^ t.lines) (sym (get_or-take (2 ^ t.lines) t.images x 0 h)) (t.below x h)

-- before the first row
pub no_rows : (t : Table) (b : Book Mct) → Apart (2 ^ t.lines) (image t) → MappedRows t b 0 t b
unfolding rows
no_rows t b apart = record { took = took_none t b; done = done_none t.lines (image t) (table_keeps t) apart; few = omega arith }

no_gates : (ps : List (End × Mct)) → length ps ≡ 0 → ps ≡ []
no_gates [] e = refl
no_gates (p ∷ ps) e = absurd (omega arith)

module _ (t : Table) (b : Book Mct) (k : ℕ) (t' : Table) (b' : Book Mct) (so : MappedRows t b k t' b') (more : k < 2 ^ t.lines - 1) where
  within : k < 2 ^ t.lines
  within = omega arith

  next_rows : rows t.lines (k + 1) 0 (image t) ≡ rows t.lines k 0 (image t) ++ row (image t') k (choice t.lines (image t') k)
  next_rows = rows_more t.lines k (image t) (image t') (took_map (rows t.lines k 0 (image t)) t b t' b' so.took) within

  next_bound : t.lines * (k + 1) ≡ t.lines * k + t.lines
  next_bound = ap (λ (m : ℕ). t.lines * m) (add-one k) ∙ mul-suc t.lines k

  next_few : length (rows t.lines (k + 1) 0 (image t)) ≤ t.lines * (k + 1)
  next_few =
      let now = row (image t') k (choice t.lines (image t') k) in
      omega (
        arith,
        so.few,
        next_bound,
        ap length next_rows,
        length-append (rows t.lines k 0 (image t)) now,
        row_length k (choice t.lines (image t') k) (image t'),
        choice_few t.lines t.some t.few k (image t') so.done within,
      )

  module _ (j : ℕ) (chosen : j ≡ choice t.lines (image t') k) where
    pub from_row : k ≤ j
    from_row = subst (λ (x : ℕ). k ≤ x) (sym chosen) (choice_is t.lines (image t') k within).from

    pub is_word : j < 2 ^ t.lines
    is_word = subst (λ (x : ℕ). x < 2 ^ t.lines) (sym chosen) (choice_is t.lines (image t') k within).below

    pub image_above : k ≤ image t' j
    image_above = done_above t.lines k (image t') so.done j from_row is_word

    pub image_word : image t' j < 2 ^ t.lines
    image_word = so.done.keeps j is_word

    next_done : Done t.lines (k + 1) (all_moved mct t.lines (row (image t') k j) (image t'))
    next_done = row_next t.lines t.some t.few k j (image t') so.done from_row is_word

    -- there is room for the gates of the row
    pub row_room : table_plan.budget t.lines ≤ free b → length (mapping j k) + length (mapping (image t' j) k) ≤ free b'
    unfolding table_plan
    row_room room =
        let most : t.lines * (k + 1) ≤ t.lines * (2 ^ t.lines - 1) = mul-le-mul_left t.lines (omega arith) in
        let cheap : total (image t') k j ≤ t.lines =
        subst (λ (x : ℕ). total (image t') k x ≤ t.lines) (sym chosen) (choice_few t.lines t.some t.few k (image t') so.done within) in
        omega (
          arith,
          so.few,
          next_bound,
          took_free (rows t.lines k 0 (image t)) t b t' b' so.took,
          weigh_length (mapping j k),
          weigh_length (mapping (image t' j) k),
        )

    -- a row whose gates are put in at the two ends
    pub row_put : (t₁ : Table) (b₁ : Book Mct) (t₂ : Table) (b₂ : Book Mct)
        → Took t' b' (at_end Input (mapping j k)) t₁ b₁ → Took t₁ b₁ (at_end Output (mapping (image t' j) k)) t₂ b₂ → MappedRows t b (k + 1) t₂ b₂
    row_put t₁ b₁ t₂ b₂ p q =
        let n = t.lines in
        let ps = row (image t') k j in
        let both : Took t' b' ps t₂ b₂ = took_more (at_end Input (mapping j k)) (at_end Output (mapping (image t' j) k)) t' b' t₁ b₁ t₂ b₂ p q in
        let same : t'.lines ≡ n = so.took.same_lines in
        let new : Same n (image t₂) (all_moved mct n ps (image t')) =
        subst (λ (m : ℕ). Same m (image t₂) (all_moved mct m ps (image t'))) same (took_map ps t' b' t₂ b₂ both) in
        record {
          took = subst (λ qs. Took t b qs t₂ b₂) (ap (λ (i : ℕ). rows n k 0 (image t) ++ row (image t') k i) chosen ∙ sym next_rows)
              (took_more (rows n k 0 (image t)) ps t b t' b' t₂ b₂ so.took both);
          done = done_same n (k + 1) (all_moved mct n ps (image t')) (image t₂) (omega arith) (λ x h. sym (new x h)) next_done;
          few = next_few;
        }

    -- a row that takes no gate
    pub row_free : total (image t') k j ≡ 0 → MappedRows t b (k + 1) t' b'
    row_free e =
        let n = t.lines in
        let none : row (image t') k j ≡ [] = no_gates (row (image t') k j) (row_length k j (image t') ∙ e) in
        record {
          took = subst (λ ps. Took t b ps t' b')
              (sym (append-nil (rows n k 0 (image t))) ∙ ap (λ ps. rows n k 0 (image t) ++ ps) (sym none ∙ ap (row (image t') k) chosen) ∙ sym next_rows)
              so.took;
          done = subst (λ ps. Done n (k + 1) (all_moved mct n ps (image t'))) none next_done;
          few = next_few;
        }

  -- a search that is over, or that has come to a total of 0
  pub row_chosen : (w j least : ℕ) → w ≡ 2 ^ t.lines → Looking (total (image t') k) k w j least → j ≡ choice t.lines (image t') k
  unfolding choice
  row_chosen w j least e s =
      look_all (total (image t') k) k (2 ^ t.lines) j least (subst (λ (m : ℕ). Looking (total (image t') k) k m j least) e s) within

  pub zero_chosen : (w j least : ℕ) → Looking (total (image t') k) k w j least → k ≤ w → w < 2 ^ t.lines → total (image t') k w ≡ 0 → w ≡ choice t.lines (image t') k
  unfolding choice
  zero_chosen w j least s h lt e = look_zero (total (image t') k) k (2 ^ t.lines) w j least s h lt e

-- every row but the last is mapped
module _ (t : Table) (b : Book Mct) (k : ℕ) (t' : Table) (b' : Book Mct) (so : MappedRows t b k t' b') (all : k ≡ 2 ^ t.lines - 1) where
  pub run_took : Took t b (table_plan.gates t.lines (image t)) t' b'
  unfolding table_plan
  run_took = subst (λ (m : ℕ). Took t b (rows t.lines m 0 (image t)) t' b') all so.took

  pub run_identity : Identity t.lines (image t')
  run_identity = last_fixed t.lines (image t') (subst (λ (m : ℕ). Done t.lines m (image t')) all so.done)

-- ---- a whole run

pub run_ran : (t t' : Table) (b b' : Book Mct) → Apart (2 ^ t.lines) (image t) → Took t b (table_plan.gates t.lines (image t)) t' b' → Identity t.lines (image t')
    → Ran mct table_plan (table_meaning t) b (table_meaning t') b'
run_ran t t' b b' apart took identity =
    let brought = run_brings t.lines (image t) t.some t.few (table_keeps t) apart in
    record {
      same_lines = took.same_lines;
      found = took.found;
      legal = brought.legal;
      few = brought.few;
      identity = identity;
      local = plan_local;
    }

-- images that agree on words differ together
pub apart_same : (n : ℕ) (f h : ℕ → ℕ) → Same n f h → Apart (2 ^ n) h → Apart (2 ^ n) f
apart_same n f h same apart x y l k e = apart x y l k (sym (same x (omega arith)) ∙ e ∙ same y k)
