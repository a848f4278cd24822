-- What a run makes of a matrix and a book, and when it declines.
use Rattle.std.proofs.Common.{◌≡◌, ℕ, ◌^◌, ◌≤◌, true, List, length, Some, None, Ok, Err, Result, sym, ap, ◌∙◌, subst, ap₂, arith}
use Rattle.words.specs.Maps.{Identity, Apart}
use Rattle.gates.specs.Cnots.{cnot}
use Rattle.gates.specs.Refusals.{answer, short}
use Rattle.gates.specs.declared.cnot.Cnot.{Cnot}
use Rattle.gates.specs.declared.refusal.Refusal.{Refusal}
use Rattle.books.specs.declared.Book.{Book}
use Rattle.books.specs.Books.{ends, free}
use Rattle.pieces.specs.Jobs.{shown}
use Rattle.pieces.specs.Runs.{RunTells, Ran, gates_legal}
use Rattle.pieces.proofs.Finding.{found_map}
use Rattle.pieces.proofs.Fits.{fits}
use Rattle.matrices.specs.Matrices.{image, unit_rows}
use Rattle.matrices.specs.Meanings.{rows_of, matrix_meaning, Made}
use Rattle.matrices.specs.declared.matrix.Matrix.{Matrix}
use Rattle.matrices.proofs.Identities.{length_units, unit_at, identity_by_rows}
use Rattle.matrices.proofs.UnitRows.{units_narrow}
use Rattle.clearing.specs.Clearing.{Placed, replay, run}
use Rattle.clearing.specs.Laws.{room}
use Rattle.clearing.specs.Pairs.{Inverses, pairs}
use Rattle.clearing.specs.Pairs.{Pair as State}
use Rattle.clearing.specs.Plans.{matrix_plan}
use Rattle.clearing.proofs.Ends.{run_finishes}
use Rattle.clearing.proofs.PlanLaws.{plan_gates, plan_local, replay_moved, apart_of}
use Rattle.elimination.specs.declared.pair.Pair.{Pair}
use Rattle.elimination.specs.Finds.{all_put}
use Rattle.elimination.specs.Layouts.{both}
use Rattle.elimination.specs.States.{state_of, Paired}
use Rattle.elimination.proofs.Writing.{found_ends}

-- ---- the matrix of a pair

-- the rows of the matrix beside those of the inverse
abbrev pub beside : Matrix → Pair → State
beside m p = both (rows_of m) (state_of p).inverse

module _ (m : Matrix) (p : Pair) (is : Paired m (Ok p)) where
  pub beside_is : state_of p ≡ beside m p
  beside_is = λ i. both (is.1 i) (state_of p).inverse

  pub beside_inverses : Inverses m.lines (beside m p)
  beside_inverses = subst (λ (n : ℕ). Inverses n (beside m p)) is.0 (subst (Inverses p.lines) beside_is p.sound.inverses)

  pub apart : Apart (2 ^ m.lines) (image (rows_of m))
  apart = apart_of m.lines (beside m p) beside_inverses

-- ---- a run that declines

pub tells_clash : (m : Matrix) (b : Book Cnot) (why : Refusal) (r : Result (Unit {0}) Refusal) → Paired m (Err why) → r ≡ Err why → RunTells matrix_plan (matrix_meaning m) b r
tells_clash m b why r is e = (Some is.0, is.1, e ∙ ap Err is.2)

pub tells_short : (m : Matrix) (p : Pair) (b : Book Cnot) (needed places : ℕ) (r : Result (Unit {0}) Refusal) → Paired m (Ok p) → needed ≡ room m.lines → places ≡ free b
    → r ≡ answer (short needed places) → RunTells matrix_plan (matrix_meaning m) b r
unfolding matrix_plan
tells_short m p b needed places r is n f e = (None, apart m p is, e ∙ ap₂ (λ (j k : ℕ). answer (short j k)) n f)

-- ---- an accepted run

module _ (n : ℕ) (few : n ≤ 64) (s : State) (v : Inverses n s) (b b' : Book Cnot) (n' : ℕ) (rows : List ℕ) (is : Identity n (image rows)) where
  pub ran : n' ≡ n → ends b' ≡ all_put (run pairs n s).gates (ends b)
      → Ran cnot matrix_plan (record { lines = n; map = image s.matrix }) b (record { lines = n'; map = image rows }) b'
  unfolding matrix_plan
  ran same written =
      let gates : matrix_plan.gates n (image s.matrix) ≡ (run pairs n s).gates = plan_gates n s v in
      let end = run_finishes n few s v in
      let legal : gates_legal cnot n (matrix_plan.gates n (image s.matrix)) ≡ true = ap (gates_legal cnot n) gates ∙ end.legal in
      record {
        same_lines = same;
        found = record {
          map = λ x h.
              is x h ∙ sym (ap (λ (f : ℕ → ℕ). f x) (found_map cnot n (matrix_plan.gates n (image s.matrix)) (shown (record { lines = n; map = image s.matrix }) b))
              ∙ replay_moved n s v (matrix_plan.gates n (image s.matrix)) legal x h
              ∙ ap (λ (gs : List Placed). image (replay pairs gs s).matrix x) gates ∙ ap (λ (t : State). image t.matrix x) end.reached ∙ end.identity x h);
          ends = written ∙ ap (λ (gs : List Placed). all_put gs (ends b)) (sym gates)
              ∙ sym (found_ends n (matrix_plan.gates n (image s.matrix)) (shown (record { lines = n; map = image s.matrix }) b));
        };
        legal = legal;
        few = subst (λ (gs : List Placed). length gs ≤ room n) (sym gates) end.few;
        identity = is;
        local = plan_local;
      }

-- ---- identity is always made

module _ (n : ℕ) (some : 1 ≤ n) (few : n ≤ 64) where
  pub never_unmade : (why : Refusal) → Made n (unit_rows 0 n) (Err why) → ⊥
  never_unmade why e =
      let wrong : None ≡ Some why = sym (fits 64 n n (unit_rows 0 n) some few (length_units 0 n) (units_narrow n 0 0 n (omega arith))) ∙ e in
      let never : ◌≡◌ {A = ℕ} 0 1 = cc in
      omega arith

  pub units_identity : (rows : List ℕ) → rows ≡ unit_rows 0 n → Identity n (image rows)
  units_identity rows e =
      subst (λ (rs : List ℕ). Identity n (image rs)) (sym e)
      (identity_by_rows n (unit_rows 0 n) (length_units 0 n) (λ r h. unit_at 0 n r h ∙ ap (λ (k : ℕ). 2 ^ k) (omega arith)))
