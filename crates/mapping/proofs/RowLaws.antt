-- A run brings the map of a table to identity, row by row.
use Rattle.std.proofs.Common.{◌≡◌, ℕ, zero, suc, ◌+◌, ◌-◌, ◌*◌, ◌^◌, ◌<◌, ◌≤◌, true, ◌++◌, length, sym, refl, ap, ◌∙◌, subst, ap₂, ⊎_elim, append_assoc, append-nil, le_refl, mul-suc, add-one, arith, length-append, pow_pos, pow_mono}
use lib.Bits.{xor_self}
use lib.Count.{ones}
use lib.ListN.{length-map}
use Rattle.std.proofs.lemmas.Bool.{cases_lt, cases_order}
use Rattle.words.specs.Maps.{Same, Keeps, Apart, Identity}
use Rattle.gates.specs.Mcts.{mct}
use Rattle.gates.specs.Circuits.{through}
use Rattle.gates.specs.declared.end.End.TheVariants.{Input, Output}
use Rattle.gates.specs.CircuitLaws.{through_keeps}
use Rattle.gates.specs.MctLaws.{mct_lawful}
use Rattle.pieces.specs.Meanings.{all_moved}
use Rattle.pieces.specs.Runs.{Local, gates_legal}
use Rattle.pieces.proofs.Finding.{moved_append, all_moved_same}
use Rattle.mapping.specs.Took.{at_end}
use Rattle.mapping.specs.Least.{Least}
use Rattle.mapping.specs.Mapping.{mapping, weigh}
use Rattle.mapping.specs.Rows.{total, choice, row, rows, table_plan}
use Rattle.mapping.specs.Laws.{RunBrings}
use Rattle.mapping.proofs.LeastLaws.{least_is, least_first, least_one, least_same}
use Rattle.mapping.proofs.MappingLaws.{mapping_maps, mapping_length, weigh_length}
use Rattle.mapping.proofs.OnesLaws.{no_ones}
use Rattle.mapping.proofs.MoveLaws.{back, moved_both, through_spares, back_spares, legal_at_end, legal_both, back_keeps, back_through, through_back}

-- the map of a table whose rows below i are done
pub record Done (n i : ℕ) (f : ℕ → ℕ) : Type 0 where
  pub keeps : Keeps n f
  pub one_one : (p q : ℕ) → p < 2 ^ n → q < 2 ^ n → f p ≡ f q → p ≡ q
  pub fixed : (x : ℕ) → x < i → f x ≡ x

-- the other words have images that are not below i
pub done_above : (n i : ℕ) (f : ℕ → ℕ) → Done n i f → (j : ℕ) → i ≤ j → j < 2 ^ n → i ≤ f j
done_above n i f d j h k =
    ⊎_elim
    (λ l. absurd (let e = d.one_one (f j) j (d.keeps j k) k (d.fixed (f j) l) in omega arith))
    (λ l. l)
    (cases_lt (f j) i)

-- the first of the words from row i on with the smallest total
pub choice_is : (n : ℕ) (f : ℕ → ℕ) (i : ℕ) → i < 2 ^ n → Least (total f i) i (2 ^ n) (choice n f i)
unfolding choice
choice_is n f i h = least_is (total f i) i (2 ^ n) h

-- the gates of a row, by their number
pub row_length : (i j : ℕ) (f : ℕ → ℕ) → length (row f i j) ≡ total f i j
row_length i j f =
    length-append (at_end Input (mapping j i)) (at_end Output (mapping (f j) i))
    ∙ ap₂ (λ (p q : ℕ). p + q)
    (length-map (mapping j i) (λ g. (Input, g)) ∙ sym (weigh_length (mapping j i)))
    (length-map (mapping (f j) i) (λ g. (Output, g)) ∙ sym (weigh_length (mapping (f j) i)))

module _ (n : ℕ) (some : 1 ≤ n) (few : n ≤ 8) where
  -- row i done as well, whichever word is mapped to it
  pub row_next : (i j : ℕ) (f : ℕ → ℕ) → Done n i f → i ≤ j → j < 2 ^ n → Done n (i + 1) (all_moved mct n (row f i j) f)
  row_next i j f d h k =
      let ins = mapping j i in
      let outs = mapping (f j) i in
      let m = mapping_maps n j i some few h k in
      let w = mapping_maps n (f j) i some few (done_above n i f d j h k) (d.keeps j k) in
      let to = through mct n outs in
      let from = back mct n ins in
      let new : (x : ℕ) → all_moved mct n (row f i j) f x ≡ to (f (from x)) = moved_both mct n ins outs f in
      let to_j : from i ≡ j = ap from (sym m.sends) ∙ back_through mct mct_lawful n ins j in
      record {
        keeps = λ x l.
            subst (λ (y : ℕ). y < 2 ^ n) (sym (new x)) (through_keeps mct mct_lawful n outs (f (from x)) (d.keeps (from x) (back_keeps mct mct_lawful n ins x l)));
        one_one = λ p q hp hq e.
            let outer : to (f (from p)) ≡ to (f (from q)) = sym (new p) ∙ e ∙ new q in
            let inner : f (from p) ≡ f (from q) =
            sym (back_through mct mct_lawful n outs (f (from p))) ∙ ap (back mct n outs) outer ∙ back_through mct mct_lawful n outs (f (from q)) in
            let arg = d.one_one (from p) (from q) (back_keeps mct mct_lawful n ins p hp) (back_keeps mct mct_lawful n ins q hq) inner in
            sym (through_back mct mct_lawful n ins p) ∙ ap (through mct n ins) arg ∙ through_back mct mct_lawful n ins q;
        fixed = λ x l.
            ⊎_elim
            (λ b. new x ∙ ap (λ (y : ℕ). to (f y)) (back_spares mct n i ins m.spares x b) ∙ ap to (d.fixed x b) ∙ through_spares mct n i outs w.spares x b)
            (λ b.
            let e : i ≡ x = omega arith in
            subst (λ (y : ℕ). all_moved mct n (row f i j) f y ≡ y) e (new i ∙ ap (λ (y : ℕ). to (f y)) to_j ∙ w.sends))
            (cases_lt x i);
      }

  pub row_legal : (i j : ℕ) (f : ℕ → ℕ) → Done n i f → i ≤ j → j < 2 ^ n → gates_legal mct n (row f i j) ≡ true
  row_legal i j f d h k =
      legal_both mct n (at_end Input (mapping j i)) (at_end Output (mapping (f j) i))
      (legal_at_end mct n Input (mapping j i) (mapping_maps n j i some few h k).legal)
      (legal_at_end mct n Output (mapping (f j) i) (mapping_maps n (f j) i some few (done_above n i f d j h k) (d.keeps j k)).legal)

  -- mapping row i's own word takes no gate, and its image at most n
  own_total : (i : ℕ) (f : ℕ → ℕ) → Done n i f → i < 2 ^ n → total f i i ≤ n
  own_total i f d k =
      let wide : 2 ^ n ≤ 256 = pow_mono few in
      let byte : i < 256 = omega arith in
      let none : length (mapping i i) ≡ 0 = mapping_length i i byte byte ∙ ap ones (xor_self i) ∙ no_ones in
      let most = (mapping_maps n (f i) i some few (done_above n i f d i (le_refl i) k) (d.keeps i k)).few in
      omega (arith, weigh_length (mapping i i), weigh_length (mapping (f i) i))

  -- so the chosen word takes at most n
  pub choice_few : (i : ℕ) (f : ℕ → ℕ) → Done n i f → i < 2 ^ n → total f i (choice n f i) ≤ n
  choice_few i f d k =
      omega (arith, least_first (total f i) i (2 ^ n) (choice n f i) (choice_is n f i k), own_total i f d k)

  -- k rows more, up to the last but one
  pub rows_bring : (k i : ℕ) (f : ℕ → ℕ) → i + k ≡ 2 ^ n - 1 → Done n i f
      → (gates_legal mct n (rows n k i f) ≡ true) × Done n (2 ^ n - 1) (all_moved mct n (rows n k i f) f) × (length (rows n k i f) ≤ n * k)
  unfolding rows
  rows_bring zero i f e d =
      let last : i ≡ 2 ^ n - 1 = omega arith in
      (refl, subst (λ (m : ℕ). Done n m f) last d, omega arith)
  rows_bring (suc k) i f e d =
      let here : i < 2 ^ n = omega (arith, pow_pos n) in
      let j = choice n f i in
      let l = choice_is n f i here in
      let now = row f i j in
      let h = all_moved mct n now f in
      let later = rows n k (i + 1) h in
      let rest = rows_bring k (i + 1) h (omega arith) (row_next i j f d l.from l.below) in
      let cheap : length now ≤ n = omega (arith, row_length i j f, choice_few i f d here) in
      let long : length (now ++ later) ≡ length now + length later = length-append now later in (
        legal_both mct n now later (row_legal i j f d l.from l.below) rest.0,
        subst (Done n (2 ^ n - 1)) (sym (moved_append mct n now later f)) rest.1,
        omega (arith, mul-suc n k, rest.2),
      )

-- a map that fixes every word but the last fixes that too
pub last_fixed : (n : ℕ) (f : ℕ → ℕ) → Done n (2 ^ n - 1) f → Identity n f
last_fixed n f d x h =
    ⊎_elim (λ l. d.fixed x l)
    (λ l.
    ⊎_elim (λ b. d.one_one (f x) x (d.keeps x h) h (d.fixed (f x) b)) (λ b. let w = d.keeps x h in omega arith) (cases_lt (f x) (2 ^ n - 1)))
    (cases_lt x (2 ^ n - 1))

apart_one_one : (n : ℕ) (f : ℕ → ℕ) → Apart (2 ^ n) f → (p q : ℕ) → p < 2 ^ n → q < 2 ^ n → f p ≡ f q → p ≡ q
apart_one_one n f a p q hp hq e =
    ⊎_elim (λ s. s) (⊎_elim (λ l. absurd (a p q l hq e)) (λ l. absurd (a q p l hp (sym e)))) (cases_order p q)

-- before the first row
pub done_none : (n : ℕ) (f : ℕ → ℕ) → Keeps n f → Apart (2 ^ n) f → Done n 0 f
done_none n f keeps apart = record { keeps = keeps; one_one = apart_one_one n f apart; fixed = λ x h. absurd (omega arith) }

pub run_brings : RunBrings
unfolding table_plan
run_brings n f some few keeps apart =
    let all = rows_bring n some few (2 ^ n - 1) 0 f (omega arith) (done_none n f keeps apart) in
    record { legal = all.0; identity = last_fixed n (all_moved mct n (rows n (2 ^ n - 1) 0 f) f) all.1; few = all.2 }

-- ---- maps that agree on words

pub done_same : (n i : ℕ) (f h : ℕ → ℕ) → i ≤ 2 ^ n → Same n f h → Done n i f → Done n i h
done_same n i f h le e d = record {
  keeps = λ x l. subst (λ (y : ℕ). y < 2 ^ n) (e x l) (d.keeps x l);
  one_one = λ p q hp hq s. d.one_one p q hp hq (e p hp ∙ s ∙ sym (e q hq));
  fixed = λ x l. let w : x < 2 ^ n = omega arith in sym (e x w) ∙ d.fixed x l;
}

choice_same : (n : ℕ) (f h : ℕ → ℕ) (i : ℕ) → Same n f h → i < 2 ^ n → choice n f i ≡ choice n h i
choice_same n f h i e k =
    least_one (total h i) i (2 ^ n) (choice n f i) (choice n h i)
    (least_same (total f i) (total h i) i (2 ^ n) (choice n f i) (λ x l. ap (λ (y : ℕ). weigh (mapping x i) + weigh (mapping y i)) (e x l)) (choice_is n f i k))
    (choice_is n h i k)

pub row_same : (n : ℕ) (f h : ℕ → ℕ) (i : ℕ) → Same n f h → i < 2 ^ n → row f i (choice n f i) ≡ row h i (choice n h i)
row_same n f h i e k =
    ap (λ (y : ℕ). at_end Input (mapping (choice n f i) i) ++ at_end Output (mapping y i)) (e (choice n f i) (choice_is n f i k).below)
    ∙ ap (row h i) (choice_same n f h i e k)

rows_same : (n k i : ℕ) (f h : ℕ → ℕ) → Same n f h → i + k ≤ 2 ^ n → rows n k i f ≡ rows n k i h
unfolding rows
rows_same n zero i f h e l = refl
rows_same n (suc k) i f h e l =
    let now = row f i (choice n f i) in
    let same = row_same n f h i e (omega arith) in
    let next : Same n (all_moved mct n now f) (all_moved mct n (row h i (choice n h i)) h) =
    subst (λ ps. Same n (all_moved mct n now f) (all_moved mct n ps h)) same (all_moved_same mct mct_lawful n now f h e) in
    ap₂ ◌++◌ same (rows_same n k (i + 1) (all_moved mct n now f) (all_moved mct n (row h i (choice n h i)) h) next (omega arith))

pub plan_local : Local table_plan
unfolding table_plan
plan_local n f g e = rows_same n (2 ^ n - 1) 0 f g e (omega arith)

-- ---- the row that comes next in the run is the one that the map so far asks for

rows_last : (n k i : ℕ) (f : ℕ → ℕ)
    → rows n (suc k) i f ≡ rows n k i f ++ row (all_moved mct n (rows n k i f) f) (i + k) (choice n (all_moved mct n (rows n k i f) f) (i + k))
unfolding rows
rows_last n zero i f =
    append-nil (row f i (choice n f i)) ∙ let z : i ≡ i + 0 = omega arith in ap (λ (m : ℕ). row f m (choice n f m)) z
rows_last n (suc k) i f =
    let now = row f i (choice n f i) in
    let h = all_moved mct n now f in
    let later = rows n k (i + 1) h in
    let at : i + 1 + k ≡ i + suc k = omega arith in
    let same : all_moved mct n later h ≡ all_moved mct n (now ++ later) f = sym (moved_append mct n now later f) in
    ap (λ ps. now ++ ps) (rows_last n k (i + 1) h)
    ∙ sym (append_assoc now later (row (all_moved mct n later h) (i + 1 + k) (choice n (all_moved mct n later h) (i + 1 + k))))
    ∙ ap₂ (λ (s : ℕ → ℕ) (m : ℕ). (now ++ later) ++ row s m (choice n s m)) same at

pub rows_more : (n k : ℕ) (f h : ℕ → ℕ) → Same n h (all_moved mct n (rows n k 0 f) f) → k < 2 ^ n
    → rows n (k + 1) 0 f ≡ rows n k 0 f ++ row h k (choice n h k)
rows_more n k f h e l =
    let so = all_moved mct n (rows n k 0 f) f in
    let first : 0 + k ≡ k = omega arith in
    ap (λ (m : ℕ). rows n m 0 f) (add-one k)
    ∙ rows_last n k 0 f
    ∙ ap (λ (m : ℕ). rows n k 0 f ++ row so m (choice n so m)) first
    ∙ ap (λ ps. rows n k 0 f ++ ps) (sym (row_same n h so k e l))
