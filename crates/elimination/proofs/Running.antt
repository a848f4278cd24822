-- The run's loop against the definition, and within the places of the book.
use Rattle.std.proofs.Common.{◌≡◌, ℕ, zero, suc, ◌+◌, ◌-◌, ◌<◌, ◌≤◌, ◌≢◌, List, [], ◌++◌, length, Some, None, Option, sym, refl, ap, ◌∙◌, subst, ap₂, inl, inr, arith, length-append}
use Rattle.std.proofs.lemmas.Bool.{cases_eq}
use Rattle.gates.specs.declared.cnot.Cnot.{Cnot}
use Rattle.books.specs.declared.Book.{Book}
use Rattle.books.specs.Books.{ends, free, Kept}
use Rattle.books.proofs.KeptLaws.{kept_none, kept_more}
use Rattle.clearing.specs.Clearing.{Placed, Work, left, after, turn, turns, run}
use Rattle.clearing.specs.Laws.{room}
use Rattle.clearing.specs.Pairs.{Inverses, cost, pairs}
use Rattle.clearing.specs.Pairs.{Pair as State}
use Rattle.clearing.proofs.Cleared.{left_top}
use Rattle.clearing.proofs.Pairs.{laws, free as free-solved}
use Rattle.clearing.proofs.Rooms.{room_mono}
use Rattle.clearing.proofs.Runs.{Advanced, turn_advances, idles}
use Rattle.clearing.proofs.Tests.{solved_from}
use Rattle.elimination.specs.Finds.{all_put}
use Rattle.elimination.specs.Lines.{trial_of, best_line}
use Rattle.elimination.proofs.Lining.{after_maybe, turn_is, none_chosen}
use Rattle.elimination.proofs.Writing.{put_append}

abbrev at : State → List Placed → Work pairs
at s gs = record { state = s; gates = gs }

-- s₀ and b₀ are where the run began, s and b what it holds
pub record Running (n : ℕ) (s₀ : State) (b₀ : Book Cnot) (s : State) (b : Book Cnot) : Type 0 where
  pub fuel : ℕ
  pub gates : List Placed
  pub rest : turns pairs n fuel (at s gates) ≡ run pairs n s₀
  pub enough : left pairs n s ≤ fuel
  pub inverses : Inverses n s
  pub fits : length gates + room (left pairs n s) ≤ room n
  pub ends : ends b ≡ all_put gates (ends b₀)
  pub free : free b + length gates ≡ free b₀
  pub kept : Kept b₀ b

module _ (n : ℕ) (few : n ≤ 64) where
  pub running_none : (s : State) (b : Book Cnot) → Inverses n s → Running n s b s b
  unfolding run
  running_none s b h = record {
    fuel = n;
    gates = [];
    rest = refl;
    enough = left_top pairs n (laws n few) s;
    inverses = h;
    fits = omega (arith, room_mono (left pairs n s) n (left_top pairs n (laws n few) s));
    ends = refl;
    free = omega arith;
    kept = kept_none b;
  }

  -- at cost 0 there is no line to choose
  chosen_costs : (s : State) (d : ℕ) → Inverses n s → Some d ≡ best_line n s None 0 n → cost s ≢ 0
  chosen_costs s d h chosen e =
      let none : best_line n s None 0 n ≡ None = none_chosen n s None 0 n (λ i _ l. solved_from pairs n s i (free-solved n s h e i (omega arith))) in
      let wrong : ◌≡◌ {A = Option ℕ} (Some d) None = chosen ∙ none in
      let never : ◌≡◌ {A = ℕ} 0 1 = cc in
      omega arith

  module _ (s₀ : State) (b₀ : Book Cnot) (s : State) (b : Book Cnot) (h : Running n s₀ b₀ s b) where
    -- no line is left to choose: the run is over
    pub running_all : None ≡ best_line n s None 0 n → ends b ≡ all_put (run pairs n s₀).gates (ends b₀)
    running_all none =
        h.ends ∙ ap (λ (w : Work pairs). all_put w.gates (ends b₀)) (sym (idles pairs n (laws n few) h.fuel (at s h.gates) over) ∙ h.rest)
      where
        over : cost s ≡ 0
        over =
            elim (cases_eq (cost s) 0) [
              | inl e ↦ e
              | inr ne ↦
                  let a : Advanced pairs n (laws n few) (at s h.gates) (turn pairs n (at s h.gates)) = turn_advances pairs n (laws n few) (at s h.gates) h.inverses ne in
                  let same : turn pairs n (at s h.gates) ≡ at s h.gates = turn_is n (at s h.gates) ne ∙ ap (λ (o : Option ℕ). after_maybe n o (at s h.gates)) (sym none) in
                  absurd (omega (arith, a.fewer, ap (λ (x : Work pairs). left pairs n x.state) same))
            ]

    module _ (d : ℕ) (chosen : Some d ≡ best_line n s None 0 n) (s₁ : State) (gs : List Placed) (is : at s₁ gs ≡ trial_of n s d) where
      turned : turn pairs n (at s h.gates) ≡ at s₁ (h.gates ++ gs)
      turned =
          turn_is n (at s h.gates) (chosen_costs s d h.inverses chosen) ∙ ap (λ (o : Option ℕ). after_maybe n o (at s h.gates)) (sym chosen)
          ∙ ap (after pairs (at s h.gates)) (sym is)

      advances : Advanced pairs n (laws n few) (at s h.gates) (at s₁ (h.gates ++ gs))
      advances =
          subst (Advanced pairs n (laws n few) (at s h.gates)) turned
          (turn_advances pairs n (laws n few) (at s h.gates) h.inverses (chosen_costs s d h.inverses chosen))

      pub fewer_left : left pairs n s₁ < left pairs n s
      fewer_left = advances.fewer

      pub fits_free : room n ≤ free b₀ → length gs ≤ free b
      fits_free enough = omega (arith, advances.fits, length-append h.gates gs, h.fits, h.free)

      pub running_more : (b₁ : Book Cnot) (written : List Placed) → room n ≤ free b₀ → written ≡ gs → ends b₁ ≡ all_put written (ends b) → free b₁ ≡ free b - length written → Kept b b₁ → Running n s₀ b₀ s₁ b₁
      unfolding turns
      running_more b₁ written places told e f k = go h.fuel h.rest h.enough
        where
          go : (fuel : ℕ) → turns pairs n fuel (at s h.gates) ≡ run pairs n s₀ → left pairs n s ≤ fuel → Running n s₀ b₀ s₁ b₁
          go zero r le = absurd (omega (arith, fewer_left))
          go (suc fuel) r le = record {
            fuel = fuel;
            gates = h.gates ++ gs;
            rest = ap (turns pairs n fuel) (sym turned) ∙ r;
            enough = omega (arith, fewer_left);
            inverses = advances.good;
            fits = omega (arith, advances.fits, h.fits);
            ends = e ∙ ap₂ all_put told h.ends ∙ sym (put_append h.gates gs (ends b₀));
            free = omega (arith, f, ap length told, length-append h.gates gs, h.free, fits_free places);
            kept = kept_more h.kept k;
          }
