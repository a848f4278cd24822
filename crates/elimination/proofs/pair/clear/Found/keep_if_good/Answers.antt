use Rattle.std.proofs.Common.{ℕ, ◌+◌, leb, sym, ap, ◌∙◌, ap₂, subst}
use Rattle.clearing.specs.Clearing.{put, try}
use Rattle.clearing.specs.Pairs.{pairs}
use Rattle.elimination.specs.declared.addition.Addition.{Addition}
use Rattle.elimination.specs.declared.pair.Pair.{Pair}
use Rattle.elimination.specs.Additions.{placed}
use Rattle.elimination.specs.Finds.{work_of, Done}
use Rattle.elimination.specs.States.{state_of}
use Rattle.elimination.proofs.Steps.{try_yes, try_no, done_none, done_as, done_from}
use Rattle.elimination.proofs.pair.clear.Found.keep_if_good.Goals as goal

pub returns-then-falls_by_two : goal.returns-then-falls_by_two
returns-then-falls_by_two c =
    let f = c.args.self.now in
    let g = placed c.args.addition in
    let a = c.choice-choice.ensures in
    let test = c.falls_by_two.ensures ∙ ap₂ (λ (x y : ℕ). leb (x + 2) y) a.cost (c.cost.ensures.value ∙ ap (λ (q : Pair). pairs.cost (state_of q)) a.same) in
    let kept = subst (λ (b : Addition). Done 1 (put pairs (placed b)) (record { pair = c.choice-choice.new.self; gates = f.gates }) c.keep.new.self) a.addition c.keep.ensures in
    done_as 1 (put pairs g) (try pairs g) f c.keep.new.self (try_yes g (work_of f) (sym test ∙ c.if-falls_by_two.true))
    (done_from 1 (put pairs g) f.pair c.choice-choice.new.self f.gates c.keep.new.self a.same kept)

pub returns-else-falls_by_two : goal.returns-else-falls_by_two
returns-else-falls_by_two c =
    let f = c.args.self.now in
    let g = placed c.args.addition in
    let a = c.choice-choice.ensures in
    let test = c.falls_by_two.ensures ∙ ap₂ (λ (x y : ℕ). leb (x + 2) y) a.cost (c.cost.ensures.value ∙ ap (λ (q : Pair). pairs.cost (state_of q)) a.same) in
    done_none 1 (try pairs g) f (record { pair = c.choice-choice.new.self; gates = f.gates }) (λ i. record { pair = a.same i; gates = f.gates })
    (try_no g (work_of f) (sym test ∙ c.if-falls_by_two.false))
