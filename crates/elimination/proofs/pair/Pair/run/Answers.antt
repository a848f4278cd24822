use Rattle.std.proofs.Common.{◌≡◌, ℕ, ◌-◌, length, Some, None, sym, refl, ap, ◌∙◌, arith}
use Rattle.std.proofs.lemmas.List.{length-map}
use Rattle.books.specs.Books.{free}
use Rattle.elimination.specs.declared.pair.Pair.{Pair}
use Rattle.elimination.specs.Additions.{at_end}
use Rattle.elimination.specs.Finds.{at_ends}
use Rattle.elimination.specs.States.{state_of}
use Rattle.elimination.specs.Lines.{best_line}
use Rattle.elimination.proofs.Steps.{trial_is}
use Rattle.elimination.proofs.Running.{running_none, running_all, running_more, fewer_left, fits_free}
use Rattle.elimination.proofs.pair.Pair.run.Goals as goal

pub loop-best-init : goal.loop-best-init
loop-best-init c =
    let p = c.args.self.now in
    (refl, running_none p.lines p.sound.few (state_of p) c.args.book.now p.sound.inverses)

pub loop-best-smaller : goal.loop-best-smaller
loop-best-smaller c =
    let p = c.args.self.now in
    let l = c.loop-best in
    let n = p.lines in
    let d = c.in-Some.best.line in
    let begun = c.new-found in
    let f = c.clear.new.self in
    let chosen : Some d ≡ best_line n (state_of l.self) None 0 n = c.in-Some.ensures.value ∙ ap (λ (k : ℕ). best_line k (state_of l.self) None 0 k) l.invariant.0 in
    let is = trial_is n l.self _ begun.result f d l.invariant.0 begun.ensures.pair begun.ensures.none c.clear.ensures in
    fewer_left n p.sound.few (state_of p) c.args.book.now (state_of l.self) l.book l.invariant.1 d chosen (state_of f.pair) (at_ends f.gates.items) is

pub write_down-requires : goal.write_down-requires
write_down-requires c =
    let p = c.args.self.now in
    let l = c.loop-best in
    let n = p.lines in
    let d = c.in-Some.best.line in
    let begun = c.new-found in
    let f = c.clear.new.self in
    let chosen : Some d ≡ best_line n (state_of l.self) None 0 n = c.in-Some.ensures.value ∙ ap (λ (k : ℕ). best_line k (state_of l.self) None 0 k) l.invariant.0 in
    let is = trial_is n l.self _ begun.result f d l.invariant.0 begun.ensures.pair begun.ensures.none c.clear.ensures in
    let fits = fits_free n p.sound.few (state_of p) c.args.book.now (state_of l.self) l.book l.invariant.1 d chosen (state_of f.pair) (at_ends f.gates.items) is c.requires in
    omega (arith, ap length c.as_slice.ensures.value, length-map f.gates.items at_end, fits)

pub loop-best-preserved : goal.loop-best-preserved
loop-best-preserved c =
    let p = c.args.self.now in
    let l = c.loop-best in
    let n = p.lines in
    let d = c.in-Some.best.line in
    let begun = c.new-found in
    let f = c.clear.new.self in
    let chosen : Some d ≡ best_line n (state_of l.self) None 0 n = c.in-Some.ensures.value ∙ ap (λ (k : ℕ). best_line k (state_of l.self) None 0 k) l.invariant.0 in
    let is = trial_is n l.self _ begun.result f d l.invariant.0 begun.ensures.pair begun.ensures.none c.clear.ensures in
    let w = c.write_down.ensures in
    let written = c.as_slice.result.now in (
      c.clear.ensures.lines ∙ ap (λ (q : Pair). q.lines) begun.ensures.pair ∙ l.invariant.0,
      running_more n p.sound.few (state_of p) c.args.book.now (state_of l.self) l.book l.invariant.1 d chosen (state_of f.pair) (at_ends f.gates.items) is
          c.write_down.new.book (at_ends written) c.requires (ap at_ends c.as_slice.ensures.value) w.ends
          (w.free ∙ ap (λ (k : ℕ). free l.book - k) (sym (length-map written at_end))) w.kept,
    )

pub returns : goal.returns
returns c =
    let p = c.args.self.now in
    let l = c.loop-best in
    let n = p.lines in
    let none : None ≡ best_line n (state_of l.self) None 0 n = c.in_default.ensures.value ∙ ap (λ (k : ℕ). best_line k (state_of l.self) None 0 k) l.invariant.0 in
    record {
      ends = running_all n p.sound.few (state_of p) c.args.book.now (state_of l.self) l.book l.invariant.1 none;
      kept = l.invariant.1.kept;
    }
