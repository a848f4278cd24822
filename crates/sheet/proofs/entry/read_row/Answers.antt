use Rattle.std.proofs.Common.{◌≡◌, ◌+◌, ◌*◌, ◌^◌, ◌<◌, ◌∷◌, ◌++◌, [], length, None, Some, Err, sym, ap, ◌∙◌, append_assoc, arith, length-append}
use Rattle.gates.specs.declared.refusal.Refusal.TheVariants.{WrongForm}
use Rattle.std.specs.Iterator.Adapters.{rev_source}
use Rattle.std.specs.Slice.Iter.{iter_rest}
use Rattle.std.proofs.lemmas.Bool.{cond-true, eq-eqb}
use Rattle.std.proofs.lemmas.Result.{err_from_is_err_and}
use Rattle.sheet.specs.Form.{bits, row_of}
use Rattle.sheet.proofs.Lines.{bits_none, bit_fits}
use Rattle.sheet.proofs.entry.read_row.Goals as goal
use Rattle.sheet.proofs.entry.read_row.Goals.{In_ok-word}

pub returns-in_err-word : goal.returns-in_err-word
returns-in_err-word c =
    let p = err_from_is_err_and c.from_residual.result c.from_residual.ensures.1 in
    let inv = c.loop-b.invariant.2 in
    let front = iter_rest (rev_source c.next.new.self) in
    let long : length c.args.line.now ≡ c.args.n = omega arith in
    let none : c.read_bit.result ≡ None = grind arith in
    let why : c.in_err-word.field-0.0 ≡ WrongForm = grind arith in
    let split = inv.1 ∙ ap (λ z. z ++ inv.0) c.in-Some.ensures.steps ∙ append_assoc front (c.in-Some.b.now ∷ []) inv.0 in
    let other = ap bits split ∙ bits_none front c.in-Some.b.now inv.0 (sym c.read_bit.ensures ∙ none) in
    rw (p.1, p.2) (ap Err why ∙ sym (cond-true _ _ _ (eq-eqb (length c.args.line.now) c.args.n long) ∙ ap row_of other))

-- there is room for one bit more
room : (c : In_ok-word) → c.in_ok-word.field-0 + c.loop-b.word * 2 < 2 ^ 64
room c =
    let inv = c.loop-b.invariant.2 in
    let front = iter_rest (rev_source c.next.new.self) in
    let found : c.read_bit.result ≡ Some c.in_ok-word.field-0 = grind arith in
    let inside : length inv.0 < 64 = omega (arith, ap length inv.1, length-append (iter_rest (rev_source c.loop-b.b-iterator)) inv.0, ap length c.in-Some.ensures.steps, length-append front (c.in-Some.b.now ∷ [])) in
    bit_fits c.in-Some.b.now c.in_ok-word.field-0 c.loop-b.word (length inv.0) (sym c.read_bit.ensures ∙ found) inv.3 inside

pub overflow_mul-word : goal.overflow_mul-word
overflow_mul-word c = omega (arith, room (goal.at.overflow_mul-word c).In_ok-word)

pub overflow_add-word : goal.overflow_add-word
overflow_add-word c = omega (arith, room (goal.at.overflow_add-word c).In_ok-word)
