use Rattle.std.proofs.Common.{◌≡◌, ◌^◌, Bool, false, ◌&&◌, eqb, get_or, sym, ap, ◌∙◌, ap₂}
use Rattle.std.proofs.lemmas.Bool.{and_left}
use Rattle.elimination.proofs.States.{solved_is}
use Rattle.elimination.proofs.pair.Pair.is_solved.Goals as goal

pub returns-then-is_unit : goal.returns-then-is_unit
returns-then-is_unit c =
    ap (λ (b : Bool). b && c.is_unit-then-is_unit.result) (sym c.if-is_unit.true)
    ∙ ap₂ (λ (a b : Bool). a && b) c.is_unit.ensures c.is_unit-then-is_unit.ensures
    ∙ solved_is c.args.self.now c.args.d c.requires

pub returns-else-is_unit : goal.returns-else-is_unit
returns-else-is_unit c =
    let p = c.args.self.now in
    let off : eqb (get_or p.rows.first c.args.d 0) (2 ^ c.args.d) ≡ false = sym c.is_unit.ensures ∙ c.if-is_unit.false in
    c.if-is_unit.false
    ∙ sym (and_left (eqb (get_or p.rows.first c.args.d 0) (2 ^ c.args.d)) (eqb (get_or p.columns.first c.args.d 0) (2 ^ c.args.d)) off)
    ∙ solved_is c.args.self.now c.args.d c.requires
