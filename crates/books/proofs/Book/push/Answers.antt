use Rattle.std.proofs.Common.{ap, ◌∙◌, arith}
use Rattle.books.specs.Places.{written}
use Rattle.books.proofs.BookLaws.{room, pushed}
use Rattle.books.proofs.KeptLaws.{kept_written}
use Rattle.books.proofs.Book.push.Goals as goal

pub returns-clause-after : goal.returns-clause-after
returns-clause-after g c =
    let b = c.args.self.now in
    let gate = c.args.gate in
    pushed b c.args.end gate _ (room b (omega (arith, c.in_ok-enough_places.ensures.enough)))
    (ap (written c.place-at.result gate) c.grow.ensures.places ∙ ap (λ at. written at gate b.places) c.place-at.ensures.is) c.grow.ensures.counts

pub returns-clause-kept : goal.returns-clause-kept
returns-clause-kept g c = kept_written c.args.self.now _ c.place-at.result c.args.gate (omega arith) (ap (written c.place-at.result c.args.gate) c.grow.ensures.places)
