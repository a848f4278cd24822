-- What a run works on.
use Rattle.std.specs.Prelude.{◌≡◌, List}
use Rattle.gates.specs.declared.end.End.{End}
use Rattle.gates.specs.declared.mct.Mct.{Mct}
use Rattle.mapping.specs.Took.{Took}
use Rattle.mapping.specs.declared.work.Work.{Work}

-- The table and the book are the same two.
pub record SameLent (w w' : Work) : Type 0 where
  pub table : w'.table.ghost_name ≡ w.table.ghost_name
  pub book : w'.book.ghost_name ≡ w.book.ghost_name

-- Gates put into both, one after the other.
pub record Worked (w : Work) (ps : List (End × Mct)) (w' : Work) : Type 0 where
  pub lent : SameLent w w'
  pub took : Took w.table.now w.book.now ps w'.table.now w'.book.now
