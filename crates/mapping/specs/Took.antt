-- Gates put into a table and into the book.
use Rattle.std.specs.Prelude.{◌≡◌, List, map}
use Rattle.gates.specs.Mcts.{mct}
use Rattle.gates.specs.declared.end.End.{End}
use Rattle.gates.specs.declared.mct.Mct.{Mct}
use Rattle.books.specs.declared.Book.{Book}
use Rattle.books.specs.Books.{Kept}
use Rattle.pieces.specs.Jobs.{Alike, all_found, shown}
use Rattle.tables.specs.Tables.{table_meaning}
use Rattle.tables.specs.declared.table.Table.{Table}

-- Gates all found at one end.
abbrev pub at_end : {G : Type 0} → End → List G → List (End × G)
at_end e gs = map (λ g. (e, g)) gs

-- Gates put in, one after the other.
pub record Took (t : Table) (b : Book Mct) (ps : List (End × Mct)) (t' : Table) (b' : Book Mct) : Type 0 where
  pub same_lines : t'.lines ≡ t.lines
  pub found : Alike t.lines (shown (table_meaning t') b') (all_found mct t.lines ps (shown (table_meaning t) b))
  pub kept : Kept b b'
