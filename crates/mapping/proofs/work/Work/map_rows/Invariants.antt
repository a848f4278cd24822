use Rattle.std.proofs.Common.{◌^◌, ◌<◌}
use Rattle.mapping.specs.Rows.{total}
use Rattle.mapping.specs.Works.{SameLent}
use Rattle.mapping.proofs.LeastLaws.{Looking}
use Rattle.mapping.proofs.RunLaws.{MappedRows, image}
use Rattle.mapping.proofs.work.Work.map_rows.Given as goal

-- the rows so far are mapped
abbrev pub invariant-rows : goal.invariant-rows
invariant-rows l =
    record {
      lent : SameLent l.initial.self l.self;
      mapped : MappedRows l.initial.self.table.now l.initial.self.book.now l.row l.self.table.now l.self.book.now;
    }

-- the best word so far
abbrev pub invariant-loop-word : goal.invariant-loop-word
invariant-loop-word l = (l.best < 2 ^ l.self.table.now.lines) × Looking (total (image l.self.table.now) l.row) l.row l.word l.best l.least
