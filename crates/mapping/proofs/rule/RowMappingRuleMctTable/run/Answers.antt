use Rattle.std.proofs.Common.{rules}
use Rattle.mapping.proofs.RunLaws.{run_ran}
use Rattle.mapping.proofs.rule.RowMappingRuleMctTable.run.Goals as goal

pub returns-clause-after : goal.returns-clause-after
returns-clause-after c =
    let told = c.in_ok-can_run.ensures in
    let rows = c.map_rows.ensures in
    let work = c.map_rows.new.self in
    let ran = run_ran c.args.table.now work.table.now c.args.book.now work.book.now told.ready.0 rows.worked.took rows.identity in
    search rules
