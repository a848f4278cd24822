use Rattle.std.proofs.Common.{sym}
use Rattle.answers.proofs.Fitting.{written_fits, written_declined}
use Rattle.answers.proofs.draft.Draft.write.Goals as goal

pub returns-in-Some : goal.returns-in-Some
returns-in-Some c xs drafts = written_declined _ xs drafts _ _ _ _ _ c.usable-room.ensures c.decline.ensures.told (sym c.in-Some.ensures) c.decline.ensures.zeros

pub returns-in-None : goal.returns-in-None
returns-in-None c xs drafts = written_fits _ xs drafts _ _ _ _ c.usable-room.ensures (sym c.in-None.ensures) c.lay.ensures
