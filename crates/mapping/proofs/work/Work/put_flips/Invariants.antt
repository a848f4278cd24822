use Rattle.mapping.specs.Works.{Worked}
use Rattle.mapping.proofs.TookLaws.{so_far}
use Rattle.mapping.proofs.work.Work.put_flips.Given as goal

-- the gates of the lines so far are put in
abbrev pub invariant-loop-target : goal.invariant-loop-target
invariant-loop-target l = Worked l.initial.self (so_far l.end l.controls l.targets l.target) l.self
