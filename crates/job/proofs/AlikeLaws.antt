-- Jobs that are alike stay alike under each call.
use Rattle.std.proofs.Common.{ℕ, Some, None, Option, ap, subst}
use Rattle.gates.specs.declared.end.End.{End}
use Rattle.gates.specs.Gates.{Kind, Lawful}
use Rattle.books.specs.Ends.{found, strike, last}
use Rattle.pieces.specs.Jobs.{Job, Alike}
use Rattle.pieces.proofs.Finding.{moved_same, found_alike}
use Rattle.job.specs.declared.call.Edit.{Edit}
use Rattle.job.specs.declared.call.Edit.TheVariants.{Put, TakeBack}
use Rattle.job.specs.Paper.{taken, done}

module _ {G : Type 0} (K : Kind G) (law : Lawful K) (n : ℕ) where
  taken_alike : (e : End) (o : Option G) (j k : Job G) → Alike n j k → Alike n (taken K n e o j) (taken K n e o k)
  taken_alike e None j k a = a
  taken_alike e (Some g) j k a = record { map = moved_same K law n e g j.map k.map a.map; ends = ap (strike e) a.ends }

  pub done_alike : (c : Edit G) (j k : Job G) → Alike n j k → Alike n (done K n c j) (done K n c k)
  done_alike (Put e g) j k a = found_alike K law n e g j k a
  done_alike (TakeBack e) j k a =
      let o = last (found e j.ends) in
      subst (λ p. Alike n (taken K n e o j) (taken K n e p k)) (ap (λ es. last (found e es)) a.ends) (taken_alike e o j k a)
