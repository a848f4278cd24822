-- The promise over whole jobs.
use Rattle.std.specs.Prelude.{◌≡◌, true, List, Result}
use Rattle.words.specs.Maps.{Same}
use Rattle.gates.specs.declared.refusal.Refusal.{Refusal}
use Rattle.gates.specs.Gates.{Kind}
use Rattle.books.specs.declared.Book.{Book}
use Rattle.books.specs.Ends.{sound}
use Rattle.books.specs.Books.{ends, Kept}
use Rattle.pieces.specs.Meanings.{Meaning}
use Rattle.pieces.specs.Jobs.{Job, Alike, opened, shown, whole}
use Rattle.takers.specs.Meanings.{Meaning as TakerMeaning}
use Rattle.job.specs.declared.ticket.Ticket.{Ticket}
use Rattle.job.specs.declared.step.Step.{Step}
use Rattle.job.specs.declared.conduct.Ending.{Ending}
use Rattle.job.specs.Paper.{Rules, played, answered, Each}
use Rattle.job.specs.Endings.{Ended}

-- Calls made from the opening on a piece of meaning m, by rules R, with what they leave of piece and book. P is a fact
-- that the rules give of each call.
module _ {C G : Type 0} (K : Kind G) (R : Rules C G) (P : C → Job G → Type 0) (m : Meaning) (b : Book G) (ss ss' : List (Step C)) (m' : Meaning) (b' : Book G) where
  pub record Played (t : Ticket) : Type 0 where
    pub lines : t.lines ≡ m.lines
    pub same_lines : m'.lines ≡ m.lines
    pub kept : Kept b b'
    -- each answer, the gates at the ends in the order found, and the map are those of the job on paper
    pub answers : ss' ≡ answered R ss (opened m.map)
    pub job : Alike m.lines (shown m' b') (played R ss (opened m.map))
    -- a word sent through the input gates, the piece and the output gates comes to its opened image
    pub sent : Same m.lines (whole K m.lines (shown m' b')) m.map
    pub legal : sound K m.lines (ends b') ≡ true
    pub each : Each R P ss (opened m.map)

  -- The same, and then the ending, which changes the taker s to s' and answers e.
  pub record Conducted {T : Type 0} (meaning : T → TakerMeaning) (s s' : T) (ending : Ending) (e : Result (Unit {0}) (Ticket × Refusal)) : Type 0 where
    pub same_lines : m'.lines ≡ m.lines
    pub kept : Kept b b'
    pub answers : ss' ≡ answered R ss (opened m.map)
    pub sent : Same m.lines (whole K m.lines (played R ss (opened m.map))) m.map
    pub legal : sound K m.lines (played R ss (opened m.map)).ends ≡ true
    pub each : Each R P ss (opened m.map)
    pub ended : Ended K meaning m (played R ss (opened m.map)) m' b' s s' e ending
