-- How a whole job ends.
use Rattle.std.specs.Prelude.{◌≡◌, ℕ, Ok, Err, MatchBool, Result, MatchResult, ◌==◌}
use Rattle.words.specs.Maps.{Same}
use Rattle.gates.specs.declared.refusal.Refusal.{Refusal}
use Rattle.gates.specs.declared.refusal.Refusal.TheVariants.{LinesDiffer}
use Rattle.gates.specs.Gates.{Kind}
use Rattle.books.specs.declared.Book.{Book}
use Rattle.books.specs.Ends.{empty, circuit}
use Rattle.books.specs.Books.{ends}
use Rattle.pieces.specs.Meanings.{Meaning}
use Rattle.pieces.specs.Jobs.{Job, Alike, shown}
use Rattle.takers.specs.Meanings.{Meaning as TakerMeaning, FedAll}
use Rattle.job.specs.declared.ticket.Ticket.{Ticket}
use Rattle.job.specs.declared.conduct.Ending.{Ending}
use Rattle.job.specs.declared.conduct.Ending.TheVariants.{Deliver, GiveUp}
use Rattle.job.specs.Calls.{Ready}

-- The ticket of a job on n lines.
abbrev pub ticket : ℕ → Ticket
ticket n = record { lines = n }

-- A job that was opened on a piece of meaning m, and stands on paper as j, with what the ending leaves of it: m' and b'
-- of piece and book, and s' of the taker s.
module _ {G T : Type 0} (K : Kind G) (meaning : T → TakerMeaning) (m : Meaning) (j : Job G) (m' : Meaning) (b' : Book G) (s s' : T) (e : Result (Unit {0}) (Ticket × Refusal)) where
  -- Giving up is accepted, and leaves the opened map, an empty book, and the taker as it was.
  pub record Withdrawn : Type 0 where
    pub accepted : e ≡ Ok tt
    pub back : Same m.lines m'.map m.map
    pub emptied : ends b' ≡ empty
    pub untouched : s' ≡ s

  -- An accepted delivery: the taker is fed the circuit, its map is its old map followed by the opened one, the book is
  -- empty, and the piece keeps its map.
  pub record Accepted : Type 0 where
    pub fed : FedAll K (meaning s) (circuit j.ends) (meaning s')
    pub follows : Same m.lines (meaning s').map (λ w. m.map ((meaning s).map w))
    pub emptied : ends b' ≡ empty
    pub same_map : Same m.lines m'.map j.map

  -- A declined one: piece, book and taker are as they were.
  pub record Declined : Type 0 where
    pub job : Alike m.lines (shown m' b') j
    pub untouched : s' ≡ s

  -- A delivery is accepted exactly when the line counts are equal, the map is identity and the taker has a place for each
  -- gate.
  pub record HandedOver : Type 0 where
    pub answer : MatchBool (m.lines == (meaning s).lines) (Ready (ticket m.lines) m.lines j.map j.ends (meaning s).free e) (e ≡ Err (ticket m.lines, LinesDiffer))
    pub after : MatchResult e (λ _. Accepted) (λ _. Declined)

  abbrev pub Ended : Ending → Type 0
  Ended Deliver = HandedOver
  Ended GiveUp = Withdrawn
