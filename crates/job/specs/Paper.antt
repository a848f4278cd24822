-- The job on paper: what each call does to a map and the gates found at its ends. It knows the number of lines, the
-- places of the empty book and the plan of a run, and nothing of the program.
use Rattle.std.specs.Prelude.{◌≡◌, ℕ, ◌+◌, ◌-◌, ◌≤◌, List, [], ◌∷◌, Some, None, Option}
use Rattle.words.specs.Maps.{Identity}
use Rattle.gates.specs.declared.refusal.Refusal.{Refusal}
use Rattle.gates.specs.declared.refusal.Refusal.TheVariants.{NothingFound}
use Rattle.gates.specs.declared.end.End.{End}
use Rattle.gates.specs.Gates.{Kind}
use Rattle.gates.specs.Refusals.{answer, unless_legal, short}
use Rattle.books.specs.Ends.{Ends, found, held, strike, last}
use Rattle.pieces.specs.Meanings.{moved}
use Rattle.pieces.specs.Jobs.{Job, found_at, all_found}
use Rattle.pieces.specs.Runs.{Plan}
use Rattle.job.specs.declared.call.Edit.{Edit}
use Rattle.job.specs.declared.call.Edit.TheVariants.{Put, TakeBack}
use Rattle.job.specs.declared.call.Call.{Call}
use Rattle.job.specs.declared.call.Call.TheVariants.{ByHand, Run}
use Rattle.job.specs.declared.step.Step.{Step}

-- When a call declines and why, and what an accepted one does.
pub record Rules (C G : Type 0) : Type 0 where
  pub declines : C → Job G → Option Refusal
  pub does : C → Job G → Job G

-- A declined call changes nothing.
abbrev pub unless : {X : Type 0} → Option Refusal → X → X → X
unless None new old = new
unless (Some why) new old = old

module _ {C G : Type 0} (R : Rules C G) where
  abbrev pub step : C → Job G → Job G
  step c j = unless (R.declines c j) (R.does c j) j

  -- The job after a list of calls.
  abbrev pub played : List (Step C) → Job G → Job G
  played [] j = j
  played (s ∷ ss) j = played ss (step s.call j)

  -- The calls with their answers.
  abbrev pub answered : List (Step C) → Job G → List (Step C)
  answered [] j = []
  answered (s ∷ ss) j = record { call = s.call; answer = Some (answer (R.declines s.call j)) } ∷ answered ss (step s.call j)

  -- A fact of each call and the job that it is made on.
  abbrev pub Each : (C → Job G → Type 0) → List (Step C) → Job G → Type 0
  Each P [] j = Unit {0}
  Each P (s ∷ ss) j = P s.call j × Each P ss (step s.call j)

-- Nothing was found that could be taken back.
abbrev pub unless_some : {G : Type 0} → Option G → Option Refusal
unless_some None = Some NothingFound
unless_some (Some g) = None

-- Gates found and taken back at the ends of n lines, in a book of so many places.
module _ {G : Type 0} (K : Kind G) (n : ℕ) where
  abbrev pub declines : ℕ → Edit G → Ends G → Option Refusal
  declines room (Put e g) es = unless_legal (K.legal n g) (short 1 (room - held es))
  declines room (TakeBack e) es = unless_some (last (found e es))

  -- The last gate of an end is struck, and acts on the map at that end.
  abbrev pub taken : End → Option G → Job G → Job G
  taken e None j = j
  taken e (Some g) j = record { map = moved K n e g j.map; ends = strike e j.ends }

  abbrev pub done : Edit G → Job G → Job G
  done (Put e g) j = found_at K n e g j
  done (TakeBack e) j = taken e (last (found e j.ends)) j

  abbrev pub edits : ℕ → Rules (Edit G) G
  edits room = record { declines = λ c j. declines room c j.ends; does = done }

  -- And runs, by a plan.
  module _ (plan : Plan G) where
    abbrev pub call_declines : ℕ → Call G → Job G → Option Refusal
    call_declines room (ByHand c) j = declines room c j.ends
    call_declines room Run j = short (plan.budget n) (room - held j.ends)

    abbrev pub call_done : Call G → Job G → Job G
    call_done (ByHand c) j = done c j
    call_done Run j = all_found K n (plan.gates n j.map) j

    abbrev pub calls : ℕ → Rules (Call G) G
    calls room = record { declines = call_declines room; does = call_done }

    -- An accepted run ends at identity, and adds no more gates than it needs places.
    abbrev pub RunEnds : ℕ → Call G → Job G → Type 0
    RunEnds room (ByHand c) j = Unit {0}
    RunEnds room Run j =
        call_declines room Run j ≡ None → Identity n (call_done Run j).map × (held (call_done Run j).ends ≤ held j.ends + plan.budget n)
