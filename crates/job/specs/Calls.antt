-- What a call answers and does, shown any ticket, piece, book and taker.
use Rattle.std.specs.Prelude.{◌≡◌, ℕ, ◌^◌, Bool, not, Some, Ok, Err, Decides, MatchBool, MatchResult, Option, Result, ◌==◌}
use Rattle.words.specs.Maps.{Same, Keeps, Identity, Apart, Clash}
use Rattle.gates.specs.declared.refusal.Refusal.{Refusal}
use Rattle.gates.specs.declared.refusal.Refusal.TheVariants.{LinesDiffer, IllegalGate, SharedImage, NotIdentity}
use Rattle.gates.specs.Gates.{Kind}
use Rattle.gates.specs.Refusals.{answer, first, unless_legal, short}
use Rattle.books.specs.declared.Book.{Book}
use Rattle.books.specs.Ends.{Ends, empty, held, circuit, sound}
use Rattle.books.specs.Books.{ends, places, Kept}
use Rattle.pieces.specs.Meanings.{Meaning}
use Rattle.pieces.specs.Jobs.{Alike, opened, shown, whole}
use Rattle.pieces.specs.Runs.{Plan, RunTells, Ran}
use Rattle.takers.specs.Meanings.{Meaning as TakerMeaning, FedAll}
use Rattle.job.specs.declared.ticket.Ticket.{Ticket}
use Rattle.job.specs.declared.call.Edit.{Edit}
use Rattle.job.specs.declared.call.Edit.TheVariants.{Put, TakeBack}
use Rattle.job.specs.declared.call.Call.{Call}
use Rattle.job.specs.declared.call.Call.TheVariants.{ByHand, Run}
use Rattle.job.specs.Paper.{declines, done}

-- ---- opening

-- An opening is declined exactly where two words share an image; then the clash is told, and the fact Q holds. Else P
-- holds of what it gives.
abbrev pub Opens : {X : Type 0} → Meaning → (X → Type 0) → Type 0 → Result X Refusal → Type 0
Opens m P Q (Ok x) = Apart (2 ^ m.lines) m.map × P x
Opens m P Q (Err why) = ((p : ℕ × ℕ) × Clash m.lines m.map (Some p) × (why ≡ SharedImage p.0 p.1)) × Q

-- The ticket carries the lines of the piece, and the book is empty.
pub record Opened {G : Type 0} (m : Meaning) (b b' : Book G) (t : Ticket) : Type 0 where
  pub lines : t.lines ≡ m.lines
  pub emptied : ends b' ≡ empty
  pub kept : Kept b b'

-- ---- any call

-- An accepted call changes piece and book as D tells; a declined one leaves both as they were.
abbrev pub Changes : {G T X E : Type 0} → (Meaning → Book G → Meaning → Book G → Type 0) → (T → Meaning) → Result X E → T → Book G → T → Book G → Type 0
Changes D meaning r p b p' b' = MatchResult r (λ _. D (meaning p) b (meaning p') b') (λ _. (p' ≡ p) × (b' ≡ b))

-- ---- gates found and taken back

module _ {G : Type 0} (K : Kind G) where
  -- The first reason against a call that looks at the whole book: a ticket on other lines, then an illegal gate in the book.
  abbrev pub spoilt : (n m : ℕ) → Ends G → Option Refusal → Option Refusal
  spoilt n m es next = first (not (n == m)) LinesDiffer (unless_legal (sound K n es) next)

  -- The first reason against a gate found or taken back, under a ticket of n lines, shown a piece of m lines and a book
  -- of so many places.
  abbrev pub against : (n m room : ℕ) → Edit G → Ends G → Option Refusal
  against n m room (Put e g) es = first (not (n == m)) LinesDiffer (declines K n room (Put e g) es)
  against n m room (TakeBack e) es = spoilt n m es (declines K n room (TakeBack e) es)

  -- The piece and the book have done what the job on paper does.
  pub record Edited (c : Edit G) (m : Meaning) (b : Book G) (m' : Meaning) (b' : Book G) : Type 0 where
    pub same_lines : m'.lines ≡ m.lines
    pub job : Alike m.lines (shown m' b') (done K m.lines c (shown m b))
    pub kept : Kept b b'

  -- ---- giving up

  -- Every gate is taken back, so that the piece has the map of the whole circuit, and the book is empty.
  pub record GivenUp (m : Meaning) (b : Book G) (m' : Meaning) (b' : Book G) : Type 0 where
    pub same_lines : m'.lines ≡ m.lines
    pub job : Alike m.lines (shown m' b') (opened (whole K m.lines (shown m b)))
    pub kept : Kept b b'

-- ---- runs

-- The answer to a run under a ticket of n lines.
abbrev pub RunAnswer : {G : Type 0} → Plan G → ℕ → Meaning → Book G → Result (Unit {0}) Refusal → Type 0
RunAnswer plan n m b r = MatchBool (n == m.lines) (RunTells plan m b r) (r ≡ Err LinesDiffer)

-- The answer to any of the calls, and what an accepted one does.
abbrev pub CallAnswer : {G : Type 0} → Kind G → Plan G → ℕ → Call G → Meaning → Book G → Result (Unit {0}) Refusal → Type 0
CallAnswer K plan n (ByHand c) m b r = r ≡ answer (against K n m.lines (places b) c (ends b))
CallAnswer K plan n Run m b r = RunAnswer plan n m b r

abbrev pub CallDone : {G : Type 0} → Kind G → Plan G → Call G → Meaning → Book G → Meaning → Book G → Type 0
CallDone K plan (ByHand c) m b m' b' = Edited K c m b m' b'
CallDone K plan Run m b m' b' = Ran K plan m b m' b' × Kept b b'

-- ---- delivery

-- The answer to a delivery or giving-up: an accepted one ends the ticket, and a declined one hands it back.
abbrev pub ended : Ticket → Result (Unit {0}) Refusal → Result (Unit {0}) (Ticket × Refusal)
ended t (Ok u) = Ok tt
ended t (Err why) = Err (t, why)

abbrev pub handed : Ticket → Option Refusal → Result (Unit {0}) (Ticket × Refusal)
handed t why = ended t (answer why)

-- A delivery whose line counts and gates are in order needs a piece at identity, and a place of the taker for each gate.
abbrev pub Ready : {G : Type 0} → Ticket → (n : ℕ) → (ℕ → ℕ) → Ends G → (free : ℕ) → Result (Unit {0}) (Ticket × Refusal) → Type 0
Ready t n f es free r = (yes : Bool) × Decides yes (Identity n f) × (r ≡ handed t (first (not yes) NotIdentity (short (held es) free)))

module _ {G : Type 0} (K : Kind G) where
  -- The answer to a delivery: the lines of ticket and piece, those of piece and taker, the gates of the book, and then
  -- whether all is ready.
  abbrev pub DeliveryAnswer : Ticket → Meaning → Ends G → TakerMeaning → Result (Unit {0}) (Ticket × Refusal) → Type 0
  DeliveryAnswer t m es s r =
      MatchBool (t.lines == m.lines)
      (MatchBool (m.lines == s.lines)
      (MatchBool (sound K t.lines es) (Ready t m.lines m.map es s.free r) (r ≡ Err (t, IllegalGate)))
      (r ≡ Err (t, LinesDiffer)))
      (r ≡ Err (t, LinesDiffer))

  -- The taker is fed the gates of the book in circuit order, so that the map of the whole circuit follows its own, and
  -- the book is empty.
  pub record Delivered (m : Meaning) (b b' : Book G) (s s' : TakerMeaning) : Type 0 where
    pub fed : FedAll K s (circuit (ends b)) s'
    pub keeps : Keeps m.lines s.map
    pub follows : Same m.lines s'.map (λ w. whole K m.lines (shown m b) (s.map w))
    pub emptied : ends b' ≡ empty
    pub kept : Kept b b'
