-- How far a list of calls has come: what is left to do on paper, from the job that the piece and the book show.
use Rattle.std.proofs.Common.{◌≡◌, ℕ, ◌+◌, ◌^◌, ◌<◌, ◌≤◌, List, [], ◌∷◌, ◌++◌, length, get_or, take, drop, set, Some, None, Option, Result, sym, refl, ap, ◌∙◌, subst, append_assoc, arith}
use Rattle.std.proofs.lemmas.List.{append-nil, take_more_set, take_all, drop_more, drop-drop, drop-set-lt, drop_all}
use Rattle.words.specs.Maps.{Same, Apart}
use Rattle.gates.specs.declared.refusal.Refusal.{Refusal}
use Rattle.gates.specs.Gates.{Kind, Lawful}
use Rattle.books.specs.declared.Book.{Book}
use Rattle.books.specs.Ends.{empty, sound}
use Rattle.books.specs.Books.{ends, places, Kept}
use Rattle.books.proofs.KeptLaws.{kept_none, kept_more}
use Rattle.pieces.specs.Meanings.{Meaning}
use Rattle.pieces.specs.Jobs.{Job, Alike, opened, shown, whole}
use Rattle.job.specs.declared.ticket.Ticket.{Ticket}
use Rattle.job.specs.declared.step.Step.{Step}
use Rattle.job.specs.Paper.{Rules, unless, step, played, answered, Each}
use Rattle.job.specs.Calls.{Opened}
use Rattle.job.specs.Steps.{Stands, Stepped, KeepsWhole, Plays}
use Rattle.job.specs.Wholes.{Played}
use Rattle.job.specs.WholeLaws.{alike_whole}
use Rattle.job.proofs.ApartLaws.{inner_apart}

-- Calls made from the opening on a piece of meaning m and a book b: `at` of them are made.
pub record Playing {C G : Type 0} (K : Kind G) (R : Rules C G) (P : C → Job G → Type 0) (m : Meaning) (b : Book G) (ss : List (Step C)) (at : ℕ) (ss' : List (Step C)) (m' : Meaning) (b' : Book G) : Type 0 where
  pub paper : Job G
  pub stands : Stands K m.lines paper m' b'
  pub kept : Kept b b'
  pub sent : Same m.lines (whole K m.lines paper) m.map
  pub rest : drop at ss' ≡ drop at ss
  pub answers : answered R ss (opened m.map) ≡ take at ss' ++ answered R (drop at ss) paper
  pub job : played R ss (opened m.map) ≡ played R (drop at ss) paper
  pub each : Each R P (drop at ss) paper → Each R P ss (opened m.map)

module _ {C G : Type 0} (K : Kind G) (R : Rules C G) (P : C → Job G → Type 0) (m : Meaning) (b : Book G) (ss : List (Step C)) where
  pub playing_none : ends b ≡ empty → Playing K R P m b ss 0 ss m b
  playing_none e = record {
    paper = opened m.map;
    stands = record { same_lines = refl; alike = record { map = λ x h. refl; ends = e }; legal = ap (sound K m.lines) e };
    kept = kept_none b;
    sent = λ x h. refl;
    rest = refl;
    answers = refl;
    job = refl;
    each = λ p. p;
  }

  module _ (law : Lawful K) (at : ℕ) (ss' : List (Step C)) (m₁ : Meaning) (b₁ : Book G) (p : Playing K R P m b ss at ss' m₁ b₁) where
    -- what the piece and the book bring a word to
    shown_sent : Same m.lines (whole K m.lines (shown m₁ b₁)) m.map
    shown_sent x h = alike_whole K m.lines law (shown m₁ b₁) p.paper p.stands.alike x h ∙ p.sent x h

    pub playing_apart : Apart (2 ^ m.lines) m.map → Apart (2 ^ m.lines) m₁.map
    playing_apart = inner_apart K law m.lines (shown m₁ b₁) m.map shown_sent

    module _ (does : (c : C) (j : Job G) (x : ℕ) → whole K m.lines (R.does c j) x ≡ whole K m.lines j x) where
      unless_whole : (o : Option Refusal) (c : C) (j : Job G) (x : ℕ) → whole K m.lines (unless o (R.does c j) j) x ≡ whole K m.lines j x
      unless_whole None c j x = does c j x
      unless_whole (Some why) c j x = refl

      pub playing_next : (m₂ : Meaning) (b₂ : Book G) (s : Step C) (r : Result (Unit {0}) Refusal) → at < length ss' → s ≡ get_or ss' at s →
          Stepped K m.lines (R.declines s.call p.paper) (step R s.call p.paper) r m₂ b₁ b₂ → P s.call p.paper →
          Playing K R P m b ss (at + 1) (set ss' at (record { call = s.call; answer = Some r })) m₂ b₂
      playing_next m₂ b₂ s r h here done fact =
          let j = p.paper in
          let j' = step R s.call j in
          let s' : Step C = record { call = s.call; answer = Some r } in
          let past : drop (at + 1) ss' ≡ drop (at + 1) ss = sym (drop-drop 1 at ss') ∙ ap (drop 1) p.rest ∙ drop-drop 1 at ss in
          let more : drop at ss ≡ s ∷ drop (at + 1) ss =
          sym p.rest ∙ drop_more ss' at s h ∙ ap (λ t. t ∷ drop (at + 1) ss') (sym here) ∙ ap (λ l. s ∷ l) past in
          let front : answered R (drop at ss) j ≡ s' ∷ answered R (drop (at + 1) ss) j' =
          ap (λ l. answered R l j) more ∙ ap (λ t. record { call = s.call; answer = Some t } ∷ answered R (drop (at + 1) ss) j') (sym done.told) in
          record {
            paper = j';
            stands = done.stands;
            kept = kept_more p.kept done.kept;
            sent = λ x k. unless_whole (R.declines s.call j) s.call j x ∙ p.sent x k;
            rest = drop-set-lt (at + 1) ss' at s' (omega arith) ∙ past;
            answers = p.answers ∙ ap (λ l. take at ss' ++ l) front ∙ sym (append_assoc (take at ss') (s' ∷ []) (answered R (drop (at + 1) ss) j'))
                ∙ ap (λ l. l ++ answered R (drop (at + 1) ss) j') (sym (take_more_set ss' at s' h));
            job = p.job ∙ ap (λ l. played R l j) more;
            each = λ q. p.each (subst (λ l. Each R P l j) (sym more) (fact, q));
          }

    pub playing_all : (t : Ticket) (b₀ : Book G) → Opened m b₀ b t → length ss' ≤ at → Played K R P m b₀ ss ss' m₁ b₁ t
    playing_all t b₀ opening h =
        let none : drop at ss ≡ [] = sym p.rest ∙ drop_all at ss' h in
        let answers : answered R ss (opened m.map) ≡ ss' =
        p.answers ∙ ap (λ l. take at ss' ++ answered R l p.paper) none ∙ append-nil (take at ss') ∙ take_all at ss' h in
        let job : played R ss (opened m.map) ≡ p.paper = p.job ∙ ap (λ l. played R l p.paper) none in
        record {
          lines = opening.lines;
          same_lines = p.stands.same_lines;
          kept = kept_more opening.kept p.kept;
          answers = sym answers;
          job = subst (Alike m.lines (shown m₁ b₁)) (sym job) p.stands.alike;
          sent = shown_sent;
          legal = p.stands.legal;
          each = p.each (subst (λ l. Each R P l p.paper) (sym none) tt);
        }

-- the rules and their facts are for the lines of the piece and the places of the empty book
module _ {C G : Type 0} (K : Kind G) (rules : ℕ → ℕ → Rules C G) (gives : ℕ → ℕ → C → Job G → Type 0) (m : Meaning) (b : Book G) (ss : List (Step C))
    (law : Lawful K) (t : Ticket) (b₀ : Book G) (opening : Opened m b₀ b t) (at : ℕ) (ss' : List (Step C)) (m₁ : Meaning) (b₁ : Book G)
    (p : Playing K (rules m.lines (places b)) (gives m.lines (places b)) m b ss at ss' m₁ b₁) where
  pub plays_next : KeepsWhole K rules → Apart (2 ^ m.lines) m.map → (m₂ : Meaning) (b₂ : Book G) (s : Step C) (r : Result (Unit {0}) Refusal) → at < length ss' → s ≡ get_or ss' at s →
      Plays K (rules t.lines (places b₁)) (gives t.lines (places b₁)) t.lines s.call m₁ b₁ r m₂ b₂ →
      Playing K (rules m.lines (places b)) (gives m.lines (places b)) m b ss (at + 1) (set ss' at (record { call = s.call; answer = Some r })) m₂ b₂
  plays_next keeps apart m₂ b₂ s r h here plays =
      let R = rules m.lines (places b) in
      let P = gives m.lines (places b) in
      let made : Plays K (rules m.lines (places b₁)) (gives m.lines (places b₁)) m.lines s.call m₁ b₁ r m₂ b₂ =
      subst (λ (n : ℕ). Plays K (rules n (places b₁)) (gives n (places b₁)) n s.call m₁ b₁ r m₂ b₂) opening.lines plays in
      let done = subst (λ (room : ℕ). Plays K (rules m.lines room) (gives m.lines room) m.lines s.call m₁ b₁ r m₂ b₂) p.kept.room made
      p.paper p.stands (playing_apart K R P m b ss law at ss' m₁ b₁ p apart) in
      playing_next K R P m b ss law at ss' m₁ b₁ p (keeps m.lines (places b)) m₂ b₂ s r h here done.0 done.1

  pub plays_all : length ss' ≤ at → Played K (rules m.lines (places b₀)) (gives m.lines (places b₀)) m b₀ ss ss' m₁ b₁ t
  plays_all h =
      subst (λ (room : ℕ). Played K (rules m.lines room) (gives m.lines room) m b₀ ss ss' m₁ b₁ t) opening.kept.room
      (playing_all K (rules m.lines (places b)) (gives m.lines (places b)) m b ss law at ss' m₁ b₁ p t b₀ opening h)
