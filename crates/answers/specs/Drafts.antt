-- What a draft holds.
use Rattle.std.specs.Prelude.{◌≡◌, ℕ, ◌^◌, Bool, cond, ◌&&◌, List, [], ◌∷◌, ◌++◌, map, length, take, Ok, Err, Result, nat_lt}
use Rattle.arrayvec.specs.ArrayVec.{array_vec_len}
use Rattle.gates.specs.declared.refusal.Refusal.{Refusal}
use Rattle.gates.specs.declared.refusal.Refusal.TheVariants.{TooFewPlaces, AnswerTooLong}
use Rattle.sheet.specs.Render.{lines_text}
use Rattle.answers.specs.declared.draft.Draft.{Draft}
use Rattle.answers.specs.declared.head.AnswerKind.{AnswerKind}
use Rattle.answers.specs.Answers.{Answer, kind, line_count, body, head, bodies}

-- The draft d holds the answers xs: what their contents lines tell, and the text of their bodies.
-- Of a text that is longer than 65,536 bytes it has the first 65,536, and it counts them all.
pub record Drafts (d : Draft) (xs : List Answer) : Type 0 where
  pub heads : d.heads.items ≡ map head xs
  pub size : d.size ≡ length (lines_text (bodies xs))
  pub bytes : take d.size d.bodies ≡ take 65536 (lines_text (bodies xs))

-- Whether a draft takes one answer more, with a body of that many lines.
abbrev pub takes : Draft → ℕ → Bool
takes d count = nat_lt (array_vec_len d.heads) 16 && nat_lt count (2 ^ 32)

-- Why it takes none: 16 are drafted already, or the body has too many lines.
abbrev pub untaken : Draft → Refusal
untaken d = cond (nat_lt (array_vec_len d.heads) 16) AnswerTooLong (TooFewPlaces 1 0)

-- What it tells of one answer more.
abbrev pub taken : Draft → ℕ → Result (Unit {0}) Refusal
taken d count = cond (takes d count) (Ok tt) (Err (untaken d))

-- The answer a comes after all others, or nothing changes.
abbrev pub Adds : Result (Unit {0}) Refusal → Answer → Draft → Draft → Type 0
Adds (Ok done) a old new = (xs : List Answer) → Drafts old xs → Drafts new (xs ++ a ∷ [])
Adds (Err why) a old new = new ≡ old

-- The answer a is of that kind, on n lines, and has the body ls.
pub record Is (a : Answer) (k : AnswerKind) (n : ℕ) (ls : List (List ℕ)) : Type 0 where
  pub kind : kind a ≡ k
  pub lines : line_count a ≡ n
  pub body : body a ≡ ls
