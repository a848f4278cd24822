-- A search for words that share an image, word by word: which images the words so far have.
use Rattle.std.proofs.Common.{◌≡◌, ℕ, ◌<◌, Bool, true, false, List, length, get_or, replicate, sym, refl, ◌∙◌, arith}
use Rattle.std.proofs.lemmas.List.{get_or-replicate}
use Rattle.std.proofs.lemmas.Bool.{false≢true}
use Rattle.words.specs.Maps.{Apart}

module _ (f : ℕ → ℕ) where
  -- a word, of those below b, has the image v
  abbrev pub Taken : (b v : ℕ) → Type 0
  Taken b v = (a : ℕ) × (a < b) × (f a ≡ v)

  pub record Seen (b : ℕ) (seen : List Bool) : Type 0 where
    pub full : length seen ≡ 256
    pub apart : Apart b f
    pub taken : (v : ℕ) → v < 256 → get_or seen v false ≡ true → Taken b v
    pub told : (x : ℕ) → x < b → get_or seen (f x) false ≡ true

  pub seen_none : Seen 0 (replicate 256 false)
  seen_none = record {
    full = refl;
    apart = λ x y h k. absurd (omega arith);
    taken = λ v h e. absurd (false≢true (sym (get_or-replicate 256 v false false h) ∙ e));
    told = λ x h. absurd (omega arith);
  }
