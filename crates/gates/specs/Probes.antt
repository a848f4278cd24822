-- Words that tell whether two lists of gates have the same map.
use Rattle.std.specs.Prelude.{◌≡◌, ℕ, ◌^◌, ◌<◌, List}
use Rattle.words.specs.Maps.{Same}
use Rattle.gates.specs.Gates.{Kind}
use Rattle.gates.specs.Circuits.{through}

-- The probe words: how many there are for n lines, and which.
pub record Probes : Type 0 where
  pub count : ℕ → ℕ
  pub word : ℕ → ℕ

-- Probe words are words on n lines, and lists of gates that agree on them agree on every word.
pub record Tell {G : Type 0} (K : Kind G) (P : Probes) (n : ℕ) : Type 0 where
  pub within : (k : ℕ) → k < P.count n → P.word k < 2 ^ n
  pub enough : (gs hs : List G) → ((k : ℕ) → k < P.count n → through K n gs (P.word k) ≡ through K n hs (P.word k)) → Same n (through K n gs) (through K n hs)
