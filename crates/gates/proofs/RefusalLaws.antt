-- When a count of places is short.
use Rattle.std.proofs.Common.{◌≡◌, ℕ, ◌<◌, ◌≤◌, Some, None, ap}
use Rattle.std.proofs.lemmas.Bool.{lt-ltb, le-ltb}
use Rattle.gates.specs.declared.refusal.Refusal.TheVariants.{TooFewPlaces}
use Rattle.gates.specs.Refusals.{short, first}

pub short_none : (needed free : ℕ) → needed ≤ free → short needed free ≡ None
short_none needed free h = ap (λ b. first b (TooFewPlaces needed free) None) (le-ltb free needed h)

pub short_some : (needed free : ℕ) → free < needed → short needed free ≡ Some (TooFewPlaces needed free)
short_some needed free h = ap (λ b. first b (TooFewPlaces needed free) None) (lt-ltb free needed h)
