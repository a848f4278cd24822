-- A mapping written out: 2 is mapped to 1 by a gate with control line 1 and target 0, then one with control line 0 and
-- target 1.
use Rattle.std.specs.Prelude.{◌≡◌, [], ◌∷◌}
use Rattle.mapping.specs.Mapping.{mapping}

abbrev pub TwoToOne : Type 0
TwoToOne = mapping 2 1 ≡ record { controls = 2; target = 0 } ∷ (record { controls = 1; target = 1 } ∷ [])
