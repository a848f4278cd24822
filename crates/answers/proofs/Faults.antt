-- The line of a fault: its parts, and that it is short.
use Rattle.std.proofs.Common.{◌≡◌, ℕ, ◌^◌, ◌<◌, ◌≤◌, List, [], ◌∷◌, ◌++◌, length, decimal, append_assoc, arith, length-append}
use Rattle.gates.specs.Refusals.{number}
use Rattle.sheet.specs.declared.fault.Fault.{Fault}
use Rattle.sheet.specs.declared.fault.Layer.{Layer}
use Rattle.sheet.specs.declared.fault.Layer.TheVariants.{Contents, Body, Work}
use Rattle.sheet.specs.Fault.{layer_name}
use Rattle.sheet.specs.Render.{numbers_text}
use Rattle.answers.specs.Answers.{fault_text}
use Rattle.answers.specs.Pens.{wrote}
use Rattle.answers.specs.LineLaws.{decimal_long}
use Rattle.answers.proofs.Pens.{wrote_joined}

pub wrote_fault : (s : List ℕ × ℕ) (n line : ℕ) (layer : List ℕ)
    → wrote (wrote (wrote (wrote (wrote s (70 ∷ 32 ∷ [])) (numbers_text (n ∷ line ∷ []))) (32 ∷ [])) layer) (10 ∷ []) ≡ wrote s (70 ∷ 32 ∷ (decimal n ++ (32 ∷ (decimal line ++ (32 ∷ (layer ++ 10 ∷ []))))))
wrote_fault s n line layer = simp (wrote_joined, append_assoc)

layer_long : (l : Layer) → length (layer_name l) ≤ 8
layer_long Contents = omega arith
layer_long Body = omega arith
layer_long Work = omega arith

pub fault_long : (f : Fault) → length (fault_text f) < 2 ^ 64
fault_long f =
    let after = layer_name f.layer ++ 10 ∷ [] in
    omega (
      arith,
      decimal_long (number f.why),
      decimal_long f.line,
      layer_long f.layer,
      length-append (decimal (number f.why)) (32 ∷ (decimal f.line ++ (32 ∷ after))),
      length-append (decimal f.line) (32 ∷ after),
      length-append (layer_name f.layer) (10 ∷ []),
    )
