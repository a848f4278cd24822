-- The image of a word sent through the gates and the map: of jobs that are alike, and where a gate is taken back.
use Rattle.std.proofs.Common.{◌≡◌, ℕ, [], ◌∷◌, reverse, Some, sym, ap, ◌∙◌}
use mathlib.Core.List.{reverse-append}
use Rattle.words.specs.Maps.{Same}
use Rattle.gates.specs.declared.end.End.{End}
use Rattle.gates.specs.declared.end.End.TheVariants.{Input, Output}
use Rattle.gates.specs.Gates.{Kind, Lawful}
use Rattle.gates.specs.Circuits.{through}
use Rattle.gates.specs.CircuitLaws.{through_append, through_keeps}
use Rattle.books.specs.Ends.{found, last, front}
use Rattle.books.proofs.EndLaws.{last_split}
use Rattle.pieces.specs.Jobs.{Job, Alike, whole}
use Rattle.job.specs.Paper.{taken}

module _ {G : Type 0} (K : Kind G) (n : ℕ) where
  pub alike_whole : Lawful K → (j k : Job G) → Alike n j k → Same n (whole K n j) (whole K n k)
  alike_whole law j k a x h =
      ap (through K n (reverse j.ends.outs)) (a.map (through K n j.ends.ins x) (through_keeps K law n j.ends.ins x h))
      ∙ ap (λ es. through K n (reverse es.outs) (k.map (through K n es.ins x))) a.ends

  pub taken_whole : (e : End) (g : G) (j : Job G) (x : ℕ) → Some g ≡ last (found e j.ends) → whole K n (taken K n e (Some g) j) x ≡ whole K n j x
  taken_whole Input g j x h =
      let is = j.ends.ins in
      ap (λ w. through K n (reverse j.ends.outs) (j.map w))
      (sym (through_append K n (front is) (g ∷ []) x) ∙ ap (λ l. through K n l x) (sym (last_split is g (sym h))))
  taken_whole Output g j x h =
      let os = j.ends.outs in
      let w = j.map (through K n j.ends.ins x) in
      ap (λ l. through K n l w) (sym (reverse-append (front os) (g ∷ []))) ∙ ap (λ l. through K n (reverse l) w) (sym (last_split os g (sym h)))
