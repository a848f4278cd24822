-- No call changes what a word comes to when it is sent through the gates and the map.
use Rattle.std.proofs.Common.{◌≡◌, ℕ, List, [], ◌∷◌, reverse, Some, None, Option, refl, ap, ◌∙◌}
use mathlib.Core.List.{reverse-append}
use Rattle.gates.specs.declared.end.End.{End}
use Rattle.gates.specs.declared.end.End.TheVariants.{Input, Output}
use Rattle.gates.specs.Gates.{Kind, Lawful}
use Rattle.gates.specs.Circuits.{through}
use Rattle.gates.specs.CircuitLaws.{through_append, undone}
use Rattle.books.specs.Ends.{found, last}
use Rattle.pieces.specs.Jobs.{Job, whole, found_at, all_found}
use Rattle.pieces.specs.Runs.{Plan}
use Rattle.job.specs.declared.call.Edit.{Edit}
use Rattle.job.specs.declared.call.Edit.TheVariants.{Put, TakeBack}
use Rattle.job.specs.declared.call.Call.{Call}
use Rattle.job.specs.declared.call.Call.TheVariants.{ByHand, Run}
use Rattle.job.specs.Paper.{taken, done, call_done}
use Rattle.job.specs.WholeLaws.{taken_whole}

module _ {G : Type 0} (K : Kind G) (law : Lawful K) (n : ℕ) where
  -- the gate in the map and the one in the list undo each other
  put_whole : (e : End) (g : G) (j : Job G) (x : ℕ) → whole K n (found_at K n e g j) x ≡ whole K n j x
  put_whole Input g j x =
      ap (λ (w : ℕ). through K n (reverse j.ends.outs) (j.map (K.act n g w))) (through_append K n j.ends.ins (g ∷ []) x)
      ∙ ap (λ (w : ℕ). through K n (reverse j.ends.outs) (j.map w)) (undone K law n g (through K n j.ends.ins x))
  put_whole Output g j x =
      ap (λ l. through K n l (K.act n g (j.map (through K n j.ends.ins x)))) (reverse-append j.ends.outs (g ∷ []))
      ∙ ap (through K n (reverse j.ends.outs)) (undone K law n g (j.map (through K n j.ends.ins x)))

  take_whole : (e : End) (o : Option G) (j : Job G) (x : ℕ) → o ≡ last (found e j.ends) → whole K n (taken K n e o j) x ≡ whole K n j x
  take_whole e None j x h = refl
  take_whole e (Some g) j x h = taken_whole K n e g j x h

  pub done_whole : (c : Edit G) (j : Job G) (x : ℕ) → whole K n (done K n c j) x ≡ whole K n j x
  done_whole (Put e g) j x = put_whole e g j x
  done_whole (TakeBack e) j x = take_whole e (last (found e j.ends)) j x refl

  all_found_whole : (ps : List (End × G)) (j : Job G) (x : ℕ) → whole K n (all_found K n ps j) x ≡ whole K n j x
  all_found_whole [] j x = refl
  all_found_whole (p ∷ ps) j x = all_found_whole ps (found_at K n p.0 p.1 j) x ∙ put_whole p.0 p.1 j x

  pub call_whole : (plan : Plan G) (c : Call G) (j : Job G) (x : ℕ) → whole K n (call_done K n plan c j) x ≡ whole K n j x
  call_whole plan (ByHand c) j x = done_whole c j x
  call_whole plan Run j x = all_found_whole (plan.gates n j.map) j x
