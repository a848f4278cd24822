-- Gates written into a book, one after the other.
use Rattle.std.proofs.Common.{◌≡◌, ℕ, ◌+◌, ◌<◌, List, [], ◌∷◌, ◌++◌, length, get_or, take, refl, ap, ◌∙◌}
use Rattle.std.proofs.lemmas.List.{take_more, map-append}
use Rattle.gates.specs.Cnots.{cnot}
use Rattle.gates.specs.declared.cnot.Cnot.{Cnot}
use Rattle.books.specs.Ends.{Ends, put}
use Rattle.pieces.specs.Jobs.{Job, found_at, all_found}
use Rattle.clearing.specs.Clearing.{Placed}
use Rattle.elimination.specs.declared.placed.Placed.{Placed as Held}
use Rattle.elimination.specs.Additions.{at_end}
use Rattle.elimination.specs.Finds.{at_ends, all_put}

pub put_append : (xs ys : List Placed) (e : Ends Cnot) → all_put (xs ++ ys) e ≡ all_put ys (all_put xs e)
put_append [] ys e = refl
put_append (x ∷ xs) ys e = put_append xs ys (put x.0 x.1 e)

-- one gate more; z is never read
pub put_more : (all : List Held) (i : ℕ) (z : Held) (e : Ends Cnot) → i < length all
    → all_put (at_ends (take (i + 1) all)) e ≡ put (at_end (get_or all i z)).0 (at_end (get_or all i z)).1 (all_put (at_ends (take i all)) e)
put_more all i z e h =
    ap (λ (l : List Held). all_put (at_ends l) e) (take_more all i z h)
    ∙ ap (λ (l : List Placed). all_put l e) (map-append at_end (take i all) (get_or all i z ∷ []))
    ∙ put_append (at_ends (take i all)) (at_end (get_or all i z) ∷ []) e

-- the ends of a job after the same gates
pub found_ends : (n : ℕ) (ps : List Placed) (j : Job Cnot) → (all_found cnot n ps j).ends ≡ all_put ps j.ends
found_ends n [] j = refl
found_ends n (p ∷ ps) j = found_ends n ps (found_at cnot n p.0 p.1 j)
