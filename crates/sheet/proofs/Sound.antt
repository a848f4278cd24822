-- What a contents line that is read keeps to.
use Rattle.std.proofs.Common.{◌≡◌, ℕ, zero, suc, ◌+◌, ◌<◌, ◌≤◌, Bool, true, false, cond, ◌&&◌, eqb, leb, List, [], ◌∷◌, length, get_or, IfSome, Some, None, Ok, Err, Option, Result, refl, ap, subst, arith}
use Rattle.std.specs.Char.{is_ascii_uppercase}
use Rattle.std.specs.List.{AllByRecursion}
use Rattle.std.proofs.lemmas.Bool.{and_parts, leb-true}
use Rattle.sheet.specs.declared.fault.Fault.{Fault}
use Rattle.gates.specs.declared.refusal.Refusal.{Refusal}
use Rattle.gates.specs.declared.refusal.Refusal.TheVariants.{WrongForm, WrongContents}
use Rattle.sheet.specs.declared.fault.Layer.TheVariants as layer
use Rattle.sheet.specs.declared.contents.Contents.{Contents}
use Rattle.sheet.specs.declared.contents.Kind.{Kind}
use Rattle.sheet.specs.Text.{pieces, numeral}
use Rattle.sheet.specs.Fault.{and_then, placed, line_by}
use Rattle.sheet.specs.Form.{both, numerals, numbers, triple, after_letter, fields, kind_of, fits, contents_with, contents_of, contents, head_of, head}
use Rattle.sheet.specs.Sheet.{Sound, contents_lines}
use Rattle.sheet.proofs.Numeral.{decimal_numeral}

abbrev Small : ℕ → Type 0
Small n = n < 100000

found_from : {A : Type 0} (P : A → Type 0) (o : Option A) → ((x : A) → o ≡ Some x → P x) → IfSome o P
found_from P None h = tt
found_from P (Some x) h = h x refl

both_small : (o : Option ℕ) (ns : Option (List ℕ)) → IfSome o Small → IfSome ns (AllByRecursion Small) → IfSome (both o ns) (AllByRecursion Small)
both_small None ns h k = tt
both_small (Some n) None h k = tt
both_small (Some n) (Some ns) h k = (h, k)

numerals_small : (ps : List (List ℕ)) → IfSome (numerals ps) (AllByRecursion Small)
numerals_small [] = tt
numerals_small (p ∷ ps) =
    both_small (numeral p) (numerals ps) (found_from Small (numeral p) (λ n e. (decimal_numeral p n e).1)) (numerals_small ps)

triple_small : (o : Option (List ℕ)) → IfSome o (AllByRecursion Small) → IfSome (triple o) (λ x. x.1 < 100000)
triple_small None h = tt
triple_small (Some []) h = tt
triple_small (Some (x ∷ [])) h = tt
triple_small (Some (x ∷ y ∷ [])) h = tt
triple_small (Some (x ∷ y ∷ z ∷ [])) h = h.1.0
triple_small (Some (x ∷ y ∷ z ∷ u ∷ us)) h = tt

letter_small : (b : ℕ) (t : Bool) (o : Option (ℕ × ℕ × ℕ)) → IfSome o (λ x. x.1 < 100000) → IfSome (cond t (after_letter b o) None) (λ x. x.2 < 100000)
letter_small b true None h = tt
letter_small b true (Some x) h = h
letter_small b false o h = tt

fields_small : (l : List ℕ) → IfSome (fields l) (λ x. x.2 < 100000)
fields_small [] = tt
fields_small (b ∷ []) = tt
fields_small (b ∷ s ∷ rest) = letter_small b (is_ascii_uppercase b && eqb s 32) (triple (numbers rest)) (triple_small (numbers rest) (numerals_small (pieces 32 rest)))

-- P of what a reading gives
abbrev pub Gives : {A E : Type 0} → Result A E → (A → Type 0) → Type 0
Gives (Ok a) P = P a
Gives (Err e) P = Unit {0}

cond_gives : (t : Bool) (c : Contents) → (t ≡ true → Sound c) → Gives {E = Refusal} (cond t (Ok c) (Err WrongContents)) Sound
cond_gives true c h = h refl
cond_gives false c h = tt

entry_sound : (first : ℕ) (k : Option Kind) (n count at : ℕ) → count < 100000 → Gives (contents_with first k n count at) Sound
entry_sound first None n count at h = tt
entry_sound first (Some k) n count at h =
    cond_gives (fits k n count && eqb at first) (record { kind = k; lines = n; count = count }) (λ e.
    ((and_parts _ _ e).0, h))

fields_sound : (first : ℕ) (o : Option (ℕ × ℕ × ℕ × ℕ)) → IfSome o (λ x. x.2 < 100000) → Gives (contents_of first o) Sound
fields_sound first None h = tt
fields_sound first (Some x) h = entry_sound first (kind_of x.0) x.1 x.2 x.3 h

pub contents_sound : (first : ℕ) (l : List ℕ) → Gives (contents first l) Sound
contents_sound first l = fields_sound first (fields l) (fields_small l)

with_rest : {A B : Type 0} → B → A → Result (A × B) Fault
with_rest z a = Ok (a, z)

placed_gives : {A B : Type 0} (P : A → Type 0) (w : ℕ) (r : Result A Refusal) (z : B) → Gives r P → Gives (and_then (placed layer.Contents w r) (with_rest z)) (λ x. P x.0)
unfolding with_rest
placed_gives P w (Ok a) z h = h
placed_gives P w (Err e) z h = tt

pub line_sound : (i first : ℕ) (ps : List (List ℕ)) → Gives (line_by layer.Contents i (contents first) ps) (λ x. Sound x.0)
unfolding with_rest
line_sound i first [] = tt
line_sound i first (l ∷ []) = tt
line_sound i first (l ∷ p ∷ ps) = placed_gives Sound i (contents first l) (p ∷ ps) (contents_sound first l)

pub gives_at : {A E : Type 0} (P : A → Type 0) (r : Result A E) (a : A) → Gives r P → r ≡ Ok a → P a
gives_at P r a h e = subst (λ z. Gives z P) e h

pub every_at : {A : Type 0} (P : A → Type 0) (xs : List A) (i : ℕ) (d : A) → AllByRecursion P xs → i < length xs → P (get_or xs i d)
every_at P [] i d h l = absurd (omega arith)
every_at P (x ∷ xs) zero d h l = h.0
every_at P (x ∷ xs) (suc i) d h l = every_at P xs i d h.1 (omega arith)

-- the contents lines that are read: how many, and each sound
LinesSound : ℕ → List Contents × List (List ℕ) → Type 0
LinesSound k y = (length y.0 ≡ k) × AllByRecursion Sound y.0

onto_sound : (k : ℕ) (c : Contents) (r : Result (List Contents × List (List ℕ)) Fault) → Sound c → Gives r (LinesSound k) → Gives (and_then r (λ y. Ok (c ∷ y.0, y.1))) (LinesSound (suc k))
unfolding LinesSound
onto_sound k c (Ok y) s h = (ap suc h.0, (s, h.1))
onto_sound k c (Err e) s h = tt

next_sound : (k : ℕ) (r : Result (Contents × List (List ℕ)) Fault) (rest : Contents × List (List ℕ) → Result (List Contents × List (List ℕ)) Fault) → Gives r (λ x. Sound x.0) → ((x : Contents × List (List ℕ)) → Gives (rest x) (LinesSound k)) → Gives (and_then r (λ x. and_then (rest x) (λ y. Ok (x.0 ∷ y.0, y.1)))) (LinesSound (suc k))
next_sound k (Ok x) rest h g = onto_sound k x.0 (rest x) h (g x)
next_sound k (Err e) rest h g = tt

lines_sound : (k i first : ℕ) (ps : List (List ℕ)) → Gives (contents_lines k i first ps) (LinesSound k)
unfolding LinesSound
lines_sound zero i first ps = (refl, tt)
lines_sound (suc k) i first ps =
    next_sound k (line_by layer.Contents i (contents first) ps) (λ x. contents_lines k (suc i) (first + x.0.count) x.1) (line_sound i first ps) (λ x. lines_sound k (suc i) (first + x.0.count) x.1)

pub contents_lines_sound : (k i first : ℕ) (ps : List (List ℕ)) (cs : List Contents) (qs : List (List ℕ)) → contents_lines k i first ps ≡ Ok (cs, qs) → (length cs ≡ k) × AllByRecursion Sound cs
unfolding LinesSound
contents_lines_sound k i first ps cs qs e = gives_at (LinesSound k) _ _ (lines_sound k i first ps) e

head_gives : (o : Option ℕ) → Gives (head_of o) (λ k. (1 ≤ k) × (k ≤ 16))
head_gives None = tt
head_gives (Some k) =
    elim (leb 1 k && leb k 16) as (λ t. (t ≡ true → (1 ≤ k) × (k ≤ 16)) → Gives {E = Refusal} (cond t (Ok k) (Err WrongForm)) (λ k. (1 ≤ k) × (k ≤ 16))) [ true ↦ λ h. h refl | false ↦ λ h. tt ]
    (λ e. let p = and_parts _ _ e in (leb-true _ _ p.0, leb-true _ _ p.1))

head_line : (ps : List (List ℕ)) → Gives (line_by layer.Contents 1 head ps) (λ x. (1 ≤ x.0) × (x.0 ≤ 16))
unfolding with_rest
head_line [] = tt
head_line (l ∷ []) = tt
head_line (l ∷ p ∷ ps) = placed_gives (λ k. (1 ≤ k) × (k ≤ 16)) 1 (head l) (p ∷ ps) (head_gives (numeral l))

-- there are 1 to 16 items
pub head_small : (ps : List (List ℕ)) (k : ℕ) (qs : List (List ℕ)) → line_by layer.Contents 1 head ps ≡ Ok (k, qs) → (1 ≤ k) × (k ≤ 16)
head_small ps k qs e = gives_at (λ x. (1 ≤ x.0) × (x.0 ≤ 16)) _ _ (head_line ps) e
