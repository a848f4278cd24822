-- The images of the words on n lines, which stand first among the images that a table holds.
use Rattle.std.proofs.Common.{◌≡◌, ℕ, ◌^◌, ◌<◌, ◌≤◌, List, length, get_or, sym, ap, ◌∙◌, subst, arith, length-take-le, get_or-take, pow_mono}
use Rattle.std.proofs.lemmas.List.{ext_get_or}
use Rattle.words.specs.Maps.{Same}
use Rattle.tables.specs.Tables.{images_of, table_meaning}
use Rattle.tables.specs.declared.table.Table.{Table}

pub as_many : (n : ℕ) (xs : List ℕ) → n ≤ 8 → length xs ≡ 256 → 2 ^ n ≤ length xs
as_many n xs few full = let le : 2 ^ n ≤ 256 = pow_mono few in omega arith

pub count_images : (t : Table) → length (images_of t) ≡ 2 ^ t.lines
count_images t = length-take-le (2 ^ t.lines) t.images (as_many t.lines t.images t.few t.full)

pub image_small : (t : Table) (x : ℕ) → x < 2 ^ t.lines → (table_meaning t).map x < 256
image_small t x h = let most : 2 ^ t.lines ≤ 256 = pow_mono t.few in omega (arith, t.below x h, get_or-take (2 ^ t.lines) t.images x 0 h)

-- a table whose images are these, one by one
pub images_are : (t : Table) (n : ℕ) (ys : List ℕ) → t.lines ≡ n → length ys ≡ 2 ^ n → Same n (table_meaning t).map (λ x. get_or ys x 0) → images_of t ≡ ys
images_are t n ys lines count same =
    let many : length (images_of t) ≡ 2 ^ n = count_images t ∙ ap (λ (m : ℕ). 2 ^ m) lines in
    ext_get_or 0 (images_of t) ys (many ∙ sym count) (λ x h. same x (subst (λ (m : ℕ). x < m) many h))
