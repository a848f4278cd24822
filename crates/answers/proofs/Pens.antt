-- One write after another.
use Rattle.std.proofs.Common.{◌≡◌, ℕ, ◌^◌, min, set, add-zero, ◌+◌, ◌-◌, ◌<◌, ◌≤◌, List, [], ◌∷◌, ◌++◌, map, length, get_or, take, decimal, refl, sym, ap, ◌∙◌, arith, length-set}
use Rattle.std.specs.List.{flat_map}
use Rattle.std.proofs.lemmas.List.{append-nil, take_all, take_more}
use Rattle.std.proofs.lemmas.List.Sums.{fold-append}
use Rattle.std.proofs.lemmas.List.Folds.{flat_map-map}
use Rattle.std.proofs.lemmas.Fmt.{decimal_digit}
use Rattle.std.proofs.lemmas.Grind.{flat_map-append}
use Rattle.sheet.specs.Render.{numbers_text, lines_text}
use Rattle.answers.specs.Laid.{laid, Puts}
use Rattle.answers.specs.LineLaws.{spaced, spaced_last}
use Rattle.answers.specs.declared.pen.Pen.{Pen}
use Rattle.answers.specs.Pens.{page, byte_more, wrote, Writes}

pub wrote_append : (s : List ℕ × ℕ) (ps bs : List ℕ) → wrote s (ps ++ bs) ≡ wrote (wrote s ps) bs
unfolding wrote
wrote_append s ps bs = fold-append byte_more s ps bs

-- the same, from two writes to one
pub wrote_joined : (s : List ℕ × ℕ) (ps bs : List ℕ) → wrote (wrote s ps) bs ≡ wrote s (ps ++ bs)
wrote_joined s ps bs = sym (wrote_append s ps bs)

pub wrote_none : (s : List ℕ × ℕ) → wrote s [] ≡ s
unfolding wrote
wrote_none s = refl

-- a number below 10 is one digit
pub wrote_one_digit : (s : List ℕ × ℕ) (n : ℕ) → n < 10 → wrote s ((48 + n) ∷ []) ≡ wrote s (decimal n)
wrote_one_digit s n l = ap (wrote s) (sym (decimal_digit n l))

-- the byte at i, after those before it
pub wrote_byte : (s : List ℕ × ℕ) (bs : List ℕ) (i : ℕ) → i < length bs → wrote s (take (i + 1) bs) ≡ wrote (wrote s (take i bs)) (get_or bs i 0 ∷ [])
wrote_byte s bs i l = ap (wrote s) (take_more bs i 0 l) ∙ wrote_append s (take i bs) (get_or bs i 0 ∷ [])

-- the text of the item at i and a byte that ends it, after the items before it
wrote_item : {A : Type 0} (s : List ℕ × ℕ) (f : A → List ℕ) (b : ℕ) (xs : List A) (i : ℕ) (d : A) → i < length xs
    → wrote s (flat_map (λ x. f x ++ b ∷ []) (take (i + 1) xs)) ≡ wrote (wrote (wrote s (flat_map (λ x. f x ++ b ∷ []) (take i xs))) (f (get_or xs i d))) (b ∷ [])
wrote_item s f b xs i d l =
    let before = flat_map (λ x. f x ++ b ∷ []) (take i xs) in
    let here = f (get_or xs i d) in
    ap (λ z. wrote s (flat_map (λ x. f x ++ b ∷ []) z)) (take_more xs i d l)
    ∙ ap (wrote s) (flat_map-append (λ x. f x ++ b ∷ []) (take i xs) (get_or xs i d ∷ []) ∙ ap (λ z. before ++ z) (append-nil (here ++ b ∷ [])))
    ∙ wrote_append s before (here ++ b ∷ []) ∙ wrote_append (wrote s before) here (b ∷ [])

pub wrote_number : (s : List ℕ × ℕ) (ns : List ℕ) (i : ℕ) → i < length ns → wrote s (spaced (take (i + 1) ns)) ≡ wrote (wrote (wrote s (spaced (take i ns))) (decimal (get_or ns i 0))) (32 ∷ [])
wrote_number s ns i l = wrote_item s decimal 32 ns i 0 l

pub wrote_no_number : (s : List ℕ × ℕ) (ns : List ℕ) → length ns < 1 → wrote s (numbers_text ns) ≡ s
wrote_no_number s [] l = wrote_none s
wrote_no_number s (n ∷ ns) l = absurd (omega arith)

-- the last number, after the others
pub wrote_last : (s : List ℕ × ℕ) (ns : List ℕ) → 1 ≤ length ns → wrote s (numbers_text ns) ≡ wrote (wrote s (spaced (take (length ns - 1) ns))) (decimal (get_or ns (length ns - 1) 0))
wrote_last s ns l =
    let before = take (length ns - 1) ns in
    let last = get_or ns (length ns - 1) 0 in
    let whole : ns ≡ before ++ last ∷ [] = sym (take_all (length ns - 1 + 1) ns (omega arith)) ∙ take_more ns (length ns - 1) 0 (omega arith) in
    ap (λ z. wrote s (numbers_text z)) whole ∙ ap (wrote s) (spaced_last before last) ∙ wrote_append s (spaced before) (decimal last)

pub wrote_line : {A : Type 0} (s : List ℕ × ℕ) (f : A → List ℕ) (xs : List A) (i : ℕ) (x : A) → i < length xs → x ≡ get_or xs i x
    → wrote s (lines_text (map f (take (i + 1) xs))) ≡ wrote (wrote (wrote s (lines_text (map f (take i xs)))) (f x)) (10 ∷ [])
wrote_line s f xs i x l is =
    let lines : (z : List _) → lines_text (map f z) ≡ flat_map (λ x. f x ++ 10 ∷ []) z = λ z. flat_map-map (λ l. l ++ 10 ∷ []) f z in
    ap (wrote s) (lines (take (i + 1) xs)) ∙ wrote_item s f 10 xs i x l ∙ (λ j. wrote (wrote (wrote s (sym (lines (take i xs)) j)) (f (sym is j))) (10 ∷ []))

-- what the loops over bytes, numbers and lines write
pub ruleset byte_steps = (wrote_none, wrote_byte)

pub ruleset number_steps = (wrote_none, wrote_number, wrote_no_number, wrote_last, take_all)

pub ruleset line_steps = (wrote_none, wrote_line)

-- what the place and the bytes are, as long as the place is counted
pub wrote_puts : (s : List ℕ × ℕ) (bs : List ℕ) → s.1 + length bs < 2 ^ 64 → Puts s.0 s.1 bs (wrote s bs).1 (wrote s bs).0
unfolding wrote
wrote_puts s [] l = record { place = sym (add-zero s.1); bytes = refl }
wrote_puts s (b ∷ bs) l =
    let one : min (s.1 + 1) (2 ^ 64 - 1) ≡ s.1 + 1 = omega arith in
    let rest = wrote_puts (byte_more s b) bs (omega arith) in
    record {
      place = omega (arith, rest.place);
      bytes = rest.bytes ∙ ap (λ k. laid (set s.0 s.1 b) k bs) one;
    }

pub puts_of : (p q : Pen) (bs new : List ℕ) → Writes p bs q → p.at + length bs < 2 ^ 64 → new ≡ q.out.now → Puts p.out.now p.at bs q.at new
puts_of p q bs new writes short same =
    let puts = wrote_puts (page p) bs short in
    record {
      place = ap (λ s. s.1) writes.page ∙ puts.place;
      bytes = same ∙ ap (λ s. s.0) writes.page ∙ puts.bytes;
    }

pub place_of : (p q : Pen) (bs : List ℕ) → Writes p bs q → p.at + length bs < 2 ^ 64 → q.at ≡ p.at + length bs
place_of p q bs writes short = ap (λ s. s.1) writes.page ∙ (wrote_puts (page p) bs short).place

pub writes_then : (p q r : Pen) (ps bs : List ℕ) → Writes p ps q → Writes q bs r → Writes p (ps ++ bs) r
writes_then p q r ps bs first more =
    record {
      lent = more.lent ∙ first.lent;
      page = more.page ∙ ap (λ s. wrote s bs) first.page ∙ wrote_joined (page p) ps bs;
    }

-- the buffer is as long as before
wrote_length : (s : List ℕ × ℕ) (bs : List ℕ) → length (wrote s bs).0 ≡ length s.0
unfolding wrote
wrote_length s [] = refl
wrote_length s (b ∷ bs) = wrote_length (byte_more s b) bs ∙ length-set s.0 s.1 b

pub same_room : (p q : Pen) (bs : List ℕ) → Writes p bs q → length q.out.now ≡ length p.out.now
same_room p q bs writes = ap (λ s. length s.0) writes.page ∙ wrote_length (page p) bs
