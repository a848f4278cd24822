-- How many lines and images a table has.
use Rattle.std.proofs.Common.{◌≡◌, ℕ, ◌^◌, ◌≤◌, Bool, true, ◌&&◌, eqb, leb, sym}
use Rattle.std.proofs.lemmas.Bool.{and_parts, leb-true, eqb-true}

module _ (n count : ℕ) where
  pub record Sized : Type 0 where
    pub some : 1 ≤ n
    pub few : n ≤ 8
    pub full : count ≡ 2 ^ n

  abbrev size_test : Bool
  size_test = leb 1 n && (leb n 8 && eqb count (2 ^ n))

  pub test_sized : true ≡ size_test → Sized
  test_sized e =
      let p = and_parts (leb 1 n) (leb n 8 && eqb count (2 ^ n)) (sym e) in
      let q = and_parts (leb n 8) (eqb count (2 ^ n)) p.1 in
      record { some = leb-true 1 n p.0; few = leb-true n 8 q.0; full = eqb-true count (2 ^ n) q.1 }
