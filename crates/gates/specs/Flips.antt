-- Gates that flip a target bit.
use Rattle.std.specs.Prelude.{ℕ, ◌^◌, Bool, cond, ◌&&◌, bit_xor, nat_lt}

-- A legal gate flips bit t of the words on n lines that pass its test.
abbrev pub flip : (legal passes : Bool) (n t w : ℕ) → ℕ
flip legal passes n t w = cond (legal && (nat_lt w (2 ^ n) && passes)) (bit_xor w (2 ^ t)) w
