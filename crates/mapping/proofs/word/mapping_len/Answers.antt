use Rattle.std.proofs.Common.{◌<◌, sym, rules}
use lib.Bits.{bit_xor, xor_lt}
use lib.Count.{ones-le}
use Rattle.mapping.proofs.MappingLaws.{mapping_length}
use Rattle.mapping.proofs.word.mapping_len.Goals as goal

pub returns : goal.returns
returns c =
    let y = c.args.y in
    let x = c.args.x in
    let hy : y < 256 = search rules in
    let hx : x < 256 = search rules in
    record { is = sym (mapping_length y x hy hx); small = ones-le 8 (bit_xor x y) (xor_lt 8 x y hx hy) }
