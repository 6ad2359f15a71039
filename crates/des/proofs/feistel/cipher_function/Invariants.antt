use Rattle.std.proofs.Common.{◌≡◌, map, get_or}
use lib.Bits.{bit_xor}
use Rattle.std.specs.List.{range_with_len}
use Rattle.des.specs.Bits.{number, groups}
use Rattle.des.specs.Cipher.{E, S}
use Rattle.des.proofs.feistel.cipher_function.Given as goal

abbrev pub invariant-loop-i : goal.invariant-loop-i
invariant-loop-i l = l.selected ≡ number 4 (map (λ i. S i (bit_xor (get_or (groups 6 8 (E l.right)) i 0) (get_or l.key i 0))) (range_with_len 0 l.i))
