use Rattle.std.proofs.Common.{ℕ, ◌+◌, ◌*◌, ◌<◌, ap, ◌∙◌, lit<, rules}
use Rattle.aes.specs.Field.{xtimes, times_bits, times}
use Rattle.aes.specs.Inverse.{inv_mix_byte}
use Rattle.aes.specs.Words.{word_bytes, column_of}
use Rattle.aes.proofs.Tables.{tabled}
use Rattle.aes.proofs.ByteLaws.{inv_mix_byte_byte}
use Rattle.aes.proofs.Words.{made_bytes}
use Rattle.aes.proofs.inv_mix_table.inv_mixed.Goals as goal

-- the entry for a byte x
entry : ℕ → ℕ
entry x = inv_mix_byte x 0 0 0 + inv_mix_byte 0 0 0 x * 256 + inv_mix_byte 0 0 x 0 * 65536 + inv_mix_byte 0 x 0 0 * 16777216

pub returns : goal.returns
unfolding xtimes times_bits times inv_mix_byte entry column_of
returns c =
    let b : ℕ = c.args.b in
    let h : b < 256 = search rules in
    let z : 0 < 256 = lit< tt in
    ap word_bytes (tabled entry 256 b h)
    ∙ made_bytes (inv_mix_byte b 0 0 0) (inv_mix_byte 0 0 0 b) (inv_mix_byte 0 0 b 0) (inv_mix_byte 0 b 0 0)
    (inv_mix_byte_byte b 0 0 0 h z z z) (inv_mix_byte_byte 0 0 0 b z z z h) (inv_mix_byte_byte 0 0 b 0 z z h z) (inv_mix_byte_byte 0 b 0 0 z h z z)
