use Rattle.std.proofs.Common.{ℕ, ◌+◌, ◌*◌, ◌<◌, ap, ◌∙◌, lit<, rules}
use Rattle.aes.specs.Field.{xtimes, times_bits, times, squares, inverse}
use Rattle.aes.specs.SBox.{rotated, affine, s_box}
use Rattle.aes.specs.Rounds.{mix_byte}
use Rattle.aes.specs.Words.{word_bytes, column_of}
use Rattle.aes.proofs.Tables.{tabled}
use Rattle.aes.proofs.ByteLaws.{s_box_byte, mix_byte_byte}
use Rattle.aes.proofs.Words.{made_bytes}
use Rattle.aes.proofs.mix_table.mixed_s_box.Goals as goal

-- the entry for a byte x
entry : ℕ → ℕ
entry x = mix_byte (s_box x) 0 0 0 + mix_byte 0 0 0 (s_box x) * 256 + mix_byte 0 0 (s_box x) 0 * 65536 + mix_byte 0 (s_box x) 0 0 * 16777216

pub returns : goal.returns
unfolding xtimes times_bits times squares inverse rotated affine s_box mix_byte entry column_of
returns c =
    let b : ℕ = c.args.b in
    let h : b < 256 = search rules in
    let s : s_box b < 256 = s_box_byte b h in
    let z : 0 < 256 = lit< tt in
    ap word_bytes (tabled entry 256 b h)
    ∙ made_bytes (mix_byte (s_box b) 0 0 0) (mix_byte 0 0 0 (s_box b)) (mix_byte 0 0 (s_box b) 0) (mix_byte 0 (s_box b) 0 0)
    (mix_byte_byte (s_box b) 0 0 0 s z z z) (mix_byte_byte 0 0 0 (s_box b) z z z s) (mix_byte_byte 0 0 (s_box b) 0 z z s z) (mix_byte_byte 0 (s_box b) 0 0 z s z z)
