use Rattle.std.proofs.Common.{rules}
use Rattle.aes.specs.Field.{xtimes, times_bits, times, squares, inverse}
use Rattle.aes.specs.SBox.{rotated, affine, s_box}
use Rattle.aes.proofs.Tables.{tabled}
use Rattle.aes.proofs.s_box.sub_byte.Goals as goal

pub returns : goal.returns
unfolding xtimes times_bits times squares inverse rotated affine s_box
returns c = tabled s_box 256 c.args.b (search rules)
