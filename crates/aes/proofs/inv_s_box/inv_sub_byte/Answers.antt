use Rattle.std.proofs.Common.{rules}
use Rattle.aes.specs.Field.{xtimes, times_bits, times, squares, inverse}
use Rattle.aes.specs.SBox.{rotated, inv_affine, inv_s_box}
use Rattle.aes.proofs.Tables.{tabled}
use Rattle.aes.proofs.inv_s_box.inv_sub_byte.Goals as goal

pub returns : goal.returns
unfolding xtimes times_bits times squares inverse rotated inv_affine inv_s_box
returns c = tabled inv_s_box 256 c.args.b (search rules)
