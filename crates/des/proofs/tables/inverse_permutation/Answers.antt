use Rattle.des.specs.Cipher.{IP⁻¹}
use Rattle.des.specs.Tables.{IP⁻¹_table}
use Rattle.des.proofs.tables.inverse_permutation.Goals as goal

pub returns : goal.returns
unfolding IP⁻¹ IP⁻¹_table
returns c = c.permute.ensures
