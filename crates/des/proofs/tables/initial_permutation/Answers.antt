use Rattle.des.specs.Cipher.{IP}
use Rattle.des.specs.Tables.{IP_table}
use Rattle.des.proofs.tables.initial_permutation.Goals as goal

pub returns : goal.returns
unfolding IP IP_table
returns c = c.permute.ensures
