use Rattle.std.proofs.Common.{ap, ◌∙◌, arith}
use Rattle.des.specs.Cipher.{P}
use Rattle.des.specs.Tables.{P_table}
use Rattle.des.proofs.Permutations.{permuted_lt}
use Rattle.des.proofs.tables.permutation.Goals as goal

pub overflow_cast-result : goal.overflow_cast-result
unfolding P_table
overflow_cast-result c = record { fits = omega (arith, permuted_lt 32 P_table c.from.result) }

pub returns : goal.returns
unfolding P P_table
returns c = c.permute.ensures ∙ ap P c.from.ensures
