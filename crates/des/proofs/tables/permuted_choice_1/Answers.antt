use Rattle.des.specs.Schedule.{PC_1}
use Rattle.des.specs.Tables.{PC_1_table}
use Rattle.des.proofs.tables.permuted_choice_1.Goals as goal

pub returns : goal.returns
unfolding PC_1 PC_1_table
returns c = c.permute.ensures
