use Rattle.des.specs.Schedule.{PC_2}
use Rattle.des.specs.Tables.{PC_2_table}
use Rattle.des.proofs.tables.permuted_choice_2.Goals as goal

pub returns : goal.returns
unfolding PC_2 PC_2_table
returns c = c.permute.ensures
