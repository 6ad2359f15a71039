use Rattle.std.proofs.Common.{ap, ◌∙◌}
use Rattle.des.specs.Cipher.{E}
use Rattle.des.specs.Tables.{E_table}
use Rattle.des.proofs.tables.expand.Goals as goal

pub returns : goal.returns
unfolding E E_table
returns c = c.permute.ensures ∙ ap E c.from.ensures
