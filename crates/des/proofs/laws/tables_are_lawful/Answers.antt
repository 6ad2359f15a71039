use Rattle.des.proofs.Lawfulness.{lawful}
use Rattle.des.proofs.laws.tables_are_lawful.Goals as goal

pub returns : goal.returns
returns c = lawful
