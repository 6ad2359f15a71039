use Rattle.des.proofs.Answered.{known}
use Rattle.des.proofs.laws.answers_are_known.Goals as goal

pub returns : goal.returns
returns c = known
