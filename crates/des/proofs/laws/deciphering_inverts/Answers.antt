use Rattle.des.proofs.Inverts.{inverse}
use Rattle.des.proofs.laws.deciphering_inverts.Goals as goal

pub returns : goal.returns
returns c = inverse
